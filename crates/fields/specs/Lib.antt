-- A line's numbers.
pub mod Fields
