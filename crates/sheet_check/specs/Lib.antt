-- The definition of the check.
pub mod Check
