-- The definitions of which lines the rows in which two sheets differ may touch.
pub mod Reached
