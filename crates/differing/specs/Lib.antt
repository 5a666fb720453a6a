-- The definition of the rows in which two sheets differ.
pub mod Differing
