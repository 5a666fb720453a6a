-- Which float is a count, and what its law says.
pub mod Whole
pub mod Meaning
