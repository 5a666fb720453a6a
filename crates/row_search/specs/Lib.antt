-- The definition of the row of a reduced northing, and what a rising column is.
pub mod Rows
