-- The definitions that `extent` and the crates above it cite: where a point stands in the tables, and the tests behind numbers 10 to 14.
pub mod Extent
