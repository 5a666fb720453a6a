-- The definitions that `reading` and the crates above it cite: a table's value at an offset.
pub mod Tables
