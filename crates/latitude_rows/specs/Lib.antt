-- The definitions that `latitude_rows` and the crates above it cite: the fault of a latitude row.
pub mod Rows
