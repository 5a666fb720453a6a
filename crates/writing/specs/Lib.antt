-- The definitions that `writing` and the crates above it cite: a latitude row written, and a table of contents.
pub mod Rows
pub mod Contents
