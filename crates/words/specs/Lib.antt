-- The definitions that `words` and the crates above it cite: words of a sheet, and parts of it.
pub mod Words
pub mod Parts
