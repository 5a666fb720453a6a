-- The definitions that `contents` and the crates above it cite: the first fault of a sheet's contents.
pub mod Contents
