-- The definitions that the contracts of `rounding` cite: rounding and reading between rows, and the ranges of what is rounded.
pub mod Nearest
pub mod Between
pub mod Ranges
