-- The definitions that `tables` and the crates above it cite: a sheet's figures, at its rows and between them.
pub mod Figures
