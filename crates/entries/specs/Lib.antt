-- The definitions that `entries` and the crates above it cite: how a sheet is laid out, and where each kind's body lies.
pub mod Layout
pub mod Entries
