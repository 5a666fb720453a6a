-- The rules that the check and a correction share: ranges, bounds between rows, and differences.
pub mod Limits
pub mod Latitude
