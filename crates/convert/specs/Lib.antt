-- The definitions of the three conversions, the check first.
pub mod Conversions
