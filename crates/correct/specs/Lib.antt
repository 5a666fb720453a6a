-- The definitions of the correction of one latitude row.
pub mod Correction
