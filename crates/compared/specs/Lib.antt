-- The definitions of one line compared on two sheets.
pub mod Compared
