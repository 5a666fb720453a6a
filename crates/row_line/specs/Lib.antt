-- The definitions of the correction program's line.
pub mod RowLine
