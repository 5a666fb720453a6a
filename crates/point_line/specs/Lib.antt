-- What a line asks.
pub mod PointLine
