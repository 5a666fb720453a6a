-- Laws of the row of a reduced northing: rising columns, the last row not above a number, what it depends on. Other crates cite them.
pub mod LastRow
pub mod Rising
pub mod SameRow
