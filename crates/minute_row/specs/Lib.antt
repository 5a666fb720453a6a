-- The definitions that `minute_row` and the crates above it cite: the row that a minute names.
pub mod MinuteRow
