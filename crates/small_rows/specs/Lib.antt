-- The definitions that `small_rows` and the crates above it cite: the fault of a row of each kind but latitude.
pub mod SmallRows
