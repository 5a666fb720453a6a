-- Laws of where a point stands in a passing sheet's tables. Other crates cite them.
pub mod Counts
pub mod Points
pub mod Reach
