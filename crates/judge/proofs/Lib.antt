-- Laws of the judging of a correction. Other crates cite them.
pub mod Bounds
pub mod Kept
