-- Laws of a correction. Other crates cite them.
pub mod Steps
pub mod Rewritten
pub mod Judged
