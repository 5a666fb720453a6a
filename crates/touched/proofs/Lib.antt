-- Laws of which points a correction may touch. Other crates cite them.
pub mod Beside
pub mod Answered
