-- Laws of which lines the rows in which two sheets differ may touch. Other crates cite them.
pub mod Asking
pub mod TwoMinutes
