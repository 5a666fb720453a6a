pub mod Working
pub mod Ending
