-- Laws of the contents. Other crates cite them.
pub mod Limits
pub mod Passing
pub mod OfFault
pub mod Cut
