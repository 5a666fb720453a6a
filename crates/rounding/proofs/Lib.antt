-- Laws that belong to no one function. Other crates cite them too.
pub mod Ring
pub mod Sizes
pub mod Order
pub mod Tests
pub mod Holds
pub mod Bits
pub mod Rounding
pub mod Apart
pub mod Halves
pub mod Interval
pub mod Raised
