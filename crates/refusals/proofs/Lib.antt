-- Laws of tests, ladders and faults. Other crates cite them.
pub mod Ranges
pub mod Ladders
pub mod Numbers
pub mod Handed
pub mod FirstFault
