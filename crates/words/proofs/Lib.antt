-- Laws of words and parts. Other crates cite them.
pub mod TwosComplement
pub mod Writing
pub mod PartWords
pub mod PuttingParts
