-- Numbers as text.
pub mod Reading
pub mod Writing
pub mod Counting
