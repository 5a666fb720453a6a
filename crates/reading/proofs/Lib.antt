-- Laws of reading tables: what a reading needs and what it depends on. Other crates cite them.
pub mod Within
pub mod Pairs
pub mod Unsigned
pub mod Span
pub mod Values
pub mod Local
