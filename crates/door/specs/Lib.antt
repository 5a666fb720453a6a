-- The definitions of the tools' door: what it answers, and what its laws say.
pub mod Door
pub mod Meaning
