-- Laws of the tools' door: its ways out, and what an answer tells.
pub mod Ways
pub mod Told
