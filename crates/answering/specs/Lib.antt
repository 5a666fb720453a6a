-- The lines of an input answered as they come, in any way.
pub mod Answered
pub mod Turned
