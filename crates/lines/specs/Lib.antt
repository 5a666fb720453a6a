-- The lines of the points program.
pub mod Lines
