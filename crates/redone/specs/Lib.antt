-- The redo program's lines, as they come, and what it prints for a whole input.
pub mod Tallied
pub mod Redone
pub mod Printed
