-- The points program's lines, as they come, and what it prints for a whole input.
pub mod Blocks
pub mod Printed
