-- Laws of floats that are counts: by a float's bits, and by its value.
pub mod Pattern
pub mod Exactly
