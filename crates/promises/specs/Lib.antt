-- What the theorems of `promises` say: what "nearest" means, what every answer keeps, and demand 3.
pub mod Meaning
pub mod Conversions
pub mod Counts
pub mod Corrections
pub mod OneRow
pub mod Redo
