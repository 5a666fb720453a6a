-- Laws of the rows in which two sheets differ. Other crates cite them.
pub mod OneRow
pub mod Among
