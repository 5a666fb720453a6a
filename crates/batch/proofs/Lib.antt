-- Laws of a batch: one turn of it, and what it writes.
pub mod Turns
pub mod Written
