-- Laws of the row that a minute names. Other crates cite them.
pub mod Place
pub mod Minutes
