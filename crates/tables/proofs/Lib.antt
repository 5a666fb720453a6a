-- Laws of a passing sheet's figures. Other crates cite them.
pub mod Parts
pub mod Ranges
pub mod Origins
pub mod Answers
pub mod Northings
