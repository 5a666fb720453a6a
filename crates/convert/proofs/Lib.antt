-- Laws of the conversions after the check. Other crates cite them.
pub mod Checked
pub mod Zeros
