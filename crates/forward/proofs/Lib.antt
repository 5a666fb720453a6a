-- Laws of geographic to plane on a sheet that passes. Other crates cite them.
pub mod Eastings
