-- Laws of convergence and scale on a sheet that passes. Other crates cite them.
pub mod Convergences
