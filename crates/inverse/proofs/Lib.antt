-- Laws of plane to geographic on a sheet that passes. Other crates cite them.
pub mod Distances
pub mod Longitudes
