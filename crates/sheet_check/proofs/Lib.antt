-- Laws of the bodies and of the check. Other crates cite them.
pub mod ByRow
pub mod Parts
pub mod ByKind
pub mod Sound
pub mod Known
