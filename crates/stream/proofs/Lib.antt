pub mod Cases
pub mod Splitting
pub mod Finding
pub mod GoingOn
pub mod Joining
pub mod Moving
pub mod Parts
