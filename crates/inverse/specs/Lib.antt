-- The definition of plane to geographic, by the paper's steps.
pub mod Inverse
