-- How the bytes of a name are shown.
pub mod Shown
