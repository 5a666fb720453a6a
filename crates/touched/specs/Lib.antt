-- The definitions of which points a correction of one latitude row may touch.
pub mod Touched
