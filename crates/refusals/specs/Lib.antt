-- The definitions that `refusals` and the crates above it cite: tests of a number, refusals in their order, and the first fault.
pub mod Tests
pub mod Ladder
pub mod Numbers
pub mod Faults
