-- Laws of the rules. Other crates cite them.
pub mod WhatPasses
pub mod Sixties
