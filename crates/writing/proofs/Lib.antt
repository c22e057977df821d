-- The laws of the writer. Assumes nothing.
pub mod Writes
pub mod Decimals
pub mod Owners
pub mod Heads
pub mod Froms
pub mod Layings
pub mod Turns
pub mod Pairings
pub mod Telling
pub mod Spans
pub mod Wholes
pub mod Outputs
pub mod Calling
pub mod ByRules
