-- The laws of the walk of a whole text. Assumes nothing.
pub mod Tallying
pub mod Placing
pub mod Fewer
pub mod Filing
