-- The laws of the comparison of two texts. Assumes nothing.
pub mod Starting
pub mod Facts
pub mod Scenes
pub mod Telling
pub mod ByRules
pub mod Answering
pub mod Samples
