-- The laws of the walk of the implementation. Assumes nothing.
pub mod Leaves
pub mod Acts
