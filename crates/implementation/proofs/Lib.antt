-- The laws of the walk of the implementation. Assumes nothing.
pub mod Noting
pub mod Implementing
