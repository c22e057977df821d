-- The laws of the walk of the application. Assumes nothing.
pub mod Stores
pub mod Stated
pub mod Applied
