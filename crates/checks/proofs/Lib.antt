pub mod Turns
pub mod Rows
pub mod Tallying
pub mod Names
pub mod Applications
