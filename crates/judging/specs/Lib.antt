-- What the functions that judge statements promise. Assumes nothing.
pub mod Names
pub mod Promises
