-- What the tables of the definitions' numbers promise. Assumes nothing.
pub mod Keys
pub mod Known
pub mod Promises
