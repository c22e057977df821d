-- What the functions over the kept rows of statements promise. Assumes nothing.
pub mod Blocks
