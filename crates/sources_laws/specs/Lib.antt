-- What is said of the tokens of an expanded text. Assumes nothing.
pub mod Lexings
