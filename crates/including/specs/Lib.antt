-- What an include line is, and what a text expands to. Assumes nothing.
pub mod IncludeLines
pub mod Expansions
