-- Laws of the causes of 13 to 16 and 18. Assumes nothing.
pub mod Seeking
pub mod Missings
pub mod Telling
