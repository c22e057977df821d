-- The answer to lent texts. Assumes nothing.
pub mod Answering
