-- The kinds as the code has them. Assumes nothing.
pub mod Kinds
