-- What is promised of the comparison of two accepted texts (document 02, Q-8). Assumes nothing.
pub mod Statements
