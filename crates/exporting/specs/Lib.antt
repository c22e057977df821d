-- The calls for programs in C (document 02, Q-13). Assumes nothing.
pub mod Rules
pub mod Telling
