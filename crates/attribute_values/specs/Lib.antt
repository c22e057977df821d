-- The value of one attribute (document 02, Q-13). Assumes nothing.
pub mod Paths
pub mod Values
pub mod Answered
pub mod Results
pub mod Rules
pub mod Rows
