-- The theorems. Assumes nothing.
pub mod Accepted
pub mod Normals
