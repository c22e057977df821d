pub mod Cells
pub mod Merges
pub mod Turns
pub mod Halves
pub mod Answering
