-- What the checks of kept rows promise. Assumes nothing.
pub mod Cells
pub mod Promises
