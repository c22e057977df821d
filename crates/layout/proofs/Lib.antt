-- Laws of the rows that are kept. Assumes nothing.
pub mod Codes
pub mod Lengths
pub mod Cells
