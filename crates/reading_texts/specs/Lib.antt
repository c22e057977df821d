-- What reading lent texts promises. Assumes nothing.
pub mod Reads
pub mod Filling
