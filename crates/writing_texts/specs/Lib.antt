-- What writing the normal text of lent texts promises. Assumes nothing.
pub mod Writes
