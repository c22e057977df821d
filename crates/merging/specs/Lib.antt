-- What making objects of their parts promises. Assumes nothing.
pub mod Parts
pub mod Moves
pub mod Promises
