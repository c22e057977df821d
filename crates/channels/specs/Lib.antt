-- What request Q-12 says. Assumes nothing.
pub mod Channels
pub mod Neighbours
pub mod Rows
pub mod Handed
pub mod Wrong
