-- The token reader is local. Assumes nothing.
pub mod Onward
pub mod Skipping
pub mod Forms
pub mod Shift
pub mod Front
pub mod Join
pub mod Decimals
pub mod Pieces
pub mod Between
pub mod Slices
