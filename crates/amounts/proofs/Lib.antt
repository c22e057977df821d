-- The laws of the tables of numbers. Assumes nothing.
pub mod Keyings
pub mod Listings
pub mod Frames
pub mod Rowwise
pub mod Rises
pub mod Answers
pub mod Remembering
