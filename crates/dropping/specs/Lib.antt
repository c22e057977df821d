-- Which statements are dropped where a text is mended. Assumes nothing.
pub mod Drops
pub mod Promises
