-- What the checks of definitions and enumerators promise. Assumes nothing.
pub mod Listing
pub mod Promises
