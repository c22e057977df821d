-- What the lookups and values over kept rows promise. Assumes nothing.
pub mod Situations
pub mod Given
pub mod Items
pub mod Ranges
pub mod Promises
pub mod Listing
