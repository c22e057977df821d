pub mod Sorted
pub mod Merging
