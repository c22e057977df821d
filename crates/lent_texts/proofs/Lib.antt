pub mod Kept
pub mod Told
pub mod Numbers
