-- The calls for programs in C. Assumes nothing.
pub mod Alone
pub mod Telling
pub mod Calling
pub mod Headings
pub mod Explaining
