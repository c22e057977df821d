-- What Q-7 of document 02 asks and promises. Assumes nothing.
pub mod Answered
pub mod Headings
pub mod Promises
pub mod Examples
