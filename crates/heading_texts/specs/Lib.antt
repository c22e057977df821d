-- Q-7 of document 02 over lent texts. Assumes nothing.
pub mod Headings
pub mod Promises
