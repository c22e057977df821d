-- Q-11 of document 02 over lent texts. Assumes nothing.
pub mod Answered
pub mod Telling
