-- Q-6 of document 02 over lent texts. Assumes nothing.
pub mod Masks
