-- What copying promises: the rooms of the lent tables, from the rows kept while a text was read. Assumes nothing.
pub mod Copies
pub mod Promises
