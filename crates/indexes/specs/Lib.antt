pub mod Numbers
pub mod Indexing
