-- Laws of the causes. Assumes nothing.
pub mod Rows
pub mod Naming
pub mod Defining
pub mod Telling
