-- The laws of readers that fill tables. Assumes nothing.
pub mod Tables
pub mod Filling
pub mod Codes
