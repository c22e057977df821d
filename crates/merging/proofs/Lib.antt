-- The proofs of making objects of their parts. Assumes nothing.
pub mod Moving
pub mod Places
pub mod Laying
pub mod Turns
pub mod Storing
