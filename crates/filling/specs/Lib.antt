-- The contracts of the readers that fill tables of rows. No part of the public contract. Assumes nothing.
pub mod Tables
pub mod Fills
