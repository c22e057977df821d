-- What the contracts of the walk of the application cite. No part of the public contract. Assumes nothing.
pub mod Rows
