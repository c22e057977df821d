-- What the contract of the walk cites. No part of the public contract. Assumes nothing.
pub mod Whole
