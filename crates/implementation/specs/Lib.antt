-- What the contracts of the walk of the implementation cite. No part of the public contract. Assumes nothing.
pub mod Places
