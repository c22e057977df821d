-- What request Q-12 says of lent texts. Assumes nothing.
pub mod Lent
pub mod Unchanged
