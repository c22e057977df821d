-- No channel depends on its neighbours, over lent texts. Assumes nothing.
pub mod Stopping
pub mod Passing
pub mod Lending
pub mod Expanding
pub mod Everywhere
pub mod Standing
pub mod Beginnings
pub mod Neighbouring
pub mod Statements
