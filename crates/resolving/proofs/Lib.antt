-- Laws of resolved values over kept rows. Assumes nothing.
pub mod Writes
pub mod Turns
pub mod Entrances
pub mod Statings
pub mod Namings
pub mod Passing
pub mod Valuing
pub mod Objects
