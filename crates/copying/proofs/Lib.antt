pub mod Stretches
pub mod Rooms
pub mod Definitions
pub mod Objects
pub mod Keys
pub mod Enumerators
pub mod Wholes
