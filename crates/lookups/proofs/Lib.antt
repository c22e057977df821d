pub mod Notes
pub mod Blocks
pub mod Rows
pub mod Standings
pub mod Attributes
pub mod Owning
pub mod Linking
pub mod Naming
