-- Include lines are found, and texts expanded, as specs/ says. Assumes nothing.
pub mod Onwards
pub mod Settings
pub mod Naming
pub mod Expanding
