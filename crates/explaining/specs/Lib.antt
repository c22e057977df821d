pub mod Characters
pub mod Places
pub mod Windows
pub mod Pictures
pub mod Bounds
