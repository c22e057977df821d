pub mod Digits
pub mod Comparisons
pub mod Places
pub mod Names
pub mod Fillings
pub mod Passes
pub mod Befores
pub mod Throughs
