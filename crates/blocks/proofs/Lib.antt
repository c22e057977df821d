pub mod Holding
pub mod Ranges
pub mod Files
