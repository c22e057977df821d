pub mod Shapes
pub mod Zeros
