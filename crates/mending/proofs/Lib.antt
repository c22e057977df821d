-- Laws of mending. Assumes nothing.
pub mod Examples
pub mod Endings
pub mod Piecing
pub mod Scattered
pub mod Judged
pub mod Sayings
pub mod Placed
pub mod Wholes
pub mod Again
pub mod Marking
