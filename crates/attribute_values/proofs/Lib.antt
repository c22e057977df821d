-- The value of one attribute. Assumes nothing.
pub mod Stepping
pub mod Seeking
pub mod Reading
pub mod Copying
pub mod Others
pub mod Linking
pub mod Accepting
pub mod ByRules
pub mod Examples
