pub mod Ranks
pub mod Links
pub mod Answers
pub mod Owners
pub mod Names
