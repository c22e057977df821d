pub mod Written
pub mod Noted
pub mod Promises
