-- Two releases compared: from the texts to the records (document 02, Q-8). Assumes nothing.
pub mod Starts
pub mod Settings
pub mod Rules
pub mod Promises
pub mod Samples
