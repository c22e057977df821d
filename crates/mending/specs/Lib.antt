-- Mending a text and saying so (document 02, Q-11). Assumes nothing.
pub mod Ends
pub mod Pieces
pub mod Answered
pub mod Results
pub mod Rules
pub mod Promises
pub mod Assured
