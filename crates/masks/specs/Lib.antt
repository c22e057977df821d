-- Event masks, checked and planned (document 02, Q-6). Assumes nothing.
pub mod Bits
pub mod Masks
pub mod Events
pub mod Results
pub mod Statements
pub mod Marks
pub mod Members
pub mod Promises
pub mod Rules
