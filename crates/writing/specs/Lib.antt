-- What the writer promises. Assumes nothing.
pub mod Rules
pub mod Results
pub mod Wrote
pub mod Lines
pub mod Promises
