-- What the lent texts are, what an include line is, and the expanded text. Assumes nothing.
pub mod Lines
pub mod Texts
pub mod Numbering
pub mod Notes
pub mod Expanding
pub mod Plain
pub mod Promises
