-- The reading of lent texts is that of the expanded text. Assumes nothing.
pub mod Answered
pub mod Alone
pub mod Renumbered
pub mod Unaffected
