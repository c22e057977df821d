-- The answer to lent texts, with its places in them, and the expanded text in lent memory. Assumes nothing.
pub mod Answered
pub mod Expanded
