-- Places of the lent texts in answers, tables and refusals. Assumes nothing.
pub mod Placed
pub mod Columns
