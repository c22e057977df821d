-- What the inner contracts of the reading cite: how the syntax lies in rows of numbers. Assumes nothing.
pub mod Kept
