-- Proofs of the statements of specs/. Assumes nothing.
pub mod RoundTrip
pub mod KindWords
pub mod Own
pub mod Owners
pub mod Chores
pub mod Clashes
pub mod Ordering
pub mod Parts
pub mod Apart
pub mod Headings
pub mod TextsBack
pub mod LentEdges
