-- What is proved of the public calls taken together, and of every accepted text. Assumes nothing.
pub mod RoundTrip
pub mod Own
pub mod Names
pub mod Ordering
pub mod Headings
pub mod Parts
pub mod TextsBack
pub mod LentEdges
