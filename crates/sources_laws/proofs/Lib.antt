-- The tokens of the expanded text. Assumes nothing.
pub mod Feeds
pub mod Longer
pub mod Ends
pub mod Outcomes
pub mod Fronts
pub mod Expanded
pub mod Joined
pub mod Crossing
pub mod Samples
pub mod Depths
