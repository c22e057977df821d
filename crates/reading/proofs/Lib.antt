-- Laws of the public calls. Assumes nothing.
pub mod Arriving
pub mod Settling
pub mod Deciding
pub mod Finishing
pub mod Lending
pub mod Spans
pub mod Demand
pub mod ByRules
pub mod Derived
