-- What the public calls promise. Assumes nothing.
pub mod Rules
pub mod Results
pub mod Decisions
pub mod Demand
