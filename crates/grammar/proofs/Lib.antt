-- Demand 3.
pub mod Demand
-- The answer to a text is decided.
pub mod Decided
pub mod Answering
pub mod Edges
pub mod Fronts
-- The grammar: unique derivations, the factored grammar, viable prefixes.
pub mod Choices
pub mod Splits
pub mod Checks
pub mod Uniqueness
pub mod Braces
pub mod Literal
pub mod Viable
pub mod Runs
-- The readers.
pub mod Steps
pub mod Codes
pub mod Meeting
pub mod Lookaheads
pub mod Terminals
pub mod Rules
