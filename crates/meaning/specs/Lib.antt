-- The meaning of document 01. Assumes nothing.
pub mod Syntax
pub mod Actions
pub mod Words
pub mod Kinds
pub mod Faults
pub mod Scopes
pub mod Merging
pub mod Defining
pub mod Applying
pub mod Judging
pub mod Resolving
pub mod Normal
pub mod Answers
pub mod Tree
pub mod Reading
pub mod Calls
pub mod Cells
-- What the public calls promise by the rules.
pub mod Rules
pub mod Computed
pub mod Places
pub mod Joining
pub mod Standing
pub mod Edges
