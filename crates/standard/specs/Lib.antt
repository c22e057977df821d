-- The standard attributes, and the question whether an implementation defines them. Assumes nothing.
pub mod Asking
pub mod Section
pub mod Answered
pub mod Checking
pub mod Conforming
pub mod Naming
pub mod Rows
pub mod Descending
pub mod Shapes
pub mod Spans
pub mod Choices
pub mod Findings
pub mod Rules
pub mod Heads
