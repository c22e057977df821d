-- The expected set is exact, and the call tells it. Assumes nothing.
pub mod Leaves
pub mod Firsts
pub mod Exact
pub mod Refusals
pub mod Edges
pub mod Verdicts
pub mod Fronts
pub mod Before
pub mod Laying
pub mod Telling
