-- The comparison of two releases (document 02, Q-8). Assumes nothing.
pub mod Lists
pub mod Records
pub mod Contents
pub mod Differences
pub mod Reports
pub mod Samples
pub mod Gathered
pub mod Keys
pub mod Standing
pub mod Naming
pub mod Ordering
pub mod Columns
pub mod Objecting
pub mod Partners
