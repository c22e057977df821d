pub mod Found
pub mod Order
pub mod Search
pub mod Table
pub mod Tally
pub mod Refusing
