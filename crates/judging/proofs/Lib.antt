pub mod Standings
pub mod Lacking
pub mod Judgements
pub mod Finding
pub mod Readying
