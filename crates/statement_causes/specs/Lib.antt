-- Which statement a refusal from 13 to 16 or 18 is given for, and by which attribute. Assumes nothing.
pub mod Sites
pub mod Tellings
pub mod Promises
