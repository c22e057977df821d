-- Which one a refusal is given for. Assumes nothing.
pub mod Firsts
pub mod Causes
