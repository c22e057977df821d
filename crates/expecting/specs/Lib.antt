-- What may stand at a place, how the machine finds it, what the call answers and how it asks, and the words for it.
pub mod Expected
pub mod Flags
pub mod Firsts
pub mod Samples
pub mod Words
