-- What demand 2 says of normal text. Assumes nothing.
pub mod ReadsBack
