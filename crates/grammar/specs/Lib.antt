-- The statements: the grammar of document 01, how the text's tokens are its tokens, what the stage answers, demand 3.
pub mod Grammar
pub mod Terminals
pub mod Answered
pub mod Stage
pub mod Demand
-- The contracts of the inner readers, and the machine that they are stated with.
pub mod Factored
pub mod Machine
pub mod Readers
-- What they build.
pub mod Building
