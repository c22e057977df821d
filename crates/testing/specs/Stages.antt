-- The grammar stage's answer as numbers. Assumes nothing.
use Rattle.std.specs.Prelude.{◌≡◌, List, ℕ}
use Rattle.grammar.specs.Stage.{number_of, place_of, Answers}
use Rattle.grammar.specs.Answered.{Answer}

-- n is the number of what the stage answers to the text, 0 where it passes
pub record Numbered (s : List ℕ) (n : ℕ) : Type 0 where
  pub answer : Answer
  pub answers : Answers s answer
  pub number : n ≡ number_of answer

-- p is the place of what the stage answers to the text, 0 where it passes
pub record Placed (s : List ℕ) (p : ℕ) : Type 0 where
  pub answer : Answer
  pub answers : Answers s answer
  pub place : p ≡ place_of answer
