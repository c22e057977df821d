-- What the tests see of a writing. Assumes nothing.
use Rattle.std.specs.Prelude.{◌≡◌, List, [], ◌∷◌, ℕ}
use Rattle.std.proofs.lemmas.List.Edits.{sets}
use Rattle.writing.specs.declared.Written.{Written}
use Rattle.testing.specs.Readings.{number_of, place_of}

-- What is told of a writing: its number; the cells w become w', by the length and the place.
pub record WritingTold (r : Written) (w w' : List ℕ) (n : ℕ) : Type 0 where
  pub number : n ≡ number_of r.answer
  pub cells : w' ≡ sets (sets w 1 (r.length ∷ [])) 0 (place_of r.answer ∷ [])

-- The same of a writing of which P is promised.
pub record WritesTold (P : Written → Type 0) (w w' : List ℕ) (n : ℕ) : Type 0 where
  pub answer : Written
  pub writes : P answer
  pub told : WritingTold answer w w' n
