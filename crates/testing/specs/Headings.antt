-- What the tests see of a heading. Assumes nothing.
use Rattle.std.specs.Prelude.{◌≡◌, List, [], ◌∷◌, ℕ, Ok, Err}
use Rattle.std.proofs.lemmas.List.Edits.{sets}
use Rattle.heading.specs.Headings.{Heads}
use Rattle.heading.specs.Answered.{Answer}

unfoldable pub number_of : Answer → ℕ
number_of (Ok h) = 0
number_of (Err r) = r.number

unfoldable pub cells_of : Answer → List ℕ
cells_of (Ok h) = h.version_at ∷ h.version_len ∷ h.name_at ∷ h.name_len ∷ []
cells_of (Err r) = r.place ∷ []

-- The answer is that of `heading`; the cells w become w', by its numbers.
pub record HeadsTold (s w w' : List ℕ) (n : ℕ) : Type 0 where
  pub answer : Answer
  pub heads : Heads s answer
  pub number : n ≡ number_of answer
  pub told : w' ≡ sets w 0 (cells_of answer)
