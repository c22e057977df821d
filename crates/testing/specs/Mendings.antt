-- What the tests see of the call of Q-11. Assumes nothing.
use Rattle.std.specs.Prelude.{◌≡◌, List, [], ◌∷◌, ℕ, Ok, Err}
use Rattle.std.proofs.lemmas.List.Edits.{sets}
use Rattle.mending_texts.specs.Answered.{Answer as Mended}
use Rattle.testing.specs.declared.mends.Case.{Case}

unfoldable pub mended_case : Mended → Case
mended_case (Err r) = record { number = r.number; place = r.place; text = 0; lines = 0 }
mended_case (Ok d) = record { number = 0; place = 0; text = d.text; lines = d.lines }

-- The answer is one of which P is promised; n is its number, and the cells w become w'.
pub record MendsSet (P : Mended → Type 0) (w w' : List ℕ) (n : ℕ) : Type 0 where
  pub answer : Mended
  pub mends : P answer
  pub number : n ≡ (mended_case answer).number
  pub told : w' ≡ sets w 0 ((mended_case answer).place ∷ (mended_case answer).text ∷ (mended_case answer).lines ∷ [])
