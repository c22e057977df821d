-- What is told of a reading, cell by cell. Assumes nothing.
use mathlib.Core.Path.{◌≡◌, sym, ◌∙◌, ap}
use mathlib.Core.List.{List, [], ◌∷◌}
use Prim.Native.Nat.{ℕ}
use lib.Seq.{sets}
use Rattle.reading.specs.declared.Answer.{Answer}
use Rattle.reading.specs.declared.Answer.TheVariants.{Accepted, Refused}
use Rattle.reading.specs.declared.Reading.{Reading}
use Rattle.testing.specs.Readings.{number_of, place_of, sizes, ReadingTold}

module _ {w w₁ w₂ w' : List ℕ} {r : Reading} (x : w₁ ≡ sets w 1 (sizes r)) (y : w₂ ≡ sets w₁ 5 r.counts) where
  telling : (a : Answer) → r.answer ≡ a → w' ≡ sets w₂ 0 (place_of a ∷ []) → ReadingTold r w w' (number_of a)
  telling a i z = record {
    number = ap number_of (sym i);
    cells = z ∙ (ap (λ l. sets l 0 (place_of a ∷ [])) (y ∙ ap (λ l. sets l 5 r.counts) x) ∙ ap (λ b. sets (sets (sets w 1 (sizes r)) 5 r.counts) 0 (place_of b ∷ [])) (sym i));
  }

  pub tells_accepted : r.answer ≡ Accepted → w' ≡ sets w₂ 0 (0 ∷ []) → ReadingTold r w w' 0
  unfolding number_of place_of
  tells_accepted = telling Accepted

  pub tells_refused : {n p : ℕ} → r.answer ≡ Refused n p → w' ≡ sets w₂ 0 (p ∷ []) → ReadingTold r w w' n
  unfolding number_of place_of
  tells_refused {n} {p} = telling (Refused n p)
