-- What is told of a writing, cell by cell. Assumes nothing.
use mathlib.Core.Path.{◌≡◌, sym, ◌∙◌, ap}
use mathlib.Core.List.{List, [], ◌∷◌}
use Prim.Native.Nat.{ℕ}
use lib.Seq.{sets}
use Rattle.reading.specs.declared.Answer.{Answer}
use Rattle.reading.specs.declared.Answer.TheVariants.{Accepted, Refused}
use Rattle.writing.specs.declared.Written.{Written}
use Rattle.testing.specs.Readings.{number_of, place_of}
use Rattle.testing.specs.Writings.{WritingTold}

module _ {w w₁ w' : List ℕ} {r : Written} (x : w₁ ≡ sets w 1 (r.length ∷ [])) where
  telling : (a : Answer) → r.answer ≡ a → w' ≡ sets w₁ 0 (place_of a ∷ []) → WritingTold r w w' (number_of a)
  telling a i z = record {
    number = ap number_of (sym i);
    cells = z ∙ (ap (λ m. sets m 0 (place_of a ∷ [])) x ∙ ap (λ b. sets (sets w 1 (r.length ∷ [])) 0 (place_of b ∷ [])) (sym i));
  }

  pub tells_written : r.answer ≡ Accepted → w' ≡ sets w₁ 0 (0 ∷ []) → WritingTold r w w' 0
  unfolding number_of place_of
  tells_written = telling Accepted

  pub tells_not_written : {n p : ℕ} → r.answer ≡ Refused n p → w' ≡ sets w₁ 0 (p ∷ []) → WritingTold r w w' n
  unfolding number_of place_of
  tells_not_written {n} {p} = telling (Refused n p)
