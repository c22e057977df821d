-- What is told of the call of Q-11. Assumes nothing.
use mathlib.Core.Path.{◌≡◌, ◌∙◌, ap}
use mathlib.Core.List.{List, [], ◌∷◌}
use lib.Seq.{sets}
use Prim.Native.Nat.{ℕ}
use Rattle.mending_texts.specs.Answered.{Answer as Mended}
use Rattle.testing.specs.Mendings.{mended_case, MendsSet}
use Rattle.testing.specs.declared.mends.Case.{Case}

pub tells_mended : (P : Mended → Type 0) (w w' : List ℕ) (a : Mended) (x : Case) → P a → x ≡ mended_case a → w' ≡ sets w 0 (x.place ∷ x.text ∷ x.lines ∷ []) → MendsSet P w w' x.number
tells_mended P w w' a x h q t =
    record { answer = a; mends = h; number = ap (λ (y : Case). y.number) q; told = t ∙ ap (λ (y : Case). sets w 0 (y.place ∷ y.text ∷ y.lines ∷ [])) q }
