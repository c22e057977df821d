-- What is told of the call of Q-9. Assumes nothing.
use mathlib.Core.Path.{◌≡◌, ◌∙◌, ap}
use mathlib.Core.List.{List, [], ◌∷◌}
use Prim.Native.Nat.{ℕ}
use lib.Seq.{sets}
use Rattle.standard.specs.Checking.{checked}
use Rattle.standard.specs.Answered.{Checked}
use Rattle.testing.specs.Standards.{told_case, StandardTold}
use Rattle.testing.specs.declared.standards.Found.{Found}

pub tells_standard : (s w w' : List ℕ) (a : Checked) (x : Found) → a ≡ checked s → x ≡ told_case a → w' ≡ sets w 0 (x.first ∷ x.second ∷ x.third ∷ []) → StandardTold s w w' x.number
tells_standard s w w' a x e q t =
    let z : x ≡ told_case (checked s) = q ∙ ap told_case e in
    record { number = ap (λ (y : Found). y.number) z; told = t ∙ ap (λ (y : Found). sets w 0 (y.first ∷ y.second ∷ y.third ∷ [])) z }
