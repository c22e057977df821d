-- What is told of the calls of Q-6. Assumes nothing.
use mathlib.Core.Path.{◌≡◌, ◌∙◌, ap}
use mathlib.Core.List.{List, [], ◌∷◌}
use Prim.Native.Nat.{ℕ}
use lib.Seq.{sets}
use Rattle.masks.specs.Results.{check, PlansText}
use Rattle.std.specs.Prelude.{Result}
use Rattle.rows.specs.declared.Fault.{Fault}
use Rattle.masks.specs.declared.Checked.{Checked}
use Rattle.masks.specs.declared.Planned.{Planned}
use Rattle.testing.specs.Masks.{checked_case, planned_case, ChecksTold, PlansTold}
use Rattle.testing.specs.declared.events.Case.{Case}

pub tells_checked : (s l w w' : List ℕ) (a : Result Checked Fault) (x : Case) → a ≡ check s l → x ≡ checked_case a → w' ≡ sets w 0 (x.first ∷ x.second ∷ []) → ChecksTold s l w w' x.number
tells_checked s l w w' a x e q t =
    let z : x ≡ checked_case (check s l) = q ∙ ap checked_case e in
    record { number = ap (λ (y : Case). y.number) z; told = t ∙ ap (λ (y : Case). sets w 0 (y.first ∷ y.second ∷ [])) z }

pub tells_planned : (s l w l' w' : List ℕ) (a : Result Planned Fault) (x : Case) → PlansText s l l' a → x ≡ planned_case a → w' ≡ sets w 0 (x.first ∷ x.second ∷ []) → PlansTold s l w l' w' x.number
tells_planned s l w l' w' a x e q t =
    record { answer = a; plans = e; number = ap (λ (y : Case). y.number) q; told = t ∙ ap (λ (y : Case). sets w 0 (y.first ∷ y.second ∷ [])) q }
