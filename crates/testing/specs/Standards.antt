-- What the tests see of the call of Q-9. Assumes nothing.
use Rattle.std.specs.Prelude.{◌≡◌, List, [], ◌∷◌, ℕ, Ok, Err, Some, None}
use Rattle.std.proofs.lemmas.List.Edits.{sets}
use Rattle.standard.specs.Checking.{checked}
use Rattle.standard.specs.Answered.{Checked}
use Rattle.testing.specs.declared.standards.Found.{Found}

unfoldable pub told_case : Checked → Found
told_case (Err r) = record { number = 0; first = r.number; second = r.place; third = 0 }
told_case (Ok None) = record { number = 1; first = 0; second = 0; third = 0 }
told_case (Ok (Some w)) = record { number = 2; first = w.number; second = w.place; third = w.attribute }

-- The answer n is that of `check_standard`; the cells w become w'.
pub record StandardTold (s w w' : List ℕ) (n : ℕ) : Type 0 where
  pub number : n ≡ (told_case (checked s)).number
  pub told : w' ≡ sets w 0 ((told_case (checked s)).first ∷ (told_case (checked s)).second ∷ (told_case (checked s)).third ∷ [])
