-- What the tests see of the calls of Q-6. Assumes nothing.
use Rattle.std.specs.Prelude.{◌≡◌, List, [], ◌∷◌, ℕ}
use Rattle.std.proofs.lemmas.List.Edits.{sets}
use Rattle.masks.specs.Results.{check, PlansText}
use Rattle.std.specs.Prelude.{Result, Ok, Err}
use Rattle.rows.specs.declared.Fault.{Fault}
use Rattle.masks.specs.declared.Checked.{Checked}
use Rattle.masks.specs.declared.Checked.TheVariants as c
use Rattle.masks.specs.declared.Planned.{Planned}
use Rattle.masks.specs.declared.Planned.TheVariants as p
use Rattle.testing.specs.declared.events.Case.{Case}

unfoldable pub checked_case : Result Checked Fault → Case
checked_case (Err f) = record { number = 0; first = f.number; second = f.place }
checked_case (Ok c.NotPlannable) = record { number = 1; first = 0; second = 0 }
checked_case (Ok c.WrongLength) = record { number = 2; first = 0; second = 0 }
checked_case (Ok (c.Breaks i)) = record { number = 3; first = i; second = 0 }
checked_case (Ok c.Accepted) = record { number = 4; first = 0; second = 0 }

unfoldable pub planned_case : Result Planned Fault → Case
planned_case (Err f) = record { number = 0; first = f.number; second = f.place }
planned_case (Ok p.NotPlannable) = record { number = 1; first = 0; second = 0 }
planned_case (Ok p.WrongLength) = record { number = 2; first = 0; second = 0 }
planned_case (Ok (p.Full i)) = record { number = 3; first = i; second = 0 }
planned_case (Ok (p.Made n)) = record { number = 4; first = n; second = 0 }

-- The answer n is that of `check_masks`; the cells w become w'.
pub record ChecksTold (s l w w' : List ℕ) (n : ℕ) : Type 0 where
  pub number : n ≡ (checked_case (check s l)).number
  pub told : w' ≡ sets w 0 ((checked_case (check s l)).first ∷ (checked_case (check s l)).second ∷ [])

-- The answer n is that of `plan_masks`, after which the list l is l'; the cells w become w'.
pub record PlansTold (s l w l' w' : List ℕ) (n : ℕ) : Type 0 where
  pub answer : Result Planned Fault
  pub plans : PlansText s l l' answer
  pub number : n ≡ (planned_case answer).number
  pub told : w' ≡ sets w 0 ((planned_case answer).first ∷ (planned_case answer).second ∷ [])
