-- What the tests see of the questions over lent texts. Assumes nothing.
use Rattle.std.specs.Prelude.{◌≡◌, List, [], ◌∷◌, ℕ}
use Rattle.std.proofs.lemmas.List.Edits.{sets}
use Rattle.heading.specs.Answered.{Answer}
use Rattle.std.specs.Prelude.{Result}
use Rattle.rows.specs.declared.Fault.{Fault}
use Rattle.masks.specs.declared.Checked.{Checked}
use Rattle.masks.specs.declared.Planned.{Planned}
use Rattle.standard.specs.Answered.{Checked as Compared}
use Rattle.testing.specs.Headings.{number_of, cells_of}
use Rattle.testing.specs.Masks.{checked_case, planned_case}
use Rattle.testing.specs.Standards.{told_case}

-- The answer is one of which P is promised; n is its number, and the cells w become w'.
pub record HeadsSet (P : Answer → Type 0) (w w' : List ℕ) (n : ℕ) : Type 0 where
  pub answer : Answer
  pub heads : P answer
  pub number : n ≡ number_of answer
  pub told : w' ≡ sets w 0 (cells_of answer)

pub record ChecksSet (P : Result Checked Fault → Type 0) (w w' : List ℕ) (n : ℕ) : Type 0 where
  pub answer : Result Checked Fault
  pub checks : P answer
  pub number : n ≡ (checked_case answer).number
  pub told : w' ≡ sets w 0 ((checked_case answer).first ∷ (checked_case answer).second ∷ [])

pub record PlansSet (P : Result Planned Fault → Type 0) (w w' : List ℕ) (n : ℕ) : Type 0 where
  pub answer : Result Planned Fault
  pub plans : P answer
  pub number : n ≡ (planned_case answer).number
  pub told : w' ≡ sets w 0 ((planned_case answer).first ∷ (planned_case answer).second ∷ [])

pub record StandardSet (P : Compared → Type 0) (w w' : List ℕ) (n : ℕ) : Type 0 where
  pub answer : Compared
  pub checks : P answer
  pub number : n ≡ (told_case answer).number
  pub told : w' ≡ sets w 0 ((told_case answer).first ∷ (told_case answer).second ∷ (told_case answer).third ∷ [])
