-- The contracts of the inner functions that see the tables. No part of the public contract. Assumes nothing.
use Rattle.std.specs.Prelude.{◌≡◌, List, ℕ, ◌≤◌, length, eqb, ltb}
use Rattle.rows.specs.Found.{Found}
use Rattle.std.specs.Prelude.{Some, None}
use Rattle.meaning.specs.Syntax.{File}
use Rattle.meaning.specs.Words.{choose}
use Rattle.meaning.specs.Defining.{all_definition_rows}
use Rattle.scopes.specs.Given.{Places}
use Rattle.reading.specs.declared.Spanned.{Spanned}
use Rattle.writing.specs.Promises.{Tables}
use Rattle.masks.specs.Masks.{Mask, Task, breaking, before_plan, Plan, plan_from, plan}
use Rattle.masks.specs.Events.{masks_of, tasks_of}
use Rattle.masks.specs.Results.{named_first, check_file, Made, left, made, plan_file, Leaves}
use Rattle.masks.specs.declared.Checked.{Checked}
use Rattle.masks.specs.declared.Checked.TheVariants as c
use Rattle.masks.specs.declared.Planned.{Planned}
use Rattle.masks.specs.declared.Planned.TheVariants as p

-- The rows ---------------------------------------------------------------------------------------------------------------------------------

unfoldable pub named_found : Found → Checked
named_found (Some i) = c.Breaks i
named_found None = c.Accepted

-- The checker's answer for a plannable file.
unfoldable pub check_listed : File → List ℕ → Checked
check_listed f l = choose (eqb (length l) (length (masks_of f))) (λ _. named_first (breaking (tasks_of f) l 0 (masks_of f) l)) (λ _. c.WrongLength)

-- The planner's for a plannable file.
unfoldable pub plan_listed : File → List ℕ → Made Planned
plan_listed f l = choose (ltb (length l) (length (masks_of f))) (λ _. left p.WrongLength l) (λ _. made (plan (tasks_of f) (masks_of f)) l)

-- `check_rows`: the answer for every plannable file whose rows the tables hold.
abbrev pub ChecksRows : (s d o v : List ℕ) → (m n : ℕ) → List ℕ → Checked → Type 0
ChecksRows s d o v m n l r = (f : File) → Tables s d o v m n f → m ≤ 256 → r ≡ check_listed f l

-- `plan_rows`: so it is for the planner.
abbrev pub PlansRows : (s d o v : List ℕ) → (m n : ℕ) → (l l' : List ℕ) → Planned → Type 0
PlansRows s d o v m n l l' r = (f : File) → Tables s d o v m n f → m ≤ 256 → Leaves (plan_listed f l) l' r

-- `deliver`: what is made of a plan.
abbrev pub Delivers : Plan → (l l' : List ℕ) → Planned → Type 0
Delivers x l l' r = Leaves (made x l) l' r

-- `hand_out`: what is made of the plan for events whose masks are rs.
abbrev pub HandsOut : List Task → List Mask → (l l' : List ℕ) → Planned → Type 0
HandsOut ts rs l l' r = Leaves (made (plan_from ts (before_plan rs) 0 rs) l) l' r

-- An accepted text -------------------------------------------------------------------------------------------------------------------------

-- The tables hold the rows of f, and the reading w tells their numbers and the places of the kinds' words.
pub record ReadAs (s d o v : List ℕ) (w : Spanned) (f : File) : Type 0 where
  pub tables : Tables s d o v w.reading.objects w.reading.values f
  pub definitions : w.reading.definitions ≡ length (all_definition_rows f.specs)
  pub few : w.reading.objects ≤ 256
  pub places : Places f w.places

-- `check_read`: the answer for the file.
abbrev pub ChecksRead : (s d o v : List ℕ) → Spanned → List ℕ → Checked → Type 0
ChecksRead s d o v w l r = (f : File) → ReadAs s d o v w f → r ≡ check_file f l

-- `plan_read`: so it is for the planner.
abbrev pub PlansRead : (s d o v : List ℕ) → Spanned → (l l' : List ℕ) → Planned → Type 0
PlansRead s d o v w l l' r = (f : File) → ReadAs s d o v w f → Leaves (plan_file f l) l' r
