-- What `check_masks` and `plan_masks` answer, and what the lent list holds afterwards (document 02, Q-6). Assumes nothing.
use Rattle.std.specs.Prelude.{◌≡◌, List, ◌++◌, ℕ, length, drop, eqb, ltb}
use Rattle.std.proofs.Math.Option.{Option, none, some}
use Rattle.meaning.specs.Syntax.{File}
use Rattle.meaning.specs.Words.{choose}
use Rattle.meaning.specs.Answers.{Answer, accepted, refused, answer}
use Rattle.meaning.specs.Reading.{Parsed, parsed, not_parsed, parse}
use Rattle.masks.specs.Masks.{breaking, Plan, planned, full, plan}
use Rattle.masks.specs.Events.{plannable, masks_of, tasks_of}
use Rattle.std.specs.Prelude.{Result, Ok}
use Rattle.rows.specs.Refusing.{refusing}
use Rattle.rows.specs.declared.Fault.{Fault}
use Rattle.masks.specs.declared.Checked.{Checked}
use Rattle.masks.specs.declared.Checked.TheVariants as c
use Rattle.masks.specs.declared.Planned.{Planned}
use Rattle.masks.specs.declared.Planned.TheVariants as p

-- The checker ------------------------------------------------------------------------------------------------------------------------------

unfoldable pub named_first : Option ℕ → Checked
named_first none = c.Accepted
named_first (some i) = c.Breaks i

-- An accepted text: "before all else, one where EVENT itself has no UINT64 single MASK is refused as not plannable"; "A list of the wrong length
-- is refused as such; else the first event breaking its own rule .. is named".
unfoldable pub check_file : File → List ℕ → Checked
check_file f l =
    choose (plannable f) (λ _.
    choose (eqb (length l) (length (masks_of f))) (λ _. named_first (breaking (tasks_of f) l 0 (masks_of f) l)) (λ _. c.WrongLength))
    (λ _. c.NotPlannable)

unfoldable pub check_answered : Answer → File → List ℕ → Result Checked Fault
check_answered (accepted t) f l = Ok (check_file f l)
check_answered (refused n p) f l = refusing n p

-- "A refused text gives its refusal".
unfoldable pub check_parsed : Parsed → List ℕ → Result Checked Fault
check_parsed (parsed f) l = check_answered (answer f) f l
check_parsed (not_parsed n p) l = refusing n p

-- The checker's answer to the text s and the list l.
unfoldable pub check : List ℕ → List ℕ → Result Checked Fault
check s l = check_parsed (parse s) l

-- The planner ------------------------------------------------------------------------------------------------------------------------------

-- The planner's answer, and the lent list after it.
pub record Made (R : Type 0) : Type 0 where
  pub result : R
  pub list : List ℕ

unfoldable pub left : {R : Type 0} → R → List ℕ → Made R
left r l = record { result = r; list = l }

-- "filled from the start"; "entries past them, and all on a refusal, stay".
unfoldable pub made : Plan → List ℕ → Made Planned
made (planned ms) l = record { result = p.Made (length ms); list = ms ++ drop (length ms) l }
made (full i) l = left (p.Full i) l

-- "Its lent list .. is first refused as of wrong length if shorter than the events".
unfoldable pub plan_file : File → List ℕ → Made Planned
plan_file f l =
    choose (plannable f) (λ _.
    choose (ltb (length l) (length (masks_of f))) (λ _. left p.WrongLength l) (λ _. made (plan (tasks_of f) (masks_of f)) l))
    (λ _. left p.NotPlannable l)

-- No refusal of the text.
unfoldable pub answered : Made Planned → Made (Result Planned Fault)
answered m = record { result = Ok m.result; list = m.list }

unfoldable pub plan_answered : Answer → File → List ℕ → Made (Result Planned Fault)
plan_answered (accepted t) f l = answered (plan_file f l)
plan_answered (refused n q) f l = left (refusing n q) l

unfoldable pub plan_parsed : Parsed → List ℕ → Made (Result Planned Fault)
plan_parsed (parsed f) l = plan_answered (answer f) f l
plan_parsed (not_parsed n q) l = left (refusing n q) l

unfoldable pub plan_text : List ℕ → List ℕ → Made (Result Planned Fault)
plan_text s l = plan_parsed (parse s) l

-- A call gives r, and the lent list is l' afterwards.
pub record Leaves {R : Type 0} (m : Made R) (l' : List ℕ) (r : R) : Type 0 where
  pub result : r ≡ m.result
  pub list : l' ≡ m.list

-- THE CONTRACT of `plan_masks` as equations, for the text s and the lent list l, which is l' afterwards.
abbrev pub PlansText : (s l l' : List ℕ) → Result Planned Fault → Type 0
PlansText s l l' r = Leaves (plan_text s l) l' r
