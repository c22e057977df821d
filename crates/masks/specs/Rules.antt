-- What `check_masks` and `plan_masks` promise by the rules of the papers themselves (document 02, Q-6). These words rest on no reader and no
-- machine: the text's answer is that of `Answers` (crates/meaning/specs/Reading.antt), its events and tasks are those of the syntax by any
-- derivation of its tokens. Assumes nothing.
use Rattle.std.specs.Prelude.{◌≡◌, List, ◌++◌, true, false, ℕ, ◌≤◌, ◌<◌, length, take, drop}
use Rattle.grammar.specs.Grammar.{Derivation}
use Rattle.grammar.specs.Terminals.{tokens}
use Rattle.meaning.specs.Syntax.{File}
use Rattle.meaning.specs.Actions.{syntax}
use Rattle.meaning.specs.Answers.{Tables, accepted, refused}
use Rattle.meaning.specs.Reading.{Answers}
use Rattle.meaning.specs.Rules.{TheAnswer}
use Rattle.masks.specs.Events.{plannable, masks_of, tasks_of}
use Rattle.masks.specs.Results.{check, plan_text}
use Rattle.masks.specs.Statements.{Fine, FirstBroken, PlanBefore, FullAt}
use Rattle.std.specs.Prelude.{Result, Ok}
use Rattle.rows.specs.Refusing.{refusing}
use Rattle.rows.specs.declared.Fault.{Fault}
use Rattle.masks.specs.declared.Checked.{Checked}
use Rattle.masks.specs.declared.Checked.TheVariants as c
use Rattle.masks.specs.declared.Planned.{Planned}
use Rattle.masks.specs.declared.Planned.TheVariants as p

-- The checker ------------------------------------------------------------------------------------------------------------------------------

-- The answer to the list l, where f is the syntax of an accepted text.
pub data Verdict (f : File) (l : List ℕ) : Checked → Type 0 where
  -- "then, before all else, one where EVENT itself has no UINT64 single MASK is refused as not plannable"
  not_plannable : plannable f ≡ false → Verdict f l c.NotPlannable
  -- "A list of the wrong length is refused as such"
  wrong_length : plannable f ≡ true → (length l ≡ length (masks_of f) → ⊥) → Verdict f l c.WrongLength
  -- "else the first event breaking its own rule (given: kept; AUTO: the other two) is named"
  breaks : plannable f ≡ true → length l ≡ length (masks_of f) → (i : ℕ) → FirstBroken (tasks_of f) (masks_of f) l i → Verdict f l (c.Breaks i)
  -- "It accepts exactly if .."
  accepts : plannable f ≡ true → Fine (tasks_of f) (masks_of f) l → Verdict f l c.Accepted

-- For the text s and the list l; r is what is returned.
pub data ChecksByRules (s l : List ℕ) (r : Result Checked Fault) : Type 0 where
  -- "A refused text gives its refusal"
  refuses : (n q : ℕ) → TheAnswer s (refused n q) → r ≡ refusing n q → ChecksByRules s l r
  -- "A checker takes an accepted text and anyone's list of masks."
  judges : (t : Tables) → TheAnswer s (accepted t) → Derivation (tokens s) → (v : Checked) → r ≡ Ok v → ((d : Derivation (tokens s)) → Verdict (syntax s d.tree) l v) → ChecksByRules s l r

-- The planner ------------------------------------------------------------------------------------------------------------------------------

-- The answer with the lent list l, which is l' afterwards, where f is the syntax of an accepted text.
pub data Outcome (f : File) (l l' : List ℕ) : Planned → Type 0 where
  not_plannable : plannable f ≡ false → l' ≡ l → Outcome f l l' p.NotPlannable
  -- "Its lent list .. is first refused as of wrong length if shorter than the events"; "all on a refusal, stay"
  wrong_length : plannable f ≡ true → length l < length (masks_of f) → l' ≡ l → Outcome f l l' p.WrongLength
  -- "It refuses exactly when all 64 bits are taken for some event, and names the first such event."
  full_at : plannable f ≡ true → length (masks_of f) ≤ length l → (i : ℕ) → FullAt (tasks_of f) (masks_of f) i → l' ≡ l → Outcome f l l' (p.Full i)
  -- "AUTO events in object order, each taking the lowest bit outside ..": the plan is ms, "filled from the start; entries past them .. stay"
  makes : plannable f ≡ true → length (masks_of f) ≤ length l → (ms : List ℕ) → PlanBefore (tasks_of f) (masks_of f) ms (length (masks_of f))
      → l' ≡ ms ++ drop (length ms) l → Outcome f l l' (p.Made (length ms))

pub data PlansByRules (s l l' : List ℕ) (r : Result Planned Fault) : Type 0 where
  refuses : (n q : ℕ) → TheAnswer s (refused n q) → r ≡ refusing n q → l' ≡ l → PlansByRules s l l' r
  judges : (t : Tables) → TheAnswer s (accepted t) → Derivation (tokens s) → (v : Planned) → r ≡ Ok v → ((d : Derivation (tokens s)) → Outcome (syntax s d.tree) l l' v) → PlansByRules s l l' r

-- Theorems -----------------------------------------------------------------------------------------------------------------------------------

-- "It accepts exactly if the list has one mask for each event, in object order, given masks are kept, each AUTO mask has a single bit of 64, and an
-- AUTO mask shares no bit with the listed mask of another event of any same task." Of every accepted text whose EVENT has such a MASK, by any
-- derivation. proofs/ByRules has `accepts_exactly`.
abbrev pub AcceptsExactly : Type 0
AcceptsExactly = (s l : List ℕ) (t : Tables) → Answers s (accepted t) → (d : Derivation (tokens s)) → plannable (syntax s d.tree) ≡ true
    → (check s l ≡ Ok c.Accepted → Fine (tasks_of (syntax s d.tree)) (masks_of (syntax s d.tree)) l)
    × (Fine (tasks_of (syntax s d.tree)) (masks_of (syntax s d.tree)) l → check s l ≡ Ok c.Accepted)

-- "It refuses exactly when all 64 bits are taken for some event, and names the first such event." The lent list is long enough.
-- proofs/ByRules has `refuses_exactly`.
abbrev pub RefusesExactly : Type 0
RefusesExactly = (s l : List ℕ) (t : Tables) → Answers s (accepted t) → (d : Derivation (tokens s)) → plannable (syntax s d.tree) ≡ true
    → length (masks_of (syntax s d.tree)) ≤ length l → (i : ℕ)
    → ((plan_text s l).result ≡ Ok (p.Full i) → FullAt (tasks_of (syntax s d.tree)) (masks_of (syntax s d.tree)) i)
    × (FullAt (tasks_of (syntax s d.tree)) (masks_of (syntax s d.tree)) i → (plan_text s l).result ≡ Ok (p.Full i))

-- "The checker accepts every plan it makes." Of any text and any lent list. proofs/Texts has `plan_checked`.
abbrev pub PlanAccepted : Type 0
PlanAccepted = (s l : List ℕ) (n : ℕ) → (plan_text s l).result ≡ Ok (p.Made n) → check s (take n (plan_text s l).list) ≡ Ok c.Accepted
