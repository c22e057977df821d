-- The events and tasks as the code holds them: `rows` has the object row of each event, cell t * 256 + o of `marks` is 1 where the task of row t
-- refers to the object of row o, and row i of `given`, two cells wide, has the sort and the amount of the mask of the event i. No part of the
-- public contract. Assumes nothing.
use Rattle.std.specs.Prelude.{◌≡◌, List, [], ◌∷◌, Bool, true, false, not, ℕ, zero, suc, ◌+◌, ◌*◌, ◌/◌, ◌%◌, get_or, eqb}
use Rattle.std.proofs.Math.Option.{Option, none, some}
use Rattle.rows.specs.Found.{Found}
use Rattle.std.specs.Prelude.{Some, None}
use Rattle.token.specs.Find.{pick, both, either}
use Rattle.masks.specs.Bits.{has}
use Rattle.masks.specs.declared.marks.Tasks.{Tasks}
use Rattle.masks.specs.Masks.{Mask, automatic, Task, meets, beside, Plan, planned, full, plan_from, given as given-mask}

unfoldable pub task_at : (marks rows : List ℕ) → ℕ → Task
task_at marks rows t j = eqb (get_or marks (t * 256 + get_or rows j 0) 0) 1

-- The tasks of c rows, from row t on.
unfoldable pub tasks_at : (marks rows : List ℕ) → ℕ → ℕ → List Task
tasks_at marks rows zero t = []
tasks_at marks rows (suc c) t = task_at marks rows t ∷ tasks_at marks rows c (suc t)

-- Those that the code holds.
abbrev pub tasks_of : Tasks → List Task
tasks_of x = tasks_at x.marks.now x.rows.now x.count 0

unfoldable pub mask_at : List ℕ → ℕ → Mask
mask_at given i = pick (eqb (get_or given (i * 2 + 0) 0) 0) (given-mask (get_or given (i * 2 + 1) 0)) automatic

-- The masks of n events, from i on.
unfoldable pub masks_at : List ℕ → ℕ → ℕ → List Mask
masks_at given zero i = []
masks_at given (suc n) i = mask_at given i ∷ masks_at given n (suc i)

-- The mask n has the bit of p, which is a power of two.
unfoldable pub has_power : ℕ → ℕ → Bool
has_power p n = eqb (n / p % 2) 1

-- The event j is another than i, and of the task t.
unfoldable pub another : Task → ℕ → ℕ → Bool
another t i j = both (t j) (not (eqb i j))

-- The bits of r are those of a, and those of the masks l of the other events of the task t.
abbrev pub Gathers : Task → ℕ → List ℕ → ℕ → ℕ → Type 0
Gathers t i l a r = (k : ℕ) → has r k ≡ either (has a k) (meets t i (λ n. has n k) l 0)

abbrev pub GathersOne : Task → ℕ → ℕ → ℕ → ℕ → ℕ → Type 0
GathersOne t i j n a r = (k : ℕ) → has r k ≡ either (has a k) (both (another t i j) (has n k))

abbrev pub GathersIn : Task → ℕ → List ℕ → ℕ → ℕ → Type 0
GathersIn t i l a r = (k : ℕ) → has r k ≡ either (has a k) (both (t i) (meets t i (λ n. has n k) l 0))

-- The bits of r are those that are taken for the event i.
abbrev pub GathersAll : List Task → ℕ → List ℕ → ℕ → Type 0
GathersAll ts i l r = (k : ℕ) → has r k ≡ beside ts i (λ n. has n k) l

-- One turn of the planner.
pub record Turned (ts : List Task) (r : Mask) (i : ℕ) (l l' : List ℕ) (b : Bool) : Type 0 where
  pub goes_on : b ≡ true → (rest : List Mask) → plan_from ts l i (r ∷ rest) ≡ plan_from ts l' (suc i) rest
  pub stops : b ≡ false → (rest : List Mask) → plan_from ts l i (r ∷ rest) ≡ full i

-- What was found, as an answer of the code.
unfoldable pub found_of : Option ℕ → Found
found_of none = None
found_of (some i) = Some i

-- What the planner came to, where the masks are l: nothing found is a plan.
unfoldable pub plan_of : Found → List ℕ → Plan
plan_of None l = planned l
plan_of (Some i) l = full i

-- The mask of an event before any proposal.
unfoldable pub start_of : Mask → ℕ
start_of (given-mask g) = g
start_of automatic = 0
