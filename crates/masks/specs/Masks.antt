-- The checker and the planner of document 02, Q-6 ("MASK = AUTO wants one bit, unique among a task's events."), over events and tasks as numbers:
-- an event is its number among the events, from 0; a task is the test which events it has. Assumes nothing.
use Rattle.std.specs.Prelude.{List, [], ◌∷◌, Bool, false, not, ℕ, suc, ◌^◌, set, eqb, ltb}
use Rattle.std.proofs.Math.Option.{Option, none, some}
use Rattle.token.specs.Find.{both, either, find}
use Rattle.meaning.specs.Words.{choose}
use Rattle.masks.specs.Bits.{has, single, common}

-- An event's resolved MASK: a number, or AUTO.
pub data Mask : Type 0 where
  given : ℕ → Mask
  automatic : Mask

-- Which events a task has.
abbrev pub Task : Type 0
Task = ℕ → Bool

-- "another event": of the task t, other than i, whose mask passes the test p; the masks are those of the events from j on.
unfoldable pub meets : Task → ℕ → (ℕ → Bool) → List ℕ → ℕ → Bool
meets t i p [] j = false
meets t i p (n ∷ ns) j = let r = meets t i p ns (suc j) in either (both (both (t j) (not (eqb i j))) (p n)) r

-- "another event of any same task" as i has a mask that passes the test p, where the events' masks are l.
unfoldable pub beside : List Task → ℕ → (ℕ → Bool) → List ℕ → Bool
beside [] i p l = false
beside (t ∷ ts) i p l = let r = beside ts i p l in either (both (t i) (meets t i p l 0)) r

-- The checker ------------------------------------------------------------------------------------------------------------------------------

-- An event's own rule for its listed mask m ("given: kept; AUTO: the other two"), where the events' listed masks are l.
unfoldable pub keeps : List Task → List ℕ → ℕ → Mask → ℕ → Bool
keeps ts l i (given g) m = eqb m g
keeps ts l i automatic m = both (single m) (not (beside ts i (common m) l))

-- "the first event breaking its own rule", of the events from i on.
unfoldable pub breaking : List Task → List ℕ → ℕ → List Mask → List ℕ → Option ℕ
breaking ts l i [] ms = none
breaking ts l i (r ∷ rs) [] = none
breaking ts l i (r ∷ rs) (m ∷ ms) = choose (keeps ts l i r m) (λ _. breaking ts l (suc i) rs ms) (λ _. some i)

-- The planner ------------------------------------------------------------------------------------------------------------------------------

-- The masks before any proposal: the given ones, and no bit for AUTO.
unfoldable pub before_plan : List Mask → List ℕ
before_plan [] = []
before_plan (given g ∷ rs) = g ∷ before_plan rs
before_plan (automatic ∷ rs) = 0 ∷ before_plan rs

-- Bit k is taken for the event i: a given mask or an earlier proposal has it, "both only of events that share a task with it". The masks l are
-- the given ones and the proposals so far.
unfoldable pub taken : List Task → ℕ → List ℕ → ℕ → Bool
taken ts i l k = beside ts i (λ n. has n k) l

-- "the lowest bit outside", or 64 where "all 64 bits are taken".
unfoldable pub lowest : List Task → ℕ → List ℕ → ℕ
lowest ts i l = find (λ k. not (taken ts i l k)) 64 0

pub data Plan : Type 0 where
  planned : List ℕ → Plan
  full : ℕ → Plan

-- "AUTO events in object order, each taking the lowest bit outside the given masks and the earlier proposals": from the event i on, with the masks
-- l so far; "when all 64 bits are taken for some event", the first such event.
unfoldable pub plan_from : List Task → List ℕ → ℕ → List Mask → Plan
plan_from ts l i [] = planned l
plan_from ts l i (given g ∷ rs) = plan_from ts l (suc i) rs
plan_from ts l i (automatic ∷ rs) =
    let k = lowest ts i l in
    choose (ltb k 64) (λ _. plan_from ts (set l i (2 ^ k)) (suc i) rs) (λ _. full i)

unfoldable pub plan : List Task → List Mask → Plan
plan ts rs = plan_from ts (before_plan rs) 0 rs
