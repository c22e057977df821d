-- What holds of the checker and the planner, in the words of Q-6. Assumes nothing.
use Rattle.std.specs.Prelude.{◌≡◌, List, ◌∷◌, true, ℕ, ◌<◌, ◌^◌, length, get_or}
use Rattle.masks.specs.Bits.{has}
use Rattle.masks.specs.Masks.{Mask, given, automatic, Task}

-- The events i and j are of a same task.
pub data Together : List Task → ℕ → ℕ → Type 0 where
  this_task : {t : Task} {ts : List Task} {i j : ℕ} → t i ≡ true → t j ≡ true → Together (t ∷ ts) i j
  later_task : {t : Task} {ts : List Task} {i j : ℕ} → Together ts i j → Together (t ∷ ts) i j

-- j is "another event of any same task" as i, of n events.
pub record Other (ts : List Task) (n i j : ℕ) : Type 0 where
  pub event : j < n
  pub another : i ≡ j → ⊥
  pub together : Together ts i j

-- "a single bit of 64".
pub record OneBit (m : ℕ) : Type 0 where
  pub bit : ℕ
  pub below : bit < 64
  pub is : m ≡ 2 ^ bit

-- "shares no bit".
abbrev pub Apart : ℕ → ℕ → Type 0
Apart m n = (k : ℕ) → k < 64 → has m k ≡ true → has n k ≡ true → ⊥

-- An event's own rule: "given: kept; AUTO: the other two".
pub data Kept (ts : List Task) (l : List ℕ) (i : ℕ) : Mask → Type 0 where
  given_kept : {g : ℕ} → get_or l i 0 ≡ g → Kept ts l i (given g)
  auto_kept : OneBit (get_or l i 0) → ((j : ℕ) → Other ts (length l) i j → Apart (get_or l i 0) (get_or l j 0)) → Kept ts l i automatic

-- "the list has one mask for each event, in object order, given masks are kept, each AUTO mask has a single bit of 64, and an AUTO mask shares no
-- bit with the listed mask of another event of any same task": the events' masks are rs.
pub record Fine (ts : List Task) (rs : List Mask) (l : List ℕ) : Type 0 where
  pub one_each : length l ≡ length rs
  pub each : (i : ℕ) → i < length rs → Kept ts l i (get_or rs i automatic)

-- i is "the first event breaking its own rule".
pub record FirstBroken (ts : List Task) (rs : List Mask) (l : List ℕ) (i : ℕ) : Type 0 where
  pub event : i < length rs
  pub broken : Kept ts l i (get_or rs i automatic) → ⊥
  pub before : (j : ℕ) → j < i → Kept ts l j (get_or rs j automatic)

-- The planner ------------------------------------------------------------------------------------------------------------------------------

-- The mask of the event j counts for the event i: it is a given one or an earlier proposal.
pub data Counts (rs : List Mask) (i j : ℕ) : Type 0 where
  by_given : {g : ℕ} → get_or rs j automatic ≡ given g → Counts rs i j
  by_earlier : j < i → Counts rs i j

-- Bit k is taken for the event i by "the given masks and the earlier proposals, both only of events that share a task with it", where the
-- events' masks are l.
pub record Taken (ts : List Task) (rs : List Mask) (l : List ℕ) (i k : ℕ) : Type 0 where
  pub at : ℕ
  pub other : Other ts (length rs) i at
  pub counts : Counts rs i at
  pub has_it : has (get_or l at 0) k ≡ true

-- The event i takes "the lowest bit outside".
pub record Proposal (ts : List Task) (rs : List Mask) (l : List ℕ) (i : ℕ) : Type 0 where
  pub bit : ℕ
  pub below : bit < 64
  pub is : get_or l i 0 ≡ 2 ^ bit
  pub outside : Taken ts rs l i bit → ⊥
  pub lowest : (k : ℕ) → k < bit → Taken ts rs l i k

-- The list l is a plan for the events before number i: given masks kept, and each AUTO event has its proposal.
pub record PlanBefore (ts : List Task) (rs : List Mask) (l : List ℕ) (i : ℕ) : Type 0 where
  pub one_each : length l ≡ length rs
  pub kept : (j g : ℕ) → j < length rs → get_or rs j automatic ≡ given g → get_or l j 0 ≡ g
  pub proposed : (j : ℕ) → j < i → j < length rs → get_or rs j automatic ≡ automatic → Proposal ts rs l j

-- All 64 bits are taken for the AUTO event i, and the events before it have their masks: it is "the first such event".
pub record FullAt (ts : List Task) (rs : List Mask) (i : ℕ) : Type 0 where
  pub list : List ℕ
  pub before : PlanBefore ts rs list i
  pub event : i < length rs
  pub auto : get_or rs i automatic ≡ automatic
  pub all : (k : ℕ) → k < 64 → Taken ts rs list i k
