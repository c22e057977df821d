-- What is gathered: in the buffer stand a name, its text, the next name and so on, the main text first, under an empty name; the lengths are told in
-- that order. What a file has and whether it can be opened is the system's. Assumes nothing.
use Rattle.std.specs.Prelude.{ℕ, ◌≤◌, ◌≡◌, List, [], ◌∷◌, Bool, true, false, Option, Some, None, length, get_or, take, leb}
use Rattle.token.specs.Find.{both}
use Rattle.sources.specs.Texts.{told_well}
use Rattle.gathering.specs.declared.Added.{Added}

-- no text of those told has over 65,535 bytes
unfoldable pub all_short : List ℕ → Bool
all_short [] = true
all_short (n ∷ []) = false
all_short (n ∷ t ∷ l) = both (leb t 65535) (all_short l)

-- what has to be lent: eight names of at most 4,095 bytes and texts of at most 65,536, one byte more than a text may have; their lengths; and the
-- origins of the bytes among which the `#` of a missing text stands
pub record Rooms (b l g : List ℕ) : Type 0 where
  pub bytes : 557048 ≤ length b
  pub lengths : 16 ≤ length l
  pub origins : 131070 ≤ length g

-- the main text is told, of n bytes, where all this is lent
pub record MainTold (b l : List ℕ) (n : ℕ) : Type 0 where
  pub bytes : 557048 ≤ length b
  pub lengths : 16 ≤ length l
  pub name : get_or l 0 0 ≡ 0
  pub text : get_or l 1 0 ≡ n
  pub short : n ≤ 65536

-- The first r lengths are those of what stands in the buffer b: at most eight texts, the first of them nameless, told as a reader takes them, unless a
-- text is too long, which it refuses.
pub record Gathered (b l : List ℕ) (r : ℕ) : Type 0 where
  pub main : get_or l 0 0 ≡ 0
  pub told : told_well b (take r l) ≡ all_short (take r l)

-- A text that was added: a name that can be opened, and at most one byte more than a text may have.
abbrev pub Fits : Option Added → Type 0
Fits (Some a) = (a.name ≤ 4095) × (a.text ≤ 65536)
Fits None = Unit {0}
