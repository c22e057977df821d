-- Bytes written into a lent output. Assumes nothing.
use Rattle.std.specs.Prelude.{◌≡◌, List, ℕ, ◌+◌, ◌≤◌, min, length}
use Rattle.std.proofs.lemmas.List.Edits.{sets}

-- No output is as long as this, and no place is counted past it.
abbrev pub cap : ℕ
cap = 0x8000_0000_0000_0000

-- The bytes bs were written into the output l from the place a on, as far as it reaches; it is l' then, and b is the place after them.
pub record Wrote (l : List ℕ) (a : ℕ) (bs l' : List ℕ) (b : ℕ) : Type 0 where
  pub room : length l ≤ cap
  pub bytes : l' ≡ sets l a bs
  pub next : b ≡ min cap (a + length bs)
