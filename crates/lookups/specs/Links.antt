-- For each statement the next one of its rank, noted once. Assumes nothing.
use Rattle.std.specs.Prelude.{ℕ, zero, suc, ◌+◌, ◌*◌, ◌<◌, ◌≤◌, ◌≡◌, List, length, get_or, set, replicate, ltb}
use Rattle.token.specs.Find.{pick}
use Rattle.rows.specs.Found.{Found}
use Rattle.blocks.specs.Blocks.{row_after, FindsStated}
use Rattle.lookups.specs.Ranks.{Ranked, Skips}

-- For each rank the first row from row p on that has it, where each row is followed by the one after it and those in its braces; h has the ranks, and the
-- number of the rows stands for none.
unfoldable pub ahead_in : ℕ → List ℕ → List ℕ → ℕ → List ℕ
ahead_in zero st h p = replicate 513 (length h)
ahead_in (suc f) st h p = pick (ltb p (length h)) (set (ahead_in f st h (row_after st p (length h))) (get_or h p 0) p) (replicate 513 (length h))

unfoldable pub ahead : List ℕ → List ℕ → ℕ → List ℕ
ahead st h p = ahead_in (length h) st h p

-- The next row that has the rank of row k.
unfoldable pub next_in : List ℕ → List ℕ → ℕ → ℕ
next_in st h k = get_or (ahead st h (row_after st k (length h))) (get_or h k 0) 0

-- The cells of l from row p on have these rows.
pub record NotedFrom (st h : List ℕ) (p : ℕ) (l : List ℕ) : Type 0 where
  pub cell : (j : ℕ) → p ≤ j → j < length h → get_or l j 0 ≡ next_in st h j

-- So it is, and u has the first row from row p on that has each rank.
pub record Passing (st h l : List ℕ) (p : ℕ) (u : List ℕ) : Type 0 where
  pub noted : NotedFrom st h p l
  pub rows : u ≡ ahead st h p

-- A cell v says nothing, or it has the next row that has the rank of row k,
pub data Link (st h : List ℕ) (k v : ℕ) : Type 0 where
  unknown : v ≡ 0 → Link st h k v
  known : v ≡ next_in st h k → Link st h k v

-- and so each cell of l.
pub record Linked (st h l : List ℕ) : Type 0 where
  pub cell : (k : ℕ) → k < length h → Link st h k (get_or l k 0)

-- Where the cell of row k says something, row a is the one after it in the block that ends before row e.
pub record Follows (st l : List ℕ) (k a e : ℕ) : Type 0 where
  pub inside : (get_or l k 0 ≡ 0 → ⊥) → k < e
  pub after : (get_or l k 0 ≡ 0 → ⊥) → a ≡ row_after st k e

-- No statement of the block from a to e before row r has a name whose number is g.
pub record Begins (st h l : List ℕ) (k a e g r : ℕ) : Type 0 where
  pub skips : Linked st h l → Follows st l k a e → Skips st h a e g r

-- r is the first statement from row a on, up to e, that has the name of row i of t, if v and h have the numbers of t's rows and of the statements.
pub record StatedAfter (s t : List ℕ) (w m : ℕ) (v : List ℕ) (i : ℕ) (st h l : List ℕ) (k a e : ℕ) (r : Found) : Type 0 where
  pub finds : (f : List ℕ → ℕ) → Ranked f s t w m v → Ranked f s st 7 0 h → Linked st h l → Follows st l k a e
      → FindsStated s st a e (get_or t (i * w + m) 0) (get_or t (i * w + (m + 1)) 0) r
