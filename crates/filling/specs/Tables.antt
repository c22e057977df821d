-- Tables that rows are put into. Assumes nothing.
use Rattle.std.specs.Prelude.{◌≡◌, List, ℕ, ◌+◌, ◌-◌, ◌*◌, ◌≤◌, min, length}
use Rattle.std.proofs.lemmas.List.Edits.{sets}
use Rattle.layout.specs.Kept.{join}

-- One table, with the number of its rows.
abbrev pub Table : Type 0
Table = List ℕ × ℕ

-- The rows together have w cells for each.
abbrev pub Wide : ℕ → List (List ℕ) → Type 0
Wide w rs = length (join rs) ≡ length rs * w

-- The table l with n rows of w cells has become l' with n': the rows rs stand from row n on. What is past its end is not stored, and no more
-- than 65,536 rows are counted; where there are more, nothing is said of the cells.
pub record Wrote (w : ℕ) (l : List ℕ) (n : ℕ) (rs : List (List ℕ)) (l' : List ℕ) (n' : ℕ) : Type 0 where
  pub size : length l' ≡ length l
  pub wide : Wide w rs
  pub count : n' ≡ n + min (length rs) (65536 - n)
  pub table : n + length rs ≤ 65536 → l' ≡ sets l (n * w) (join rs)
