-- The loop that finds the next row under a word, where all rows lie inside the table. Assumes nothing.
use mathlib.Core.Path.{◌≡◌, sym, ap, ◌∙◌}
use mathlib.Core.List.{List}
use Prim.Native.Nat.{ℕ, ◌+◌, ◌*◌, ◌≤◌, ◌<◌, min}
use native.Mathlib.Omega.{arith}
use lib.ListN.{length, get_or}
use Rattle.std.specs.Prelude.{Some}
use Rattle.rows.specs.Search.{find_row}
use Rattle.rows.proofs.Searches.{row_stop, row_more}

-- row k begins at p
module _ (d : List ℕ) (n key k p : ℕ) (h : k < n) (f : n ≤ 512) (g : 9728 ≤ length d) (q : p ≡ k * 19) where
  begins : p ≡ min (length d) (k * 19)
  begins = omega arith

  first_cell : get_or d (p + 0) 0 ≡ get_or d p 0
  first_cell = let z : p + 0 ≡ p = omega arith in ap (λ (i : ℕ). get_or d i 0) z

  -- it stands under the word
  pub under_stop : get_or d p 0 ≡ key → find_row d 19 n 0 key k ≡ Some k
  under_stop c = row_stop d 19 n 0 key k p h begins (first_cell ∙ c)

  -- it does not
  pub under_more : (get_or d p 0 ≡ key → ⊥) → find_row d 19 n 0 key k ≡ find_row d 19 n 0 key (k + 1)
  under_more c = row_more d 19 n 0 key k p h begins (λ e. c (sym first_cell ∙ e))
