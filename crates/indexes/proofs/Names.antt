-- The order of names in every index: where the cell of a row stands beside the least that rows with a name could have.
-- Assumes nothing.
use Prim.Native.Nat.{ℕ, ◌+◌, ◌*◌, ◌/◌, ◌<◌, ◌≤◌}
use mathlib.Core.Path.{◌≡◌, refl, sym, ap, subst, ◌∙◌}
use mathlib.Core.List.{List}
use native.Mathlib.Omega.{arith}
use lib.ListN.{length, get_or}
use Rattle.rows.specs.Table.{cell_of}
use Rattle.rows.specs.Search.{row_name}
use Rattle.std.specs.declared.cmp.Ordering.TheVariants.{Less, Equal}
use Rattle.indexes.specs.Numbers.{name_number, summary_of}
use Rattle.indexes.specs.Indexing.{row_key, pair_of, row_pair, row_cell, least_of, RowCompared, entry_of, span, cell_number, least_at, CellCompared}
use Rattle.indexes.proofs.Digits.{Bytes, part_short, part_bytes}
use Rattle.indexes.proofs.Comparisons.{sum_less, least_below, row_below, cell_before, cell_row, cell_number_lem, entry_same, entry_row}

-- The name a stands before the name b in every index: the summaries decide, then the numbers.
pub data Before (a b : List ℕ) : Type 0 where
  by_summary : summary_of a < summary_of b → Before a b
  by_number : summary_of a ≡ summary_of b → name_number a < name_number b → Before a b

scaled : (v p : ℕ) → v ≤ p → v * 18446744073709551616 ≤ p * 18446744073709551616
scaled v p h = omega arith

scaled_below : (v p i : ℕ) → p < v → i < 18446744073709551616 → p * 18446744073709551616 + i < v * 18446744073709551616 + 0
scaled_below v p i h g = omega arith

pair_more : (a b : List ℕ) → name_number a ≤ name_number b → pair_of a 0 ≤ pair_of b 0
unfolding pair_of
pair_more a b h = omega arith

pair_key : (a : List ℕ) (k : ℕ) → pair_of a 0 ≤ pair_of a k
unfolding pair_of
pair_key a k = omega arith

of_more : (a b : List ℕ) → name_number a ≤ name_number b → least_of a 0 ≤ least_of b 0
unfolding least_of
of_more a b h = scaled (pair_of a 0) (pair_of b 0) (pair_more a b h)

of_key : (a : List ℕ) (k : ℕ) → least_of a 0 ≤ least_of a k
unfolding least_of
of_key a k = scaled (pair_of a 0) (pair_of a k) (pair_key a k)

beside : (p q u v : ℕ) → p ≡ q → u ≤ v → p + u ≤ q + v
beside p q u v e h = omega arith

at_key : (a : List ℕ) (k : ℕ) → least_at a 0 ≤ least_at a k
unfolding least_at
at_key a k = beside (summary_of a * span) (summary_of a * span) (least_of a 0) (least_of a k) refl (of_key a k)

pub at_more : (a b : List ℕ) → Bytes a → length a ≤ 18446744073709551616 → Before a b → least_at a 0 ≤ least_at b 0
unfolding least_at
at_more a b d l (by_summary h) = by (summary_of a * span + least_of a 0) (summary_of b * span + least_of b 0) (sum_less (summary_of a) (summary_of b) span (least_of a 0) (least_of b 0) h below)
  where
    below : least_of a 0 < span
    below = let e = least_below a 0 d l (omega arith) in omega (arith, e)

    by : (p q : ℕ) → p < q → p ≤ q
    by p q g = omega arith
at_more a b d l (by_number e h) = beside (summary_of a * span) (summary_of b * span) (least_of a 0) (least_of b 0) (ap (λ (n : ℕ). n * span) e) (of_more a b (omega arith))

-- A row's name is no longer than the text.
pub name_short : (s t : List ℕ) (w m i : ℕ) → length (row_name s t w m i) ≤ length s
unfolding row_name
name_short s t w m i = part_short s (cell_of t w i m) (cell_of t w i (m + 1))

pub name_bytes : (s t : List ℕ) (w m i : ℕ) → Bytes s → Bytes (row_name s t w m i)
unfolding row_name
name_bytes s t w m i b = part_bytes s (cell_of t w i m) (cell_of t w i (m + 1)) b

module _ (s t : List ℕ) (w c m : ℕ) where
  -- The cell of row i.
  own_cell : (i : ℕ) → i < 65536 → CellCompared s t w c m (entry_of s t w m i) (row_key t w c i) (row_name s t w m i) Equal
  unfolding RowCompared
  own_cell i h = entry_same s t w c m i (row_key t w c i) (row_name s t w m i) (refl, refl) h

  own_summary : (i : ℕ) → i < 65536 → entry_of s t w m i / 65536 ≡ summary_of (row_name s t w m i)
  unfolding CellCompared
  own_summary i h = (own_cell i h).0

  pub cell_no_less : (i : ℕ) → i < 65536 → least_at (row_name s t w m i) 0 ≤ cell_number s t w c m (entry_of s t w m i)
  cell_no_less i h =
      let e = cell_number_lem s t w c m (entry_of s t w m i) (row_key t w c i) (row_name s t w m i) (own_cell i h) in
      let k = at_key (row_name s t w m i) (row_key t w c i) in
      omega (arith, e, k)

  row_before : (i : ℕ) (b : List ℕ) → ((j : ℕ) → get_or t j 0 < 18446744073709551616) → name_number (row_name s t w m i) < name_number b → RowCompared s t w c m i 0 b Less
  unfolding RowCompared pair_of row_pair row_key
  row_before i b d g = scaled_below (name_number b) (name_number (row_name s t w m i)) (cell_of t w i c) g (d (i * w + c))

  pub cell_below : (i : ℕ) (b : List ℕ) → Bytes s → length s ≤ 18446744073709551616 → ((j : ℕ) → get_or t j 0 < 18446744073709551616) → i < 65536 → Before (row_name s t w m i) b → cell_number s t w c m (entry_of s t w m i) < least_at b 0
  unfolding CellCompared
  cell_below i b u l d h (by_summary g) =
      cell_before s t w c m (entry_of s t w m i) 0 b (subst (λ (n : ℕ). n < summary_of b) (sym (own_summary i h)) g)
      (subst (λ (j : ℕ). row_cell s t w c m j < span) (sym (entry_row s t w c m i h)) (row_below s t w c m i u l d (omega arith)))
  cell_below i b u l d h (by_number e g) =
      cell_row s t w c m (entry_of s t w m i) 0 b (own_summary i h ∙ e) Less
      (subst (λ (j : ℕ). RowCompared s t w c m j 0 b Less) (sym (entry_row s t w c m i h)) (row_before i b d g))
