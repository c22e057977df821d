-- The laws of places: where one of the cells stands, where rows in order are parted, and how many stand before that.
-- Assumes nothing.
use Prim.Native.Nat.{ℕ, zero, suc, ◌+◌, ◌-◌, ◌*◌, ◌/◌, ◌%◌, ◌<◌, ◌≤◌}
use mathlib.Core.Path.{◌≡◌, refl, sym, ap, subst, ◌∙◌}
use mathlib.Core.Bool.{Bool, true, false, false≢true}
use mathlib.Core.List.{List, [], ◌∷◌, map}
use native.Mathlib.Nat.{not-suc-le-zero, le_of_suc-le-suc, zero-mul}
use native.Mathlib.Omega.{arith}
use lib.ListN.{length, get_or, take, drop, length-map}
use lib.Dec.{eqb, leb}
use borrow.Author.Tests.{eqb-true, lt-ltb, le-ltb}
use Rattle.rows.specs.Search.{row_name}
use Rattle.token.specs.Find.{pick, both}
use Rattle.token.specs.Tokens.{part_of}
use Rattle.indexes.specs.Numbers.{name_number, turned, digits, summary_of}
use Rattle.token.proofs.Find.{by_test}
use Rattle.sorting.specs.Sorted.{Rising, among_cells}
use Rattle.sorting.proofs.Cells.{rising_places}
use Rattle.std.specs.declared.cmp.Ordering.{Ordering}
use Rattle.std.specs.Prelude.{Result, Ok, Err}
use Rattle.std.specs.declared.cmp.Ordering.TheVariants.{Less, Equal, Greater}
use Rattle.indexes.specs.Indexing.{row_pair, pair_of, row_cell, least_of, span, cell_number, least_at, CellCompared, rank, Parts, PartsAt, Stopped, place_of, Ends, name_rank, Ranks}
use Rattle.indexes.proofs.Digits.{number_positive}
use Rattle.indexes.proofs.Comparisons.{cell_number_lem}

-- a place of l with the cell c
pub record Place (l : List ℕ) (c : ℕ) : Type 0 where
  pub at : ℕ
  pub inside : at < length l
  pub cell : get_or l at 0 ≡ c

-- one of the cells stands at a place
pub among_place : (l : List ℕ) (c : ℕ) → among_cells c l ≡ true → Place l c
unfolding among_cells
among_place [] c = λ e. absurd (false≢true e)
among_place (y ∷ l) c =
    by_test (λ (b : Bool). b ≡ true → Place (y ∷ l) c) (eqb y c) true (among_cells c l)
    (λ t e. record { at = 0; inside = omega arith; cell = eqb-true y c t })
    (λ t e. later (among_place l c e))
  where
    later : Place l c → Place (y ∷ l) c
    later p = record { at = suc p.at; inside = omega (arith, p.inside); cell = p.cell }

module _ (f : ℕ → ℕ) where
  -- the number of the row at a place
  number_at : (x : List ℕ) (i : ℕ) → i < length x → get_or (map f x) i 0 ≡ f (get_or x i 0)
  number_at [] i h = absurd (not-suc-le-zero h)
  number_at (y ∷ x) zero h = refl
  number_at (y ∷ x) (suc i) h = number_at x i (le_of_suc-le-suc h)

  -- of rows in order a later one is no less than an earlier
  pub rising_rows : (x : List ℕ) (p q : ℕ) → Rising (map f x) → p ≤ q → q < length x → f (get_or x p 0) ≤ f (get_or x q 0)
  rising_rows x p q r h g = omega (arith, rising_places (map f x) p q r h (omega (arith, length-map x f)), number_at x p (omega arith), number_at x q g)

  -- the place where rows are parted is the rank
  pub parts_rank : (x : List ℕ) (v r : ℕ) → Parts f x v r r → r ≡ rank (map f x) v
  unfolding rank
  parts_rank [] v r p = omega (arith, p.inside)
  parts_rank (y ∷ x) v zero p = ap (λ (b : Bool). pick b (suc (rank (map f x) v)) 0) (sym (le-ltb (f y) v (p.more 0 (omega arith) (omega arith))))
  parts_rank (y ∷ x) v (suc r) p =
      ap suc (parts_rank x v r (record { inside = le_of_suc-le-suc p.inside; less = λ i h g. p.less (suc i) (omega arith) (omega arith); more = λ i h g. p.more (suc i) (omega arith) (omega arith) }))
      ∙ ap (λ (b : Bool). pick b (suc (rank (map f x) v)) 0) (sym (lt-ltb (f y) v (p.less 0 (omega arith) (omega arith))))

module _ (s t : List ℕ) (w c k m : ℕ) (x l : List ℕ) where
  -- nothing is known of any place
  pub parts_all : PartsAt s t w c k m x l 0 (length x)
  unfolding PartsAt
  parts_all r = record { inside = omega arith; less = λ i h g. absurd (omega arith); more = λ i h g. absurd (omega arith) }

  pub stopped_end : Stopped s t w c k m x l (length x) false
  stopped_end = record { here = λ e. absurd (false≢true e); past = λ e h. absurd (omega arith) }

  module _ (low high i : ℕ) (p : PartsAt s t w c k m x l low high) (g : i < length x) where
    at_or_past : least_at l k ≤ cell_number s t w c m (get_or x i 0) → PartsAt s t w c k m x l low i
    unfolding PartsAt
    at_or_past h d = record { inside = (p d).inside; less = (p d).less; more = λ j a b. omega (arith, rising_rows (cell_number s t w c m) x i j d a b) }

    module _ (r : Ordering) (o : CellCompared s t w c m (get_or x i 0) k l r) where
      compared : (q : Ordering) → r ≡ q → CellCompared s t w c m (get_or x i 0) k l q
      compared q e = subst (CellCompared s t w c m (get_or x i 0) k l) e o

      -- the cell at i is less
      pub parts-less : r ≡ Less → PartsAt s t w c k m x l (i + 1) high
      unfolding PartsAt CellCompared
      parts-less e d =
          let below : cell_number s t w c m (get_or x i 0) < least_at l k = compared Less e in
          record {
            inside = omega arith;
            less = λ j a b. omega (arith, rising_rows (cell_number s t w c m) x j i d (omega arith) g);
            more = (p d).more;
          }

      -- it is not
      pub parts_same : r ≡ Equal → PartsAt s t w c k m x l low i
      parts_same e = at_or_past (omega (arith, cell_number_lem s t w c m (get_or x i 0) k l (compared Equal e)))

      pub parts_more : r ≡ Greater → PartsAt s t w c k m x l low i
      unfolding CellCompared
      parts_more e = let above : least_at l k + 18446744073709551616 ≤ cell_number s t w c m (get_or x i 0) = compared Greater e in at_or_past (omega arith)

      pub stopped-same : r ≡ Equal → Stopped s t w c k m x l i true
      stopped-same e = record { here = λ _. (g, compared Equal e); past = λ f. absurd (false≢true (sym f)) }

      pub stopped_more : r ≡ Greater → Stopped s t w c k m x l i false
      stopped_more e = record { here = λ f. absurd (false≢true f); past = λ _ _. compared Greater e }

  -- no place is left
  module _ (low high : ℕ) (same : Bool) (p : PartsAt s t w c k m x l low high) (o : Stopped s t w c k m x l high same) (e : high ≡ low) where
    stopped_at : (r : Bool) → same ≡ r → Stopped s t w c k m x l low r
    stopped_at r d = subst (λ (b : Bool). Stopped s t w c k m x l low b) d (subst (λ (i : ℕ). Stopped s t w c k m x l i same) e o)

    pub ends_ok : same ≡ true → Ends s t w c k m x l (Ok low)
    unfolding place_of
    ends_ok d = record { parts = subst (PartsAt s t w c k m x l low) e p; stopped = stopped_at true d }

    pub ends_err : same ≡ false → Ends s t w c k m x l (Err low)
    unfolding place_of
    ends_err d = record { parts = subst (PartsAt s t w c k m x l low) e p; stopped = stopped_at false d }

-- the place for a name and the key 0 is the name's rank
pub ends_ranks : (s t : List ℕ) (w c m : ℕ) (x l : List ℕ) (p : Result ℕ ℕ) → Ends s t w c 0 m x l p → Ranks s t w c m x l (place_of p)
unfolding PartsAt Ranks name_rank
ends_ranks s t w c m x l p h n d b = parts_rank (cell_number s t w c m) x (least_at l 0) (place_of p) (h.parts d.rising)

-- what holds of a place holds of it by either answer
module _ (s t : List ℕ) (w c m : ℕ) (x l : List ℕ) (p : Result ℕ ℕ) (h : Ranks s t w c m x l (place_of p)) (i : ℕ) where
  ranks_by : (q : Result ℕ ℕ) → p ≡ q → Ranks s t w c m x l (place_of q)
  ranks_by q e = subst (λ (r : Result ℕ ℕ). Ranks s t w c m x l (place_of r)) e h

  pub place_ok : p ≡ Ok i → Ranks s t w c m x l i
  unfolding place_of
  place_ok e = ranks_by (Ok i) e

  pub place_err : p ≡ Err i → Ranks s t w c m x l i
  unfolding place_of
  place_err e = ranks_by (Err i) e

-- no cell stands before those with an empty name
part_none : (s : List ℕ) (at : ℕ) → part_of s at 0 ≡ []
unfolding part_of
part_none s at = by (both (leb at (length s)) (leb 0 (length s - at)))
  where
    by : (b : Bool) → pick b (take 0 (drop at s)) [] ≡ []
    by true = refl
    by false = refl

least_pair : (s t : List ℕ) (w c m i : ℕ) → pair_of [] 0 ≤ row_pair s t w c m i
unfolding pair_of row_pair name_number turned digits
least_pair s t w c m i = omega (arith, number_positive (row_name s t w m i))

least_row : (s t : List ℕ) (w c m i : ℕ) → least_of [] 0 ≤ row_cell s t w c m i
unfolding least_of row_cell
least_row s t w c m i = by (pair_of [] 0) (row_pair s t w c m i) (least_pair s t w c m i)
  where
    by : (v p : ℕ) → v ≤ p → v * 18446744073709551616 ≤ p * 18446744073709551616 + i
    by v p h = omega arith

least_cell : (s t : List ℕ) (w c m v : ℕ) → least_at [] 0 ≤ cell_number s t w c m v
unfolding least_at cell_number summary_of
least_cell s t w c m v = by (v / 65536 * span) (row_cell s t w c m (v % 65536)) (zero-mul (span)) (least_row s t w c m (v % 65536))
  where
    by : (p q : ℕ) → 0 * span ≡ 0 → least_of [] 0 ≤ q → 0 * span + least_of [] 0 ≤ p + q
    by p q z h = omega (arith, z)

pub rank_none : (s t : List ℕ) (w c m : ℕ) (x : List ℕ) (at len : ℕ) → len ≡ 0 → Ranks s t w c m x (part_of s at len) 0
unfolding Ranks name_rank
rank_none s t w c m x at len z n d h =
    subst (λ (l : List ℕ). 0 ≡ rank (map (cell_number s t w c m) x) (least_at l 0)) (sym (ap (part_of s at) z ∙ part_none s at))
    (parts_rank (cell_number s t w c m) x (least_at [] 0) 0
    (record { inside = omega arith; less = λ i a b. absurd (omega arith); more = λ i a b. least_cell s t w c m (get_or x i 0) }))
