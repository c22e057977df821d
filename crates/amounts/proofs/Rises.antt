-- Cells that rise already need no sort. Assumes nothing.
use mathlib.Core.Path.{◌≡◌, sym, subst}
use mathlib.Core.List.{List}
use mathlib.Core.Bool.{Bool, true, false, false≢true}
use Prim.Native.Nat.{ℕ, suc, ◌+◌, ◌≤◌, ◌<◌}
use native.Mathlib.Omega.{arith}
use lib.ListN.{length, get_or, take, drop, drop_of_length-le}
use lib.Seq.{drop-cons}
use Rattle.sorting.specs.Sorted.{Rising-from, Rising}
use Rattle.meaning.specs.Syntax.{Num}
use Rattle.amounts.specs.Promises.{Keyed, Rises, KeyedRising}

-- All cells rise, if those from place i on rise from the number n.
unfoldable pub Left : List ℕ → (i n : ℕ) → Type 0
Left l i n = Rising-from n (drop i l) → Rising l

module _ (l : List ℕ) where
  pub left_start : Left l 0 0
  unfolding Left Rising
  left_start h = h

  pub left_more : (i n : ℕ) → i < length l → n ≤ get_or l i 0 → Left l i n → Left l (i + 1) (get_or l i 0)
  unfolding Left Rising-from
  left_more i n h g k r =
      let e : i + 1 ≡ suc i = omega arith in
      k (subst (λ (x : List ℕ). Rising-from n x) (sym (drop-cons l i 0 h)) (g, subst (λ (j : ℕ). Rising-from (get_or l i 0) (drop j l)) e r))

  pub left_end : (i n : ℕ) → length l ≤ i → Left l i n → Rises l true
  unfolding Left Rising-from
  left_end i n h k q = k (subst (λ (x : List ℕ). Rising-from n x) (sym (drop_of_length-le l h)) (tt {0}))

  pub falls : Rises l false
  falls q = absurd (false≢true q)

pub risen : (s : List ℕ) (g : Bool) (m : Num) (from : ℕ) (l l' : List ℕ) (n : ℕ) (b : Bool) → Keyed s g m from l l' n → Rises (take n l') b → b ≡ true → KeyedRising s g m from l l' n
risen s g m from l l' n b k h q = record { keyed = k; rising = λ z. h q }
