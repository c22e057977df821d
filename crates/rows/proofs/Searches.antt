-- The laws of lookups by key over rows.
-- Assumes nothing.
use Prim.Native.Nat.{ℕ, suc, ◌+◌, ◌*◌, ◌<◌, ◌≤◌, min}
use mathlib.Core.Path.{◌≡◌, refl, sym, ap, ◌∙◌, subst}
use mathlib.Core.Bool.{Bool, true, false, false≢true}
use mathlib.Core.List.{List, [], ◌∷◌, ◌++◌}
use native.Mathlib.Nat.{add-zero}
use native.Mathlib.Omega.{arith}
use native.Mathlib.Decide.{dec_lt}
use lib.ListN.{length, get_or}
use lib.Dec.{eqb, ltb}
use borrow.Author.Tests.{lt-ltb, le-ltb, ltb-true, ltb-false, eq-eqb, ne_eqb}
use Rattle.token.specs.Find.{pick, either, find}
use Rattle.token.proofs.Find.{find_past, find_here, find_next, find_low, find_holds, by_test, find_before}
use Rattle.rows.specs.Found.{Found}
use Rattle.std.specs.Prelude.{Some, None}
use Rattle.rows.proofs.Walks.{first, any_of}
use Rattle.rows.specs.Search.{found_below, find_from, has_key, find_row, is_found, row_of}
use Rattle.rows.proofs.Starts.{cell_start}

-- j is the first from i on, below n, for which t holds
pub record IsFirst (t : ℕ → Bool) (n i j : ℕ) : Type 0 where
  pub low : i ≤ j
  pub high : j < n
  pub holds : t j ≡ true
  pub fails : (k : ℕ) → i ≤ k → k < j → t k ≡ false

-- row j, of rows that are counted from i, is the first for which p holds
pub record FirstOf {R : Type 0} (p : R → Bool) (i : ℕ) (rs : List R) (j : ℕ) : Type 0 where
  pub front : List R
  pub row : R
  pub rest : List R
  pub whole : rs ≡ front ++ (row ∷ rest)
  pub place : j ≡ i + length front
  pub holds : p row ≡ true
  pub fails : any_of p front ≡ false

-- a loop at row i: what is left decides the whole

module _ (t : ℕ → Bool) (n i : ℕ) where
  pub find_stop : i < n → t i ≡ true → find_from t n i ≡ Some i
  unfolding find_from found_below
  find_stop h e = rw (find_here t n i h e, lt-ltb i n h)

  pub find_more : i < n → t i ≡ false → find_from t n i ≡ find_from t n (i + 1)
  unfolding find_from
  find_more h e = ap (found_below n) (find_next t n i h e)

  pub find_end : n ≤ i → find_from t n i ≡ None
  unfolding find_from found_below
  find_end h = rw (find_past t n i h, le-ltb i n h)

-- what is found is the first, and nothing means none

module _ (t : ℕ → Bool) (n i : ℕ) where
  is_first : find t n i < n → IsFirst t n i (find t n i)
  is_first h =
      record { low = find_low t n i; high = h; holds = find_holds t n i (omega (arith, find_low t n i)) h; fails = find_before t n i }

  pub found_first : (j : ℕ) → find_from t n i ≡ Some j → IsFirst t n i j
  unfolding find_from found_below row_of
  found_first j =
      by_test (λ (f : Found). f ≡ Some j → IsFirst t n i j) (ltb (find t n i) n) (Some (find t n i)) None
      (λ h e. subst (IsFirst t n i) (ap row_of e) (is_first (ltb-true (find t n i) n h)))
      (λ h e. absurd (false≢true (ap is_found e)))

  pub nothing_none : find_from t n i ≡ None → (k : ℕ) → i ≤ k → k < n → t k ≡ false
  unfolding find_from found_below
  nothing_none =
      by_test (λ (f : Found). f ≡ None → (k : ℕ) → i ≤ k → k < n → t k ≡ false) (ltb (find t n i) n) (Some (find t n i)) None
      (λ h e. absurd (false≢true (sym (ap is_found e))))
      (λ h e k a b. find_before t n i k a (omega (arith, ltb-false (find t n i) n h)))

  pub first_found : (j : ℕ) → IsFirst t n i j → find_from t n i ≡ Some j
  unfolding find_from found_below
  first_found j f = rw (same_place, lt-ltb j n f.high)
    where
      clash : (k : ℕ) → t k ≡ true → t k ≡ false → ⊥
      clash k a b = false≢true (sym b ∙ a)

      by : Dec (find t n i < j) → Dec (j < find t n i) → find t n i ≡ j
      by (yes a) b =
          absurd
          (clash (find t n i) (find_holds t n i (omega (arith, f.low, f.high)) (omega (arith, f.high))) (f.fails (find t n i) (find_low t n i) a))
      by (no a) (yes b) = absurd (clash j f.holds (find_before t n i j f.low b))
      by (no a) (no b) = omega arith

      same_place : find t n i ≡ j
      same_place = by (dec_lt (find t n i) j) (dec_lt j (find t n i))

  pub none_nothing : ((k : ℕ) → i ≤ k → k < n → t k ≡ false) → find_from t n i ≡ None
  unfolding find_from found_below
  none_nothing f =
      by_test (λ (g : Found). g ≡ None) (ltb (find t n i) n) (Some (find t n i)) None
      (λ h. absurd (clash (ltb-true (find t n i) n h)))
      (λ h. refl)
    where
      clash : find t n i < n → ⊥
      clash h =
          false≢true (sym (f (find t n i) (find_low t n i) h) ∙ find_holds t n i (omega (arith, find_low t n i)) h)

-- a search over a list of rows: what is found is the first, and nothing means none

module _ {R : Type 0} (p : R → Bool) where
  pub first_any : (i : ℕ) (rs : List R) → is_found (first p Some None i rs) ≡ any_of p rs
  unfolding first any_of
  first_any i [] = refl
  first_any i (r ∷ rs) = by (first_any (suc i) rs) (p r)
    where
      by : is_found (first p Some None (suc i) rs) ≡ any_of p rs → (b : Bool) → is_found (pick b (Some i) (first p Some None (suc i) rs)) ≡ either b (any_of p rs)
      by e true = refl
      by e false = e

  pub first_nothing : (i : ℕ) (rs : List R) → first p Some None i rs ≡ None → any_of p rs ≡ false
  first_nothing i rs e = sym (first_any i rs) ∙ ap is_found e

  -- where the first row passes, and where the search goes on past it
  here_first : (i : ℕ) (r : R) (rs : List R) (j : ℕ) → p r ≡ true → Some i ≡ Some j → FirstOf p i (r ∷ rs) j
  unfolding any_of row_of
  here_first i r rs j h e = record { front = []; row = r; rest = rs; whole = refl; place = sym (ap row_of e) ∙ sym (add-zero i); holds = h; fails = refl }

  later_first : (i : ℕ) (r : R) (rs : List R) (j : ℕ) → p r ≡ false → FirstOf p (suc i) rs j → FirstOf p i (r ∷ rs) j
  unfolding any_of
  later_first i r rs j h f =
      record {
        front = r ∷ f.front;
        row = f.row;
        rest = f.rest;
        whole = ap (λ (t : List R). r ∷ t) f.whole;
        place = omega (arith, f.place);
        holds = f.holds;
        fails = rw h f.fails;
      }

  pub first_is : (i : ℕ) (rs : List R) (j : ℕ) → first p Some None i rs ≡ Some j → FirstOf p i rs j
  unfolding first
  first_is i [] j = λ e. absurd (false≢true (ap is_found e))
  first_is i (r ∷ rs) j =
      by_test (λ (f : Found). f ≡ Some j → FirstOf p i (r ∷ rs) j) (p r) (Some i) (first p Some None (suc i) rs)
      (λ h e. here_first i r rs j h e)
      (λ h e. later_first i r rs j h (first_is (suc i) rs j e))

-- the lookup by key

module _ (l : List ℕ) (a b : ℕ) (e : a ≡ min (length l) b) where
  -- a cell of a row that begins at b, by a place that is no larger than the end
  start_cell : (c : ℕ) → get_or l (a + c) 0 ≡ get_or l (b + c) 0
  start_cell c = ap (λ (k : ℕ). get_or l (k + c) 0) e ∙ cell_start l b c

  pub key_start : (c k : ℕ) → has_key l a c k ≡ has_key l b c k
  unfolding has_key
  key_start c k = ap (λ (x : ℕ). eqb x k) (start_cell c)

-- the loop of `find_row` at row i, which begins at a
module _ (l : List ℕ) (w n c k i : ℕ) where
  pub row_stop : (a : ℕ) → i < n → a ≡ min (length l) (i * w) → get_or l (a + c) 0 ≡ k → find_row l w n c k i ≡ Some i
  unfolding find_row has_key
  row_stop a h e f = find_stop (λ j. has_key l (j * w) c k) n i h (sym (key_start l a (i * w) e c k) ∙ eq-eqb (get_or l (a + c) 0) k f)

  pub row_more : (a : ℕ) → i < n → a ≡ min (length l) (i * w) → (get_or l (a + c) 0 ≡ k → ⊥) → find_row l w n c k i ≡ find_row l w n c k (i + 1)
  unfolding find_row has_key
  row_more a h e f = find_more (λ j. has_key l (j * w) c k) n i h (sym (key_start l a (i * w) e c k) ∙ ne_eqb (get_or l (a + c) 0) k f)

  pub row_end : n ≤ i → find_row l w n c k i ≡ None
  unfolding find_row
  row_end h = find_end (λ j. has_key l (j * w) c k) n i h
