-- The laws of thirteen counts.
-- Assumes nothing.
use Prim.Native.Nat.{ℕ, zero, suc, ◌+◌, ◌<◌, ◌≤◌, min}
use mathlib.Core.Path.{◌≡◌, refl, sym, ap, ◌∙◌}
use mathlib.Core.Bool.{Bool, true, false}
use mathlib.Core.List.{List, [], ◌∷◌, ◌++◌}
use native.Mathlib.Omega.{arith}
use native.Mathlib.Decide.{ℕ_discrete, dec_lt}
use lib.ListN.{length, get_or, set, length-set, replicate}
use lib.Seq.{set_out, set-get_or, get_or-set_same, get_or-set_other}
use lib.Dec.{eqb, ltb}
use borrow.Author.Tests.{eq-eqb, ne_eqb, lt-ltb, le-ltb}
use Rattle.token.specs.Find.{pick}
use Rattle.rows.specs.Tally.{full, one_more, count_on}

-- the counts of some kinds
unfoldable pub counts_of_lem : List ℕ → List ℕ
counts_of_lem ks = count_on (replicate 13 0) ks

-- how many of a list are k
unfoldable pub how_many_lem : ℕ → List ℕ → ℕ
how_many_lem k [] = 0
how_many_lem k (x ∷ xs) = pick (eqb x k) (how_many_lem k xs + 1) (how_many_lem k xs)

-- the cases of `one_more`
module _ (cs : List ℕ) (k : ℕ) where
  pub one_more_past : length cs ≤ k → one_more cs k ≡ cs
  unfolding one_more
  one_more_past h = rw (set_out cs k (get_or cs k 0 + 1) h) (by (ltb (get_or cs k 0) full))
    where
      by : (t : Bool) → pick t cs cs ≡ cs
      by true = refl
      by false = refl

  pub one_more_full : full ≤ get_or cs k 0 → one_more cs k ≡ cs
  unfolding one_more
  one_more_full h = rw (le-ltb (get_or cs k 0) full h)

  pub one_more_next : get_or cs k 0 < full → one_more cs k ≡ set cs k (get_or cs k 0 + 1)
  unfolding one_more
  one_more_next h = rw (lt-ltb (get_or cs k 0) full h)

  -- a cell that is full is stored as it was
  one_more_by : Dec (get_or cs k 0 < full) → get_or cs k 0 ≤ full → set cs k (min (get_or cs k 0 + 1) full) ≡ one_more cs k
  one_more_by (yes h) b =
      let e : min (get_or cs k 0 + 1) full ≡ get_or cs k 0 + 1 = omega arith in
      ap (set cs k) e ∙ sym (one_more_next h)
  one_more_by (no h) b =
      let e : min (get_or cs k 0 + 1) full ≡ get_or cs k 0 = omega arith in
      ap (set cs k) e ∙ set-get_or cs k 0 ∙ sym (one_more_full (omega arith))

  pub one_more_kept : get_or cs k 0 ≤ full → set cs k (min (get_or cs k 0 + 1) full) ≡ one_more cs k
  one_more_kept b = one_more_by (dec_lt (get_or cs k 0) full) b

  -- one cell changes
  by_full : (P : List ℕ → Type 0) → (get_or cs k 0 < full → P (set cs k (get_or cs k 0 + 1))) → (full ≤ get_or cs k 0 → P cs) → P (one_more cs k)
  by_full P f g = by (dec_lt (get_or cs k 0) full)
    where
      by : Dec (get_or cs k 0 < full) → P (one_more cs k)
      by (yes h) = rw (one_more_next h) (f h)
      by (no h) = let h' : full ≤ get_or cs k 0 = omega arith in rw (one_more_full h') (g h')

  pub length_one_more : length (one_more cs k) ≡ length cs
  length_one_more = by_full (λ (l : List ℕ). length l ≡ length cs) (λ h. length-set cs k (get_or cs k 0 + 1)) (λ h. refl)

  pub one_more_same : k < length cs → get_or cs k 0 ≤ full → get_or (one_more cs k) k 0 ≡ min full (get_or cs k 0 + 1)
  one_more_same h b =
      by_full (λ (l : List ℕ). get_or l k 0 ≡ min full (get_or cs k 0 + 1))
      (λ m. get_or-set_same cs k (get_or cs k 0 + 1) 0 h ∙ omega arith)
      (λ m. omega arith)

  pub one_more_other : (j : ℕ) → (j ≡ k → ⊥) → get_or (one_more cs k) j 0 ≡ get_or cs j 0
  one_more_other j d =
      by_full (λ (l : List ℕ). get_or l j 0 ≡ get_or cs j 0) (λ h. get_or-set_other cs k j (get_or cs k 0 + 1) 0 d) (λ h. refl)

how_many_none : (j : ℕ) → how_many_lem j [] ≡ 0
unfolding how_many_lem
how_many_none j = refl

how_many_here : (j k : ℕ) (ks : List ℕ) → j ≡ k → how_many_lem j (k ∷ ks) ≡ how_many_lem j ks + 1
unfolding how_many_lem
how_many_here j k ks e = rw (eq-eqb k j (sym e))

how_many_other : (j k : ℕ) (ks : List ℕ) → (j ≡ k → ⊥) → how_many_lem j (k ∷ ks) ≡ how_many_lem j ks
unfolding how_many_lem
how_many_other j k ks d = rw (ne_eqb k j (λ e. d (sym e)))

pub how_many_le : (j : ℕ) (ks : List ℕ) → how_many_lem j ks ≤ length ks
unfolding how_many_lem
how_many_le j [] = omega arith
how_many_le j (k ∷ ks) = by (how_many_le j ks) (eqb k j)
  where
    by : how_many_lem j ks ≤ length ks → (t : Bool) → pick t (how_many_lem j ks + 1) (how_many_lem j ks) ≤ suc (length ks)
    by h true = omega arith
    by h false = omega arith

-- each cell has as many more as the kinds have of it, up to the largest count
pub count_on_lem : (cs ks : List ℕ) (j : ℕ) → j < length cs → get_or cs j 0 ≤ full → get_or (count_on cs ks) j 0 ≡ min full (get_or cs j 0 + how_many_lem j ks)
unfolding count_on
count_on_lem cs [] j h b = omega (arith, how_many_none j)
count_on_lem cs (k ∷ ks) j h b = by (count_on_lem (one_more cs k) ks j (omega (arith, length_one_more cs k))) (ℕ_discrete j k)
  where
    by : (get_or (one_more cs k) j 0 ≤ full → get_or (count_on (one_more cs k) ks) j 0 ≡ min full (get_or (one_more cs k) j 0 + how_many_lem j ks))
        → Dec (j ≡ k) → get_or (count_on (one_more cs k) ks) j 0 ≡ min full (get_or cs j 0 + how_many_lem j (k ∷ ks))
    by rest (yes e) =
        let o : get_or (one_more cs k) j 0 ≡ min full (get_or cs j 0 + 1) = rw e (one_more_same cs k (omega arith) (rw e at b)) in
        omega (arith, rest (omega arith), how_many_here j k ks e)
    by rest (no d) =
        let o : get_or (one_more cs k) j 0 ≡ get_or cs j 0 = one_more_other cs k j d in
        omega (arith, rest (omega arith), how_many_other j k ks d)

pub blank : (n i : ℕ) → get_or {A = ℕ} (replicate n 0) i 0 ≡ 0
blank zero i = refl
blank (suc n) zero = refl
blank (suc n) (suc i) = blank n i

-- of a list that is no longer than the largest count, each cell is how many there are of its kind
pub counts_of : (ks : List ℕ) (k : ℕ) → k < 13 → length ks ≤ full → get_or (counts_of_lem ks) k 0 ≡ how_many_lem k ks
unfolding counts_of_lem
counts_of ks k h b =
    let z = blank 13 k in
    omega (arith, count_on_lem (replicate 13 0) ks k h (omega arith), how_many_le k ks)

pub count_on_append : (cs xs ys : List ℕ) → count_on cs (xs ++ ys) ≡ count_on (count_on cs xs) ys
unfolding count_on
count_on_append cs [] ys = refl
count_on_append cs (x ∷ xs) ys = count_on_append (one_more cs x) xs ys
