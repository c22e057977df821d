-- The laws of comparing a word with the known words.
-- Assumes nothing.
use Prim.Native.Nat.{ℕ, suc, ◌+◌, ◌-◌, ◌≤◌, ◌<◌}
use mathlib.Core.Path.{◌≡◌, refl, sym, ◌∙◌, ap, ap₂, subst}
use mathlib.Core.List.{List, [], ◌∷◌}
use mathlib.Core.Bool.{Bool, true, false, false≢true, ◌&&◌}
use lib.Pointwise.{pointwise}
use mathlib.Core.Logic.{◌⊎◌, inl, inr, ⊎_elim}
use native.Mathlib.Omega.{arith}
use native.Mathlib.Numerals.{add-one}
use native.Mathlib.Nat.{suc-le-suc_iff, zero-lt-suc}
use lib.ListN.{length, get_or, drop, drop_of_length-le}
use lib.Seq.{drop-cons}
use lib.Dec.{eqb, ltb, leb, ltb→lt, leb→le, eqb→eq}
use borrow.Author.Tests.{eq-eqb, ne_eqb, eqb-true}
use Rattle.token.specs.Find.{both}
use Rattle.token.specs.Words.{known, same, code_in, code_of}
use Rattle.token.proofs.Bytes.{both_false}
use Rattle.token.specs.Slots.{slot_by, slot_of, candidate_in, candidate_of}
use Rattle.token.proofs.Find.{by_test}
use Rattle.token.proofs.Tables.{below}

-- the known words have bytes, and less than twenty
pub long : (k : ℕ) → k < 42 → 0 < length (get_or known k [])
long k h = ltb→lt 0 (length (get_or known k [])) (below (λ i. ltb 0 (length (get_or known i []))) 42 tt k h)

pub short : (k : ℕ) → k < 42 → length (get_or known k []) < 20
short k h = ltb→lt (length (get_or known k [])) 20 (below (λ i. ltb (length (get_or known i [])) 20) 42 tt k h)

pub different : (xs ys : List ℕ) → (length ys ≡ length xs → ⊥) → same xs ys ≡ false
unfolding same
different [] [] f = absurd (f refl)
different [] (y ∷ ys) f = refl
different (x ∷ xs) [] f = refl
different (x ∷ xs) (y ∷ ys) f = rw (different xs ys (λ e. f (ap suc e))) (both_false (eqb x y))

pub same_end : (w v : List ℕ) (j : ℕ) → length w ≤ j → length v ≤ j → same (drop j w) (drop j v) ≡ true
unfolding same
same_end w v j h k = ap₂ same (drop_of_length-le w h) (drop_of_length-le v k)

-- past the end of w stands d there, and past that of v e
module _ (w v : List ℕ) (d e j : ℕ) where
  opened : j < length w → j < length v → same (drop j w) (drop j v) ≡ both (eqb (get_or w j d) (get_or v j e)) (same (drop (suc j) w) (drop (suc j) v))
  unfolding same
  opened h k = ap₂ same (drop-cons w j d h) (drop-cons v j e k)

  pub same_next : j < length w → j < length v → get_or w j d ≡ get_or v j e → same (drop j w) (drop j v) ≡ same (drop (j + 1) w) (drop (j + 1) v)
  same_next h k q = opened h k ∙ rw (eq-eqb (get_or w j d) (get_or v j e) q, add-one)

  pub same_stop : j < length w → j < length v → (get_or w j d ≡ get_or v j e → ⊥) → same (drop j w) (drop j v) ≡ false
  same_stop h k q = opened h k ∙ rw (ne_eqb (get_or w j d) (get_or v j e) q)

and_both : (a b c : Bool) → b ≡ c → (a && b) ≡ both a c
and_both true b c e = e
and_both false b c e = refl

-- what `==` answers at two lists of bytes
pub same_pointwise : (xs ys : List ℕ) → pointwise eqb xs ys ≡ same xs ys
unfolding same
same_pointwise [] [] = refl
same_pointwise [] (y ∷ ys) = refl
same_pointwise (x ∷ xs) [] = refl
same_pointwise (x ∷ xs) (y ∷ ys) = and_both (eqb x y) _ _ (same_pointwise xs ys)

pub same_self : (xs : List ℕ) → same xs xs ≡ true
unfolding same
same_self [] = refl
same_self (x ∷ xs) = rw (eq-eqb x x refl) (same_self xs)

pub same_equal : (xs ys : List ℕ) → same xs ys ≡ true → xs ≡ ys
unfolding same
same_equal [] [] e = refl
same_equal [] (y ∷ ys) e = absurd (false≢true e)
same_equal (x ∷ xs) [] e = absurd (false≢true e)
same_equal (x ∷ xs) (y ∷ ys) e =
    by_test (λ (b : Bool). b ≡ true → ◌≡◌ {A = List ℕ} (x ∷ xs) (y ∷ ys)) (eqb x y) (same xs ys) false
    (λ t f. ap₂ ◌∷◌ (eqb-true x y t) (same_equal xs ys f))
    (λ t f. absurd (false≢true f))
    e

-- a word whose code is not 0 is one of the known words
Listed : List (List ℕ) → List ℕ → Type 0
Listed ks w = (j : ℕ) × (j < length ks) × (w ≡ get_or ks j [])

later : (k : List ℕ) (ks : List (List ℕ)) (w : List ℕ) → Listed ks w → Listed (k ∷ ks) w
unfolding Listed
later k ks w l = (suc l.0, suc-le-suc_iff.1 l.1, l.2)

listed : (n : ℕ) (ks : List (List ℕ)) (w : List ℕ) → (code_in n ks w ≡ 0) ⊎ Listed ks w
unfolding code_in Listed
listed n [] w = inl refl
listed n (k ∷ ks) w =
    by_test (λ (m : ℕ). (m ≡ 0) ⊎ Listed (k ∷ ks) w) (same w k) n (code_in (suc n) ks w)
    (λ t. inr (0, zero-lt-suc (length ks), same_equal w k t))
    (λ t. ⊎_elim (λ e. inl e) (λ l. inr (later k ks w l)) (listed (suc n) ks w))

module _ (w : List ℕ) where
  none : ((j : ℕ) → j < 42 → w ≡ get_or known j [] → ⊥) → code_of w ≡ 0
  unfolding code_of Listed
  none f = ⊎_elim (λ e. e) (λ l. absurd (f l.0 l.1 l.2)) (listed 1 known w)

  pub code_empty : length w ≡ 0 → code_of w ≡ 0
  code_empty h = none (λ j l e. let n = long j l in let m = ap length e in omega arith)

  pub code_long : 20 ≤ length w → code_of w ≡ 0
  code_long h = none (λ j l e. let n = short j l in let m = ap length e in omega arith)

  module _ (k : ℕ) (h : k ≡ candidate_of (slot_of w)) where
    -- the candidate of a known word is its own code
    own : (j : ℕ) → j < 42 → w ≡ get_or known j [] → k ≡ j + 1
    unfolding candidate_of candidate_in slot_of slot_by
    own j l e =
        h ∙ ap (λ (v : List ℕ). candidate_of (slot_of v)) e
        ∙ eqb→eq _ (j + 1) (below (λ i. eqb (candidate_of (slot_of (get_or known i []))) (i + 1)) 42 tt j l)

    pub code_no_candidate : k ≡ 0 → code_of w ≡ 0
    code_no_candidate z = none (λ j l e. let m = own j l e in omega arith)

    pub code_other : same w (get_or known (k - 1) []) ≡ false → code_of w ≡ 0
    code_other f =
        none
        (λ j l e.
        let m = own j l e in
        let i : k - 1 ≡ j = omega arith in
        let g : same w (get_or known j []) ≡ false = subst (λ (n : ℕ). same w (get_or known n []) ≡ false) i f in
        false≢true (sym (subst (λ (v : List ℕ). same w v ≡ false) (sym e) g) ∙ same_self w))

  pub code_is : (k : ℕ) → 0 < k → k ≤ 42 → same w (get_or known (k - 1) []) ≡ true → code_of w ≡ k
  unfolding code_of code_in same
  code_is k z h f =
      let own : k - 1 + 1 ≡ k = omega arith in
      ap code_of (same_equal w (get_or known (k - 1) []) f)
      ∙ eqb→eq _ (k - 1 + 1) (below (λ i. eqb (code_of (get_or known i [])) (i + 1)) 42 tt (k - 1) (omega arith))
      ∙ own

pub candidate_below : (k i : ℕ) → k ≡ candidate_of i → i < 128 → k ≤ 42
unfolding candidate_of candidate_in slot_of slot_by
candidate_below k i e h = rw e (leb→le _ 42 (below (λ n. leb (candidate_of n) 42) 128 tt i h))

pub slot_below : (i n a z : ℕ) → i ≡ slot_by n a z → i < 128
unfolding slot_by
slot_below i n a z e = omega arith
