-- The keys of rows, compared by the cases of their sort. Assumes nothing.
use mathlib.Core.Path.{◌≡◌, refl, sym, ◌∙◌, ap, ap₂}
use mathlib.Core.List.{List, [], ◌∷◌}
use mathlib.Core.Bool.{Bool, true, false}
use Prim.Native.Nat.{ℕ, ◌-◌}
use native.Mathlib.Omega.{arith}
use lib.Dec.{eqb, leb}
use borrow.Author.Tests.{eq-eqb, ne_eqb, eqb-true, leb-true, le-leb}
use Rattle.token.specs.Find.{pick, both, bit}
use Rattle.token.specs.Words.{same}
use Rattle.token.specs.Tokens.{part_of, step_at}
use Rattle.rows.specs.Table.{cell_of}
use Rattle.rows.specs.Search.{row_name}
use Rattle.comparing.specs.Keys.{row_kind, row_float, within, row_key}
use Rattle.comparing.specs.Contents.{num_key}
use Rattle.meaning.specs.Syntax.{Num}
use Rattle.meaning.specs.Words.{num_at_most, equal}
use Rattle.meaning.specs.Actions.{float_of_step}
use Rattle.comparing.proofs.Alikes.{both_true, both_of, same_truth}

-- Two numbers are equal where their keys are the same.
most_both : (x y : ℕ) → both (leb x y) (leb y x) ≡ both (eqb x y) true
most_both x y =
    same_truth (both (leb x y) (leb y x)) (both (eqb x y) true)
    (λ e. both_of (eqb x y) true (eq-eqb x y (let p = leb-true x y (both_true (leb x y) (leb y x) e).0 in let q = leb-true y x (both_true (leb x y) (leb y x) e).1 in omega (arith, p, q))) refl)
    (λ e. let q = eqb-true x y (both_true (eqb x y) true e).0 in both_of (leb x y) (leb y x) (le-leb x y (omega (arith, q))) (le-leb y x (omega (arith, q))))

both_flip : (x y : Bool) → both x y ≡ both y x
both_flip true true = refl
both_flip true false = refl
both_flip false true = refl
both_flip false false = refl

equal_keys : (m n : Num) → equal m n ≡ same (num_key m) (num_key n)
unfolding equal num_at_most num_key same bit
equal_keys m n = by m.negative n.negative
  where
    by : (b c : Bool) → equal (record { negative = b; amount = m.amount }) (record { negative = c; amount = n.amount }) ≡ same (num_key (record { negative = b; amount = m.amount })) (num_key (record { negative = c; amount = n.amount }))
    by true true = both_flip (leb n.amount m.amount) (leb m.amount n.amount) ∙ most_both m.amount n.amount
    by true false = refl
    by false true = refl
    by false false = most_both m.amount n.amount

-- Floats that are read at the words of two rows.
module _ (s v : List ℕ) (i : ℕ) (s2 v2 : List ℕ) (k p p2 : ℕ) (m n : Num) (e : p ≡ cell_of v 9 i 7) (e2 : p2 ≡ cell_of v2 9 k 7) (f : m ≡ float_of_step (step_at s p))
    (f2 : n ≡ float_of_step (step_at s2 p2)) where
  these : equal m n ≡ equal (row_float s v i) (row_float s2 v2 k)
  unfolding row_float
  these = ap₂ equal (f ∙ ap (λ (q : ℕ). float_of_step (step_at s q)) e) (f2 ∙ ap (λ (q : ℕ). float_of_step (step_at s2 q)) e2)

  pub floats_apart : num_at_most m n ≡ false → false ≡ equal (row_float s v i) (row_float s2 v2 k)
  unfolding equal
  floats_apart t = sym (ap (λ (c : Bool). both c (num_at_most n m)) t) ∙ these

  pub floats_equal : (r : Bool) → num_at_most m n ≡ true → r ≡ num_at_most n m → r ≡ equal (row_float s v i) (row_float s2 v2 k)
  unfolding equal
  floats_equal r t q = q ∙ sym (ap (λ (c : Bool). both c (num_at_most n m)) t) ∙ these

module _ (s d v : List ℕ) (i : ℕ) (s2 d2 v2 : List ℕ) (k : ℕ) where
  abbrev a : ℕ
  a = cell_of v 9 i 3

  abbrev b : ℕ
  b = cell_of v2 9 k 3

  abbrev keys : Bool
  keys = same (row_key s d v i) (row_key s2 d2 v2 k)

  pub sorts_differ : eqb a b ≡ false → false ≡ keys
  unfolding row_key same
  sorts_differ e = sym (ap (λ (c : Bool). both c (same (within a s d v i) (within b s2 d2 v2 k))) e)

  -- Of one sort: what is within it decides.
  one_sort : eqb a b ≡ true → (x y : List ℕ) → within a s d v i ≡ x → within a s2 d2 v2 k ≡ y → same x y ≡ keys
  unfolding row_key same
  one_sort e x y p q =
      sym (ap (λ (c : Bool). both c (same (within a s d v i) (within b s2 d2 v2 k))) e ∙ ap (λ (n : ℕ). same (within a s d v i) (within n s2 d2 v2 k)) (sym (eqb-true a b e)) ∙ ap₂ same p q)

  as_number : (s d v : List ℕ) (i : ℕ) (n : ℕ) → n ≡ 0 → within n s d v i ≡ cell_of v 9 i 4 ∷ cell_of v 9 i 5 ∷ []
  unfolding within
  as_number s d v i n e = ap (λ (m : ℕ). within m s d v i) e

  as_truth : (s d v : List ℕ) (i : ℕ) (n : ℕ) → n ≡ 1 → within n s d v i ≡ cell_of v 9 i 5 ∷ []
  unfolding within
  as_truth s d v i n e = ap (λ (m : ℕ). within m s d v i) e

  as_auto : (s d v : List ℕ) (i : ℕ) (n : ℕ) → n ≡ 2 → within n s d v i ≡ []
  unfolding within
  as_auto s d v i n e = ap (λ (m : ℕ). within m s d v i) e

  as_reference : (s d v : List ℕ) (i : ℕ) (n : ℕ) → n ≡ 5 → within n s d v i ≡ row_kind d v i ∷ row_name s v 9 7 i
  unfolding within
  as_reference s d v i n e = ap (λ (m : ℕ). within m s d v i) e

  as_word : (s d v : List ℕ) (i : ℕ) (n : ℕ) → (n ≡ 0 → ⊥) → (n ≡ 1 → ⊥) → (n ≡ 2 → ⊥) → (n ≡ 5 → ⊥) → (n ≡ 6 → ⊥) → within n s d v i ≡ row_name s v 9 7 i
  unfolding within
  as_word s d v i n e f g h j =
      ap (λ (c : Bool). pick c (cell_of v 9 i 4 ∷ cell_of v 9 i 5 ∷ []) (pick (eqb n 1) (cell_of v 9 i 5 ∷ []) (pick (eqb n 2) [] (pick (eqb n 5) (row_kind d v i ∷ row_name s v 9 7 i) (pick (eqb n 6) (num_key (row_float s v i)) (row_name s v 9 7 i)))))) (ne_eqb n 0 e)
      ∙ ap (λ (c : Bool). pick c (cell_of v 9 i 5 ∷ []) (pick (eqb n 2) [] (pick (eqb n 5) (row_kind d v i ∷ row_name s v 9 7 i) (pick (eqb n 6) (num_key (row_float s v i)) (row_name s v 9 7 i))))) (ne_eqb n 1 f)
      ∙ ap (λ (c : Bool). pick c [] (pick (eqb n 5) (row_kind d v i ∷ row_name s v 9 7 i) (pick (eqb n 6) (num_key (row_float s v i)) (row_name s v 9 7 i)))) (ne_eqb n 2 g)
      ∙ ap (λ (c : Bool). pick c (row_kind d v i ∷ row_name s v 9 7 i) (pick (eqb n 6) (num_key (row_float s v i)) (row_name s v 9 7 i))) (ne_eqb n 5 h)
      ∙ ap (λ (c : Bool). pick c (num_key (row_float s v i)) (row_name s v 9 7 i)) (ne_eqb n 6 j)

  as_float : (s d v : List ℕ) (i : ℕ) (n : ℕ) → n ≡ 6 → within n s d v i ≡ num_key (row_float s v i)
  unfolding within
  as_float s d v i n e = ap (λ (m : ℕ). within m s d v i) e

  both_last : (c : Bool) → c ≡ both c true
  both_last true = refl
  both_last false = refl

  pub signs_differ : eqb a b ≡ true → a ≡ 0 → eqb (cell_of v 9 i 4) (cell_of v2 9 k 4) ≡ false → false ≡ keys
  unfolding same
  signs_differ e z f =
      sym (ap (λ (c : Bool). both c (both (eqb (cell_of v 9 i 5) (cell_of v2 9 k 5)) true)) f)
      ∙ one_sort e (cell_of v 9 i 4 ∷ cell_of v 9 i 5 ∷ []) (cell_of v2 9 k 4 ∷ cell_of v2 9 k 5 ∷ []) (as_number s d v i a z) (as_number s2 d2 v2 k a z)

  pub number_keys : (r : Bool) → eqb a b ≡ true → a ≡ 0 → eqb (cell_of v 9 i 4) (cell_of v2 9 k 4) ≡ true → r ≡ eqb (cell_of v 9 i 5) (cell_of v2 9 k 5) → r ≡ keys
  unfolding same
  number_keys r e z f q =
      q ∙ both_last (eqb (cell_of v 9 i 5) (cell_of v2 9 k 5)) ∙ sym (ap (λ (c : Bool). both c (both (eqb (cell_of v 9 i 5) (cell_of v2 9 k 5)) true)) f)
      ∙ one_sort e (cell_of v 9 i 4 ∷ cell_of v 9 i 5 ∷ []) (cell_of v2 9 k 4 ∷ cell_of v2 9 k 5 ∷ []) (as_number s d v i a z) (as_number s2 d2 v2 k a z)

  pub truth_keys : (r : Bool) → eqb a b ≡ true → a ≡ 1 → r ≡ eqb (cell_of v 9 i 5) (cell_of v2 9 k 5) → r ≡ keys
  unfolding same
  truth_keys r e z q =
      q ∙ both_last (eqb (cell_of v 9 i 5) (cell_of v2 9 k 5)) ∙ one_sort e (cell_of v 9 i 5 ∷ []) (cell_of v2 9 k 5 ∷ []) (as_truth s d v i a z) (as_truth s2 d2 v2 k a z)

  pub auto_keys : eqb a b ≡ true → a ≡ 2 → true ≡ keys
  unfolding same
  auto_keys e z = one_sort e [] [] (as_auto s d v i a z) (as_auto s2 d2 v2 k a z)

  pub reference_keys : (r : Bool) → eqb a b ≡ true → a ≡ 5 → r ≡ both (eqb (row_kind d v i) (row_kind d2 v2 k)) (same (row_name s v 9 7 i) (row_name s2 v2 9 7 k)) → r ≡ keys
  unfolding same
  reference_keys r e z q = q ∙ one_sort e (row_kind d v i ∷ row_name s v 9 7 i) (row_kind d2 v2 k ∷ row_name s2 v2 9 7 k) (as_reference s d v i a z) (as_reference s2 d2 v2 k a z)

  pub word_keys : (r : Bool) → eqb a b ≡ true → (a ≡ 0 → ⊥) → (a ≡ 1 → ⊥) → (a ≡ 2 → ⊥) → (a ≡ 5 → ⊥) → (a ≡ 6 → ⊥) → r ≡ same (row_name s v 9 7 i) (row_name s2 v2 9 7 k) → r ≡ keys
  word_keys r e f g h j m q = q ∙ one_sort e (row_name s v 9 7 i) (row_name s2 v2 9 7 k) (as_word s d v i a f g h j m) (as_word s2 d2 v2 k a f g h j m)

  pub float_keys : (r : Bool) → eqb a b ≡ true → a ≡ 6 → r ≡ equal (row_float s v i) (row_float s2 v2 k) → r ≡ keys
  float_keys r e z q = q ∙ equal_keys (row_float s v i) (row_float s2 v2 k) ∙ one_sort e (num_key (row_float s v i)) (num_key (row_float s2 v2 k)) (as_float s d v i a z) (as_float s2 d2 v2 k a z)

pub kind_low : (d v : List ℕ) (i j c : ℕ) → j ≡ cell_of v 9 i 0 → c ≡ cell_of d 13 j 12 → (r : ℕ) → r ≡ c - 22 → r ≡ row_kind d v i
unfolding row_kind
kind_low d v i j c e f r q = q ∙ ap (λ (m : ℕ). m - 22) (f ∙ ap (λ (m : ℕ). cell_of d 13 m 12) e)

pub name_of : (s v x : List ℕ) (i p n : ℕ) → x ≡ part_of s p n → p ≡ cell_of v 9 i 7 → n ≡ cell_of v 9 i 8 → x ≡ row_name s v 9 7 i
unfolding row_name
name_of s v x i p n e f g = e ∙ ap₂ (part_of s) f g

pub kinds_differ : (a b : ℕ) (r : Bool) → (a ≡ b → ⊥) → false ≡ both (eqb a b) r
kinds_differ a b r f = sym (ap (λ (c : Bool). both c r) (ne_eqb a b f))

pub kinds_same : (a b : ℕ) (r x : Bool) → a ≡ b → x ≡ r → x ≡ both (eqb a b) r
kinds_same a b r x e q = q ∙ sym (ap (λ (c : Bool). both c r) (eq-eqb a b e))
