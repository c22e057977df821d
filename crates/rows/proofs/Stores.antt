-- The laws of runs of stores: `sets l i vs` is l with vs stored from place i on.
-- Assumes nothing.
use Prim.Native.Nat.{ℕ, suc, ◌+◌, ◌-◌, ◌<◌, ◌≤◌, min}
use mathlib.Core.Path.{◌≡◌, refl, sym, ap, ◌∙◌}
use mathlib.Core.List.{List, [], ◌∷◌, ◌++◌, append_assoc, append-nil}
use native.Mathlib.Nat.{add-zero}
use native.Mathlib.Omega.{arith}
use native.Mathlib.Numerals.{add-one}
use native.Mathlib.Decide.{dec_le}
use lib.ListN.{length, take, drop, get_or, set, replicate, take-append-drop, drop_of_length-le}
use lib.Seq.{take-suc, sets, sets-eq, length-sets, set_out, take-set-le, drop-set-lt, drop-set-add, drop-drop, take_at, take_all, drop_at, length-take-le, drop-cons}
use Rattle.rows.specs.Table.{part}

pub sets_append : {A : Type 0} (l : List A) (i : ℕ) (xs ys : List A) → sets l i (xs ++ ys) ≡ sets (sets l i xs) (i + length xs) ys
sets_append l i [] ys = rw (add-zero i)
sets_append l i (x ∷ xs) ys = sets_append (set l i x) (suc i) xs ys ∙ ap (λ (k : ℕ). sets (sets (set l i x) (suc i) xs) k ys) (omega arith)

-- past the end nothing is stored
pub sets_out : {A : Type 0} (l : List A) (i : ℕ) (vs : List A) → length l ≤ i → sets l i vs ≡ l
sets_out l i [] h = refl
sets_out l i (v ∷ vs) h = rw (set_out l i v h) (sets_out l (suc i) vs (omega arith))

pub drop_sets : (n : ℕ) (l : List ℕ) (i : ℕ) (vs : List ℕ) → i + length vs ≤ n → drop n (sets l i vs) ≡ drop n l
drop_sets n l i [] h = refl
drop_sets n l i (v ∷ vs) h = drop_sets n (set l i v) (suc i) vs (omega arith) ∙ drop-set-lt n l i v (omega arith)

-- what was stored is read back
pub part_sets_same : (l : List ℕ) (i : ℕ) (vs : List ℕ) → i + length vs ≤ length l → part (sets l i vs) i (length vs) ≡ vs
part_sets_same l i vs h =
    rw (sets-eq vs l i h, append_assoc, drop_at (take i l) (vs ++ drop (i + length vs) l) i (length-take-le i l (omega arith)))
    (take_at vs (drop (i + length vs) l) (length vs) refl)

pub part_sets_after : (l : List ℕ) (i : ℕ) (vs : List ℕ) (a n : ℕ) → i + length vs ≤ a → part (sets l i vs) a n ≡ part l a n
part_sets_after l i vs a n h = ap (take n) (drop_sets a l i vs h)

part_set_before : (l : List ℕ) (i v a n : ℕ) → a + n ≤ i → part (set l i v) a n ≡ part l a n
part_set_before l i v a n h =
    let e : i ≡ a + (i - a) = omega arith in
    ap (λ (k : ℕ). take n (drop a (set l k v))) e
    ∙ ap (take n) (drop-set-add a l (i - a) v)
    ∙ take-set-le n (drop a l) (i - a) v (omega arith)

pub part_sets_before : (l : List ℕ) (i : ℕ) (vs : List ℕ) (a n : ℕ) → a + n ≤ i → part (sets l i vs) a n ≡ part l a n
part_sets_before l i [] a n h = refl
part_sets_before l i (v ∷ vs) a n h = part_sets_before (set l i v) (suc i) vs a n (omega arith) ∙ part_set_before l i v a n h

-- a loop that stores one cell a turn: what is left to store decides the whole
module _ (l : List ℕ) (j : ℕ) (vs : List ℕ) (i : ℕ) where
  pub stores_more : i < length vs → sets l j (drop i vs) ≡ sets (set l j (get_or vs i 0)) (j + 1) (drop (i + 1) vs)
  stores_more h = rw (drop-cons vs i 0 h, add-one i, add-one j)

  pub stores_past : length l ≤ j → l ≡ sets l j (drop i vs)
  stores_past h = sym (sets_out l j (drop i vs) h)

  pub stores_end : length vs ≤ i → l ≡ sets l j (drop i vs)
  stores_end h = rw (drop_of_length-le vs h)

-- cells that are stored one after another, as many as there is room for from a place inside on
module _ {A : Type 0} (l : List A) (j : ℕ) (vs : List A) where
  -- a turn
  pub stored_next : (i : ℕ) (v : A) → i < length vs → v ≡ get_or vs i v → set (sets l j (take i vs)) (j + i) v ≡ sets l j (take (i + 1) vs)
  stored_next i v h e =
      let k : length (take i vs) ≡ i = length-take-le i vs (omega arith) in
      let t : take (i + 1) vs ≡ take i vs ++ (v ∷ []) =
      ap (λ (n : ℕ). take n vs) (add-one i) ∙ take-suc vs i v h ∙ ap (λ (x : A). take i vs ++ (x ∷ [])) (sym e) in
      sym (ap (sets l j) t ∙ sets_append l j (take i vs) (v ∷ []) ∙ ap (λ (n : ℕ). set (sets l j (take i vs)) (j + n) v) k)

-- cells that are stored at once: as many as there is room for from a place inside on
module _ {A : Type 0} (l : List A) (i : ℕ) where
  stored_all : (vs : List A) → i + length vs ≤ length l → take i l ++ (vs ++ drop (length vs) (drop i l)) ≡ sets l i vs
  stored_all vs h =
      let e : drop (length vs) (drop i l) ≡ drop (i + length vs) l = drop-drop (length vs) i l in
      sym (sets-eq vs l i h ∙ append_assoc (take i l) vs (drop (i + length vs) l) ∙ ap (λ (r : List A). take i l ++ (vs ++ r)) (sym e))

  -- what there is no room for is not stored
  stored_some : (vs : List A) (n : ℕ) → length l ≤ i + n → n ≤ length vs → sets l i (take n vs) ≡ sets l i vs
  stored_some vs n h g =
      let k : length (take n vs) ≡ n = length-take-le n vs g in
      let o : length (sets l i (take n vs)) ≤ i + length (take n vs) = omega (arith, length-sets l i (take n vs)) in
      sym (ap (sets l i) (sym (take-append-drop n vs)) ∙ sets_append l i (take n vs) (drop n vs) ∙ sets_out (sets l i (take n vs)) (i + length (take n vs)) (drop n vs) o)

  stored_by : (vs : List A) (n : ℕ) → i < length l → Dec (length vs ≤ length l - i) → n ≡ min (length vs) (length l - i) → take i l ++ (take n vs ++ drop n (drop i l)) ≡ sets l i vs
  stored_by vs n h (yes d) e =
      let k : n ≡ length vs = omega arith in
      rw (k, take_all (length vs) vs (omega arith)) (stored_all vs (omega arith))
  stored_by vs n h (no d) e =
      let k : length (take n vs) ≡ n = length-take-le n vs (omega arith) in
      ap (λ (m : ℕ). take i l ++ (take n vs ++ drop m (drop i l))) (sym k)
      ∙ stored_all (take n vs) (omega arith)
      ∙ stored_some vs n (omega arith) (omega arith)

  pub stored : (vs : List A) (n : ℕ) → i < length l → n ≡ min (length vs) (length l - i) → take i l ++ (take n vs ++ drop n (drop i l)) ≡ sets l i vs
  stored vs n h = stored_by vs n h (dec_le (length vs) (length l - i))

-- where as many are stored as there is room for, the others are not
module _ {A : Type 0} (l : List A) (j : ℕ) (vs : List A) (i : ℕ) where
  stored_up : Dec (length vs ≤ length l - j) → i ≡ min (length vs) (length l - j) → sets l j (take i vs) ≡ sets l j vs
  stored_up (yes d) e = ap (sets l j) (take_all i vs (omega arith))
  stored_up (no d) e = stored_some l j vs i (omega arith) (omega arith)

  pub stored_end : i ≡ min (length vs) (length l - j) → sets l j (take i vs) ≡ sets l j vs
  stored_end e = stored_up (dec_le (length vs) (length l - j)) e

-- a loop that clears one cell a turn
pub cleared : (l : List ℕ) (i : ℕ) → i ≡ length l → replicate i 0 ++ drop i l ≡ replicate (length l) 0
cleared l i e =
    let h : length l ≤ i = omega arith in
    rw (drop_of_length-le l h, append-nil {A = ℕ} (replicate i 0), e)
