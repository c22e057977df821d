-- The laws of what is set aside on a line. Assumes nothing.
use Prim.Native.Nat.{ℕ, zero, suc, ◌+◌, ◌-◌, ◌≤◌, ◌<◌}
use mathlib.Core.List.{List}
use mathlib.Core.Bool.{Bool, true, false}
use mathlib.Core.Path.{◌≡◌, refl, sym, ◌∙◌, ap}
use native.Mathlib.Omega.{arith}
use Rattle.sources.proofs.Singles.{split}
use lib.ListN.{length, get_or-eq_default}
use lib.Dec.{ltb, eqb}
use borrow.Author.Tests.{lt-ltb, le-ltb, eq-eqb, ne_eqb, eqb-false}
use Rattle.token.specs.Find.{both, byte}
use Rattle.token.specs.Bytes.{pair_at, find_close}
use Rattle.token.proofs.Find.{by_test, find_low}
use Rattle.token.proofs.Bytes.{pair_short, pair_inside}
use Rattle.sources.specs.Lines.{is_aside, aside_at, on_aside, aside_n, aside}

pub close_low : (s : List ℕ) (p : ℕ) → p ≤ find_close s p
unfolding find_close
close_low s p = find_low (λ i. pair_at s i 42 47) (length s) p

module _ (l : List ℕ) (i : ℕ) where
  pub aside_blank : is_aside (byte l i) ≡ true → i + 1 ≡ aside_at l i
  unfolding aside_at
  aside_blank e = rw e

  pub aside_line : is_aside (byte l i) ≡ false → pair_at l i 47 47 ≡ true → length l ≡ aside_at l i
  unfolding aside_at
  aside_line e f = rw (e, f)

  pub aside_comment : is_aside (byte l i) ≡ false → pair_at l i 47 47 ≡ false → pair_at l i 47 42 ≡ true → find_close l (i + 2) < length l → find_close l (i + 2) + 2 ≡ aside_at l i
  unfolding aside_at
  aside_comment e f g h = rw (e, f, g, lt-ltb (find_close l (i + 2)) (length l) h)

  pub aside_open : is_aside (byte l i) ≡ false → pair_at l i 47 47 ≡ false → pair_at l i 47 42 ≡ true → length l ≤ find_close l (i + 2) → i ≡ aside_at l i
  unfolding aside_at
  aside_open e f g h = rw (e, f, g, le-ltb (find_close l (i + 2)) (length l) h)

  pub aside_none : is_aside (byte l i) ≡ false → pair_at l i 47 47 ≡ false → pair_at l i 47 42 ≡ false → i ≡ aside_at l i
  unfolding aside_at
  aside_none e f g = rw (e, f, g)

  none_past : length l ≤ i → is_aside (byte l i) ≡ false
  unfolding is_aside
  none_past h = ap is_aside (get_or-eq_default l 0 h)

  pub aside_past : length l ≤ i → i ≡ aside_at l i
  aside_past h = aside_none (none_past h) (pair_short l i 47 47 (omega arith)) (pair_short l i 47 42 (omega arith))

  -- it goes on, or stays
  pub aside_low : i ≤ aside_at l i
  unfolding aside_at
  aside_low =
      by_test (λ (q : ℕ). i ≤ q) (is_aside (byte l i)) (i + 1) _
      (λ _. omega arith)
      (λ _.
      by_test (λ (q : ℕ). i ≤ q) (pair_at l i 47 47) (length l) _
      (λ e. let h = pair_inside l i 47 47 e in omega arith)
      (λ _.
      by_test (λ (q : ℕ). i ≤ q) (both (pair_at l i 47 42) (ltb (find_close l (i + 2)) (length l))) (find_close l (i + 2) + 2) i
      (λ _. let h = close_low l (i + 2) in omega arith)
      (λ _. omega arith)))

  -- where something is set aside, it lies before the end
  pub aside_inside : (aside_at l i ≡ i → ⊥) → i < length l
  aside_inside h = split i (length l) (λ k. k) (λ k. absurd (h (sym (aside_past k))))

  pub aside_on : (aside_at l i ≡ i → ⊥) → i < aside_at l i
  aside_on h = let k = aside_low in omega arith

-- ---- all of them

-- by what stands at a place: nothing, or something and then on
by_aside : (t : Bool) (i j : ℕ) (k h : ℕ → ℕ) → (t ≡ false → k j ≡ h j) → on_aside t i j k ≡ on_aside t i j h
by_aside true i j k h e = refl
by_aside false i j k h e = e refl

stays : (n : ℕ) (l : List ℕ) (i : ℕ) → aside_at l i ≡ i → aside_n n l i ≡ i
unfolding aside_n
stays zero l i e = refl
stays (suc n) l i e = rw (eq-eqb (aside_at l i) i e)

enough : (n m : ℕ) (l : List ℕ) (i : ℕ) → length l - i ≤ n → length l - i ≤ m → aside_n n l i ≡ aside_n m l i
unfolding aside_n
enough zero m l i h k = sym (stays m l i (sym (aside_past l i (omega arith))))
enough (suc n) zero l i h k = stays (suc n) l i (sym (aside_past l i (omega arith)))
enough (suc n) (suc m) l i h k =
    by_aside (eqb (aside_at l i) i) i (aside_at l i) (λ j. aside_n n l j) (λ j. aside_n m l j)
    (λ e.
    let g = aside_on l i (eqb-false (aside_at l i) i e) in
    let f = aside_inside l i (eqb-false (aside_at l i) i e) in
    enough n m l (aside_at l i) (omega arith) (omega arith))

module _ (l : List ℕ) (i : ℕ) where
  pub aside_stay : aside_at l i ≡ i → aside l i ≡ i
  unfolding aside
  aside_stay e = stays (length l - i) l i e

  pub aside_next : (aside_at l i ≡ i → ⊥) → aside l i ≡ aside l (aside_at l i)
  unfolding aside aside_n
  aside_next h =
      let g = aside_on l i h in
      let f = aside_inside l i h in
      let n : length l - i ≡ suc (length l - i - 1) = omega arith in
      ap (λ (k : ℕ). aside_n k l i) n
      ∙ rw (ne_eqb (aside_at l i) i h) (enough (length l - i - 1) (length l - aside_at l i) l (aside_at l i) (omega arith) (omega arith))

-- ---- it goes on from there

low_by : (t : Bool) (i j : ℕ) (k : ℕ → ℕ) → i ≤ j → j ≤ k j → i ≤ on_aside t i j k
low_by true i j k h e = omega arith
low_by false i j k h e = omega arith

low_n : (n : ℕ) (l : List ℕ) (i : ℕ) → i ≤ aside_n n l i
unfolding aside_n
low_n zero l i = omega arith
low_n (suc n) l i = low_by (eqb (aside_at l i) i) i (aside_at l i) (λ j. aside_n n l j) (aside_low l i) (low_n n l (aside_at l i))

pub all_low : (l : List ℕ) (i : ℕ) → i ≤ aside l i
unfolding aside
all_low l i = low_n (length l - i) l i
