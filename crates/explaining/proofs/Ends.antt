-- The laws of a line's end, and of the CR before it.
-- Assumes nothing.
use Prim.Native.Nat.{ℕ, ◌+◌, ◌-◌, ◌<◌, ◌≤◌, max}
use mathlib.Core.Path.{◌≡◌, refl, sym, ◌∙◌}
use mathlib.Core.Bool.{Bool, true, false, false≢true}
use mathlib.Core.List.{List}
use mathlib.Core.Logic.{◌≢◌}
use native.Mathlib.Omega.{arith}
use native.Mathlib.Decide.{dec_le}
use borrow.Author.Tests.{eq-eqb, ne_eqb, eqb-true, eqb-false, lt-ltb, le-ltb, ltb-true}
use lib.Dec.{eqb, ltb}
use lib.ListN.{length}
use Rattle.token.specs.Find.{byte}
use Rattle.token.specs.Bytes.{find_byte}
use Rattle.token.proofs.Find.{by_test, find_here, find_next, find_past, find_low, find_high, find_holds, find_before}
use Rattle.explaining.specs.Places.{within, line_end, cr_before, shown_end}

pub within_inside : (s : List ℕ) (p : ℕ) → within s p ≤ length s
unfolding within
within_inside s p = omega arith

module _ (s : List ℕ) where
  pub end_here : (i : ℕ) → i < length s → byte s i ≡ 10 → line_end s i ≡ i
  unfolding line_end find_byte
  end_here i h e = find_here _ (length s) i h (eq-eqb (byte s i) 10 e)

  pub end_next : (i : ℕ) → i < length s → (byte s i ≡ 10 → ⊥) → line_end s i ≡ line_end s (i + 1)
  unfolding line_end find_byte
  end_next i h e = find_next _ (length s) i h (ne_eqb (byte s i) 10 e)

  pub end_past : (i : ℕ) → length s ≤ i → line_end s i ≡ i
  unfolding line_end find_byte
  end_past i h = find_past _ (length s) i h

  -- a walk from p to the text's end, or one that begins past it, found no LF
  pub end_walked : (p i : ℕ) → length s ≤ i → (p ≤ length s → i ≤ length s) → line_end s i ≡ line_end s p → max (length s) p ≡ line_end s p
  end_walked p i h k e = by (dec_le p (length s))
    where
      by : Dec (p ≤ length s) → max (length s) p ≡ line_end s p
      by (yes l) = let m : max (length s) p ≡ i = omega (arith, k l) in m ∙ sym (end_past i h) ∙ e
      by (no n) = let m : max (length s) p ≡ p = omega arith in m ∙ sym (end_past p (omega arith))

  pub end_low : (p : ℕ) → p ≤ line_end s p
  unfolding line_end find_byte
  end_low p = find_low _ (length s) p

  pub end_high : (p : ℕ) → p ≤ length s → line_end s p ≤ length s
  unfolding line_end find_byte
  end_high p h = find_high _ (length s) p h

  -- it is the text's length or at an LF
  pub end_at : (p : ℕ) → p ≤ length s → line_end s p < length s → byte s (line_end s p) ≡ 10
  unfolding line_end find_byte
  end_at p h l = eqb-true _ 10 (find_holds _ (length s) p h l)

-- no LF stands between the place and it
pub end_clear : (s : List ℕ) (p i : ℕ) → p ≤ i → i < line_end s p → byte s i ≢ 10
unfolding line_end find_byte
end_clear s p i l h = eqb-false (byte s i) 10 (find_before (λ (k : ℕ). eqb (byte s k) 10) (length s) p i l h)

module _ (s : List ℕ) (e : ℕ) where
  pub cr_past : length s ≤ e → false ≡ cr_before s e
  unfolding cr_before
  cr_past h = rw (le-ltb e (length s) h)

  pub cr_first : e ≡ 0 → false ≡ cr_before s e
  unfolding cr_before
  cr_first h = by_test (λ (b : Bool). false ≡ b) (ltb e (length s)) _ false (λ _. rw h) (λ _. refl)

  pub cr_byte : e < length s → (e ≡ 0 → ⊥) → eqb (byte s (e - 1)) 13 ≡ cr_before s e
  unfolding cr_before
  cr_byte h n = rw (lt-ltb e (length s) h, lt-ltb 0 e (omega arith))

  pub cr_after : cr_before s e ≡ true → (0 < e) × (byte s (e - 1) ≡ 13)
  unfolding cr_before
  cr_after =
      by_test (λ (b : Bool). b ≡ true → (0 < e) × (byte s (e - 1) ≡ 13)) (ltb e (length s)) _ false
      (λ _. by_test (λ (b : Bool). b ≡ true → (0 < e) × (byte s (e - 1) ≡ 13)) (ltb 0 e) _ false (λ y t. (ltb-true 0 e y, eqb-true _ 13 t)) (λ _ t. absurd (false≢true t)))
      (λ _ t. absurd (false≢true t))

  pub cr_inside : cr_before s e ≡ true → e < length s
  unfolding cr_before
  cr_inside = by_test (λ (b : Bool). b ≡ true → e < length s) (ltb e (length s)) _ false (λ y _. ltb-true e (length s) y) (λ _ t. absurd (false≢true t))

  pub shown_cr : cr_before s e ≡ true → e - 1 ≡ shown_end s e
  unfolding shown_end
  shown_cr t = rw t

  pub shown_same : cr_before s e ≡ false → e ≡ shown_end s e
  unfolding shown_end
  shown_same t = rw t
