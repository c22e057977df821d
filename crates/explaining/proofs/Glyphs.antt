-- The laws of a byte as it is shown, and of what stands under it.
-- Assumes nothing.
use Prim.Native.Nat.{ℕ, ◌<◌, ◌≤◌}
use mathlib.Core.Path.{◌≡◌, refl, ◌∙◌}
use mathlib.Core.Bool.{Bool, true, false, false≢true}
use native.Mathlib.Omega.{arith}
use borrow.Author.Tests.{eq-eqb, ne_eqb, le-leb, lt-leb, eqb-true, leb-true}
use lib.Dec.{eqb, leb}
use Rattle.token.specs.Find.{both}
use Rattle.token.proofs.Find.{by_test}
use Rattle.explaining.specs.declared.Ink.{Ink}
use Rattle.explaining.specs.declared.Ink.TheVariants.{Shown, Before, Marked}
use Rattle.explaining.specs.Pictures.{shown_byte, under_byte, drawn}

module _ (b : ℕ) where
  pub shown_tab : b ≡ 9 → 9 ≡ shown_byte b
  unfolding shown_byte
  shown_tab e = rw (eq-eqb b 9 e)

  pub shown_low : (b ≡ 9 → ⊥) → b < 32 → 63 ≡ shown_byte b
  unfolding shown_byte
  shown_low n h = rw (ne_eqb b 9 n, lt-leb 32 b h)

  pub shown_high : (b ≡ 9 → ⊥) → 126 < b → 63 ≡ shown_byte b
  unfolding shown_byte
  shown_high n h = rw (ne_eqb b 9 n, lt-leb b 126 h, le-leb 32 b (omega arith))

  pub shown_plain : (b ≡ 9 → ⊥) → 32 ≤ b → b ≤ 126 → b ≡ shown_byte b
  unfolding shown_byte
  shown_plain n l h = rw (ne_eqb b 9 n, le-leb 32 b l, le-leb b 126 h)

  pub under_tab : (k : ℕ) → b ≡ 9 → b ≡ under_byte k b
  unfolding under_byte
  under_tab k e = e ∙ rw (eq-eqb b 9 e)

  pub under_other : (k : ℕ) → (b ≡ 9 → ⊥) → k ≡ under_byte k b
  unfolding under_byte
  under_other k n = rw (ne_eqb b 9 n)

  pub drawn_shown : (i : Ink) → i ≡ Shown → shown_byte b ≡ drawn i b
  unfolding drawn
  drawn_shown i e = rw e

  pub drawn_before : (i : Ink) → i ≡ Before → under_byte 32 b ≡ drawn i b
  unfolding drawn
  drawn_before i e = rw e

  pub drawn_marked : (i : Ink) → i ≡ Marked → under_byte 126 b ≡ drawn i b
  unfolding drawn
  drawn_marked i e = rw e

  -- a tab stands under a tab, and only there
  pub tab_shown : shown_byte b ≡ 9 → b ≡ 9
  unfolding shown_byte
  tab_shown =
      by_test (λ (k : ℕ). k ≡ 9 → b ≡ 9) (eqb b 9) 9 _
      (λ t _. eqb-true b 9 t)
      (λ _. by_test (λ (k : ℕ). k ≡ 9 → b ≡ 9) (both (leb 32 b) (leb b 126)) b 63 (λ _ e. e) (λ _ e. absurd (omega arith)))

  pub tab_under : (c : ℕ) → (c ≡ 9 → ⊥) → under_byte c b ≡ 9 → b ≡ 9
  unfolding under_byte
  tab_under c n = by_test (λ (k : ℕ). k ≡ 9 → b ≡ 9) (eqb b 9) 9 c (λ t _. eqb-true b 9 t) (λ _ e. absurd (n e))

-- what is shown is a tab or printable
pub printable : (b : ℕ) → (shown_byte b ≡ 9 → ⊥) → (32 ≤ shown_byte b) × (shown_byte b ≤ 126)
unfolding shown_byte
printable b =
    by_test (λ (k : ℕ). (k ≡ 9 → ⊥) → (32 ≤ k) × (k ≤ 126)) (eqb b 9) 9 _
    (λ _ n. absurd (n refl))
    (λ _. by_test (λ (k : ℕ). (k ≡ 9 → ⊥) → (32 ≤ k) × (k ≤ 126)) (both (leb 32 b) (leb b 126)) b 63
    (λ t _. by_test (λ (c : Bool). c ≡ true → (32 ≤ b) × (b ≤ 126)) (leb 32 b) (leb b 126) false (λ l m. (leb-true 32 b l, leb-true b 126 m)) (λ _ m. absurd (false≢true m)) t)
    (λ _ _. (omega arith, omega arith)))
