-- The laws of the window on a line.
-- Assumes nothing.
use Prim.Native.Nat.{ℕ, ◌+◌, ◌-◌, ◌<◌, ◌≤◌, min}
use mathlib.Core.Path.{◌≡◌, ◌∙◌}
use mathlib.Core.List.{List}
use native.Mathlib.Omega.{arith}
use borrow.Author.Tests.{lt-ltb, le-ltb}
use lib.Dec.{ltb}
use lib.ListN.{length}
use Rattle.token.proofs.Find.{by_test}
use Rattle.explaining.proofs.Starts.{start_low}
use Rattle.explaining.proofs.Whole.{shown_after, shown_behind, shown_inside}
use Rattle.explaining.specs.declared.View.{View}
use Rattle.explaining.specs.Places.{line_start, line_end, shown_end}
use Rattle.explaining.specs.Windows.{window_from, window_to, dots_for, view_in, view_of, Fits, IsWindow}

-- 36 bytes before the place, 72 before the line's end
module _ (a e p : ℕ) where
  pub from_start : p - 36 ≤ a → a ≡ window_from a e p
  unfolding window_from
  from_start h = omega arith

  pub from_short : e - 72 ≤ a → a ≡ window_from a e p
  unfolding window_from
  from_short h = omega arith

  pub from_near : a < p - 36 → p - 36 < e - 72 → p - 36 ≡ window_from a e p
  unfolding window_from
  from_near h k = omega arith

  pub from_last : a < e - 72 → e - 72 ≤ p - 36 → e - 72 ≡ window_from a e p
  unfolding window_from
  from_last h k = omega arith

  pub window_is : a ≤ p → p ≤ e → IsWindow a e p (window_from a e p) (window_to a e p)
  unfolding window_from window_to
  window_is h k =
      record {
        starts = omega arith;
        ends = omega arith;
        before = omega arith;
        behind = omega arith;
        most = omega arith;
        full = λ l. omega arith;
        whole = λ l. (omega arith, omega arith);
        near_before = λ l. omega arith;
        near_behind = λ l. omega arith;
      }

pub dots_three : (a b : ℕ) → a < b → 3 ≡ dots_for a b
unfolding dots_for
dots_three a b h = rw (lt-ltb a b h)

pub dots_none : (a b : ℕ) → b ≤ a → 0 ≡ dots_for a b
unfolding dots_for
dots_none a b h = rw (le-ltb a b h)

dots_most : (a b : ℕ) → dots_for a b ≤ 3
unfolding dots_for
dots_most a b = by_test (λ (k : ℕ). k ≤ 3) (ltb a b) 3 0 (λ _. omega arith) (λ _. omega arith)

-- a view from its parts
pub view_is : (a e p f t d g : ℕ) → f ≡ window_from a e p → t ≡ min e (f + 72) → d ≡ dots_for a f → g ≡ dots_for t e
    → record { at = p; from = f; to = t; front = d; behind = g } ≡ view_in a e p
unfolding view_in window_to
view_is a e p f t d g i j k l = rw (k, l, j, i)

view_in_fits : (s : List ℕ) (a e p : ℕ) → a ≤ p → a ≤ e → p ≤ e + 1 → e ≤ length s → p ≤ length s → Fits s (view_in a e p)
unfolding view_in window_from window_to
view_in_fits s a e p h i n j k =
    record {
      ordered = omega arith;
      inside = omega arith;
      before = omega arith;
      placed = k;
      near = omega arith;
      most = omega arith;
      front = dots_most _ _;
      behind = dots_most _ _;
    }

pub view_fits : (s : List ℕ) (p : ℕ) → p ≤ length s → Fits s (view_of s p)
unfolding view_of
view_fits s p h = view_in_fits s _ _ p (start_low s p) (shown_after s p h) (shown_behind s p) (shown_inside s p h) h

pub view_is_of : (s : List ℕ) (p a t e : ℕ) (v : View) → a ≡ line_start s p → t ≡ line_end s p → e ≡ shown_end s t → v ≡ view_in a e p → v ≡ view_of s p
unfolding view_of
view_is_of s p a t e v i j k l = l ∙ rw (k, j, i)
