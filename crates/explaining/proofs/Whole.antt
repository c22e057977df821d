-- The line of a place: where it starts and ends is what `IsLine` says, and nothing else is.
-- Assumes nothing.
use Prim.Native.Nat.{ℕ, ◌+◌, ◌-◌, ◌<◌, ◌≤◌}
use mathlib.Core.Path.{◌≡◌, ◌∙◌, ap}
use mathlib.Core.List.{List}
use native.Mathlib.Omega.{arith}
use native.Mathlib.Decide.{dec_lt}
use lib.ListN.{length}
use Rattle.token.specs.Find.{byte}
use Rattle.token.proofs.Find.{by_test}
use Rattle.explaining.specs.Places.{IsLine, LinesFound, LinesApart, line_start, line_end, cr_before, shown_end}
use Rattle.explaining.proofs.Starts.{start_low, start_after, start_clear}
use Rattle.explaining.proofs.Ends.{end_low, end_high, end_at, end_clear, cr_after}

-- the line of a place is from `line_start` to `line_end`
pub line_is : LinesFound
line_is s p h =
    record {
      before = start_low s p;
      behind = end_low s p;
      inside = end_high s p h;
      starts = start_after s p;
      ends = end_at s p h;
      clear = λ i l k. within_line i l k (dec_lt i p);
    }
  where
    within_line : (i : ℕ) → line_start s p ≤ i → i < line_end s p → Dec (i < p) → byte s i ≡ 10 → ⊥
    within_line i l k (yes y) = start_clear s p i l y
    within_line i l k (no n) = end_clear s p i (omega arith) k

module _ {s : List ℕ} {p a e b f : ℕ} (l : IsLine s p a e) (m : IsLine s p b f) where
  start_not_before : a < b → ⊥
  start_not_before h = l.clear (b - 1) (omega arith) (omega (arith, l.behind, m.before)) (m.starts (omega arith))

  end_not_before : e < f → ⊥
  end_not_before h = m.clear e (omega (arith, m.before, l.behind)) h (l.ends (omega (arith, m.inside)))

-- and a place has no other line
pub one_line : {s : List ℕ} {p a e b f : ℕ} → IsLine s p a e → IsLine s p b f → (a ≡ b) × (e ≡ f)
one_line {a = a} {e} {b} {f} l m =
    (same a b (dec_lt a b) (dec_lt b a) (start_not_before l m) (start_not_before m l), same e f (dec_lt e f) (dec_lt f e) (end_not_before l m) (end_not_before m l))
  where
    same : (x y : ℕ) → Dec (x < y) → Dec (y < x) → (x < y → ⊥) → (y < x → ⊥) → x ≡ y
    same x y (yes h) d n m = absurd (n h)
    same x y (no k) (yes h) n m = absurd (m h)
    same x y (no k) (no h) n m = omega arith

pub only_line : LinesApart
only_line s p a e b f l m = one_line l m

-- what is shown of a line ends at or after its start, at most one byte before the place, and in the text
pub shown_after : (s : List ℕ) (p : ℕ) → p ≤ length s → line_start s p ≤ shown_end s (line_end s p)
unfolding shown_end
shown_after s p h =
    by_test (λ (k : ℕ). line_start s p ≤ k) (cr_before s (line_end s p)) (line_end s p - 1) (line_end s p)
    (λ t. after_cr (cr_after s (line_end s p) t) (dec_lt (line_start s p) (line_end s p)))
    (λ _. omega (arith, start_low s p, end_low s p))
  where
    after_cr : (0 < line_end s p) × (byte s (line_end s p - 1) ≡ 13) → Dec (line_start s p < line_end s p) → line_start s p ≤ line_end s p - 1
    after_cr c (yes y) = omega arith
    after_cr c (no n) =
        let e : line_start s p ≡ line_end s p = omega (arith, start_low s p, end_low s p) in
        let f : byte s (line_start s p - 1) ≡ 10 = start_after s p (omega (arith, c.0)) in
        let g : byte s (line_start s p - 1) ≡ 13 = ap (λ (k : ℕ). byte s (k - 1)) e ∙ c.1 in
        absurd (omega arith)

pub shown_behind : (s : List ℕ) (p : ℕ) → p ≤ shown_end s (line_end s p) + 1
unfolding shown_end
shown_behind s p =
    by_test (λ (k : ℕ). p ≤ k + 1) (cr_before s (line_end s p)) (line_end s p - 1) (line_end s p)
    (λ _. omega (arith, end_low s p))
    (λ _. omega (arith, end_low s p))

pub shown_inside : (s : List ℕ) (p : ℕ) → p ≤ length s → shown_end s (line_end s p) ≤ length s
unfolding shown_end
shown_inside s p h =
    by_test (λ (k : ℕ). k ≤ length s) (cr_before s (line_end s p)) (line_end s p - 1) (line_end s p)
    (λ _. omega (arith, end_high s p h))
    (λ _. end_high s p h)
