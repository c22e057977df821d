-- The laws of counting LF: what is left to count decides the whole.
-- Assumes nothing.
use Prim.Native.Nat.{ℕ, ◌+◌, ◌<◌, ◌≤◌}
use mathlib.Core.Path.{◌≡◌, ◌∙◌, ap, sym}
use mathlib.Core.List.{List, [], ◌∷◌}
use native.Mathlib.Omega.{arith}
use native.Mathlib.Numerals.{add-one}
use borrow.Author.Tests.{eq-eqb, ne_eqb}
use lib.Dec.{eqb}
use lib.ListN.{length, take, drop, drop_of_length-le}
use lib.Seq.{drop-cons}
use Rattle.token.specs.Find.{byte}
use Rattle.token.proofs.Find.{by_test}
use Rattle.explaining.specs.Places.{feed_of, line_feeds, line_of}

pub feed_one : (b : ℕ) → b ≡ 10 → 1 ≡ feed_of b
unfolding feed_of
feed_one b e = rw (eq-eqb b 10 e)

pub feed_none : (b : ℕ) → (b ≡ 10 → ⊥) → 0 ≡ feed_of b
unfolding feed_of
feed_none b e = rw (ne_eqb b 10 e)

pub feed_most : (b : ℕ) → feed_of b ≤ 1
unfolding feed_of
feed_most b = by_test (λ (q : ℕ). q ≤ 1) (eqb b 10) 1 0 (λ _. omega arith) (λ _. omega arith)

pub feeds_more : (s : List ℕ) (i : ℕ) → i < length s → line_feeds (drop i s) ≡ feed_of (byte s i) + line_feeds (drop (i + 1) s)
unfolding line_feeds
feeds_more s i h = ap line_feeds (drop-cons s i 0 h) ∙ ap (λ (k : ℕ). feed_of (byte s i) + line_feeds (drop k s)) (sym (add-one i))

pub feeds_end : (s : List ℕ) (i : ℕ) → length s ≤ i → line_feeds (drop i s) ≡ 0
unfolding line_feeds
feeds_end s i h = ap line_feeds (drop_of_length-le s h)

pub feeds_most : (s : List ℕ) → line_feeds s ≤ length s
unfolding line_feeds
feeds_most [] = omega arith
feeds_most (b ∷ s) = omega (arith, feed_most b, feeds_most s)

-- the line from the count of LF before the place
pub line_is_of : (s : List ℕ) (p n : ℕ) → n ≡ line_feeds (take p s) → n + 1 ≡ line_of s p
unfolding line_of
line_is_of s p n e = rw e
