-- The laws of tokens: which case of `step_at` holds.
-- Assumes nothing.
use Prim.Native.Nat.{ℕ, ◌-◌, ◌≤◌, ◌<◌}
use mathlib.Core.Path.{◌≡◌, sym, ◌∙◌, ap}
use mathlib.Core.List.{List, []}
use mathlib.Core.Bool.{Bool, true, false}
use lib.ListN.{length, take, drop}
use lib.Dec.{leb}
use borrow.Author.Tests.{le-ltb, le-leb, lt-leb}
use Rattle.token.specs.Bytes.{word_end, is_dotted}
use Rattle.token.specs.Gaps.{skip}
use Rattle.token.specs.Tokens.{whole_at, float_at, number_by, number_at, token_at, after_skip, step_at, part_of, part_place}
use Rattle.token.specs.declared.Step.TheVariants.{Refused, End}
use Rattle.std.specs.Prelude.{Ok, Err}
use Rattle.token.proofs.Bytes.{both_false}

module _ (s : List ℕ) (p : ℕ) where
  pub number_float : (q e : ℕ) → e ≡ word_end s q → is_dotted s e ≡ true → number_at s p q ≡ float_at s p q e
  unfolding number_at number_by
  number_float q e f t = ap (λ (b : Bool). number_by b s p q) (ap (is_dotted s) (sym f) ∙ t) ∙ ap (float_at s p q) (sym f)

  pub number_whole : (q e : ℕ) → e ≡ word_end s q → is_dotted s e ≡ false → number_at s p q ≡ whole_at s p q
  unfolding number_at number_by
  number_whole q e f t = ap (λ (b : Bool). number_by b s p q) (ap (is_dotted s) (sym f) ∙ t)

  pub token_end : length s ≤ p → token_at s p ≡ End (length s)
  unfolding token_at
  token_end h = rw (le-ltb p (length s) h)

  pub step_token : (q : ℕ) → skip s p ≡ Ok q → step_at s p ≡ token_at s q
  unfolding step_at
  step_token q e = ap (after_skip s) e

  pub step_open : (q : ℕ) → skip s p ≡ Err q → step_at s p ≡ Refused q
  unfolding step_at
  step_open q e = ap (after_skip s) e

  pub part_inside : (n : ℕ) → p ≤ length s → n ≤ length s - p → part_of s p n ≡ take n (drop p s)
  unfolding part_of
  part_inside n h k = rw (le-leb p (length s) h, le-leb n (length s - p) k)

  pub part_past : (n : ℕ) → length s < p → part_of s p n ≡ []
  unfolding part_of
  part_past n h = rw (lt-leb p (length s) h)

  pub place_inside : (n : ℕ) → p ≤ length s → n ≤ length s - p → p ≡ part_place s p n
  unfolding part_place
  place_inside n h k = rw (le-leb p (length s) h, le-leb n (length s - p) k)

  pub place_long : (n : ℕ) → length s - p < n → 0 ≡ part_place s p n
  unfolding part_place
  place_long n h = rw (lt-leb n (length s - p) h, both_false (leb p (length s)))

  pub place_past : (n : ℕ) → length s < p → 0 ≡ part_place s p n
  unfolding part_place
  place_past n h = rw (lt-leb p (length s) h)
