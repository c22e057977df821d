use mathlib.Core.Path.{◌≡◌, ◌∙◌, sym}
use mathlib.Core.List.{List}
use Prim.Native.Nat.{ℕ, ◌≤◌, ◌<◌, max}
use native.Mathlib.Omega.{arith}
use native.Mathlib.Decide.{dec_lt}
use lib.ListN.{length}
use borrow.Author.Tests.{eq-eqb, ne_eqb}
use Rattle.token.specs.Bytes.{find_byte}
use Rattle.token.proofs.Find.{find_here, find_next, find_past}
use Rattle.attribute_values.proofs.paths.find_byte.Goals as goal

pub returns-then-path-i : goal.returns-then-path-i
unfolding find_byte
returns-then-path-i c = sym (find_here _ _ c.loop-i.i (omega arith) (eq-eqb _ _ c.if-path-i.true)) ∙ c.loop-i.invariant

pub loop-i-preserved : goal.loop-i-preserved
unfolding find_byte
loop-i-preserved c = sym (find_next _ _ c.loop-i.i (omega arith) (ne_eqb _ _ c.if-path-i.false)) ∙ c.loop-i.invariant

-- The loop ends at the length, or where it began past it.
at_end : (b : ℕ) (s : List ℕ) (from i r : ℕ) → r ≡ max from (length s) → length s ≤ i → (from ≤ length s → i ≤ length s) → find_byte b s i ≡ find_byte b s from → r ≡ find_byte b s from
unfolding find_byte
at_end b s from i r e h k l = by (dec_lt (length s) from)
  where
    by : Dec (length s < from) → r ≡ find_byte b s from
    by (yes a) = let z : r ≡ from = omega (arith, e, a) in z ∙ sym (find_past _ (length s) from (omega arith))
    by (no a) = let q = k (omega arith) in let z : r ≡ i = omega (arith, e, a, h, q) in z ∙ sym (find_past _ (length s) i h) ∙ l

pub returns : goal.returns
returns c = at_end _ _ _ c.loop-i.i _ (omega (arith, c.max.ensures)) (omega arith) c.loop-i.auto.i-end c.loop-i.invariant
