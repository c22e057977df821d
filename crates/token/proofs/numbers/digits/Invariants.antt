-- `token::numbers::digits` meets its contract: the digits from i on, after those of a, have the value of all.
-- Assumes nothing.
use mathlib.Core.Path.{◌≡◌}
use Prim.Native.Nat.{◌≤◌}
use lib.ListN.{drop}
use Rattle.token.specs.Numbers.{digits_after}
use Rattle.token.proofs.numbers.digits.Given as goal

abbrev pub invariant-loop-b : goal.invariant-loop-b
invariant-loop-b l = (l.a ≤ l.max) × (digits_after l.base l.max l.a (drop l.b-index l.word) ≡ digits_after l.base l.max l.first l.word)
