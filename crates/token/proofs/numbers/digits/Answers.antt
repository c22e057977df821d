-- `token::numbers::digits` meets its contract: the digits from i on, after those of a, have the value of all.
-- Assumes nothing.
use native.Mathlib.Omega.{arith}
use Prim.Native.Nat.{◌+◌, ◌*◌}
use mathlib.Core.Path.{◌≡◌, ◌∙◌, sym}
use Rattle.std.specs.Prelude.{Some}
use borrow.Author.Rules.{rules}
use Rattle.token.specs.Numbers.{at_most}
use Rattle.token.proofs.Values.{digits_next, was_is}
use Rattle.token.proofs.numbers.digits.Goals as goal

pub loop-b-preserved : goal.loop-b-preserved
loop-b-preserved c =
    let m : at_most c.args.max (c.loop-b.a * c.args.base + c.from-d.result) ≡ Some c.in_ok-a.a = search rules in
    let w = was_is _ _ _ m in
    (omega arith, sym (digits_next _ _ _ _ c.loop-b.b-index c.loop-b-test.true _ (c.from-d.ensures ∙ c.digit.ensures) c.if-base-d.false _ w.0) ∙ c.loop-b.invariant.1)
