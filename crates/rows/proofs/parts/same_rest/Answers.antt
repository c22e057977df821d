-- `rows::parts::same_rest` meets its contract: comparing from i on gives what comparing from the start does.
-- Assumes nothing.
use native.Mathlib.Omega.{arith}
use Rattle.rows.proofs.Firsts.{rest_decides}
use Rattle.token.proofs.Codes.{same_next, same_stop, same_end}
use mathlib.Core.Path.{sym, ◌∙◌}
use Rattle.rows.proofs.parts.same_rest.Goals as goal

pub loop-i-init : goal.loop-i-init
loop-i-init c = (c.requires.0, rest_decides _ _ c.requires.0 c.requires.1)

pub returns-then-a-i : goal.returns-then-a-i
returns-then-a-i c = sym (same_stop _ _ 0 0 c.loop-i.i (omega arith) (omega arith) c.if-a-i.true) ∙ c.loop-i.invariant.1

pub loop-i-preserved : goal.loop-i-preserved
loop-i-preserved c = (c.loop-i.invariant.0, sym (same_next _ _ 0 0 c.loop-i.i (omega arith) (omega arith) c.if-a-i.false) ∙ c.loop-i.invariant.1)

pub returns : goal.returns
returns c = sym (same_end _ _ c.loop-i.i (omega arith) (omega arith)) ∙ c.loop-i.invariant.1
