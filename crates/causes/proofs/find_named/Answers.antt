use native.Mathlib.Omega.{arith}
use mathlib.Core.Path.{sym, ◌∙◌}
use Rattle.causes.proofs.Rows.{find_here, find_on, find_none}
use Rattle.causes.proofs.find_named.Goals as goal

pub returns-then-is_named : goal.returns-then-is_named
returns-then-is_named c = sym (find_here _ _ _ _ _ _ _ _ _ c.loop-i.i (omega arith) (sym c.is_named.ensures ∙ c.if-is_named.true)) ∙ c.loop-i.invariant

pub loop-i-preserved : goal.loop-i-preserved
loop-i-preserved c = sym (find_on _ _ _ _ _ _ _ _ _ c.loop-i.i (omega arith) (sym c.is_named.ensures ∙ c.if-is_named.false)) ∙ c.loop-i.invariant

pub returns : goal.returns
returns c = sym (find_none _ _ _ _ _ _ _ _ _ c.loop-i.i (omega arith)) ∙ c.loop-i.invariant
