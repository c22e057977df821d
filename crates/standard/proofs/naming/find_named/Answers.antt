use mathlib.Core.Path.{sym, ◌∙◌}
use native.Mathlib.Omega.{arith}
use Rattle.rows.proofs.Searches.{find_stop, find_more, find_end}
use Rattle.standard.proofs.naming.find_named.Goals as goal

pub returns-then-is_named : goal.returns-then-is_named
returns-then-is_named c = sym (find_stop _ _ c.loop-i.i (omega arith) (sym c.is_named.ensures ∙ c.if-is_named.true)) ∙ c.loop-i.invariant

pub loop-i-preserved : goal.loop-i-preserved
loop-i-preserved c = sym (find_more _ _ c.loop-i.i (omega arith) (sym c.is_named.ensures ∙ c.if-is_named.false)) ∙ c.loop-i.invariant

pub returns : goal.returns
returns c = sym (find_end _ _ c.loop-i.i (omega arith)) ∙ c.loop-i.invariant
