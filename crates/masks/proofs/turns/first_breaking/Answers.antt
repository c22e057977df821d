use native.Mathlib.Omega.{arith}
use mathlib.Core.Path.{sym, ◌∙◌}
use Rattle.masks.proofs.Rules.{left_start, left_stop, left_more, left_end}
use Rattle.masks.proofs.turns.first_breaking.Goals as goal

pub loop-i-init : goal.loop-i-init
loop-i-init c = left_start _ _ _

pub returns-then-not-keeps_rule : goal.returns-then-not-keeps_rule
returns-then-not-keeps_rule c = left_stop _ _ _ c.loop-i.i _ (omega arith) (sym c.keeps_rule.ensures ∙ c.if-not-keeps_rule.true) c.loop-i.invariant

pub loop-i-preserved : goal.loop-i-preserved
loop-i-preserved c = left_more _ _ _ c.loop-i.i _ (omega arith) (sym c.keeps_rule.ensures ∙ c.if-not-keeps_rule.false) c.loop-i.invariant

pub returns : goal.returns
returns c = left_end _ _ _ c.loop-i.i _ (omega arith) c.loop-i.invariant
