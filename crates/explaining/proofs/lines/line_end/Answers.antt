-- `explaining::lines::line_end` meets its contract: the line of each place passed ends where the place's own does.
-- Assumes nothing.
use Rattle.explaining.proofs.Ends.{end_here, end_next, end_walked}
use native.Mathlib.Omega.{arith}
use mathlib.Core.Path.{◌∙◌, sym}
use Rattle.explaining.proofs.lines.line_end.Goals as goal

pub returns-then-text-i-eq10 : goal.returns-then-text-i-eq10
returns-then-text-i-eq10 c = sym (end_here _ c.loop-i.i (omega arith) c.if-text-i-eq10.true) ∙ c.loop-i.invariant

pub loop-i-preserved : goal.loop-i-preserved
loop-i-preserved c = sym (end_next _ c.loop-i.i (omega arith) c.if-text-i-eq10.false) ∙ c.loop-i.invariant

pub returns : goal.returns
returns c = c.max.ensures ∙ end_walked _ _ c.loop-i.i c.loop-i-test.false c.loop-i.auto.i-end c.loop-i.invariant
