use mathlib.Core.Path.{sym, ◌∙◌}
use native.Mathlib.Omega.{arith}
use Rattle.sources.proofs.Singles.{line_here, line_back, line_first}
use Rattle.sources.proofs.scan.line_start.Goals as goal

pub returns-then-text-i-eq10 : goal.returns-then-text-i-eq10
returns-then-text-i-eq10 c = sym (line_here _ c.loop-i.i (omega arith) c.if-text-i-eq10.true) ∙ c.loop-i.invariant

pub loop-i-preserved : goal.loop-i-preserved
loop-i-preserved c = sym (line_back _ c.loop-i.i (omega arith) c.if-text-i-eq10.false) ∙ c.loop-i.invariant

pub returns : goal.returns
returns c = sym (line_first _ c.loop-i.i (omega arith)) ∙ c.loop-i.invariant
