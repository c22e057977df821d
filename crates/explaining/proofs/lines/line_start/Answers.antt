-- `explaining::lines::line_start` meets its contract: the line of each place passed starts where the place's own does.
-- Assumes nothing.
use Rattle.explaining.proofs.Starts.{start_here, start_back, start_none}
use Prim.Native.Nat.{◌+◌, ◌-◌}
use native.Mathlib.Omega.{arith}
use mathlib.Core.Path.{◌≡◌, ◌∙◌, sym}
use Rattle.explaining.proofs.lines.line_start.Goals as goal

pub loop-i-preserved : goal.loop-i-preserved
loop-i-preserved c = sym (start_back _ c.loop-i.i c.loop-i-test.true c.if-text-i-eq10.false) ∙ c.loop-i.invariant

pub returns-then-text-i-eq10 : goal.returns-then-text-i-eq10
returns-then-text-i-eq10 c =
    let e : c.loop-i.i - 1 + 1 ≡ c.loop-i.i = omega (arith, c.loop-i-test.true) in
    e ∙ sym (start_here _ c.loop-i.i c.loop-i-test.true c.if-text-i-eq10.true) ∙ c.loop-i.invariant

pub returns : goal.returns
returns c = sym (start_none _ c.loop-i.i c.loop-i-test.false) ∙ c.loop-i.invariant
