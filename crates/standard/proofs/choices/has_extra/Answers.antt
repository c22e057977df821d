use native.Mathlib.Omega.{arith}
use Rattle.standard.proofs.Choosing.{extra_here, extra_on, extra_past}
use Rattle.standard.proofs.choices.has_extra.Goals as goal

pub returns-then-is_extra : goal.returns-then-is_extra
returns-then-is_extra c = extra_here _ _ _ _ _ _ _ _ _ c.loop-i.invariant _ c.is_extra.ensures (omega arith) c.if-is_extra.true

pub loop-i-preserved : goal.loop-i-preserved
loop-i-preserved c = extra_on _ _ _ _ _ _ _ _ _ c.loop-i.invariant _ c.is_extra.ensures (omega arith) c.if-is_extra.false

pub returns : goal.returns
returns c = extra_past _ _ _ _ _ _ _ _ _ c.loop-i.invariant (omega arith)
