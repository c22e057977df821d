use native.Mathlib.Omega.{arith}
use Rattle.releases.proofs.Starting.{end_here, end_next, end_walked, end_start}
use mathlib.Core.Path.{sym, ◌∙◌}
use Rattle.releases.proofs.starts.object_end.Goals as goal

pub loop-j-init : goal.loop-j-init
loop-j-init c = end_start _ _ _ _

pub returns-then-is_other : goal.returns-then-is_other
returns-then-is_other c = end_here _ _ _ _ c.loop-j.j (omega arith) (sym c.if-is_other.true ∙ c.is_other.ensures) c.loop-j.invariant

pub loop-j-preserved : goal.loop-j-preserved
loop-j-preserved c = end_next _ _ _ _ c.loop-j.j (omega arith) (sym c.if-is_other.false ∙ c.is_other.ensures) c.loop-j.invariant

pub returns : goal.returns
returns c = c.max.ensures ∙ end_walked _ _ _ _ c.loop-j.j c.loop-j-test.false c.loop-j.auto.j-end c.loop-j.invariant
