use mathlib.Core.Path.{◌∙◌}
use Rattle.writing.proofs.Writes.{wrote_length}
use Rattle.mending.proofs.Piecing.{saying_start, saying_size, saying_past, saying_on, next_after}
use native.Mathlib.Omega.{arith}
use Rattle.mending.proofs.telling.put_lines.Goals as goal

pub loop-p-init : goal.loop-p-init
loop-p-init c = saying_start _ _ _ c.put_bytes-at.ensures

pub loop-p-preserved : goal.loop-p-preserved
loop-p-preserved c = saying_on c.loop-p.invariant c.loop-p-test.true c.next-p.ensures c.put_line_at-at.ensures

pub shape_of-out : goal.shape_of-out
shape_of-out c = saying_size c.loop-p.invariant ∙ wrote_length c.put_bytes-at.ensures

pub returns : goal.returns
returns c = saying_past c.loop-p.invariant c.loop-p-test.false c.put_bytes-at.ensures

pub loop-p-smaller : goal.loop-p-smaller
loop-p-smaller c = omega (arith, next_after _ _ _ _ c.loop-p-test.true c.next-p.ensures, c.loop-p-test.true)
