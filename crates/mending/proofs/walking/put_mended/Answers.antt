use Rattle.mending.proofs.Piecing.{copying_start, copying_past, copying_on, next_after}
use native.Mathlib.Omega.{arith}
use Rattle.mending.proofs.walking.put_mended.Goals as goal

pub loop-p-init : goal.loop-p-init
loop-p-init c = copying_start _ _ _

pub put_kept-at-requires : goal.put_kept-at-requires
put_kept-at-requires c = (c.loop-p-test.true, c.loop-p.invariant.low)

pub loop-p-preserved : goal.loop-p-preserved
loop-p-preserved c = copying_on c.loop-p.invariant c.loop-p-test.true _ c.next-p.ensures _ _ c.put_kept-at.ensures

pub shape_of-out : goal.shape_of-out
shape_of-out c = c.loop-p.invariant.size

pub returns : goal.returns
returns c = copying_past c.loop-p.invariant c.loop-p-test.false

pub loop-p-smaller : goal.loop-p-smaller
loop-p-smaller c = omega (arith, next_after _ _ _ _ c.loop-p-test.true c.next-p.ensures, c.loop-p-test.true)
