use Rattle.mending.proofs.Piecing.{seeking_start, seeking_past, seeking_found, seeking-on, next_after}
use native.Mathlib.Omega.{arith}
use Rattle.mending.proofs.walking.place_back.Goals as goal

pub loop-p-init : goal.loop-p-init
loop-p-init c = seeking_start _ _ _

pub returns-then-is_here : goal.returns-then-is_here
returns-then-is_here c = seeking_found c.loop-p.invariant c.loop-p-test.true _ c.is_here.ensures c.if-is_here.true

pub loop-p-preserved : goal.loop-p-preserved
loop-p-preserved c = seeking-on c.loop-p.invariant c.loop-p-test.true _ c.is_here.ensures c.if-is_here.false _ _ c.left_after-left.ensures c.next-p.ensures

pub returns : goal.returns
returns c = seeking_past c.loop-p.invariant c.loop-p-test.false

pub loop-p-smaller : goal.loop-p-smaller
loop-p-smaller c = omega (arith, next_after _ _ _ _ c.loop-p-test.true c.next-p.ensures, c.loop-p-test.true)
