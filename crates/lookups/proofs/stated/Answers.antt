use Rattle.lookups.proofs.Blocks.{onward_start, onward_stop, onward_more, onward_end, skips_later}
use native.Mathlib.Omega.{arith}
use Rattle.lookups.proofs.stated.Goals as goal

pub loop-k-init : goal.loop-k-init
loop-k-init c = onward_start _ _ _ _ _ _ _ _ _ c.skip-k.ensures

pub returns-then-same_part : goal.returns-then-same_part
returns-then-same_part c = onward_stop _ _ _ _ _ _ _ _ _ _ _ c.loop-k.invariant (omega arith) _ c.cell_of-place.ensures c.cell_of-size.ensures c.same_part.ensures c.if-same_part.true

pub loop-k-smaller : goal.loop-k-smaller
loop-k-smaller c = omega (arith, skips_later c.args.st.now c.args.h.now c.loop-k.k c.args.end _ _ _ (omega arith) c.after.ensures c.skip-k-in-loop-k.ensures)

pub loop-k-preserved : goal.loop-k-preserved
loop-k-preserved c = onward_more _ _ _ _ _ _ _ _ _ _ _ c.loop-k.invariant (omega arith) _ c.cell_of-place.ensures c.cell_of-size.ensures c.same_part.ensures c.if-same_part.false _ _ c.after.ensures c.skip-k-in-loop-k.ensures

pub returns : goal.returns
returns c = onward_end _ _ _ _ _ _ _ _ _ c.loop-k.invariant (omega arith)
