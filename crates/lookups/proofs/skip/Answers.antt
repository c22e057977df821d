use Rattle.lookups.proofs.Blocks.{next_later, skips_none, skips_more}
use native.Mathlib.Omega.{arith}
use Rattle.lookups.proofs.skip.Goals as goal

pub loop-k-init : goal.loop-k-init
loop-k-init c = ((omega (arith, c.min.ensures, c.min-limit.ensures), omega (arith, c.min.ensures, c.min-limit.ensures), omega (arith, c.min.ensures, c.min-limit.ensures)), skips_none _ _ _ _ _)

pub returns-then-h-k : goal.returns-then-h-k
returns-then-h-k c = c.loop-k.invariant.1

pub loop-k-smaller : goal.loop-k-smaller
loop-k-smaller c = omega (arith, next_later c.args.st.now c.loop-k.k c.args.end _ c.next_row-k.ensures (omega arith))

pub loop-k-preserved : goal.loop-k-preserved
loop-k-preserved c = (c.loop-k.invariant.0, skips_more _ _ _ _ _ _ _ c.loop-k.invariant.1 (omega arith) (omega arith) c.if-h-k.false c.next_row-k.ensures)

pub returns : goal.returns
returns c = c.loop-k.invariant.1
