use Rattle.lookups.proofs.Blocks.{next_later, firsts_more}
use native.Mathlib.Omega.{arith}
use mathlib.Core.Path.{refl, ◌∙◌}
use Rattle.lookups.proofs.note_firsts.Goals as goal

pub loop-k-init : goal.loop-k-init
loop-k-init c = ((omega (arith, c.min.ensures, c.min-limit.ensures), omega (arith, c.min.ensures, c.min-limit.ensures), omega (arith, c.min.ensures, c.min-limit.ensures)), refl, c.requires)

pub loop-k-smaller : goal.loop-k-smaller
loop-k-smaller c = omega (arith, next_later c.args.st.now c.loop-k.k c.args.end _ c.next_row-k.ensures (omega arith))

pub loop-k-preserved : goal.loop-k-preserved
loop-k-preserved c = (c.loop-k.invariant.0, c.note_first.auto.first ∙ c.loop-k.invariant.1, firsts_more _ _ _ _ _ _ _ _ c.loop-k.invariant.2 (omega arith) (omega arith) c.note_first.ensures c.next_row-k.ensures)

pub shape_of-first : goal.shape_of-first
shape_of-first c = c.loop-k.invariant.1

pub returns : goal.returns
returns c = c.loop-k.invariant.2
