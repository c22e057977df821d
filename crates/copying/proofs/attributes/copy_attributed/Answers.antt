use Rattle.copying.proofs.Stretches.{attributed_keeps, copying_start, copying_turn, copying_end}
use native.Mathlib.Omega.{arith}
use Rattle.copying.proofs.attributes.copy_attributed.Goals as goal

pub loop-init : goal.loop-init
loop-init c = copying_start _ _ 3 3 _ _

pub loop-preserved : goal.loop-preserved
loop-preserved c = copying_turn _ _ _ (attributed_keeps _ _) c.loop.invariant (omega arith) c.copy_enumerator.ensures c.place_after-start.ensures c.place_after-place.ensures

pub shape_of-out : goal.shape_of-out
shape_of-out c = c.loop.invariant.same

pub returns : goal.returns
returns c = copying_end c.loop.invariant (omega arith)
