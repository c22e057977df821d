use Rattle.copying.proofs.Stretches.{as_is_keeps, copying_start, copying_turn, copying_end}
use Rattle.copying.specs.Copies.{as_is}
use native.Mathlib.Omega.{arith}
use Rattle.copying.proofs.heads.copy_rows.Goals as goal

pub loop-init : goal.loop-init
loop-init c = copying_start _ _ _ _ _ _

pub loop-preserved : goal.loop-preserved
unfolding as_is
loop-preserved c = copying_turn _ _ _ as_is_keeps c.loop.invariant (omega arith) c.copy_cells.ensures c.place_after-start.ensures c.place_after-place.ensures

pub shape_of-to : goal.shape_of-to
shape_of-to c = c.loop.invariant.same

pub returns : goal.returns
returns c = copying_end c.loop.invariant (omega arith)
