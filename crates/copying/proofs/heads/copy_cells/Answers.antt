use Rattle.copying.proofs.Stretches.{cells_start, cells_turn, cells_past, cells_end}
use lib.ListN.{length-set}
use mathlib.Core.Path.{refl, ◌∙◌}
use native.Mathlib.Omega.{arith}
use Rattle.copying.proofs.heads.copy_cells.Goals as goal

pub loop-i-init : goal.loop-i-init
loop-i-init c = (refl, cells_start _ _ _ _ _)

pub shape_of-to-then-to-j : goal.shape_of-to-then-to-j
shape_of-to-then-to-j c = c.loop-i.invariant.0

pub returns-then-to-j : goal.returns-then-to-j
returns-then-to-j c = cells_past _ _ c.loop-i.j c.args.at c.args.count c.loop-i.i (omega arith) ∙ c.loop-i.invariant.1

pub loop-i-preserved : goal.loop-i-preserved
loop-i-preserved c = (simp length-set c.loop-i.invariant.0, cells_turn _ _ c.loop-i.j c.args.at c.args.count c.loop-i.i _ _ (omega arith) c.cell-v.ensures c.loop-i.invariant.1)

pub shape_of-to : goal.shape_of-to
shape_of-to c = c.loop-i.invariant.0

pub returns : goal.returns
returns c = cells_end _ _ c.loop-i.j c.args.at c.args.count c.loop-i.i (omega arith) ∙ c.loop-i.invariant.1
