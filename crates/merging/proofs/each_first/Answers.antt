use Rattle.merging.proofs.Turns.{each_start, each_more, each_end}
use Rattle.indexes.proofs.Throughs.{through, through_one, through_two}
use native.Mathlib.Omega.{arith}
use Rattle.merging.proofs.each_first.Goals as goal

pub loop-j-init : goal.loop-j-init
loop-j-init c = through (each_start _ _ _ _ _)

pub loop-j-preserved : goal.loop-j-preserved
loop-j-preserved c = through_two (omega arith) (λ k h. each_more _ _ _ _ _ _ _ (c.loop-j.j) _ (omega arith) c.put_cells.ensures h k) (c.loop-j.invariant) c.first_part-i.ensures

pub returns : goal.returns
returns c = through_one (each_end _ _ _ _ _ _ (c.loop-j.j) (omega arith)) (c.loop-j.invariant)
