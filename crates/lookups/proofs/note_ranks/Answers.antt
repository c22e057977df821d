-- `lookups::note_ranks` meets its contract.
-- Assumes nothing.
use native.Mathlib.Omega.{arith}
use Rattle.lookups.proofs.Notes.{noted_none, noted_more, noted_all}
use lib.ListN.{length-set}
use mathlib.Core.Path.{refl}
use Rattle.lookups.proofs.note_ranks.Goals as goal

pub loop-rank-init : goal.loop-rank-init
loop-rank-init c = (omega arith, refl, omega arith, noted_none _ _ _ _ _ _ _)

pub loop-rank-preserved : goal.loop-rank-preserved
loop-rank-preserved c = (simp length-set (omega arith), simp length-set c.loop-rank.invariant.1, omega (arith, c.place_after-start.ensures), noted_more _ _ _ _ _ _ _ _ _ _ _ _ _ c.loop-rank.invariant.3 (omega arith) c.place_after-second.ensures c.loop-rank.invariant.2 c.cell-p.ensures c.cell-n.ensures c.rank.ensures)

pub shape_of-h : goal.shape_of-h
shape_of-h c = c.loop-rank.invariant.1

pub returns : goal.returns
returns c = noted_all _ _ _ _ _ _ _ _ c.loop-rank.invariant.3 (omega arith)
