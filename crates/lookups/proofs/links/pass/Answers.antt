use Prim.Native.Nat.{◌<◌}
use native.Mathlib.Omega.{arith}
use Rattle.lookups.proofs.Blocks.{next_later}
use Rattle.lookups.proofs.Linking.{passes_row, next_by}
use lib.ListN.{length}
use mathlib.Core.Path.{refl}
use Rattle.lookups.proofs.links.pass.Goals as goal

pub loop-p-init : goal.loop-p-init
loop-p-init c = (refl, c.requires.1)

pub loop-p-smaller : goal.loop-p-smaller
loop-p-smaller c = let i : (c.loop-p.p) < length (c.args.h.now) = omega (arith, c.requires.0) in let l = next_later (c.args.st.now) _ _ _ (next_by (c.args.st.now) _ _ _ _ c.cell_of.ensures c.next_row-p.ensures) i in omega (arith, l)

pub loop-p-preserved : goal.loop-p-preserved
loop-p-preserved c = (omega (arith, c.put.auto, c.loop-p.invariant.0), passes_row _ _ _ _ _ _ _ _ _ c.loop-p.invariant.1 (omega (arith, c.requires.0)) c.get-rank.ensures c.get-row.ensures c.put.ensures (next_by (c.args.st.now) _ _ _ _ c.cell_of.ensures c.next_row-p.ensures))

pub shape_of-rows : goal.shape_of-rows
shape_of-rows c = c.loop-p.invariant.0

pub returns : goal.returns
returns c = c.loop-p.invariant.1.rows
