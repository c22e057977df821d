-- `resolving::entering::resolve_objects` meets its contract: at object i, those before it are done.
-- Assumes nothing.
use mathlib.Core.Path.{refl}
use native.Mathlib.Omega.{arith}
use Rattle.resolving.proofs.Objects.{does_start, does_end, does_stop, does_more}
use Rattle.resolving.proofs.entering.resolve_objects.Goals as goal

pub loop-i-init : goal.loop-i-init
loop-i-init c = (refl, does_start)

pub shape_of-v-then-kind-ge-KINDS : goal.shape_of-v-then-kind-ge-KINDS
shape_of-v-then-kind-ge-KINDS c = c.loop-i.invariant.0

pub returns-then-kind-ge-KINDS : goal.returns-then-kind-ge-KINDS
returns-then-kind-ge-KINDS c = does_stop (omega arith) c.cell_of-kind.ensures c.loop-i.invariant.1 (omega arith)

pub resolve-n-requires : goal.resolve-n-requires
resolve-n-requires c = (c.requires)

pub loop-i-preserved : goal.loop-i-preserved
loop-i-preserved c = (omega arith, does_more (omega arith) c.cell_of-kind.ensures c.loop-i.invariant.1 refl c.cell_of-from.ensures c.cell_of-end.ensures c.resolve-n.ensures)

pub shape_of-v : goal.shape_of-v
shape_of-v c = c.loop-i.invariant.0

pub returns : goal.returns
returns c = does_end (omega arith) c.loop-i.invariant.1
