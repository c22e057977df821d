-- `rows::cells::put_cells` meets its contract: what is stored is as much as there is room for.
-- Assumes nothing.
use native.Mathlib.Omega.{arith}
use Prim.Native.Nat.{◌+◌}
use Rattle.rows.proofs.Stores.{sets_out, stored_next, stored_end}
use lib.ListN.{set}
use mathlib.Core.Path.{sym, ap, ◌∙◌}
use Rattle.rows.proofs.cells.put_cells.Goals as goal

pub loop-i-preserved : goal.loop-i-preserved
loop-i-preserved g c =
    ap (λ l. set l (c.args.at + c.loop-i.i) c.index-cells-i.result) c.loop-i.invariant
    ∙ stored_next c.args.t.now c.args.at c.args.cells.now c.loop-i.i c.index-cells-i.result (omega arith) c.index-cells-i.is

pub returns-after-loop-i : goal.returns-after-loop-i
returns-after-loop-i g c = c.loop-i.invariant ∙ stored_end c.args.t.now c.args.at c.args.cells.now c.loop-i.i (omega arith)

pub returns-else-at-t : goal.returns-else-at-t
returns-else-at-t g c = sym (sets_out c.args.t.now c.args.at c.args.cells.now c.if-at-t.false)
