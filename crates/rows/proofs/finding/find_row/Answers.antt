-- `rows::finding::find_row` meets its contract: searching from i on gives what searching from the start does.
-- Assumes nothing.
use native.Mathlib.Omega.{arith}
use Rattle.rows.proofs.Searches.{row_stop, row_more, row_end}
use Rattle.rows.proofs.Starts.{start_next}
use lib.ListN.{length}
use mathlib.Core.Path.{sym, ◌∙◌, ap}
use Prim.Native.Nat.{◌+◌, min}
use Rattle.rows.proofs.finding.find_row.Goals as goal

pub returns-then-cell-key : goal.returns-then-cell-key
returns-then-cell-key c = sym (row_stop _ _ _ _ _ c.loop-i.i c.loop-i.at (omega arith) c.loop-i.invariant.0 (sym c.cell.ensures ∙ c.if-cell-key.true)) ∙ c.loop-i.invariant.1

pub loop-i-preserved : goal.loop-i-preserved
loop-i-preserved c = (c.place_after-at.ensures ∙ ap (λ k. min (length c.args.t.now) (k + c.args.width)) c.loop-i.invariant.0 ∙ start_next _ _ c.loop-i.i, sym (row_more _ _ _ _ _ c.loop-i.i c.loop-i.at (omega arith) c.loop-i.invariant.0 (λ e. c.if-cell-key.false (c.cell.ensures ∙ e))) ∙ c.loop-i.invariant.1)

pub returns : goal.returns
returns c = sym (row_end _ _ _ _ _ c.loop-i.i (omega arith)) ∙ c.loop-i.invariant.1
