use native.Mathlib.Omega.{arith}
use Rattle.placing.proofs.Rowwise.{place_none, place_some, inside}
use mathlib.Core.Path.{sym, ◌∙◌}
use Rattle.placing.proofs.place_at.Goals as goal

pub returns-then-cell-eq0 : goal.returns-then-cell-eq0
returns-then-cell-eq0 c = place_none _ _ _ (sym c.cell.ensures ∙ c.if-cell-eq0.true)

pub offset_bounds-table-at : goal.offset_bounds-table-at
offset_bounds-table-at c = let h = inside c.args.at c.args.table.now (λ z. c.if-cell-eq0.false (c.cell.ensures ∙ z)) in omega arith

pub bounds-table-at : goal.bounds-table-at
bounds-table-at c = let h = inside c.args.at c.args.table.now (λ z. c.if-cell-eq0.false (c.cell.ensures ∙ z)) in omega arith

pub offset_bounds-table-at-2 : goal.offset_bounds-table-at-2
offset_bounds-table-at-2 c = let h = inside c.args.at c.args.table.now (λ z. c.if-cell-eq0.false (c.cell.ensures ∙ z)) in omega arith

pub bounds-table-at-2 : goal.bounds-table-at-2
bounds-table-at-2 c = let h = inside c.args.at c.args.table.now (λ z. c.if-cell-eq0.false (c.cell.ensures ∙ z)) in omega arith

pub returns : goal.returns
returns c = place_some _ _ _ _ (λ z. c.if-cell-eq0.false (c.cell.ensures ∙ z)) c.place_in.ensures
