use native.Mathlib.Omega.{arith}
use Rattle.placing.proofs.Rowwise.{first_row, row_next, column_start, column_next, column_end}
use mathlib.Core.Path.{refl, sym, ◌∙◌, ap}
use Prim.Native.Nat.{ℕ, ◌+◌}
use Rattle.placing.proofs.place_column.Goals as goal

pub loop-init : goal.loop-init
loop-init c = (omega arith, omega arith, sym (first_row _ _), refl, column_start _ _ _ _)

pub loop-preserved : goal.loop-preserved
loop-preserved c = (omega arith, omega arith, ap (λ (k : ℕ). k + c.args.width) c.loop.invariant.2 ∙ row_next _ _ _, omega arith, column_next _ _ _ _ _ _ _ _ c.loop.invariant.2 c.loop.invariant.4 c.place_at.ensures)

pub returns : goal.returns
returns c = column_end _ _ _ _ _ _ _ (omega arith) c.loop.invariant.4
