use Rattle.merging.proofs.Moving.{move_more, move_end}
use native.Mathlib.Omega.{arith}
use mathlib.Core.Path.{refl}
use Rattle.merging.proofs.objects.move_rows.Goals as goal

pub returns-then-end-gt-ROWS : goal.returns-then-end-gt-ROWS
returns-then-end-gt-ROWS c = λ a b. absurd (omega arith)

pub returns-then-to-gt-ROWS : goal.returns-then-to-gt-ROWS
returns-then-to-gt-ROWS c = λ a b. absurd (omega arith)

pub loop-k-init : goal.loop-k-init
loop-k-init c = (omega arith, omega arith, refl)

pub loop-k-preserved : goal.loop-k-preserved
loop-k-preserved c = (omega arith, omega arith, move_more _ _ _ _ _ _ _ (c.loop-k.k) (c.loop-k.row) (omega arith) c.move_row.ensures (c.loop-k.invariant.2))

pub returns : goal.returns
returns c = λ a b. record { table = move_end _ _ _ _ _ _ (c.loop-k.k) (c.loop-k.row) (omega arith) (c.loop-k.invariant.2); row = omega arith }
