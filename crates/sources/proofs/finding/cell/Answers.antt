use mathlib.Core.Path.{sym}
use native.Mathlib.Omega.{arith}
use Rattle.rows.proofs.Starts.{cell_past}
use Rattle.sources.proofs.finding.cell.Goals as goal

pub returns-then-i-ge-TEXTS : goal.returns-then-i-ge-TEXTS
returns-then-i-ge-TEXTS c = sym (cell_past c.args.marks c.args.i (omega arith))
