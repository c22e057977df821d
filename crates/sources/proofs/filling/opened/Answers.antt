use native.Mathlib.Omega.{arith}
use Rattle.sources.proofs.Singles.{set_past}
use Rattle.sources.proofs.filling.opened.Goals as goal

pub returns-then-number-ge-TEXTS : goal.returns-then-number-ge-TEXTS
returns-then-number-ge-TEXTS c = set_past c.args.marks c.args.number 1 (omega arith)
