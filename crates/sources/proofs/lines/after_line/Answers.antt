use mathlib.Core.Path.{sym}
use native.Mathlib.Omega.{arith}
use Rattle.sources.proofs.Singles.{after_inside, after_past}
use Rattle.sources.proofs.lines.after_line.Goals as goal

pub returns-then-end-text : goal.returns-then-end-text
returns-then-end-text c = sym (after_inside _ _ (omega arith))

pub returns : goal.returns
returns c = sym (after_past _ _ (omega arith))
