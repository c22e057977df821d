use native.Mathlib.Omega.{arith}
use Rattle.sources.proofs.Namings.{closing_open, closing_more, closing_is}
use Rattle.sources.proofs.lines.closing.Goals as goal

pub returns-then-line-close : goal.returns-then-line-close
returns-then-line-close c = closing_open _ _ _ _ c.find_byte-close.ensures (omega arith)

pub returns-then-end-line : goal.returns-then-end-line
returns-then-end-line c = closing_is _ _ _ _ _ c.find_byte-close.ensures (omega arith) c.aside-end.ensures c.if-end-line.true

pub returns : goal.returns
returns c = closing_more _ _ _ _ _ c.find_byte-close.ensures (omega arith) c.aside-end.ensures c.if-end-line.false
