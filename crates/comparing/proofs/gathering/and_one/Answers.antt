-- `comparing::gathering::and_one` meets its contract: the record is stored where it has a place, and counted.
-- Assumes nothing.
-- src/gathering.rt:33:9
use native.Mathlib.Omega.{arith}
use Rattle.comparing.proofs.Tellings.{told_first, told_later}
use Rattle.comparing.proofs.gathering.and_one.Goals as goal

-- src/gathering.rt:35:9
pub returns-then-at-lt-RECORDS : goal.returns-then-at-lt-RECORDS
returns-then-at-lt-RECORDS c = λ ds t. told_first ds c.args.d c.args.found (omega arith) c.if-at-lt-RECORDS.true t

-- src/gathering.rt:39:9
pub returns-then-at-lt-CAP : goal.returns-then-at-lt-CAP
returns-then-at-lt-CAP c = λ ds t. told_later ds _ c.args.found _ (omega arith) (omega arith) t

-- src/gathering.rt:27:1
pub returns : goal.returns
returns c = λ ds t. told_later ds _ c.args.found _ (omega arith) (let e = t.total in omega (arith, e, c.if-at-lt-CAP.false)) t
