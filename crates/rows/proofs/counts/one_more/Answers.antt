-- `rows::counts::one_more` meets its contract: a kind past the thirteen has no cell, and a full cell stays.
-- Assumes nothing.
use native.Mathlib.Omega.{arith}
use Rattle.rows.proofs.Tallies.{one_more_past, one_more_kept}
use mathlib.Core.Path.{sym}
use Rattle.rows.proofs.counts.one_more.Goals as goal

pub returns-then-kind-lt-KINDS : goal.returns-then-kind-lt-KINDS
returns-then-kind-lt-KINDS c = rw c.saturating_add.ensures (one_more_kept c.args.counts c.args.kind (omega arith))

pub returns-else-kind-lt-KINDS : goal.returns-else-kind-lt-KINDS
returns-else-kind-lt-KINDS c = sym (one_more_past _ _ (omega arith))
