use native.Mathlib.Omega.{arith}
use Rattle.sources.specs.Expanding.{up_from}
use Rattle.sources.proofs.Singles.{end_full, end_on}
use Rattle.sources.proofs.filling.line_end.Goals as goal

pub count_up-requires : goal.count_up-requires
count_up-requires c = omega arith

pub returns-then-at-limit : goal.returns-then-at-limit
unfolding up_from
returns-then-at-limit c = record { next = end_full _ _ _ _ c.if-at-limit.true c.too_long.ensures; bytes = c.put_cells.ensures; origins = c.count_up.ensures }

pub returns : goal.returns
unfolding up_from
returns c = record { next = end_on _ _ _ c.if-at-limit.false; bytes = c.put_cells.ensures; origins = c.count_up.ensures }
