use Rattle.judging.proofs.Finding.{under_stop, under_more}
use Rattle.rows.proofs.Searches.{row_end}
use Rattle.rows.specs.Search.{find_row}
use native.Mathlib.Omega.{arith}
use mathlib.Core.Path.{refl, sym, ◌∙◌}
use Rattle.judging.proofs.marking.find_under.Goals as goal

pub returns-then-n-gt-MOST : goal.returns-then-n-gt-MOST
returns-then-n-gt-MOST c = c.find_row.ensures

pub returns-then-d-lt-MOST_CELLS : goal.returns-then-d-lt-MOST_CELLS
returns-then-d-lt-MOST_CELLS c = c.find_row-then-d-lt-MOST_CELLS.ensures

pub returns-then-n-i : goal.returns-then-n-i
returns-then-n-i c = sym (row_end _ _ _ _ _ _ c.if-n-i.true)

pub loop-k-init : goal.loop-k-init
loop-k-init c = (omega arith, omega arith, refl, refl)

pub bounds-d-p : goal.bounds-d-p
bounds-d-p c = omega arith

pub returns-then-d-p : goal.returns-then-d-p
returns-then-d-p c = sym (under_stop _ _ _ c.loop-k.k c.loop-k.p (omega arith) c.loop-k.invariant.0 c.loop-k.invariant.1 c.loop-k.invariant.2 c.if-d-p.true) ∙ c.loop-k.invariant.3

pub loop-k-preserved : goal.loop-k-preserved
loop-k-preserved c = (c.loop-k.invariant.0, c.loop-k.invariant.1, omega arith, sym (under_more _ _ _ c.loop-k.k c.loop-k.p (omega arith) c.loop-k.invariant.0 c.loop-k.invariant.1 c.loop-k.invariant.2 c.if-d-p.false) ∙ c.loop-k.invariant.3)

pub returns : goal.returns
returns c = sym (row_end _ _ _ _ _ c.loop-k.k (omega arith)) ∙ c.loop-k.invariant.3
