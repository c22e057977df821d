use mathlib.Core.Bool.{not}
use mathlib.Core.Path.{ap}
use native.Mathlib.Omega.{arith}
use Rattle.standard.proofs.Spanning.{all_start, all_stop, all_end, all-not, all-on}
use Rattle.scopes.proofs.Ranging.{turn_on}
use Rattle.standard.proofs.spans.all_listed.Goals as goal

pub loop-at-init : goal.loop-at-init
loop-at-init c = all_start _ _

pub returns-then-s-ne44 : goal.returns-then-s-ne44
returns-then-s-ne44 c = all_stop _ _ _ c.loop-at.invariant _ c.item_at-s.ensures c.if-s-ne44.true

pub returns-then-not-is_one_or_two : goal.returns-then-not-is_one_or_two
returns-then-not-is_one_or_two c = all-not _ _ _ c.loop-at.invariant _ _ c.item_at-s.ensures c.if-s-ne44.false c.item_at-x.ensures _ c.is_one_or_two.ensures (ap not c.if-not-is_one_or_two.true)

pub loop-at-smaller : goal.loop-at-smaller
loop-at-smaller c = omega (arith, turn_on _ _ _ _ c.item_at-s.ensures c.if-s-ne44.false c.item_at-x.ensures, c.loop-at-test.true)

pub loop-at-preserved : goal.loop-at-preserved
loop-at-preserved c = all-on _ _ _ c.loop-at.invariant _ _ c.item_at-s.ensures c.if-s-ne44.false c.item_at-x.ensures _ c.is_one_or_two.ensures (ap not c.if-not-is_one_or_two.false)

pub returns : goal.returns
returns c = all_end _ _ _ c.loop-at.invariant c.loop-at-test.false
