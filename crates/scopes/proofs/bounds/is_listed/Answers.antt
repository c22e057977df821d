use native.Mathlib.Omega.{arith}
use borrow.Author.Rules.{rules}
use lib.ListN.{length}
use Prim.Native.Nat.{◌-◌}
use Rattle.scopes.specs.Items.{num}
use Rattle.scopes.proofs.Ranging.{Seeking, listed_start, listed_stop, listed-hit, listed-on, listed_end, turn_on}
use Rattle.scopes.proofs.bounds.is_listed.Goals as goal

pub loop-at-init : goal.loop-at-init
loop-at-init c = listed_start _ _ _

pub returns-then-s-ne44 : goal.returns-then-s-ne44
returns-then-s-ne44 c = listed_stop _ _ _ _ c.loop-at.invariant _ c.comma_at-s.ensures c.if-s-ne44.true

pub returns-then-equal : goal.returns-then-equal
returns-then-equal c = listed-hit _ _ _ _ c.loop-at.invariant _ _ c.comma_at-s.ensures c.if-s-ne44.false c.item_at-x.ensures _ c.equal.ensures c.if-equal.true

pub loop-at-smaller : goal.loop-at-smaller
loop-at-smaller c = omega (arith, turn_on _ _ _ _ c.comma_at-s.ensures c.if-s-ne44.false c.item_at-x.ensures, c.loop-at-test.true)

pub loop-at-preserved : goal.loop-at-preserved
loop-at-preserved c = listed-on _ _ _ _ c.loop-at.invariant _ _ c.comma_at-s.ensures c.if-s-ne44.false c.item_at-x.ensures _ c.equal.ensures c.if-equal.false

pub returns : goal.returns
returns c = listed_end _ _ _ _ c.loop-at.invariant c.loop-at-test.false
