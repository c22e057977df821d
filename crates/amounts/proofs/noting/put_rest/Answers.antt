-- `amounts::noting::put_rest` meets its contract: the numbers that are left decide the whole.
-- Assumes nothing.
use native.Mathlib.Omega.{arith}
use Rattle.scopes.proofs.Ranging.{turn_on}
use Rattle.amounts.proofs.Listings.{start, stop, end, fails, more}
use Rattle.amounts.proofs.noting.put_rest.Goals as goal

pub loop-at-init : goal.loop-at-init
loop-at-init c = start _ _ _ _ _ c.requires

pub shape_of-l-then-s-ne44 : goal.shape_of-l-then-s-ne44
shape_of-l-then-s-ne44 c = c.loop-at.invariant.size

pub returns-then-s-ne44 : goal.returns-then-s-ne44
returns-then-s-ne44 c = stop _ _ _ _ _ _ _ _ c.loop-at.invariant _ c.comma_at-s.ensures c.if-s-ne44.true

pub shape_of-l-then-not-has_key : goal.shape_of-l-then-not-has_key
shape_of-l-then-not-has_key c = c.loop-at.invariant.size

pub returns-then-not-has_key : goal.returns-then-not-has_key
returns-then-not-has_key c = fails _ _ _ _ _ _ _ _ c.loop-at.invariant

pub shape_of-l-then-l-i : goal.shape_of-l-then-l-i
shape_of-l-then-l-i c = c.loop-at.invariant.size

pub returns-then-l-i : goal.returns-then-l-i
returns-then-l-i c = fails _ _ _ _ _ _ _ _ c.loop-at.invariant

pub offset_bounds-l-i : goal.offset_bounds-l-i
offset_bounds-l-i c = omega (arith, c.loop-at.invariant.size, c.loop-at.invariant.inside)

pub bounds-l-i : goal.bounds-l-i
bounds-l-i c = omega (arith, c.if-l-i.false)

pub loop-at-smaller : goal.loop-at-smaller
loop-at-smaller c = omega (arith, turn_on _ _ _ _ c.comma_at-s.ensures c.if-s-ne44.false c.item_at-x.ensures, c.loop-at-test.true)

pub loop-at-preserved : goal.loop-at-preserved
loop-at-preserved c = more _ _ _ _ _ _ _ _ c.loop-at.invariant _ _ c.comma_at-s.ensures c.if-s-ne44.false c.item_at-x.ensures _ c.has_key.ensures c.if-not-has_key.false c.if-l-i.false _ c.key.ensures

pub shape_of-l : goal.shape_of-l
shape_of-l c = c.loop-at.invariant.size

pub returns : goal.returns
returns c = end _ _ _ _ _ _ _ _ c.loop-at.invariant c.loop-at-test.false
