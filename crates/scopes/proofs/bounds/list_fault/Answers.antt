use mathlib.Core.Path.{◌∙◌}
use native.Mathlib.Omega.{arith}
use borrow.Author.Rules.{rules}
use lib.ListN.{length}
use Prim.Native.Nat.{◌-◌}
use borrow.Author.Tests.{not-true, not-false}
use Rattle.scopes.specs.Items.{integer_coded}
use Rattle.scopes.proofs.Ranging.{SeekingOut, out_start, out_stop, out-hit, out-on, out_end, turn_on}
use mathlib.Core.Path.{ap}
use Rattle.std.specs.Prelude.{Some}
use Rattle.scopes.proofs.bounds.list_fault.Goals as goal

pub loop-at-init : goal.loop-at-init
loop-at-init c = out_start _ _ _

pub returns-then-s-ne44 : goal.returns-then-s-ne44
returns-then-s-ne44 c = out_stop _ _ _ _ c.loop-at.invariant _ c.comma_at-s.ensures c.if-s-ne44.true

pub returns-then-not-in_type : goal.returns-then-not-in_type
returns-then-not-in_type c = λ ws l. ap Some c.wrong_bound.ensures ∙ out-hit _ _ _ _ c.loop-at.invariant _ _ c.comma_at-s.ensures c.if-s-ne44.false c.item_at-x.ensures _ c.in_type.ensures c.if-not-in_type.true ws l

pub loop-at-smaller : goal.loop-at-smaller
loop-at-smaller c = omega (arith, turn_on _ _ _ _ c.comma_at-s.ensures c.if-s-ne44.false c.item_at-x.ensures, c.loop-at-test.true)

pub loop-at-preserved : goal.loop-at-preserved
loop-at-preserved c = out-on _ _ _ _ c.loop-at.invariant _ _ c.comma_at-s.ensures c.if-s-ne44.false c.item_at-x.ensures _ c.in_type.ensures c.if-not-in_type.false

pub returns : goal.returns
returns c = out_end _ _ _ _ c.loop-at.invariant c.loop-at-test.false
