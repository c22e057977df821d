use native.Mathlib.Omega.{arith}
use Rattle.expecting.proofs.Telling.{told_first, told_more, tells_all}
use lib.ListN.{length-set, replicate}
use mathlib.Core.Bool.{false}
use mathlib.Core.Path.{refl}
use Rattle.expecting.proofs.flags.Goals as goal

pub goes_on-named-requires : goal.goes_on-named-requires
goes_on-named-requires c = (c.requires.1.0, c.requires.1.1, omega arith)

pub loop-i-init : goal.loop-i-init
loop-i-init c = (omega arith, omega arith, refl, refl, c.goes_on-named.ensures, told_first (replicate 29 false) (omega arith) c.requires.0.1 c.goes_on-named.ensures)

pub is_expected-requires : goal.is_expected-requires
is_expected-requires c = (c.requires.1.0, omega (arith, c.loop-i.invariant.3, c.requires.1.1), omega arith)

pub loop-i-preserved : goal.loop-i-preserved
loop-i-preserved c = (omega arith, omega arith, simp length-set (c.loop-i.invariant.2), omega (arith, c.loop-i.invariant.3), c.loop-i.invariant.4, told_more (omega (arith, c.loop-i.invariant.2)) c.loop-i.invariant.0 c.requires.0.1 c.loop-i.invariant.4 c.is_expected.ensures c.loop-i.invariant.5)

pub ends-requires : goal.ends-requires
ends-requires c = (c.requires.1.0, omega (arith, c.loop-i.invariant.3, c.requires.1.1), omega arith)

pub shape_of-scratch : goal.shape_of-scratch
shape_of-scratch c = omega (arith, c.loop-i.invariant.3)

pub returns : goal.returns
returns c = tells_all (omega (arith, c.loop-i.invariant.2)) (omega arith) c.requires.0 c.loop-i.invariant.5 c.ends.ensures
