-- `judging::marking::marks` meets its contract.
-- Assumes nothing.
use Rattle.judging.proofs.Lacking.{marks_start, marks_more, marks_past}
use lib.ListN.{length, length-set, replicate}
use Prim.Native.Nat.{◌<◌}
use mathlib.Core.Path.{refl, sym, ◌∙◌}
use native.Mathlib.Omega.{arith}
use Rattle.judging.proofs.marking.marks.Goals as goal

pub loop-j-init : goal.loop-j-init
loop-j-init c = (refl, λ o f c'. marks_start f (replicate 512 0))

pub returns-then-j-ge-MOST : goal.returns-then-j-ge-MOST
returns-then-j-ge-MOST c = λ o f c'. marks_past f c.loop-j.missing c.loop-j.j _ (omega (arith, c'.tables.definitions_fit, c.if-j-ge-MOST.true)) (c.loop-j.invariant.1 o f c')

pub slice_bounds-needs-end : goal.slice_bounds-needs-end
slice_bounds-needs-end c = sym c.loop-j.invariant.0

pub needs-m-requires : goal.needs-m-requires
needs-m-requires c = c.requires

pub bounds-missing-j : goal.bounds-missing-j
bounds-missing-j c = omega arith

pub loop-j-preserved : goal.loop-j-preserved
loop-j-preserved c =
    let h : c.loop-j.j < length c.loop-j.missing = omega (arith, c.loop-j.invariant.0, c.if-j-ge-MOST.false) in
    (length-set c.loop-j.missing c.loop-j.j c.needs-m.result ∙ c.loop-j.invariant.0, λ o f c'. marks_more c.loop-j.missing c.loop-j.j c.needs-m.result c' h c.needs-m.ensures (c.loop-j.invariant.1 o f c'))

pub returns : goal.returns
returns c = λ o f c'. marks_past f c.loop-j.missing c.loop-j.j _ (omega arith) (c.loop-j.invariant.1 o f c')
