use Rattle.releases.proofs.Telling.{roomed, fitting}
use native.Mathlib.Omega.{arith}
use Rattle.indexes.proofs.Throughs.{room_long}
use mathlib.Core.Path.{refl}
use Rattle.releases.proofs.differences_of.Goals as goal

pub slice_bounds-compare_prepared-end : goal.slice_bounds-compare_prepared-end
slice_bounds-compare_prepared-end c = room_long _ _ (omega (arith, c.least_of-n.ensures))

pub slice_bounds-compare_prepared-end-2 : goal.slice_bounds-compare_prepared-end-2
slice_bounds-compare_prepared-end-2 c = room_long _ _ (omega (arith, c.least_of-m.ensures))

pub slice_bounds-compare_prepared-end-3 : goal.slice_bounds-compare_prepared-end-3
slice_bounds-compare_prepared-end-3 c = room_long _ _ (omega (arith, c.least_of-m.ensures))

pub slice_bounds-compare_prepared-end-4 : goal.slice_bounds-compare_prepared-end-4
slice_bounds-compare_prepared-end-4 c = room_long _ _ (omega (arith, c.least_of-n2.ensures))

pub slice_bounds-compare_prepared-end-5 : goal.slice_bounds-compare_prepared-end-5
slice_bounds-compare_prepared-end-5 c = room_long _ _ (omega (arith, c.least_of-m2.ensures))

pub slice_bounds-compare_prepared-end-6 : goal.slice_bounds-compare_prepared-end-6
slice_bounds-compare_prepared-end-6 c = room_long _ _ (omega (arith, c.least_of-m2.ensures))

pub compare_prepared-requires : goal.compare_prepared-requires
compare_prepared-requires c = fitting c.least_of-n.result c.least_of-n2.result c.least_of-m.result c.least_of-m2.result _ _ _ _ (room_long _ _ (omega (arith, c.least_of-n.ensures))) (room_long _ _ (omega (arith, c.least_of-n2.ensures))) (room_long _ _ (omega (arith, c.least_of-m.ensures))) (room_long _ _ (omega (arith, c.least_of-m2.ensures))) (omega (arith, c.least_of-n.ensures)) (omega (arith, c.least_of-n2.ensures)) (omega (arith, c.least_of-m.ensures)) (omega (arith, c.least_of-m2.ensures))

pub returns : goal.returns
returns c = roomed _ _ _ _ _ _ _ _ _ _ _ _ _ _ _ _ _ _ _ _ _ _ _ _ _ _ _ c.least_of-n.ensures c.least_of-m.ensures refl c.least_of-n2.ensures c.least_of-m2.ensures refl (let e = c.least_of-n.ensures in room_long _ _ (omega (arith, e))) (let e = c.least_of-m.ensures in room_long _ _ (omega (arith, e))) (let e = c.least_of-m.ensures in room_long _ _ (omega (arith, e))) (let e = c.least_of-n2.ensures in room_long _ _ (omega (arith, e))) (let e = c.least_of-m2.ensures in room_long _ _ (omega (arith, e))) (room_long _ _ (omega (arith, c.least_of-m2.ensures))) c.compare_prepared.ensures
