use Rattle.sources.proofs.Plains.{plain_fits, plain_size, copies}
use native.Mathlib.Omega.{arith}
use lib.ListN.{length-take}
use Rattle.sources.proofs.copy_main.Goals as goal

pub bounds-lengths-0 : goal.bounds-lengths-0
bounds-lengths-0 c = let f = plain_fits _ _ c.requires in let x = f.two_left in omega arith

pub bounds-lengths-1 : goal.bounds-lengths-1
bounds-lengths-1 c = let f = plain_fits _ _ c.requires in let x = f.two_left in omega arith

pub overflow_add-to : goal.overflow_add-to
overflow_add-to c = let f = plain_fits _ _ c.requires in let y = f.name in let z = f.text in omega arith

pub slice_bounds-put-end : goal.slice_bounds-put-end
slice_bounds-put-end c = let f = plain_fits _ _ c.requires in let y = f.name in let z = f.text in omega arith

pub slice_bounds-put-end-3 : goal.slice_bounds-put-end-3
slice_bounds-put-end-3 c = let n = length-take c.least_of-room.result (c.args.out.now) in omega arith

pub slice_bounds-put-end-5 : goal.slice_bounds-put-end-5
slice_bounds-put-end-5 c = let n = length-take c.least_of-marks.result (c.args.origins.now) in omega arith

pub put-end-requires : goal.put-end-requires
put-end-requires c = let f = plain_fits _ _ c.requires in let y = f.name in let z = f.text in let n = plain_size _ _ c.requires in (omega arith, (omega arith, (omega arith, omega arith)))

pub returns : goal.returns
returns c = copies _ _ _ _ _ _ _ _ _ c.requires c.least_of-room.ensures c.least_of-marks.ensures c.put-end.ensures
