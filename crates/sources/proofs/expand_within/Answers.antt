use native.Mathlib.Omega.{arith}
use Rattle.sources.proofs.Wholes.{main_fits, main_asks, expands, told_badly}
use lib.ListN.{length-take, length-replicate}
use mathlib.Core.Path.{sym, ◌∙◌}
use Prim.Native.Nat.{ℕ}
use Rattle.sources.proofs.expand_within.Goals as goal

pub bounds-lengths-0 : goal.bounds-lengths-0
bounds-lengths-0 c = let f = main_fits _ _ (sym c.told_well.ensures ∙ c.if-told_well.true) in let x = f.two_left in omega arith

pub bounds-lengths-1 : goal.bounds-lengths-1
bounds-lengths-1 c = let f = main_fits _ _ (sym c.told_well.ensures ∙ c.if-told_well.true) in let x = f.two_left in omega arith

pub overflow_add-to : goal.overflow_add-to
overflow_add-to c = let f = main_fits _ _ (sym c.told_well.ensures ∙ c.if-told_well.true) in let x = f.two_left in let y = f.name in let z = f.text in omega arith

pub note_all-requires : goal.note_all-requires
note_all-requires c = (sym c.told_well.ensures ∙ c.if-told_well.true, length-replicate {A = ℕ} 52432 0)

pub slice_bounds-expand_text-end-then-told_well : goal.slice_bounds-expand_text-end-then-told_well
slice_bounds-expand_text-end-then-told_well c = let f = main_fits _ _ (sym c.told_well.ensures ∙ c.if-told_well.true) in let x = f.two_left in let y = f.name in let z = f.text in omega arith

pub slice_bounds-expand_text-end-then-told_well-3 : goal.slice_bounds-expand_text-end-then-told_well-3
slice_bounds-expand_text-end-then-told_well-3 c = let n = length-take c.least_of-room.result c.args.out.now in omega arith

pub slice_bounds-expand_text-end-then-told_well-5 : goal.slice_bounds-expand_text-end-then-told_well-5
slice_bounds-expand_text-end-then-told_well-5 c = let n = length-take c.least_of-marks.result c.args.origins.now in omega arith

pub expand_text-f-requires : goal.expand_text-f-requires
expand_text-f-requires c = let w = sym c.told_well.ensures ∙ c.if-told_well.true in let n = length-take c.least_of-room.result c.args.out.now in let m = length-take c.least_of-marks.result c.args.origins.now in (record { told = w; number = omega arith; limit = c.requires; bytes = omega arith; origins = omega arith; place = omega arith; notes = omega arith; noted = c.note_all.ensures }, main_asks _ _ _ w c.note_all.ensures)

pub returns-then-told_well : goal.returns-then-told_well
returns-then-told_well c = expands _ _ _ _ _ _ _ _ _ _ (sym c.told_well.ensures ∙ c.if-told_well.true) c.least_of-room.ensures c.least_of-marks.ensures c.expand_text-f.ensures

pub returns : goal.returns
returns c = told_badly _ _ _ _ _ (sym c.told_well.ensures ∙ c.if-told_well.false)
