use native.Mathlib.Omega.{arith}
use Rattle.sources.proofs.Plains.{plain_told, plain_badly}
use Rattle.sources.proofs.Wholes.{main_fits}
use mathlib.Core.Path.{sym, ◌∙◌}
use Rattle.sources.proofs.is_plain.Goals as goal

pub bounds-lengths-0 : goal.bounds-lengths-0
bounds-lengths-0 c = let f = main_fits _ _ (sym c.told_well.ensures ∙ c.if-told_well.true) in let x = f.two_left in omega arith

pub bounds-lengths-1 : goal.bounds-lengths-1
bounds-lengths-1 c = let f = main_fits _ _ (sym c.told_well.ensures ∙ c.if-told_well.true) in let x = f.two_left in omega arith

pub overflow_add-to : goal.overflow_add-to
overflow_add-to c = let f = main_fits _ _ (sym c.told_well.ensures ∙ c.if-told_well.true) in let x = f.two_left in let y = f.name in let z = f.text in omega arith

pub slice_bounds-holds-end : goal.slice_bounds-holds-end
slice_bounds-holds-end c = let f = main_fits _ _ (sym c.told_well.ensures ∙ c.if-told_well.true) in let x = f.two_left in let y = f.name in let z = f.text in omega arith

pub returns-then-told_well : goal.returns-then-told_well
returns-then-told_well c = plain_told _ _ _ (sym c.told_well.ensures ∙ c.if-told_well.true) c.holds.ensures

pub returns : goal.returns
returns c = plain_badly _ _ (sym c.told_well.ensures ∙ c.if-told_well.false)
