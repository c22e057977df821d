use Rattle.sources.proofs.Numberings.{span_ok, text_there, start_there, text_absent, start_absent, text_untold, start_untold}
use Rattle.sources.proofs.Tellings.{told}
use native.Mathlib.Omega.{arith}
use mathlib.Core.Path.{refl, sym, ◌∙◌}
use Rattle.sources.proofs.text_of.Goals as goal

pub span_of-requires : goal.span_of-requires
span_of-requires c = (told _ _ (sym c.told_well.ensures ∙ c.if-told_well.true)).fit

pub slice_bounds-result-count : goal.slice_bounds-result-count
slice_bounds-result-count c = (span_ok _ _ _ _ _ _ (sym c.told_well.ensures ∙ c.if-told_well.true) (sym c.span_of.ensures ∙ c.in-Some.is)).0

pub slice_bounds-result-start : goal.slice_bounds-result-start
slice_bounds-result-start c = (span_ok _ _ _ _ _ _ (sym c.told_well.ensures ∙ c.if-told_well.true) (sym c.span_of.ensures ∙ c.in-Some.is)).0

pub slice_bounds-result-end : goal.slice_bounds-result-end
slice_bounds-result-end c = (span_ok _ _ _ _ _ _ (sym c.told_well.ensures ∙ c.if-told_well.true) (sym c.span_of.ensures ∙ c.in-Some.is)).1

pub returns-in-Some : goal.returns-in-Some
returns-in-Some c = let q = start_there _ _ _ _ _ _ (sym c.told_well.ensures ∙ c.if-told_well.true) (sym c.span_of.ensures ∙ c.in-Some.is) in record { bytes = text_there _ _ _ _ _ _ (sym c.told_well.ensures ∙ c.if-told_well.true) (sym c.span_of.ensures ∙ c.in-Some.is); block = refl; place = omega (arith, q) }

pub returns-in-None : goal.returns-in-None
returns-in-None c = let q = start_absent _ _ _ (sym c.told_well.ensures ∙ c.if-told_well.true) (sym c.span_of.ensures ∙ c.in-None.is) in record { bytes = text_absent _ _ _ (sym c.told_well.ensures ∙ c.if-told_well.true) (sym c.span_of.ensures ∙ c.in-None.is); block = refl; place = omega (arith, q) }

pub returns-else-told_well : goal.returns-else-told_well
returns-else-told_well c = let q = start_untold _ _ c.args.number (sym c.told_well.ensures ∙ c.if-told_well.false) in record { bytes = text_untold _ _ _ (sym c.told_well.ensures ∙ c.if-told_well.false); block = refl; place = omega (arith, q) }
