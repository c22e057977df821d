use Rattle.reading.proofs.Finishing.{fill_long, fill_refused, fill_settled}
use Rattle.reading.proofs.Spans.{refused_spanned, settled_refused, settled_spanned}
use lib.ListN.{length, length-replicate}
use native.Mathlib.Omega.{arith}
use Prim.Native.Nat.{ℕ}
use mathlib.Core.Path.{sym, ap, ◌∙◌}
use Rattle.reading.proofs.fill.Goals as goal

pub returns-then-text-gt-LONGEST : goal.returns-then-text-gt-LONGEST
returns-then-text-gt-LONGEST c = refused_spanned _ _ _ _ _ _ _ _ c.refused.ensures (fill_long _ _ _ _ _ _ _ _ _ c.requires c.clear.ensures c.clear-2.ensures c.clear-3.ensures c.clear-4.ensures _ c.if-text-gt-LONGEST.true c.refused.ensures.reading)

pub shape_of-definitions-in-Some : goal.shape_of-definitions-in-Some
shape_of-definitions-in-Some c = ap length c.clear.ensures ∙ length-replicate {A = ℕ} _ 0

pub shape_of-enumerators-in-Some : goal.shape_of-enumerators-in-Some
shape_of-enumerators-in-Some c = ap length c.clear-2.ensures ∙ length-replicate {A = ℕ} _ 0

pub shape_of-objects-in-Some : goal.shape_of-objects-in-Some
shape_of-objects-in-Some c = ap length c.clear-3.ensures ∙ length-replicate {A = ℕ} _ 0

pub shape_of-values-in-Some : goal.shape_of-values-in-Some
shape_of-values-in-Some c = ap length c.clear-4.ensures ∙ length-replicate {A = ℕ} _ 0

pub returns-in-Some : goal.returns-in-Some
returns-in-Some c = refused_spanned _ _ _ _ _ _ _ _ c.refused-in-Some.ensures (fill_refused _ _ _ _ _ _ _ _ _ c.requires c.clear.ensures c.clear-2.ensures c.clear-3.ensures c.clear-4.ensures c.if-text-gt-LONGEST.false _ _ c.decide-r.ensures _ _ c.in-Some.is c.refused-in-Some.ensures.reading)

pub shape_of-definitions-in-Refused : goal.shape_of-definitions-in-Refused
shape_of-definitions-in-Refused c = omega (arith, c.conclude-reading.auto, c.clear.auto)

pub shape_of-enumerators-in-Refused : goal.shape_of-enumerators-in-Refused
shape_of-enumerators-in-Refused c = omega (arith, c.conclude-reading.auto, c.clear-2.auto)

pub shape_of-objects-in-Refused : goal.shape_of-objects-in-Refused
shape_of-objects-in-Refused c = omega (arith, c.conclude-reading.auto, c.clear-3.auto)

pub shape_of-values-in-Refused : goal.shape_of-values-in-Refused
shape_of-values-in-Refused c = omega (arith, c.conclude-reading.auto, c.clear-4.auto)

pub returns-in-Refused : goal.returns-in-Refused
returns-in-Refused c = settled_refused _ _ _ _ _ _ _ _ _ (fill_settled _ _ _ _ _ _ _ _ _ c.requires c.clear.ensures c.clear-2.ensures c.clear-3.ensures c.clear-4.ensures c.if-text-gt-LONGEST.false _ _ c.decide-r.ensures _ _ _ _ _ c.in_default.is c.conclude-reading.ensures) c.in-Refused.is c.refused-in-Refused.ensures

pub shape_of-definitions-in-Accepted : goal.shape_of-definitions-in-Accepted
shape_of-definitions-in-Accepted c = omega (arith, c.conclude-reading.auto, c.clear.auto)

pub shape_of-enumerators-in-Accepted : goal.shape_of-enumerators-in-Accepted
shape_of-enumerators-in-Accepted c = omega (arith, c.conclude-reading.auto, c.clear-2.auto)

pub shape_of-objects-in-Accepted : goal.shape_of-objects-in-Accepted
shape_of-objects-in-Accepted c = omega (arith, c.conclude-reading.auto, c.clear-3.auto)

pub shape_of-values-in-Accepted : goal.shape_of-values-in-Accepted
shape_of-values-in-Accepted c = omega (arith, c.conclude-reading.auto, c.clear-4.auto)

pub returns-in-Accepted : goal.returns-in-Accepted
returns-in-Accepted c = settled_spanned _ c.if-text-gt-LONGEST.false _ _ c.decide-r.ensures c.in_default.is _ _ _ _ _ (fill_settled _ _ _ _ _ _ _ _ _ c.requires c.clear.ensures c.clear-2.ensures c.clear-3.ensures c.clear-4.ensures c.if-text-gt-LONGEST.false _ _ c.decide-r.ensures _ _ _ _ _ c.in_default.is c.conclude-reading.ensures) c.in-Accepted.is
