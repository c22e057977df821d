use mathlib.Core.Path.{refl, sym, ◌∙◌}
use native.Mathlib.Omega.{arith}
use Rattle.token.proofs.Steps.{found_fits, bad_fits}
use Rattle.sources.proofs.Stops.{stop_found, stop_refused, stop_end}
use Rattle.sources.proofs.lines.stop_at.Goals as goal

pub loop-next-init : goal.loop-next-init
loop-next-init c = refl

pub loop-next-smaller : goal.loop-next-smaller
loop-next-smaller c = let o = found_fits _ _ _ _ (sym c.step.ensures ∙ c.in-Found.is) in omega arith

pub loop-next-preserved : goal.loop-next-preserved
loop-next-preserved c = sym (stop_found _ _ _ _ (sym c.step.ensures ∙ c.in-Found.is)) ∙ c.loop-next.invariant

pub hash_at-requires : goal.hash_at-requires
hash_at-requires c = let o = bad_fits _ _ _ (sym c.step.ensures ∙ c.in-Refused.is) in omega arith

pub returns-in-Refused : goal.returns-in-Refused
returns-in-Refused c = c.hash_at.ensures ∙ sym (stop_refused _ _ _ (sym c.step.ensures ∙ c.in-Refused.is)) ∙ c.loop-next.invariant

pub returns-in-End : goal.returns-in-End
returns-in-End c = sym (stop_end _ _ _ (sym c.step.ensures ∙ c.in-End.is)) ∙ c.loop-next.invariant
