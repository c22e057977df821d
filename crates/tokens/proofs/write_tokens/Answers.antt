use native.Mathlib.Omega.{arith}
use mathlib.Core.Path.{sym, ◌∙◌}
use Rattle.token.proofs.Steps.{found_fits}
use Rattle.tokens.proofs.write_tokens.Goals as goal

pub loop-token-smaller : goal.loop-token-smaller
loop-token-smaller c = let f = found_fits _ _ _ _ (sym c.step.ensures ∙ c.in-Found.is) in omega arith
