use Rattle.releases.specs.Starts.{first_row}
use Prim.Native.Nat.{ℕ, min}
use mathlib.Core.Path.{ap, ◌∙◌}
use Rattle.releases.proofs.starts.first_row.Goals as goal

pub returns : goal.returns
unfolding first_row
returns c = c.least_of.ensures ∙ ap (λ (p : ℕ). min p 2048) c.get.ensures
