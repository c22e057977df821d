use Rattle.rows.specs.Table.{part}
use Prim.Native.Nat.{ℕ}
use mathlib.Core.Path.{◌∙◌, ap}
use Rattle.lookups.proofs.names.definition_ranks.Goals as goal

pub returns : goal.returns
returns c = c.cells_from.ensures ∙ ap (λ (k : ℕ). part (c.args.names.now) 3841 k) c.get-n.ensures
