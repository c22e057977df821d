use Rattle.releases.proofs.Starting.{rows_some}
use Rattle.releases.specs.Starts.{first_row}
use mathlib.Core.Path.{ap, ◌∙◌}
use Rattle.releases.proofs.starts.many_rows.Goals as goal

pub returns : goal.returns
returns c = c.saturating_sub.ensures ∙ rows_some _ _ _ _ c.first_row-a.ensures (c.first_row-b.ensures ∙ ap (first_row _) c.one_more.ensures)
