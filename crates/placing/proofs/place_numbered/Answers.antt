use Rattle.placing.proofs.Rowwise.{refused_start, refused_placed}
use mathlib.Core.Path.{sym, ◌∙◌}
use Rattle.placing.proofs.place_numbered.Goals as goal

pub returns-then-is_at_start : goal.returns-then-is_at_start
returns-then-is_at_start c = refused_start _ _ _ (sym c.is_at_start.ensures ∙ c.if-is_at_start.true)

pub returns : goal.returns
returns c = refused_placed _ _ _ _ (sym c.is_at_start.ensures ∙ c.if-is_at_start.false) c.place_in.ensures
