use Rattle.statement_causes.proofs.Seeking.{turned_true, turned_false}
use Rattle.statement_causes.proofs.Missings.{inside_none, inside_past, inside_misses}
use Rattle.statement_causes.proofs.missing_inside.Goals as goal

pub returns-then-not-spot : goal.returns-then-not-spot
returns-then-not-spot c = inside_none _ _ _ _ _ c.args.spot (turned_true _ c.if-not-spot.true)

pub returns-then-spot : goal.returns-then-spot
returns-then-spot c = inside_past _ _ _ _ _ c.args.spot c.if-spot.true

pub returns : goal.returns
returns c = inside_misses _ _ _ _ _ c.args.spot c.after-next.result c.scope_inside-under.result c.missing.result (turned_false _ c.if-not-spot.false) c.after-next.ensures c.scope_inside-under.ensures c.missing.ensures
