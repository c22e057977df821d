use Rattle.statement_causes.proofs.Seeking.{turned_true, turned_false}
use Rattle.statement_causes.proofs.Telling.{first_none, first_nothing, first_found}
use Rattle.statement_causes.proofs.first_of.Goals as goal

pub returns-then-not-spot : goal.returns-then-not-spot
returns-then-not-spot c = first_none _ _ c.args.spot (turned_true _ c.if-not-spot.true)

pub returns-in_default : goal.returns-in_default
returns-in_default c = first_nothing _ _ c.args.spot (turned_false _ c.if-not-spot.false) c.cell_of-name.result c.cell_of-size.result c.cell_of-name.ensures c.cell_of-size.ensures c.stated.result c.stated.ensures c.in_default.is

pub returns : goal.returns
returns c = first_found _ _ c.args.spot (turned_false _ c.if-not-spot.false) c.cell_of-name.result c.cell_of-size.result c.cell_of-name.ensures c.cell_of-size.ensures c.stated.result c.stated.ensures _ c.cell_of.result c.in-Some.is c.cell_of.ensures
