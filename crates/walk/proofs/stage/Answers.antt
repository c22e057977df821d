use mathlib.Core.Path.{refl}
use Rattle.grammar.proofs.Demand.{demand_3}
use Rattle.grammar.proofs.Answering.{stage_answers}
use borrow.Author.Rules.{rules}
use Rattle.walk.proofs.stage.Goals as goal

pub returns : goal.returns
returns c = let e = stage_answers _ _ _ _ refl c.walk-w.ensures.meets c.answer_of.ensures in record { answers = e; demand_3 = demand_3 _ _ e }
