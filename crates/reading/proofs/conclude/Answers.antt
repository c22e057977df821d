use Rattle.reading.proofs.Finishing.{concludes_refused, concludes_settled}
use mathlib.Core.Path.{refl, sym, ◌∙◌}
use Rattle.reading.proofs.conclude.Goals as goal

pub returns-in-Some : goal.returns-in-Some
returns-in-Some c = concludes_refused _ _ _ _ refl refl refl _ c.judge_all-f.ensures.judges _ _ _ _ _ c.judge_all-f.ensures.lends _ _ c.in-Some.is c.refusal.ensures

pub returns : goal.returns
returns c = concludes_settled _ _ _ _ refl refl refl _ c.judge_all-f.ensures.judges _ _ _ _ _ c.judge_all-f.ensures.lends _ _ _ _ _ c.in_default.is c.settle.ensures
