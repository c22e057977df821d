use Rattle.expecting.proofs.Verdicts.{verdict, tells_by}
use Rattle.std.specs.Prelude.{Ok, Err}
use Rattle.grammar.specs.declared.Refusal.TheVariants.{NoToken, NotAdmitted, TooDeep}
use mathlib.Core.Bool.{true, false}
use mathlib.Core.Path.{refl, ap, ◌∙◌}
use Rattle.expecting.proofs.admitted.Goals as goal

pub returns-in-Ok : goal.returns-in-Ok
unfolding verdict
returns-in-Ok c = tells_by _ c.stage.ensures.answers true (Ok tt) c.in-Ok.is refl

pub returns-in-Err-NoToken : goal.returns-in-Err-NoToken
unfolding verdict
returns-in-Err-NoToken c = tells_by _ c.stage.ensures.answers false (Err (NoToken _)) (c.in-Err-NoToken.is ∙ ap Err c.in-Err-NoToken.field-0-is) refl

pub returns-in-Err-NotAdmitted : goal.returns-in-Err-NotAdmitted
unfolding verdict
returns-in-Err-NotAdmitted c = tells_by _ c.stage.ensures.answers _ (Err (NotAdmitted _)) (c.in-Err-NotAdmitted.is ∙ ap Err c.in-Err-NotAdmitted.field-0-is) refl

pub returns-in-Err-TooDeep : goal.returns-in-Err-TooDeep
unfolding verdict
returns-in-Err-TooDeep c = tells_by _ c.stage.ensures.answers true (Err (TooDeep _)) (c.in-Err-TooDeep.is ∙ ap Err c.in-Err-TooDeep.field-0-is) refl
