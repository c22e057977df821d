use Rattle.expecting.proofs.Verdicts.{refuses, refuses_by}
use Rattle.std.specs.Prelude.{Ok, Err}
use Rattle.grammar.specs.declared.Refusal.TheVariants.{NoToken, NotAdmitted, TooDeep}
use mathlib.Core.Bool.{false}
use mathlib.Core.Path.{refl, ap, ◌∙◌}
use Rattle.expecting.proofs.is_refused.Goals as goal

pub returns-in-Ok : goal.returns-in-Ok
unfolding refuses
returns-in-Ok c = refuses_by _ _ c.stage.ensures.answers false (Ok tt) c.in-Ok.is refl

pub returns-in-Err-NoToken : goal.returns-in-Err-NoToken
unfolding refuses
returns-in-Err-NoToken c = refuses_by _ _ c.stage.ensures.answers false (Err (NoToken _)) (c.in-Err-NoToken.is ∙ ap Err c.in-Err-NoToken.field-0-is) refl

pub returns-in-Err-NotAdmitted : goal.returns-in-Err-NotAdmitted
unfolding refuses
returns-in-Err-NotAdmitted c = refuses_by _ _ c.stage.ensures.answers _ (Err (NotAdmitted _)) (c.in-Err-NotAdmitted.is ∙ ap Err c.in-Err-NotAdmitted.field-0-is) refl

pub returns-in-Err-TooDeep : goal.returns-in-Err-TooDeep
unfolding refuses
returns-in-Err-TooDeep c = refuses_by _ _ c.stage.ensures.answers false (Err (TooDeep _)) (c.in-Err-TooDeep.is ∙ ap Err c.in-Err-TooDeep.field-0-is) refl
