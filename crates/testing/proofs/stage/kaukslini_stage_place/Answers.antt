use Rattle.grammar.specs.Stage.{place_of}
use mathlib.Core.Path.{sym, ap, ◌∙◌}
use Rattle.std.specs.Prelude.{Err}
use Rattle.testing.proofs.stage.kaukslini_stage_place.Goals as goal

pub returns-in-Ok : goal.returns-in-Ok
unfolding place_of
returns-in-Ok c = record { answer = _; answers = c.stage.ensures.answers; place = sym (ap place_of c.in-Ok.is) }

pub returns-in-Err-NoToken : goal.returns-in-Err-NoToken
unfolding place_of
returns-in-Err-NoToken c = record { answer = _; answers = c.stage.ensures.answers; place = sym (ap place_of (c.in-Err-NoToken.is ∙ ap Err c.in-Err-NoToken.field-0-is)) }

pub returns-in-Err-NotAdmitted : goal.returns-in-Err-NotAdmitted
unfolding place_of
returns-in-Err-NotAdmitted c = record { answer = _; answers = c.stage.ensures.answers; place = sym (ap place_of (c.in-Err-NotAdmitted.is ∙ ap Err c.in-Err-NotAdmitted.field-0-is)) }

pub returns-in-Err-TooDeep : goal.returns-in-Err-TooDeep
unfolding place_of
returns-in-Err-TooDeep c = record { answer = _; answers = c.stage.ensures.answers; place = sym (ap place_of (c.in-Err-TooDeep.is ∙ ap Err c.in-Err-TooDeep.field-0-is)) }
