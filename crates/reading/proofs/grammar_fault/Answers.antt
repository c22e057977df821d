use Rattle.reading.specs.Decisions.{grammar_fault}
use Rattle.grammar.specs.Stage.{number_of, place_of}
use mathlib.Core.Path.{sym, ap, ◌∙◌}
use Rattle.std.specs.Prelude.{Err}
use Rattle.reading.proofs.grammar_fault.Goals as goal

pub returns-in-Ok : goal.returns-in-Ok
unfolding grammar_fault number_of place_of
returns-in-Ok c = sym (ap grammar_fault (sym c.answer_of.ensures ∙ c.in-Ok.is))

pub returns-in-Err-NoToken : goal.returns-in-Err-NoToken
unfolding grammar_fault number_of place_of
returns-in-Err-NoToken c = sym (ap grammar_fault (sym c.answer_of.ensures ∙ c.in-Err-NoToken.is ∙ ap Err c.in-Err-NoToken.field-0-is))

pub returns-in-Err-NotAdmitted : goal.returns-in-Err-NotAdmitted
unfolding grammar_fault number_of place_of
returns-in-Err-NotAdmitted c = sym (ap grammar_fault (sym c.answer_of.ensures ∙ c.in-Err-NotAdmitted.is ∙ ap Err c.in-Err-NotAdmitted.field-0-is))

pub returns-in-Err-TooDeep : goal.returns-in-Err-TooDeep
unfolding grammar_fault number_of place_of
returns-in-Err-TooDeep c = sym (ap grammar_fault (sym c.answer_of.ensures ∙ c.in-Err-TooDeep.is ∙ ap Err c.in-Err-TooDeep.field-0-is))
