-- The question over a text (document 02, Q-9: "a question over an accepted text (another gives its refusal)"), and what the functions over one
-- promise. Assumes nothing.
use Rattle.std.specs.Prelude.{◌≡◌, List, ℕ, Option as Maybe, Some, None, Ok}
use Rattle.std.proofs.Math.Option.{Option, none, some}
use Rattle.meaning.specs.Syntax.{Spec, File}
use Rattle.meaning.specs.Answers.{Answer, Tables, accepted, refused, answer}
use Rattle.meaning.specs.Reading.{Parsed, parsed, not_parsed, parse, reading}
use Rattle.reading.specs.declared.Answer.{Answer as Given}
use Rattle.reading.specs.Results.{reading_of}
use Rattle.standard.specs.Asking.{Finding, findings, foremost}
use Rattle.standard.specs.Section.{standard}
use Rattle.standard.specs.Answered.{Checked, MaybeWrong, all_right, wrong, wrong_at}
use Rattle.rows.specs.Refusing.{refusing}
use Rattle.standard.specs.declared.Told.{Told}

-- "Report 25 .. and 26 ..; tell too its number, from 0, among these in that order."
unfoldable pub told : Option Finding → Checked
told none = all_right
told (some x) = wrong_at x.number x.place x.attribute

unfoldable pub checked_as : List Spec → File → Answer → Checked
checked_as gs f (accepted t) = told (foremost (findings gs f))
checked_as gs f (refused n p) = refusing n p

unfoldable pub checked_by : List Spec → Parsed → Checked
checked_by gs (parsed f) = checked_as gs f (answer f)
checked_by gs (not_parsed n p) = refusing n p

-- By the standard gs, and by that of section 5.2.
unfoldable pub checked_against : List Spec → List ℕ → Checked
checked_against gs s = checked_by gs (parse s)

unfoldable pub checked : List ℕ → Checked
checked s = checked_against standard s

-- Inner functions ----------------------------------------------------------------------------------------------------------------------------

-- What is told, as the answer.
unfoldable pub verdict_of : Maybe Told → MaybeWrong
verdict_of None = None
verdict_of (Some t) = Some (wrong t.number t.place t.attribute)

-- The text's own answer.
abbrev pub AnswersText : List ℕ → Given → Type 0
AnswersText s r = r ≡ (reading_of (reading s)).answer

-- The answer for an accepted text.
abbrev pub ChecksAccepted : List ℕ → MaybeWrong → Type 0
ChecksAccepted s r = (t : Tables) → reading s ≡ accepted t → Ok r ≡ checked s
