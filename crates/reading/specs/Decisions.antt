-- The contracts of the inner functions of `read`. No part of the public contract. Assumes nothing.
use Rattle.std.specs.Prelude.{Some, None, Ok, Err, ◌≡◌, List, [], ℕ, ◌≤◌, length, replicate}
use Rattle.std.proofs.Math.Option.{Option, none, some}
use Rattle.grammar.specs.Demand.{Covered}
use Rattle.grammar.specs.Grammar.{Derivation}
use Rattle.grammar.specs.Terminals.{tokens}
use Rattle.grammar.specs.Answered.{Answer as GrammarAnswer}
use Rattle.grammar.specs.declared.Refusal.TheVariants.{NoToken, NotAdmitted, TooDeep}
use Rattle.rows.specs.declared.Fault.{Fault}
use Rattle.rows.specs.Order.{MaybeFault}
use Rattle.meaning.specs.Syntax.{File}
use Rattle.meaning.specs.Actions.{syntax}
use Rattle.meaning.specs.Faults.{first, Fault as Refusal}
use Rattle.meaning.specs.Defining.{definition_faults}
use Rattle.meaning.specs.Applying.{object_faults, counts}
use Rattle.meaning.specs.Judging.{statement_stage}
use Rattle.meaning.specs.Answers.{refused}
use Rattle.meaning.specs.Reading.{reading}
use Rattle.meaning.specs.Cells.{rooms_after}
use Rattle.layout.specs.Kept.{spec_entries, spec_choices, statement_count, kept_definitions, kept_enumerators, kept_objects, kept_statements, kept_parts, kept_part_statements, again_place}
use Rattle.scopes.specs.Situations.{Situation}
use Rattle.scopes.specs.Promises.{fault_of}
use Rattle.scopes.specs.declared.Sizes.{Sizes}
use Rattle.walk.specs.Whole.{Rooms, Stands, kind_places}
use Rattle.walk.specs.declared.Walked.{Walked}
use Rattle.reading.specs.Results.{reading_of, SpansOf, NoSpans}
use Rattle.reading.specs.declared.Answer.TheVariants.{Accepted, Refused}
use Rattle.reading.specs.declared.Decision.{Decision}
use Rattle.reading.specs.declared.Reading.{Reading}
use Rattle.reading.specs.declared.Spanned.{Spanned}

-- What the grammar stage answers, as a fault; none where it passes.
unfoldable pub grammar_fault : GrammarAnswer → MaybeFault
grammar_fault (Ok _) = None
grammar_fault (Err (NoToken p)) = Some (record { number = 3; place = p })
grammar_fault (Err (NotAdmitted p)) = Some (record { number = 4; place = p })
grammar_fault (Err (TooDeep p)) = Some (record { number = 5; place = p })

-- The four tables of the merged file: definitions, enumerators, objects, statements.
pub record Merged : Type 0 where
  pub definitions : List ℕ
  pub enumerators : List ℕ
  pub objects : List ℕ
  pub statements : List ℕ

-- The text s is f, and its rows are in the tables y, as w says.
pub record Kept (s : List ℕ) (y : Merged) (w : Decision) (f : File) : Type 0 where
  pub situation : Situation s f
  pub in_definitions : y.definitions ≡ kept_definitions f
  pub in_enumerators : y.enumerators ≡ kept_enumerators f
  pub in_objects : y.objects ≡ kept_objects f
  pub in_statements : y.statements ≡ kept_statements f
  pub definitions : w.walked.definitions ≡ length (spec_entries f.specs)
  pub enumerators : w.walked.enumerators ≡ length (spec_choices f.specs)
  pub objects : w.objects ≡ length f.objects
  pub statements : w.walked.statements ≡ statement_count f.objects
  pub version : Stands f.version w.walked.version_at w.walked.version_len
  pub implementation : (f.implementation.place ≡ w.walked.implementation_at) × (f.implementation.length ≡ w.walked.implementation_len)
  pub cpu : Stands f.cpu w.walked.cpu_at w.walked.cpu_len
  pub places : w.walked.places ≡ kind_places f.specs
  pub again : w.walked.again ≡ again_place [] f.specs
  pub counted : w.counts ≡ counts f.objects

-- The same of the parts: of them and of their statements are the rows, and as many w counts.
pub record KeptParts (s : List ℕ) (y : Rooms) (w : Walked) (f : File) : Type 0 where
  pub situation : Situation s f
  pub in_definitions : y.definitions ≡ kept_definitions f
  pub in_enumerators : y.enumerators ≡ kept_enumerators f
  pub in_parts : y.parts ≡ kept_parts f
  pub in_statements : y.statements ≡ kept_part_statements f
  pub definitions : w.definitions ≡ length (spec_entries f.specs)
  pub enumerators : w.enumerators ≡ length (spec_choices f.specs)
  pub parts : w.parts ≡ length f.parts
  pub statements : w.statements ≡ statement_count f.parts
  pub version : Stands f.version w.version_at w.version_len
  pub implementation : (f.implementation.place ≡ w.implementation_at) × (f.implementation.length ≡ w.implementation_len)
  pub cpu : Stands f.cpu w.cpu_at w.cpu_len
  pub places : w.places ≡ kind_places f.specs
  pub again : w.again ≡ again_place [] f.specs
  pub counted : w.counts ≡ counts f.parts

-- How many rows of each table there are.
abbrev pub sizes_of : Decision → Sizes
sizes_of r = record { definitions = r.walked.definitions; enumerators = r.walked.enumerators; objects = r.objects }

-- The first of two faults that there is.
unfoldable pub or_else : Option Refusal → Option Refusal → Option Refusal
or_else none o = o
or_else (some x) o = some x

-- The fault by which the stages of 6 to 12 and of 17 answer.
unfoldable pub stage_fault : File → Option Refusal
stage_fault f = or_else (first (definition_faults f)) (first (object_faults f))

-- The stages have decided; where none has a fault the rows of the objects are in the tables y.
pub record Staged (s : List ℕ) (y : Merged) (f : File) (r : Decision) : Type 0 where
  pub fault : r.fault ≡ fault_of (stage_fault f)
  pub kept : r.fault ≡ None → Kept s y r f

-- With the rows of parts in the tables y, and blank tables o and t for those of the objects and their statements.
abbrev pub Stages : (s : List ℕ) → Rooms → (o t o' t' : List ℕ) → Walked → Decision → Type 0
Stages s y o t o' t' w r =
    (f : File) → KeptParts s y w f → o ≡ replicate 2570 0 → t ≡ replicate 14343 0
    → Staged s (record { definitions = y.definitions; enumerators = y.enumerators; objects = o'; statements = t' }) f r

-- No stage up to 12 and 17 has a fault.
pub record Passed (s : List ℕ) (y : Merged) (w : Decision) : Type 0 where
  pub file : File
  pub kept : Kept s y w file
  pub covered : Covered s
  pub no_definition_fault : first (definition_faults file) ≡ none
  pub no_object_fault : first (object_faults file) ≡ none

-- What is decided: a refusal, and then the text does not pass these stages, or that it passes them.
pub record Decided (s : List ℕ) (y : Merged) (r : Decision) : Type 0 where
  pub refused_by : (x : Fault) → r.fault ≡ Some x → reading s ≡ refused x.number x.place
  pub stopped : (x : Fault) → r.fault ≡ Some x → Covered s → (d : Derivation (tokens s)) → stage_fault (syntax s d.tree) ≡ none → ⊥
  pub passes : r.fault ≡ None → Passed s y r

-- Blank tables for the rows that the walk keeps.
abbrev pub blank : Rooms
blank = record { definitions = replicate 9747 0; enumerators = replicate 3075 0; parts = replicate 5130 0; statements = replicate 14343 0 }

pub record Decides (s d e o t : List ℕ) (y : Merged) (r : Decision) : Type 0 where
  pub definitions_size : length y.definitions ≡ length d
  pub enumerators_size : length y.enumerators ≡ length e
  pub decided : length s ≤ 65535 → d ≡ replicate 9747 0 → e ≡ replicate 3075 0 → o ≡ replicate 2570 0 → t ≡ replicate 14343 0 → Decided s y r

-- The rooms of the lent tables, and the answer, are those of the text s.
pub record Filled (s d' e' o' v' : List ℕ) (r : Reading) : Type 0 where
  pub result : r ≡ reading_of (reading s)
  pub definitions : d' ≡ (rooms_after (reading s)).definitions
  pub enumerators : e' ≡ (rooms_after (reading s)).enumerators
  pub objects : o' ≡ (rooms_after (reading s)).objects
  pub values : v' ≡ (rooms_after (reading s)).values

-- A refusal, without spans.
pub record Unspanned (n p : ℕ) (r : Spanned) : Type 0 where
  pub reading : r.reading ≡ reading_of (refused n p)
  pub none : NoSpans r

-- The same, with the spans of an accepted text.
pub record FilledSpanned (s d' e' o' v' : List ℕ) (r : Spanned) : Type 0 where
  pub filled : Filled s d' e' o' v' r.reading
  pub spans : r.reading.answer ≡ Accepted → SpansOf s r
  pub no_spans : (n p : ℕ) → r.reading.answer ≡ Refused n p → NoSpans r

-- Blank rooms are filled.
pub record BlankRooms (d e o v : List ℕ) : Type 0 where
  pub definitions : d ≡ replicate 6656 0
  pub enumerators : e ≡ replicate 3072 0
  pub objects : o ≡ replicate 2048 0
  pub values : v ≡ replicate 18432 0

-- Where the statements have no fault,
abbrev pub Settles : (s : List ℕ) → Merged → Decision → (d e o v d' e' o' v' : List ℕ) → Reading → Type 0
Settles s y w d e o v d' e' o' v' r = (p : Passed s y w) → first (statement_stage p.file) ≡ none → BlankRooms d e o v → Filled s d' e' o' v' r

-- and whether they have one or not.
abbrev pub Concludes : (s : List ℕ) → Merged → Decision → (d e o v d' e' o' v' : List ℕ) → Reading → Type 0
Concludes s y w d e o v d' e' o' v' r = Passed s y w → BlankRooms d e o v → Filled s d' e' o' v' r

-- The lent parts are the rooms.
pub record RoomSizes (d e o v : List ℕ) : Type 0 where
  pub definitions : length d ≡ 6656
  pub enumerators : length e ≡ 3072
  pub objects : length o ≡ 2048
  pub values : length v ≡ 18432
