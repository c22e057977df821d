-- What `read` promises: its answer, and every cell of the lent tables afterwards. Assumes nothing.
use Rattle.std.specs.Prelude.{◌≡◌, List, ◌++◌, Bool, true, false, ℕ, ◌/◌, length, drop, replicate}
use Rattle.std.proofs.Math.Option.{none}
use Rattle.grammar.specs.Demand.{Covered}
use Rattle.meaning.specs.Syntax.{File}
use Rattle.meaning.specs.Answers.{Answer as Meant, accepted, refused, answer}
use Rattle.meaning.specs.Reading.{reading}
use Rattle.meaning.specs.Calls.{Rooms, enough, call}
use Rattle.meaning.specs.Cells.{rooms_after}
use Rattle.scopes.specs.Situations.{Situation}
use Rattle.scopes.specs.Given.{Places}
use Rattle.reading.specs.declared.Answer.TheVariants.{Accepted, Refused}
use Rattle.reading.specs.declared.Reading.{Reading}
use Rattle.reading.specs.declared.Spanned.{Spanned}

-- The answer as `read` gives it: document 01's number and place, or how many rows there are of each table and how many objects of each kind.
unfoldable pub reading_of : Meant → Reading
reading_of (accepted t) = record {
  answer = Accepted;
  definitions = length t.definitions;
  enumerators = length t.enumerators;
  objects = length t.objects;
  values = length t.values;
  counts = t.counts;
}
reading_of (refused n p) = record { answer = Refused n p; definitions = 0; enumerators = 0; objects = 0; values = 0; counts = replicate 13 0 }

-- How many rows there is room for in lent tables of these cells: 13, 3, 8 and 9 cells a row (docs/TABLES.md).
unfoldable pub rooms_of : (d e o v : List ℕ) → Rooms
rooms_of d e o v = record { definitions = length d / 13; enumerators = length e / 3; objects = length o / 8; values = length v / 9 }

-- A lent table after the call. "Refusal 1 changes nothing." Else its room of n cells holds the given ones, and "Memory past the stated room is
-- unchanged."
unfoldable pub table_after : Bool → List ℕ → ℕ → List ℕ → List ℕ
table_after true cells n l = cells ++ drop n l
table_after false cells n l = l

-- THE CONTRACT of `read` for the text s and the lent tables d, e, o, v (definitions, enumerators, objects, values), which hold d', e', o', v'
-- afterwards.
pub record Reads (s d e o v d' e' o' v' : List ℕ) (r : Reading) : Type 0 where
  pub result : r ≡ reading_of (call (rooms_of d e o v) none s)
  pub definitions : d' ≡ table_after (enough (rooms_of d e o v)) (rooms_after (reading s)).definitions 6656 d
  pub enumerators : e' ≡ table_after (enough (rooms_of d e o v)) (rooms_after (reading s)).enumerators 3072 e
  pub objects : o' ≡ table_after (enough (rooms_of d e o v)) (rooms_after (reading s)).objects 2048 o
  pub values : v' ≡ table_after (enough (rooms_of d e o v)) (rooms_after (reading s)).values 18432 v

-- The text s is the file, by which it is answered, and these are the spans of its implementation and its CPU's name, and the places of its kinds'
-- words.
pub record SpansOf (s : List ℕ) (r : Spanned) : Type 0 where
  pub file : File
  pub situation : Situation s file
  pub covered : Covered s
  pub answered : reading s ≡ answer file
  pub implementation : (file.implementation.place ≡ r.implementation_at) × (file.implementation.length ≡ r.implementation_len)
  pub cpu : (file.cpu.place ≡ r.cpu_at) × (file.cpu.length ≡ r.cpu_len)
  pub places : Places file r.places

-- There are no spans.
pub record NoSpans (r : Spanned) : Type 0 where
  pub implementation : (r.implementation_at ≡ 0) × (r.implementation_len ≡ 0)
  pub cpu : (r.cpu_at ≡ 0) × (r.cpu_len ≡ 0)
  pub places : r.places ≡ replicate 13 0

-- THE CONTRACT of `read_spanned`: that of `read`, and where the text is accepted the spans are its own; where it is refused there are none.
pub record ReadsSpanned (s d e o v d' e' o' v' : List ℕ) (r : Spanned) : Type 0 where
  pub reads : Reads s d e o v d' e' o' v' r.reading
  pub spans : r.reading.answer ≡ Accepted → SpansOf s r
  pub no_spans : (n p : ℕ) → r.reading.answer ≡ Refused n p → NoSpans r
