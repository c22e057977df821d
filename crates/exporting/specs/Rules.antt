-- What the calls for programs in C promise: the library's own answers to the text, which is lent alone (document 02, Q-13: "Both calls take the
-- text alone, with an empty name. .. Answers equal the library's on every input"). Assumes nothing.
use Rattle.std.specs.Prelude.{◌≡◌, List, ◌++◌, ℕ, ◌≤◌, ◌<◌, length, drop, Ok, Err, Some, None}
use Rattle.grammar.specs.Grammar.{Derivation}
use Rattle.grammar.specs.Terminals.{tokens}
use Rattle.meaning.specs.Actions.{syntax}
use Rattle.meaning.specs.Answers.{Tables, accepted, refused}
use Rattle.meaning.specs.Rules.{TheNormalText}
use Rattle.sources_reading.specs.Answering.{alone}
use Rattle.lent_texts.specs.Answered.{TheAnswer}
use Rattle.heading.specs.Answered.{Answer}
use Rattle.heading_texts.specs.Headings.{TextsHead}
use Rattle.explaining.specs.Pictures.{Explains}
use Rattle.attribute_values.specs.Rules.{Answered}
use Rattle.attribute_values.specs.Answered.{Valued}
use Rattle.exporting.specs.declared.Told.{Told}
use Rattle.exporting.specs.declared.Heading.{Heading}
use Rattle.exporting.specs.declared.Position.{Position}

-- "with accepted length or refusal number and place told": a refusal, and n bytes written. The place is a byte of the text, which is text 0.
unfoldable pub refusal : ℕ → ℕ → Told
refusal n p = record { number = n; place = p; length = 0 }

unfoldable pub done : ℕ → Told
done n = record { number = 0; place = 0; length = n }

-- For the text s and the lent output l, which is l' afterwards; r is what is returned.
pub data NormalByRules (s l l' : List ℕ) (r : Told) : Type 0 where
  -- The rules refuse the text; the output is not touched.
  refuses : (n p : ℕ) → TheAnswer s (alone s) (refused n p) → r ≡ refusal n p → l' ≡ l → NormalByRules s l l' r
  -- "A buffer too short gets refusal 20; that .. touch nothing."
  longer : (t : Tables) → TheAnswer s (alone s) (accepted t) → (w : List ℕ) → TheNormalText s w → length l < length w → r ≡ refusal 20 0 → l' ≡ l → NormalByRules s l l' r
  -- "text in, normal text into a lent buffer": bytes past it stay.
  writes : (t : Tables) → TheAnswer s (alone s) (accepted t) → (w : List ℕ) → TheNormalText s w → length w ≤ length l → r ≡ done (length w) → l' ≡ w ++ drop (length w) l
      → NormalByRules s l l' r

-- How an answer for a value is told: 255 is no refusal, but "not found".
unfoldable pub value : Valued → Told
value (Err r) = refusal r.number r.place
value (Ok None) = refusal 255 0
value (Ok (Some k)) = done k

-- For the text s, the kind word, the object's name, the path and the lent output l, which is l' afterwards; r is what is returned.
pub data ValueByRules (s kind name path l l' : List ℕ) (r : Told) : Type 0 where
  -- "A refused text gives its refusal."
  refuses : (n p : ℕ) → TheAnswer s (alone s) (refused n p) → r ≡ refusal n p → l' ≡ l → ValueByRules s kind name path l l' r
  -- "the value of one attribute by kind, object name and dotted path .. into a lent buffer, or not found", as `attribute_values::value` gives it.
  answers : (t : Tables) → TheAnswer s (alone s) (accepted t) → Derivation (tokens s) → (v : Valued)
      → ((d : Derivation (tokens s)) → Answered (syntax s d.tree) kind name path l l' v) → r ≡ value v → ValueByRules s kind name path l l' r

-- Beside these, for an editor ----------------------------------------------------------------------------------------------------------------

-- How the answer of Q-7 is told.
unfoldable pub heading : Answer → Heading
heading (Ok h) = record { number = 0; place = 0; version = h.version_at; version_length = h.version_len; name = h.name_at; name_length = h.name_len }
heading (Err r) = record { number = r.number; place = r.place; version = 0; version_length = 0; name = 0; name_length = 0 }

-- The answer of Q-7 to the text, lent alone; it is the only one (`heading_texts`).
pub record HeadingByRules (s : List ℕ) (r : Heading) : Type 0 where
  pub answer : Answer
  pub heads : TextsHead s (alone s) answer
  pub told : r ≡ heading answer

-- Line and column of the place p, and the two lines that show it, as `explaining` gives them; 157 bytes are enough for these, and the first has as
-- many as `first` says.
pub record ExplainsByRules (s : List ℕ) (p : ℕ) (l l' : List ℕ) (r : Position) : Type 0 where
  pub first : ℕ
  pub explains : Explains s p l l' (record { line = r.line; column = r.column; shown = first; len = r.length })
  pub short : r.length ≤ 157
