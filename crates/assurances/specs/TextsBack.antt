-- Document 02, Q-10, and demand 2: the normal text of lent texts is one text without include lines, and it reads back alone. Assumes nothing.
use Rattle.std.specs.Prelude.{◌≡◌, List, ℕ, ◌≤◌, ◌<◌, length, take}
use Rattle.meaning.specs.Answers.{Tables, accepted}
use Rattle.meaning.specs.Cells.{rooms_after}
use Rattle.meaning.specs.Rules.{InRooms, TheNormalText}
use Rattle.reading.specs.Results.{reading_of}
use Rattle.reading.specs.declared.Answer.TheVariants.{Accepted}
use Rattle.reading.specs.declared.Reading.{Reading}
use Rattle.writing.specs.declared.Written.{Written}
use Rattle.reads_back.specs.ReadsBack.{ReadsBack}
use Rattle.sources.specs.Expanding.{expanded}
use Rattle.sources_reading.specs.Answering.{Answers, alone}
use Rattle.placing.specs.Placed.{placed_tables}
use Rattle.lent_texts.specs.Answered.{place_of, TheAnswer}
use Rattle.reading_texts.specs.Reads.{FullRooms, ReadsTexts}
use Rattle.writing_texts.specs.Writes.{WritesTexts}

-- The text n, written for the text s with the tables t, lent alone with an empty name.
pub record ReadsBackAlone (s : List ℕ) (t : Tables) (n : List ℕ) : Type 0 where
  -- n has no include line: it expands to itself,
  pub no_includes : (expanded n (alone n)).bytes ≡ n
  -- as one text it is accepted with the same values, every one stated, and is its own normal text,
  pub as_one_text : ReadsBack s t n
  -- lent alone it is answered by the same tables,
  pub accepts : TheAnswer n (alone n) (accepted (placed_tables (place_of n (alone n)) as_one_text.back))
  -- and their places are its own: those of text 0.
  pub own_places : (p : ℕ) → p < length n → place_of n (alone n) p ≡ p

-- Of all lent texts that the rules accept, and their normal text: proofs/TextsBack has it (`lent_texts_read_back`).
abbrev pub LentTextsReadBack : Type 0
LentTextsReadBack =
    (b l : List ℕ) (t : Tables) → Answers b l (accepted t) → (n : List ℕ) → TheNormalText (expanded b l).bytes n → length n ≤ 65535 →
    ReadsBackAlone (expanded b l).bytes t n

-- Of the calls ------------------------------------------------------------------------------------------------------------------------------

-- `write` over lent texts was called with the buffer b and the lengths l, and returned w; so many bytes at the front of the output are its text.
pub record WriteTextsCall : Type 0 where
  pub b : List ℕ
  pub l : List ℕ
  pub x : List ℕ
  pub g : List ℕ
  pub d : List ℕ
  pub e : List ℕ
  pub o : List ℕ
  pub v : List ℕ
  pub out : List ℕ
  pub x' : List ℕ
  pub g' : List ℕ
  pub d' : List ℕ
  pub e' : List ℕ
  pub o' : List ℕ
  pub v' : List ℕ
  pub out' : List ℕ
  pub result : Written
  pub contract : WritesTexts b l x g d e o v out x' g' d' e' o' v' out' result

abbrev pub written : WriteTextsCall → List ℕ
written c = take c.result.length c.out'

-- Then `read` over lent texts was called with that text alone.
pub record ReadAloneCall (n : List ℕ) : Type 0 where
  pub x : List ℕ
  pub g : List ℕ
  pub d : List ℕ
  pub e : List ℕ
  pub o : List ℕ
  pub v : List ℕ
  pub x' : List ℕ
  pub g' : List ℕ
  pub d' : List ℕ
  pub e' : List ℕ
  pub o' : List ℕ
  pub v' : List ℕ
  pub result : Reading
  pub contract : ReadsTexts n (alone n) x g d e o v x' g' d' e' o' v' result

-- It accepts, with the same values.
pub record SameValuesAlone (c : WriteTextsCall) (r : ReadAloneCall (written c)) : Type 0 where
  -- the answer of the rules to the lent texts, with places in the expanded text
  pub rows : Tables
  pub answer : Answers c.b c.l (accepted rows)
  -- `write` left its rows, with places in the lent texts
  pub left_by_write : InRooms (rooms_after (accepted (placed_tables (place_of c.b c.l) rows)))
      c.d c.e c.o c.v c.d' c.e' c.o' c.v'
  -- what was written reads back alone
  pub back : ReadsBackAlone (expanded c.b c.l).bytes rows (written c)
  -- and `read` told so, and left the rows
  pub accepts : r.result ≡ reading_of (accepted (placed_tables (place_of (written c) (alone (written c))) back.as_one_text.back))
  pub left_by_read : InRooms (rooms_after (accepted (placed_tables (place_of (written c) (alone (written c))) back.as_one_text.back)))
      r.d r.e r.o r.v r.d' r.e' r.o' r.v'

-- The statement: `texts_read_back_called` in proofs/TextsBack.
abbrev pub TextsReadBackCalled : Type 0
TextsReadBackCalled =
    (c : WriteTextsCall) → c.result.answer ≡ Accepted → c.result.length ≤ 65535 →
    (r : ReadAloneCall (written c)) → FullRooms r.x r.g r.d r.e r.o r.v → SameValuesAlone c r
