-- Demand 2, second half, of the calls themselves: "Written out with every value stated, it reads back to the same values, provided the written text
-- is at most 65,535 bytes." Assumes nothing.
use Rattle.std.specs.Prelude.{◌≡◌, List, ℕ, ◌≤◌, take}
use Rattle.meaning.specs.Answers.{Tables, accepted}
use Rattle.meaning.specs.Applying.{ObjectRow}
use Rattle.meaning.specs.Places.{each}
use Rattle.meaning.specs.Cells.{rooms_after}
use Rattle.meaning.specs.Rules.{FullRoom, InRooms}
use Rattle.reading.specs.Results.{reading_of}
use Rattle.reading.specs.Rules.{ReadsByRules}
use Rattle.reading.specs.declared.Answer.TheVariants.{Accepted}
use Rattle.reading.specs.declared.Reading.{Reading}
use Rattle.writing.specs.Rules.{WritesByRules}
use Rattle.writing.specs.declared.Written.{Written}
use Rattle.reads_back.specs.ReadsBack.{bare, words_of, ranges_of, AllStated}

-- `write` was called with the text s, the tables d, e, o, v and the output l; these hold d', e', o', v' and l' now, and it returned w.
pub record WriteCall : Type 0 where
  pub text : List ℕ
  pub d : List ℕ
  pub e : List ℕ
  pub o : List ℕ
  pub v : List ℕ
  pub l : List ℕ
  pub d' : List ℕ
  pub e' : List ℕ
  pub o' : List ℕ
  pub v' : List ℕ
  pub l' : List ℕ
  pub result : Written
  pub contract : WritesByRules text d e o v l d' e' o' v' l' result

-- What it wrote: so many bytes at the front of the output.
abbrev pub written : WriteCall → List ℕ
written c = take c.result.length c.l'

-- Then `read` was called with what was written and the tables d, e, o, v; these hold d', e', o', v' now, and it returned r.
pub record ReadCall (text : List ℕ) : Type 0 where
  pub d : List ℕ
  pub e : List ℕ
  pub o : List ℕ
  pub v : List ℕ
  pub d' : List ℕ
  pub e' : List ℕ
  pub o' : List ℕ
  pub v' : List ℕ
  pub result : Reading
  pub contract : ReadsByRules text d e o v d' e' o' v' result

-- The two calls left the same values.
pub record SameValues (c : WriteCall) (b : ReadCall (written c)) : Type 0 where
  -- The rows that `write` left in its tables, and those that `read` left in its own.
  pub rows : Tables
  pub left_by_write : InRooms (rooms_after (accepted rows)) c.d c.e c.o c.v c.d' c.e' c.o' c.v'
  pub back : Tables
  pub left_by_read : InRooms (rooms_after (accepted back)) b.d b.e b.o b.v b.d' b.e' b.o' b.v'
  -- `read` accepts, with so many rows of each table and so many objects of each kind.
  pub accepts : b.result ≡ reading_of (accepted back)
  -- "with every value stated"
  pub stated : AllStated back.values
  -- The same rows "but places, lengths and the stated mark", and numbers of parts, with the same bytes at their words and ranges.
  pub same : bare back ≡ bare rows
  -- "read back, each number of parts is one"
  pub one_part : each (λ (r : ObjectRow). r.parts) back.objects ≡ each (λ (r : ObjectRow). 1) back.objects
  pub words : words_of (written c) back ≡ words_of c.text rows
  pub ranges : ranges_of (written c) back ≡ ranges_of c.text rows

-- The statement: `reads_back_called` in proofs/RoundTrip.
abbrev pub ReadsBackCalled : Type 0
ReadsBackCalled =
    (c : WriteCall) → c.result.answer ≡ Accepted → c.result.length ≤ 65535
    → (b : ReadCall (written c)) → FullRoom b.d b.e b.o b.v → SameValues c b
