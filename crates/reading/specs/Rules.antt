-- What `read` and `read_spanned` promise by the rules of document 01 themselves. These words rest on no reader and no machine: the answer is
-- that of `Answers` (crates/meaning/specs/Reading.antt), by any derivation of the text's tokens. Assumes nothing.
use Rattle.std.specs.Prelude.{◌≡◌, List, ℕ}
use Rattle.meaning.specs.Answers.{Answer as Meant, refused}
use Rattle.meaning.specs.Cells.{rooms_after}
use Rattle.meaning.specs.Rules.{TheAnswer, FullRoom, Untouched, InRooms}
use Rattle.reading.specs.Results.{reading_of}
use Rattle.reading.specs.declared.Reading.{Reading}

-- For the text s and the lent tables d, e, o, v (definitions, enumerators, objects, values), which hold d', e', o', v' afterwards; r is what is
-- returned.
pub data ReadsByRules (s d e o v d' e' o' v' : List ℕ) (r : Reading) : Type 0 where
  -- 1, "lent tables too short", at 0. "Refusal 1 changes nothing."
  short_tables : (FullRoom d e o v → ⊥) → r ≡ reading_of (refused 1 0) → Untouched d e o v d' e' o' v' → ReadsByRules s d e o v d' e' o' v' r
  -- Else the one answer of the rules to the text: a refusal, whose rooms are zero, or the tables, whose rows are in the rooms.
  by_rules : FullRoom d e o v → (a : Meant) → TheAnswer s a → r ≡ reading_of a → InRooms (rooms_after a) d e o v d' e' o' v' → ReadsByRules s d e o v d' e' o' v' r
