-- What `write` promises by the rules of document 01 themselves. These words rest on no reader and no machine: the answer is that of `Answers`
-- (crates/meaning/specs/Reading.antt) and the text that of `normal`, by any derivation of the text's tokens. Assumes nothing.
use Rattle.std.specs.Prelude.{◌≡◌, List, ◌++◌, ℕ, ◌≤◌, ◌<◌, length, drop}
use Rattle.meaning.specs.Answers.{Tables, accepted, refused}
use Rattle.meaning.specs.Cells.{rooms_after}
use Rattle.meaning.specs.Rules.{TheAnswer, TheNormalText, FullRoom, Untouched, InRooms}
use Rattle.reading.specs.declared.Answer.TheVariants.{Accepted, Refused}
use Rattle.writing.specs.declared.Written.{Written}

-- For the text s, the lent tables d, e, o, v (definitions, enumerators, objects, values) and the lent output l, which hold d', e', o', v' and l'
-- afterwards; r is what is returned.
pub data WritesByRules (s d e o v l d' e' o' v' l' : List ℕ) (r : Written) : Type 0 where
  -- 1, "lent tables too short", at 0. "Refusal 1 changes nothing."
  short_tables : (FullRoom d e o v → ⊥)
      → r ≡ record { answer = Refused 1 0; length = 0 } → Untouched d e o v d' e' o' v' → l' ≡ l
      → WritesByRules s d e o v l d' e' o' v' l' r
  -- 2 to 19 and 21 to 24: the rules refuse the text. The table rooms are zero; "No refusal touches the output".
  refuses : FullRoom d e o v → (n p : ℕ) → TheAnswer s (refused n p)
      → r ≡ record { answer = Refused n p; length = 0 } → InRooms (rooms_after (refused n p)) d e o v d' e' o' v' → l' ≡ l
      → WritesByRules s d e o v l d' e' o' v' l' r
  -- 20, "written text longer than the lent output", at 0.
  longer : FullRoom d e o v → (t : Tables) → TheAnswer s (accepted t) → (w : List ℕ) → TheNormalText s w → length l < length w
      → r ≡ record { answer = Refused 20 0; length = 0 } → InRooms (rooms_after (refused 20 0)) d e o v d' e' o' v' → l' ≡ l
      → WritesByRules s d e o v l d' e' o' v' l' r
  -- Accepted: the rows are in the rooms and the normal text is at the front of the output; "bytes past an accepted output stay".
  writes : FullRoom d e o v → (t : Tables) → TheAnswer s (accepted t) → (w : List ℕ) → TheNormalText s w → length w ≤ length l
      → r ≡ record { answer = Accepted; length = length w } → InRooms (rooms_after (accepted t)) d e o v d' e' o' v' → l' ≡ w ++ drop (length w) l
      → WritesByRules s d e o v l d' e' o' v' l' r
