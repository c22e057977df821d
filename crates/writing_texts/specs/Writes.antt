-- What `write` promises over lent texts, by the rules of the papers themselves. Assumes nothing.
use Rattle.std.specs.Prelude.{◌≡◌, List, ◌++◌, ℕ, ◌≤◌, ◌<◌, length, drop}
use Rattle.meaning.specs.Answers.{Tables, Answer, accepted, refused}
use Rattle.meaning.specs.Cells.{rooms_after}
use Rattle.meaning.specs.Rules.{TheAnswer as TheTextsAnswer, TheNormalText, Untouched, InRooms}
use Rattle.reading.specs.declared.Answer.TheVariants.{Accepted, Refused}
use Rattle.writing.specs.declared.Written.{Written}
use Rattle.sources.specs.Texts.{told_well}
use Rattle.sources.specs.Expanding.{expanded}
use Rattle.sources.specs.Promises.{filled}
use Rattle.sources_reading.specs.Answering.{renumbered}
use Rattle.placing.specs.Placed.{place_in, placed_answer}
use Rattle.lent_texts.specs.Answered.{TheAnswer}
use Rattle.reading_texts.specs.Reads.{FullRooms}
use Rattle.reading_texts.specs.Filling.{Hold}

-- What comes of an answer a, where the normal text is that of s, and the lent output o holds o' afterwards. The cells are those of the table rooms.
pub data Written-by (s : List ℕ) (a : Answer) (o d' e' v' w' o' : List ℕ) (r : Written) : Type 0 where
  -- "No refusal touches the output"
  refuses : (n p : ℕ) → a ≡ refused n p → r ≡ record { answer = Refused n p; length = 0 } → Hold (rooms_after (refused n p)) d' e' v' w' → o' ≡ o →
      Written-by s a o d' e' v' w' o' r
  -- 20, "written text longer than the lent output", at 0
  longer : (t : Tables) → a ≡ accepted t → (w : List ℕ) → TheNormalText s w → length o < length w → r ≡ record { answer = Refused 20 0; length = 0 } →
      Hold (rooms_after (refused 20 0)) d' e' v' w' → o' ≡ o → Written-by s a o d' e' v' w' o' r
  -- accepted; "bytes past an accepted output stay"
  writes : (t : Tables) → a ≡ accepted t → (w : List ℕ) → TheNormalText s w → length w ≤ length o → r ≡ record { answer = Accepted; length = length w } →
      Hold (rooms_after (accepted t)) d' e' v' w' → o' ≡ w ++ drop (length w) o → Written-by s a o d' e' v' w' o' r

-- The one answer of the rules to the text s, where 3 is renumbered as n, with places by the origins g and the main text's length m.
pub record WritesExpanded (s g : List ℕ) (m n : ℕ) (o d' e' v' w' o' : List ℕ) (r : Written) : Type 0 where
  pub answer : Answer
  pub rules : TheTextsAnswer s answer
  pub outcome : Written-by s (placed_answer (place_in g (length s) m) (renumbered n answer)) o d' e' v' w' o' r

-- The one answer of the rules to the lent texts.
pub record FillsOutput (b l x g o x' g' d' e' v' w' o' : List ℕ) (r : Written) : Type 0 where
  pub answer : Answer
  pub rules : TheAnswer b l answer
  pub outcome : Written-by (expanded b l).bytes answer o d' e' v' w' o' r
  pub bytes : x' ≡ filled (told_well b l) 65535 x (expanded b l).bytes
  pub origins : g' ≡ filled (told_well b l) 65535 g (expanded b l).origins

-- For the texts of the buffer b with lengths l; x and g are lent for the expanded text and its origins, d, e, v, w are the lent tables (definitions,
-- enumerators, objects, values), o is the lent output; x' to o' is what they hold afterwards; r is what is returned.
pub data WritesTexts (b l x g d e v w o x' g' d' e' v' w' o' : List ℕ) (r : Written) : Type 0 where
  -- 1, "lent tables too short", at 0. "Refusal 1 changes nothing."
  short_tables : (FullRooms x g d e v w → ⊥) → r ≡ record { answer = Refused 1 0; length = 0 } → x' ≡ x → g' ≡ g → Untouched d e v w d' e' v' w' → o' ≡ o →
      WritesTexts b l x g d e v w o x' g' d' e' v' w' o' r
  -- Else the one answer of the rules to the texts, and what comes of it; "Memory past the stated room is unchanged."
  by_rules : FullRooms x g d e v w → (d₁ e₁ v₁ w₁ : List ℕ) → FillsOutput b l x g o x' g' d₁ e₁ v₁ w₁ o' r →
      d' ≡ d₁ ++ drop 6656 d → e' ≡ e₁ ++ drop 3072 e → v' ≡ v₁ ++ drop 2048 v → w' ≡ w₁ ++ drop 18432 w →
      WritesTexts b l x g d e v w o x' g' d' e' v' w' o' r
