-- What the functions inside `read` promise. Assumes nothing.
use Rattle.std.specs.Prelude.{◌≡◌, List, ℕ, length}
use Rattle.meaning.specs.Answers.{Answer}
use Rattle.meaning.specs.Cells.{RoomCells, rooms_after}
use Rattle.meaning.specs.Rules.{TheAnswer as TheTextsAnswer}
use Rattle.reading.specs.Results.{reading_of}
use Rattle.reading.specs.declared.Reading.{Reading}
use Rattle.sources.specs.Texts.{told_well}
use Rattle.sources.specs.Expanding.{expanded}
use Rattle.sources.specs.Promises.{filled}
use Rattle.sources_reading.specs.Answering.{renumbered}
use Rattle.placing.specs.Placed.{place_in, placed_answer}
use Rattle.lent_texts.specs.Answered.{TheAnswer}

-- Rooms of the stated sizes.
pub record RoomSizes (d e o v : List ℕ) : Type 0 where
  pub definitions : length d ≡ 6656
  pub enumerators : length e ≡ 3072
  pub objects : length o ≡ 2048
  pub values : length v ≡ 18432

-- They hold these cells.
pub record Hold (c : RoomCells) (d e o v : List ℕ) : Type 0 where
  pub definitions : d ≡ c.definitions
  pub enumerators : e ≡ c.enumerators
  pub objects : o ≡ c.objects
  pub values : v ≡ c.values

-- The one answer a of the rules to the text s, where 3 is renumbered as n, with places by the origins g and the main text's length m.
pub record ReadsExpanded (s g : List ℕ) (m n : ℕ) (d' e' o' v' : List ℕ) (r : Reading) : Type 0 where
  pub answer : Answer
  pub rules : TheTextsAnswer s answer
  pub result : r ≡ reading_of (placed_answer (place_in g (length s) m) (renumbered n answer))
  pub rooms : Hold (rooms_after (placed_answer (place_in g (length s) m) (renumbered n answer))) d' e' o' v'

pub record FillsTexts (b l x g x' g' d' e' o' v' : List ℕ) (r : Reading) : Type 0 where
  pub answer : Answer
  pub rules : TheAnswer b l answer
  pub result : r ≡ reading_of answer
  pub rooms : Hold (rooms_after answer) d' e' o' v'
  pub bytes : x' ≡ filled (told_well b l) 65535 x (expanded b l).bytes
  pub origins : g' ≡ filled (told_well b l) 65535 g (expanded b l).origins
