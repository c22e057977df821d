-- What `read` promises over lent texts, by the rules of the papers themselves. Assumes nothing.
use Rattle.std.specs.Prelude.{◌≡◌, List, ◌⊎◌, ℕ, ◌≤◌, length}
use Rattle.token.specs.Find.{pick}
use Rattle.meaning.specs.Answers.{Answer, refused}
use Rattle.meaning.specs.Cells.{rooms_after}
use Rattle.meaning.specs.Rules.{FullRoom, Untouched, InRooms}
use Rattle.reading.specs.Results.{reading_of}
use Rattle.reading.specs.Demand.{Demand-3}
use Rattle.reading.specs.declared.Reading.{Reading}
use Rattle.reading.specs.declared.Answer.{Answer as Told}
use Rattle.reading.specs.declared.Answer.TheVariants.{Accepted, Refused}
use Rattle.sources.specs.Texts.{told_well}
use Rattle.sources.specs.Expanding.{expanded, expansion_of}
use Rattle.sources.specs.Promises.{filled}
use Rattle.placing.specs.Placed.{is_at_start}
use Rattle.lent_texts.specs.Answered.{place_of, TheAnswer}

-- Full room for the tables, and for 65,535 bytes of the expanded text with their origins.
pub record FullRooms (x g d e o v : List ℕ) : Type 0 where
  pub bytes : 65535 ≤ length x
  pub origins : 65535 ≤ length g
  pub tables : FullRoom d e o v

-- For the texts of the buffer b with lengths l; x and g are lent for the expanded text and its origins, d, e, o, v are the lent tables; x' to v' is
-- what they hold afterwards; r is what is returned.
pub data ReadsTexts (b l x g d e o v x' g' d' e' o' v' : List ℕ) (r : Reading) : Type 0 where
  -- 1, "lent tables too short", at 0. "Refusal 1 changes nothing."
  short_tables : (FullRooms x g d e o v → ⊥) → r ≡ reading_of (refused 1 0) → x' ≡ x → g' ≡ g → Untouched d e o v d' e' o' v' →
      ReadsTexts b l x g d e o v x' g' d' e' o' v' r
  -- Else the one answer of the rules to the texts: a refusal, whose rooms are zero, or the tables, whose rows are in the rooms.
  by_rules : FullRooms x g d e o v → (a : Answer) → TheAnswer b l a → r ≡ reading_of a → InRooms (rooms_after a) d e o v d' e' o' v' →
      x' ≡ filled (told_well b l) 65535 x (expanded b l).bytes → g' ≡ filled (told_well b l) 65535 g (expanded b l).origins →
      ReadsTexts b l x g d e o v x' g' d' e' o' v' r

-- "Demand 3 speaks of the expanded tokens, where nothing lent gives 27 to 30." -----------------------------------------------------------------

-- nothing lent gives 27 to 30
pub record Plain (b l : List ℕ) : Type 0 where
  pub within : (expansion_of b l).number ≡ 30 → ⊥
  pub number : ((expanded b l).number ≡ 0) ⊎ ((expanded b l).number ≡ 3)

-- an answer to the expanded text, with its place in the lent texts
unfoldable pub placed_told : (ℕ → ℕ) → Told → Told
placed_told f Accepted = Accepted
placed_told f (Refused n p) = Refused n (pick (is_at_start n) p (f p))

pub record DemandTexts (b l : List ℕ) (r : Told) : Type 0 where
  pub in_expanded : Told
  pub demand : Demand-3 (expanded b l).bytes in_expanded
  pub placed : r ≡ placed_told (place_of b l) in_expanded
