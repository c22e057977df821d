-- What `check_standard` promises over lent texts, by the rules of the papers themselves (document 02, Q-9 and Q-10): the definitions are those of the
-- syntax by any derivation of the expanded tokens. Assumes nothing.
use Rattle.std.specs.Prelude.{◌≡◌, List, ℕ, Ok, Err, Some, None}
use Rattle.grammar.specs.Grammar.{Derivation}
use Rattle.meaning.specs.Actions.{syntax}
use Rattle.meaning.specs.Answers.{Tables, accepted, refused}
use Rattle.standard.specs.Rules.{Verdict, ChecksByRules}
use Rattle.standard.specs.Answered.{Checked, all_right, wrong_at}
use Rattle.rows.specs.Refusing.{refusing}
use Rattle.sources_reading.specs.Answering.{text, found}
use Rattle.placing.specs.Placed.{place_in}
use Rattle.lent_texts.specs.Answered.{place_of, TheAnswer}
use Rattle.lent_texts.specs.Expanded.{refusal_in, Rooms, Filled}
use Rattle.lent_texts.specs.declared.Expanded.{Expanded}

-- "A place becomes a text number, from 0, and a byte": of 25 or 26, by the map of places f.
unfoldable pub placed_checked : (ℕ → ℕ) → Checked → Checked
placed_checked f (Err r) = refusing r.number r.place
placed_checked f (Ok None) = all_right
placed_checked f (Ok (Some w)) = wrong_at w.number (f w.place) w.attribute

-- For the texts of the buffer b with lengths l; x and g are lent for the expanded text and its origins, x' and g' is what they hold afterwards; r is
-- what is returned.
pub data ChecksTexts (b l x g x' g' : List ℕ) (r : Checked) : Type 0 where
  -- 1, "lent tables too short", at 0. "Refusal 1 changes nothing."
  short_rooms : (Rooms x g → ⊥) → r ≡ refusing 1 0 → x' ≡ x → g' ≡ g → ChecksTexts b l x g x' g' r
  -- "another gives its refusal"
  refuses : Rooms x g → Filled b l x g x' g' → (n q : ℕ) → TheAnswer b l (refused n q) → r ≡ refusing n q → ChecksTexts b l x g x' g' r
  -- "a question over an accepted text": "leftmost is by expanded order"
  judges : Rooms x g → Filled b l x g x' g' → (t : Tables) → TheAnswer b l (accepted t) → Derivation (found b l)
      → (a : Checked) → ((d : Derivation (found b l)) → Verdict (syntax (text b l) d.tree) a) → r ≡ placed_checked (place_of b l) a
      → ChecksTexts b l x g x' g' r

-- The inner function ---------------------------------------------------------------------------------------------------------------------------

-- The answer to an expanded text e with the origins g, as that to the lent texts.
unfoldable pub told_in : List ℕ → Expanded → Checked → Checked
told_in g e (Err r) = refusing (refusal_in g e r.number r.place).number (refusal_in g e r.number r.place).place
told_in g e (Ok None) = all_right
told_in g e (Ok (Some w)) = wrong_at w.number (place_in g e.length e.main w.place) w.attribute

pub record ChecksExpanded (s g : List ℕ) (e : Expanded) (r : Checked) : Type 0 where
  pub in_expanded : Checked
  pub rules : ChecksByRules s in_expanded
  pub told : r ≡ told_in g e in_expanded
