-- What `mend` promises over lent texts, by the rules of the papers themselves (document 02, Q-11: "A text with includes is expanded first"): the drops
-- are those of the syntax by any derivation of the expanded tokens. Assumes nothing.
use Rattle.std.specs.Prelude.{◌≡◌, List, ℕ, Ok, Err}
use Rattle.token.specs.Find.{pick}
use Rattle.grammar.specs.Grammar.{Derivation}
use Rattle.meaning.specs.Actions.{syntax}
use Rattle.meaning.specs.Answers.{refused}
use Rattle.sources.specs.Expanding.{expanded, expansion_of}
use Rattle.sources_reading.specs.Answering.{text, found}
use Rattle.placing.specs.Placed.{place_in, is_at_start}
use Rattle.lent_texts.specs.Answered.{place_of, TheAnswer}
use Rattle.lent_texts.specs.Expanded.{refusal_in, Rooms, Filled}
use Rattle.lent_texts.specs.declared.Expanded.{Expanded}
use Rattle.dropping.specs.Drops.{all_drops}
use Rattle.mending.specs.Rules.{Passes, Mending, MendsByRules}
use Rattle.mending.specs.Answered.{Answer}
use Rattle.mending.specs.declared.Unmended.TheVariants.{Refused, NotMended}
use Rattle.mending_texts.specs.Answered.{Answer as Mended, done_of}
use Rattle.rows.specs.Refusing.{refusing}

-- "A place becomes a text number, from 0, and a byte": of the refusal of the mended text, by the map of places f.
unfoldable pub placed_mended : (ℕ → ℕ) → Answer → Mended
placed_mended f (Err (Refused r)) = refusing r.number r.place
placed_mended f (Err (NotMended r)) = refusing r.number (pick (is_at_start r.number) r.place (f r.place))
placed_mended f (Ok d) = done_of d.text d.lines

-- For the texts of the buffer b with lengths l; x and g are lent for the expanded text and its origins, o and k for the mended text and the lines;
-- x', g', o' and k' is what they hold afterwards; r is what is returned.
pub data MendsTexts (b l x g o k x' g' o' k' : List ℕ) (r : Mended) : Type 0 where
  -- 1, "lent tables too short", at 0. "Refusal 1 changes nothing."
  short_rooms : (Rooms x g → ⊥) → r ≡ refusing 1 0 → x' ≡ x → g' ≡ g → o' ≡ o → k' ≡ k → MendsTexts b l x g o k x' g' o' k' r
  -- 30
  too_long : Rooms x g → Filled b l x g x' g' → (expansion_of b l).number ≡ 30 → TheAnswer b l (refused 30 0) → r ≡ refusing 30 0 → o' ≡ o → k' ≡ k
      → MendsTexts b l x g o k x' g' o' k' r
  -- "a text that passes all stages before 13 (another gives its refusal)"
  refuses : Rooms x g → Filled b l x g x' g' → ((expansion_of b l).number ≡ 30 → ⊥) → (Passes (text b l) → ⊥) → (n q : ℕ) → TheAnswer b l (refused n q)
      → r ≡ refusing n q → o' ≡ o → k' ≡ k → MendsTexts b l x g o k x' g' o' k' r
  -- It is mended, or the mended text's refusal is given, or 20: the answer is y, with its place in the lent texts.
  mends : Rooms x g → Filled b l x g x' g' → ((expansion_of b l).number ≡ 30 → ⊥) → Passes (text b l)
      → (y : Answer) → ((d : Derivation (found b l)) → Mending (text b l) (expanded b l).origins (all_drops (syntax (text b l) d.tree)) o k o' k' y)
      → r ≡ placed_mended (place_of b l) y → MendsTexts b l x g o k x' g' o' k' r

-- The inner function ---------------------------------------------------------------------------------------------------------------------------

-- The answer to an expanded text e with the origins g, as that to the lent texts.
unfoldable pub told_in : List ℕ → Expanded → Answer → Mended
told_in g e (Err (Refused r)) = refusing (refusal_in g e r.number r.place).number (refusal_in g e r.number r.place).place
told_in g e (Err (NotMended r)) = refusing r.number (pick (is_at_start r.number) r.place (place_in g e.length e.main r.place))
told_in g e (Ok d) = done_of d.text d.lines

pub record MendsExpanded (s g : List ℕ) (e : Expanded) (o k o' k' : List ℕ) (r : Mended) : Type 0 where
  pub in_expanded : Answer
  pub rules : MendsByRules s g o k o' k' in_expanded
  pub told : r ≡ told_in g e in_expanded
