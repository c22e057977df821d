-- Q-7 of document 02 over lent texts ("These hold in Q-7 too"): the version string and the implementation's name of the expanded text, with their
-- places in the lent texts, or a refusal. Assumes nothing.
use Rattle.std.specs.Prelude.{◌≡◌, List, ℕ, Ok, Err}
use Rattle.meaning.specs.Answers.{refused as is_refused}
use Rattle.heading.specs.Headings.{Front, answer_in, Heads}
use Rattle.heading.specs.Answered.{Answer, heading_at}
use Rattle.rows.specs.Refusing.{refusing}
use Rattle.sources.specs.Expanding.{expansion_of}
use Rattle.sources_reading.specs.Answering.{found}
use Rattle.placing.specs.Placed.{place_in}
use Rattle.lent_texts.specs.Answered.{place_of, TheAnswer}
use Rattle.lent_texts.specs.Expanded.{refusal_in, Rooms, Filled}
use Rattle.lent_texts.specs.declared.Expanded.{Expanded}

-- "A place becomes a text number, from 0, and a byte": of an answer from tokens, by the map of places f. "lengths count expanded bytes".
unfoldable pub placed_heading : (ℕ → ℕ) → Answer → Answer
placed_heading f (Ok h) = heading_at (f h.version_at) h.version_len (f h.name_at) h.name_len
placed_heading f (Err r) = refusing r.number r.place

-- THE ANSWER to the lent texts b with lengths l.
pub data TextsHead (b l : List ℕ) : Answer → Type 0 where
  -- "Refusal 2 comes first": "30 replaces 2"
  too_long : (expansion_of b l).number ≡ 30 → TextsHead b l (refusing 30 0)
  -- among the expanded tokens there is that brace
  headed : ((expansion_of b l).number ≡ 30 → ⊥) → (f : Front (found b l)) → TextsHead b l (placed_heading (place_of b l) (answer_in f.tree))
  -- "or there is none, that same number and place": those of the full reading of the lent texts
  refused : ((expansion_of b l).number ≡ 30 → ⊥) → (Front (found b l) → ⊥) → (n p : ℕ) → TheAnswer b l (is_refused n p) → TextsHead b l (refusing n p)

-- x and g are lent for the expanded text and its origins; x' and g' is what they hold afterwards; r is what is returned.
pub data HeadsTexts (b l x g x' g' : List ℕ) (r : Answer) : Type 0 where
  -- 1, "lent tables too short", at 0. "Refusal 1 changes nothing."
  short_rooms : (Rooms x g → ⊥) → r ≡ refusing 1 0 → x' ≡ x → g' ≡ g → HeadsTexts b l x g x' g' r
  by_rules : Rooms x g → TextsHead b l r → Filled b l x g x' g' → HeadsTexts b l x g x' g' r

-- The inner function ---------------------------------------------------------------------------------------------------------------------------

-- The answer to an expanded text e with the origins g, as that to the lent texts.
unfoldable pub told_in : List ℕ → Expanded → Answer → Answer
told_in g e (Ok h) = heading_at (place_in g e.length e.main h.version_at) h.version_len (place_in g e.length e.main h.name_at) h.name_len
told_in g e (Err r) = refusing (refusal_in g e r.number r.place).number (refusal_in g e r.number r.place).place

pub record HeadsExpanded (s g : List ℕ) (e : Expanded) (r : Answer) : Type 0 where
  pub in_expanded : Answer
  pub heads : Heads s in_expanded
  pub told : r ≡ told_in g e in_expanded
