-- What Q-7 of document 02 says of the answer, sentence by sentence, over lent texts. Assumes nothing.
use Rattle.std.specs.Prelude.{◌≡◌, List, ℕ, ◌+◌, ◌-◌, ◌≤◌, ◌<◌, Ok}
use Rattle.grammar.specs.Grammar.{Derivation}
use Rattle.grammar.specs.Stage.{place_of as stage_place, Answers as StageAnswers}
use Rattle.grammar.specs.Answered.{Answer as StageAnswer}
use Rattle.meaning.specs.Actions.{syntax}
use Rattle.meaning.specs.Answers.{refused}
use Rattle.heading.specs.Headings.{Front, brace_in, answer_in}
use Rattle.heading.specs.Promises.{its_version_and_name, InQuotes}
use Rattle.heading.specs.Answered.{Answer, heading_at}
use Rattle.rows.specs.Refusing.{refusing}
use Rattle.sources.specs.Expanding.{expansion_of}
use Rattle.sources_reading.specs.Answering.{text, found}
use Rattle.lent_texts.specs.Answered.{place_of, TheAnswer}
use Rattle.heading_texts.specs.Headings.{placed_heading}

-- The n bytes that stand at p of the lent texts stand in quotes in the expanded text.
pub record Quoted (b l : List ℕ) (p n : ℕ) : Type 0 where
  pub at : ℕ
  pub placed : p ≡ place_of b l at
  pub in_quotes : InQuotes (text b l) (at - 1) (at + n + 1)

-- r is the answer to the lent texts b with lengths l.
pub record Q-7-Texts (b l : List ℕ) (r : Answer) : Type 0 where
  -- "the version string, without its quotes"
  pub without_quotes : (p n q m : ℕ) → r ≡ heading_at p n q m → Quoted b l p n
  -- "Refusal 2 comes first.": "30 replaces 2"
  pub first : (expansion_of b l).number ≡ 30 → r ≡ refusing 30 0
  -- "For a text that derives from the grammar the answer equals its version and name."
  pub derives : ((expansion_of b l).number ≡ 30 → ⊥) → (d : Derivation (found b l)) → r ≡ placed_heading (place_of b l) (its_version_and_name (syntax (text b l) d.tree))
  -- "For others, if the full reading's refusal 3, 4 or 5 lies at or before that brace, or there is none, that same number and place": "27 to 29 are
  -- placed at the `#` in the stage of 3 to 5", and what that stage refuses in the expanded text is the refusal n at p of the lent texts
  pub that_same : ((expansion_of b l).number ≡ 30 → ⊥) → (a : StageAnswer) → StageAnswers (text b l) a → (a ≡ Ok tt → ⊥)
      → ((f : Front (found b l)) → stage_place a ≤ (brace_in f.tree).place) → (n p : ℕ) → TheAnswer b l (refused n p) → r ≡ refusing n p
  -- "otherwise the answer": "leftmost is by expanded order"
  pub later : (f : Front (found b l)) (a : StageAnswer) → StageAnswers (text b l) a → (a ≡ Ok tt → ⊥) → (brace_in f.tree).place < stage_place a
  pub otherwise : ((expansion_of b l).number ≡ 30 → ⊥) → (f : Front (found b l)) → r ≡ placed_heading (place_of b l) (answer_in f.tree)
  -- so what is refused is what the rules of the full reading refuse
  pub as_read : (n p : ℕ) → r ≡ refusing n p → TheAnswer b l (refused n p)
  -- "It never gives 6."
  pub never_6 : (p : ℕ) → r ≡ refusing 6 p → ⊥
