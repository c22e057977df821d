-- What `check_masks` and `plan_masks` promise over lent texts, by the rules of the papers themselves (document 02, Q-6 and Q-10): the events and
-- tasks are those of the syntax by any derivation of the expanded tokens. Assumes nothing.
use Rattle.std.specs.Prelude.{◌≡◌, List, ℕ}
use Rattle.grammar.specs.Grammar.{Derivation}
use Rattle.meaning.specs.Actions.{syntax}
use Rattle.meaning.specs.Answers.{Tables, accepted, refused}
use Rattle.masks.specs.Rules.{Verdict, ChecksByRules, Outcome, PlansByRules}
use Rattle.std.specs.Prelude.{Result, Ok, Err}
use Rattle.rows.specs.Refusing.{refusing}
use Rattle.rows.specs.declared.Fault.{Fault}
use Rattle.masks.specs.declared.Checked.{Checked}
use Rattle.masks.specs.declared.Planned.{Planned}
use Rattle.sources_reading.specs.Answering.{text, found}
use Rattle.lent_texts.specs.Answered.{TheAnswer}
use Rattle.lent_texts.specs.Expanded.{refusal_in, Rooms, Filled}
use Rattle.lent_texts.specs.declared.Expanded.{Expanded}

-- The checker, for the texts of the buffer b with lengths l and the list ms; x and g are lent for the expanded text and its origins, x' and g' is
-- what they hold afterwards; r is what is returned.
pub data ChecksTexts (b l x g x' g' ms : List ℕ) (r : Result Checked Fault) : Type 0 where
  -- 1, "lent tables too short", at 0. "Refusal 1 changes nothing."
  short_rooms : (Rooms x g → ⊥) → r ≡ refusing 1 0 → x' ≡ x → g' ≡ g → ChecksTexts b l x g x' g' ms r
  -- "A refused text gives its refusal"
  refuses : Rooms x g → Filled b l x g x' g' → (n q : ℕ) → TheAnswer b l (refused n q) → r ≡ refusing n q → ChecksTexts b l x g x' g' ms r
  -- "A checker takes an accepted text and anyone's list of masks."
  judges : Rooms x g → Filled b l x g x' g' → (t : Tables) → TheAnswer b l (accepted t) → Derivation (found b l) → (v : Checked) → r ≡ Ok v
      → ((d : Derivation (found b l)) → Verdict (syntax (text b l) d.tree) ms v) → ChecksTexts b l x g x' g' ms r

-- The planner, with the lent list ms, which is ms' afterwards.
pub data PlansTexts (b l x g x' g' ms ms' : List ℕ) (r : Result Planned Fault) : Type 0 where
  short_rooms : (Rooms x g → ⊥) → r ≡ refusing 1 0 → x' ≡ x → g' ≡ g → ms' ≡ ms → PlansTexts b l x g x' g' ms ms' r
  refuses : Rooms x g → Filled b l x g x' g' → (n q : ℕ) → TheAnswer b l (refused n q) → r ≡ refusing n q → ms' ≡ ms → PlansTexts b l x g x' g' ms ms' r
  judges : Rooms x g → Filled b l x g x' g' → (t : Tables) → TheAnswer b l (accepted t) → Derivation (found b l) → (v : Planned) → r ≡ Ok v
      → ((d : Derivation (found b l)) → Outcome (syntax (text b l) d.tree) ms ms' v) → PlansTexts b l x g x' g' ms ms' r

-- The inner functions --------------------------------------------------------------------------------------------------------------------------

-- The answer to an expanded text e with the origins g, as that to the lent texts.
unfoldable pub told_check : List ℕ → Expanded → Result Checked Fault → Result Checked Fault
told_check g e (Ok v) = Ok v
told_check g e (Err f) = Err (refusal_in g e f.number f.place)

unfoldable pub told_plan : List ℕ → Expanded → Result Planned Fault → Result Planned Fault
told_plan g e (Ok v) = Ok v
told_plan g e (Err f) = Err (refusal_in g e f.number f.place)

pub record ChecksExpanded (s g : List ℕ) (e : Expanded) (ms : List ℕ) (r : Result Checked Fault) : Type 0 where
  pub in_expanded : Result Checked Fault
  pub rules : ChecksByRules s ms in_expanded
  pub told : r ≡ told_check g e in_expanded

pub record PlansExpanded (s g : List ℕ) (e : Expanded) (ms ms' : List ℕ) (r : Result Planned Fault) : Type 0 where
  pub in_expanded : Result Planned Fault
  pub rules : PlansByRules s ms ms' in_expanded
  pub told : r ≡ told_plan g e in_expanded
