-- The answer to lent texts, with its places in them. Assumes nothing.
use Rattle.std.specs.Prelude.{◌≡◌, List, ℕ, length}
use Rattle.meaning.specs.Answers.{Answer}
use Rattle.sources.specs.Expanding.{main_text, expanded}
use Rattle.sources_reading.specs.Answering.{Answers}
use Rattle.placing.specs.Placed.{place_in, placed_answer}

-- where a place of the expanded text of b with lengths l comes from
unfoldable pub place_of : List ℕ → List ℕ → ℕ → ℕ
place_of b l p = place_in (expanded b l).origins (length (expanded b l).bytes) (length (main_text b l)) p

-- The answer of the rules to the lent texts, where the lent tables have full room and no output is asked for: the rules give it in the expanded
-- text, and no other, and its places are those of the lent texts.
pub record TheAnswer (b l : List ℕ) (a : Answer) : Type 0 where
  pub in_expanded : Answer
  pub given : Answers b l in_expanded
  pub no_other : (x : Answer) → Answers b l x → x ≡ in_expanded
  pub placed : a ≡ placed_answer (place_of b l) in_expanded

-- The numbers of the first fault of an expanded text: none, 3 and 27 to 29.
pub data FaultNumber : ℕ → Type 0 where
  no_fault : FaultNumber 0
  no_token : FaultNumber 3
  still_open : FaultNumber 27
  not_lent : FaultNumber 28
  other_hash : FaultNumber 29

-- Theorem: there is no other. proofs/Numbers has `fault_numbers`.
abbrev pub FaultNumbers : Type 0
FaultNumbers = (b l : List ℕ) → FaultNumber (expanded b l).number
