-- What `mend` promises by the rules of the papers themselves (document 02, Q-11). These words rest on no reader and no machine: the answers are
-- those of `Answers` (crates/meaning/specs/Reading.antt), the drops those of the syntax by any derivation of the text's tokens. Assumes nothing.
use Rattle.std.specs.Prelude.{◌≡◌, List, ◌++◌, ℕ, ◌≤◌, ◌<◌, length, drop}
use Rattle.std.proofs.Math.Option.{none}
use Rattle.grammar.specs.Grammar.{Derivation}
use Rattle.grammar.specs.Terminals.{tokens}
use Rattle.grammar.specs.Demand.{Covered}
use Rattle.meaning.specs.Faults.{first}
use Rattle.meaning.specs.Defining.{definition_faults}
use Rattle.meaning.specs.Applying.{object_faults}
use Rattle.meaning.specs.Actions.{syntax}
use Rattle.meaning.specs.Answers.{Tables, accepted, refused}
use Rattle.meaning.specs.Rules.{TheAnswer}
use Rattle.dropping.specs.Drops.{Drop, all_drops}
use Rattle.mending.specs.Pieces.{dropped, mended, lines}
use Rattle.mending.specs.Results.{place_back}
use Rattle.mending.specs.Answered.{Answer as Mended, refused_at, not_mended_at, done_at}

-- The text "passes all stages before 13": the grammar derives its tokens, and there is no fault of 6 to 12 and 17.
pub record Passes (s : List ℕ) : Type 0 where
  pub covered : Covered s
  pub derivation : Derivation (tokens s)
  pub no_definition_fault : first (definition_faults (syntax s derivation.tree)) ≡ none
  pub no_object_fault : first (object_faults (syntax s derivation.tree)) ≡ none

-- "Either too short": the text w or the lines x are longer than their outputs.
pub data TooShort (w x l k : List ℕ) : Type 0 where
  text_short : length l < length w → TooShort w x l k
  lines_short : length k < length x → TooShort w x l k

-- With the drops ds, where the outputs are l' and k' afterwards.
pub data Mending (s g : List ℕ) (ds : List Drop) (l k l' k' : List ℕ) : Mended → Type 0 where
  -- "Otherwise give the refusal of the mended text, with its place in the original, and leave both."
  not_mended : (n p : ℕ) → TheAnswer (mended s ds) (refused n p) → l' ≡ l → k' ≡ k → Mending s g ds l k l' k' (not_mended_at n (place_back s ds n p))
  -- "Either too short gets 20 and leaves both."
  too_short : (t : Tables) → TheAnswer (mended s ds) (accepted t) → TooShort (mended s ds) (lines g (dropped s ds)) l k → l' ≡ l → k' ≡ k
      → Mending s g ds l k l' k' (not_mended_at 20 0)
  -- "The mended text in one lent output and, in a second, one line for each drop .. come only if the mended text is accepted."
  done : (t : Tables) → TheAnswer (mended s ds) (accepted t)
      → length (mended s ds) ≤ length l → length (lines g (dropped s ds)) ≤ length k
      → l' ≡ mended s ds ++ drop (length (mended s ds)) l → k' ≡ lines g (dropped s ds) ++ drop (length (lines g (dropped s ds))) k
      → Mending s g ds l k l' k' (done_at (length (mended s ds)) (length (lines g (dropped s ds))))

-- For the text s, whose bytes have the origins g, and the lent outputs l and k, which hold l' and k' afterwards; r is what is returned.
pub data MendsByRules (s g l k l' k' : List ℕ) (r : Mended) : Type 0 where
  -- "(another gives its refusal)"
  refuses : (Passes s → ⊥) → (n p : ℕ) → TheAnswer s (refused n p) → r ≡ refused_at n p → l' ≡ l → k' ≡ k → MendsByRules s g l k l' k' r
  -- "Given a text that passes all stages before 13, drop each statement at fault by 13 or 14"
  mends : Passes s → ((d : Derivation (tokens s)) → Mending s g (all_drops (syntax s d.tree)) l k l' k' r) → MendsByRules s g l k l' k' r
