-- Demand 3, as a statement about a reading of a text. The words of it are those of the grammar's own: `Covered`, `Derivation`, `Place`
-- (docs/DEMAND-3.md). Assumes nothing.
use Rattle.std.specs.Prelude.{◌≡◌, List, ◌↔◌, ℕ, ◌<◌}
use Rattle.grammar.specs.Grammar.{Derivation}
use Rattle.grammar.specs.Terminals.{tokens}
use Rattle.grammar.specs.Demand.{Covered, Place}
use Rattle.reading.specs.declared.Answer.{Answer}
use Rattle.reading.specs.declared.Answer.TheVariants.{Accepted, Refused}

-- "The grammar stage is that of 3 to 5; a reading passes it if it gives no refusal of that stage or an earlier one."
abbrev pub PassesGrammar : Answer → Type 0
PassesGrammar Accepted = Unit {0}
PassesGrammar (Refused n p) = 5 < n

-- "refusal 4, and its place is ..."
pub data RefusedByGrammar (s : List ℕ) : Answer → Type 0 where
  refused_at : (p : ℕ) → Place s p → RefusedByGrammar s (Refused 4 p)

pub record Demand-3 (s : List ℕ) (r : Answer) : Type 0 where
  -- "The reading passes the grammar stage exactly when document 01's grammar derives the text's tokens"
  pub passes_exactly : Covered s → PassesGrammar r ↔ Derivation (tokens s)
  -- "any two derivations of them are the same"
  pub one_derivation : (d e : Derivation (tokens s)) → d.tree ≡ e.tree
  -- "A reading that doesn't pass gives refusal 4, and its place is ..."
  pub refusal : Covered s → (PassesGrammar r → ⊥) → RefusedByGrammar s r
