-- Demand 3, as a statement about an answer to a text. Assumes nothing.
use Rattle.std.specs.Prelude.{◌≡◌, List, [], ◌∷◌, ◌++◌, ◌↔◌, ℕ, ◌≤◌, length, Ok}
use Rattle.grammar.specs.Grammar.{Token, Derivation, Begins}
use Rattle.grammar.specs.Terminals.{tokens}
use Rattle.grammar.specs.Stage.{number_of, place_of, Divides, Shallow}
use Rattle.grammar.specs.Answered.{Answer}

-- "any text of at most 65,535 bytes that divides wholly into tokens, with never more than sixteen braces open"
pub record Covered (s : List ℕ) : Type 0 where
  pub short : length s ≤ 65535
  pub divides : Divides s
  pub shallow : Shallow (tokens s)

-- The first token with which the tokens begin no list that the grammar derives. "The tokens before that one begin some list of tokens that
-- the grammar derives. With it they begin no such list, whatever the list's length and depth of braces."
pub record Offending (l : List Token) (t : Token) : Type 0 where
  pub before : List Token
  pub after : List Token
  pub whole : l ≡ before ++ (t ∷ after)
  pub viable : Begins before
  pub not_viable : Begins (before ++ (t ∷ [])) → ⊥

-- the place of refusal 4: that of this token, or the text's end where all tokens together still begin such a list
pub data Place (s : List ℕ) : ℕ → Type 0 where
  at_token : (t : Token) → Offending (tokens s) t → Place s t.place
  at_end : Begins (tokens s) → Place s (length s)

pub record Demand-3 (s : List ℕ) (r : Answer) : Type 0 where
  -- "The reading passes the grammar stage exactly when document 01's grammar derives the text's tokens"
  pub passes_exactly : Covered s → (r ≡ Ok tt) ↔ Derivation (tokens s)
  -- "any two derivations of them are the same"
  pub one_derivation : (d e : Derivation (tokens s)) → d.tree ≡ e.tree
  -- "A reading that doesn't pass gives refusal 4, and its place is ..."
  pub refusal : Covered s → (r ≡ Ok tt → ⊥) → (number_of r ≡ 4) × Place s (place_of r)
