-- What `compare` promises by the rules of the papers themselves (document 02, Q-8). These words rest on no reader and no machine: a text's
-- answer is that of `Answers` (crates/meaning/specs/Reading.antt), and the differences are those of the syntax by any derivation of the texts'
-- tokens. Assumes nothing.
use Rattle.std.specs.Prelude.{◌≡◌, List, ℕ, length}
use Rattle.grammar.specs.Grammar.{Derivation}
use Rattle.grammar.specs.Terminals.{tokens}
use Rattle.meaning.specs.Actions.{syntax}
use Rattle.meaning.specs.Answers.{Tables, accepted, refused}
use Rattle.meaning.specs.Rules.{TheAnswer}
use Rattle.comparing.specs.Lists.{overwrite}
use Rattle.comparing.specs.Differences.{differences, told, Difference as Change}
use Rattle.comparing.specs.declared.Difference.{Difference}
use Rattle.comparing.specs.declared.Compared.{Compared as Result}

-- "Differences go into a lent list of records, as many as it holds, at most 64 .. The true total is always told. Entries past those used stay."
pub record Tells (ds : List Change) (l l' : List Difference) (r : Result) : Type 0 where
  pub list : l' ≡ overwrite (told ds) l
  pub result : r ≡ record { which = 0; number = 0; place = 0; total = length ds }

-- "If a text is refused, say .. which (1 or 2), number and place .. and leave the list."
pub record Refuses (which number place : ℕ) (l l' : List Difference) (r : Result) : Type 0 where
  pub list : l' ≡ l
  pub result : r ≡ record { which = which; number = number; place = place; total = 0 }

-- For the texts s and t and the lent list l, which is l' afterwards; r is what is returned.
pub data ComparesByRules (s t : List ℕ) (l l' : List Difference) (r : Result) : Type 0 where
  -- "if both are only the first's"
  first_refused : (n p : ℕ) → TheAnswer s (refused n p) → Refuses 1 n p l l' r → ComparesByRules s t l l' r
  second_refused : (a : Tables) → TheAnswer s (accepted a) → (n p : ℕ) → TheAnswer t (refused n p) → Refuses 2 n p l l' r → ComparesByRules s t l l' r
  -- "Take two accepted texts"
  both_accepted : (a b : Tables) → TheAnswer s (accepted a) → TheAnswer t (accepted b) → Derivation (tokens s) → Derivation (tokens t)
      → ((d : Derivation (tokens s)) (e : Derivation (tokens t)) → Tells (differences (syntax s d.tree) (syntax t e.tree)) l l' r)
      → ComparesByRules s t l l' r
