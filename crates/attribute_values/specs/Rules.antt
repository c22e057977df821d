-- What `value` promises by the rules of the papers themselves (document 02, Q-13). These words rest on no reader and no machine: the text's
-- answer is that of `Answers` (crates/meaning/specs/Reading.antt), the value is that of the syntax by any derivation of its tokens.
-- Assumes nothing.
use Rattle.std.specs.Prelude.{◌≡◌, List, ◌++◌, ℕ, ◌≤◌, ◌<◌, length, drop}
use Rattle.std.proofs.Math.Option.{none, some}
use Rattle.grammar.specs.Grammar.{Derivation}
use Rattle.grammar.specs.Terminals.{tokens}
use Rattle.meaning.specs.Syntax.{File}
use Rattle.meaning.specs.Actions.{syntax}
use Rattle.meaning.specs.Resolving.{Taken}
use Rattle.meaning.specs.Answers.{Tables, accepted, refused}
use Rattle.meaning.specs.Rules.{TheAnswer}
use Rattle.attribute_values.specs.Values.{value_of}
use Rattle.attribute_values.specs.Results.{text_of}
use Rattle.attribute_values.specs.Answered.{Valued, no_value, of_length}
use Rattle.rows.specs.Refusing.{refusing}

-- The answer with the lent output l, which is l' afterwards, where f is the syntax of an accepted text.
pub data Answered (f : File) (kind name path l l' : List ℕ) : Valued → Type 0 where
  -- "or not found"; "that and not found touch nothing"
  not_found : value_of f kind name path ≡ none → l' ≡ l → Answered f kind name path l l' no_value
  -- "A buffer too short gets refusal 20; that .. touch nothing": the place is 0, as for every 20.
  too_short : (t : Taken) → value_of f kind name path ≡ some t → length l < length (text_of t) → l' ≡ l → Answered f kind name path l l' (refusing 20 0)
  -- "the value of one attribute .., copied as normal text writes it, without what is under it, into a lent buffer"
  copies : (t : Taken) → value_of f kind name path ≡ some t → length (text_of t) ≤ length l → l' ≡ text_of t ++ drop (length (text_of t)) l
      → Answered f kind name path l l' (of_length (length (text_of t)))

-- For the text s, the kind word, the object's name, the path and the lent output l, which is l' afterwards; r is what is returned.
pub data ValuesByRules (s kind name path l l' : List ℕ) (r : Valued) : Type 0 where
  -- "A refused text gives its refusal."
  refuses : (n p : ℕ) → TheAnswer s (refused n p) → r ≡ refusing n p → l' ≡ l → ValuesByRules s kind name path l l' r
  answers : (t : Tables) → TheAnswer s (accepted t) → Derivation (tokens s) → ((d : Derivation (tokens s)) → Answered (syntax s d.tree) kind name path l l' r)
      → ValuesByRules s kind name path l l' r
