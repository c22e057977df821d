-- What `check_standard` promises by the rules of the papers themselves (document 02, Q-9). These words rest on no reader and no search: the
-- text's answer is that of `Answers` (crates/meaning/specs/Reading.antt), its definitions are those of the syntax by any derivation of its tokens,
-- and what is asked for and where is told over the two trees of definitions (Conforming). Assumes nothing.
use Rattle.std.specs.Prelude.{◌≡◌, List, ◌↔◌, ℕ}
use Rattle.std.proofs.Math.Option.{none, some}
use Rattle.grammar.specs.Grammar.{Derivation}
use Rattle.grammar.specs.Terminals.{tokens}
use Rattle.meaning.specs.Syntax.{Defined, File}
use Rattle.meaning.specs.Actions.{syntax}
use Rattle.meaning.specs.Answers.{Tables, accepted, refused}
use Rattle.meaning.specs.Reading.{Answers}
use Rattle.meaning.specs.Rules.{TheAnswer}
use Rattle.meaning.specs.Scopes.{find_definition}
use Rattle.standard.specs.Asking.{Scope, Finding}
use Rattle.standard.specs.Section.{standard}
use Rattle.standard.specs.Checking.{checked}
use Rattle.standard.specs.Conforming.{Asks, Agrees, Conforms, NotBehind}
use Rattle.standard.specs.Answered.{Checked, all_right, wrong_at}
use Rattle.rows.specs.Refusing.{refusing}

-- What is wrong with the file f, by the standard: an attribute that is asked for is absent or differs.
pub data Wrong (f : File) : Finding → Type 0 where
  -- "25 for one absent (at the owning kind word or value word, or the implementation's name if the kind is absent)"
  absent : {x : Defined} {u : Scope} → Asks standard f x u → find_definition u.definitions x.definition.name ≡ none
      → Wrong f (record { place = u.word.place; number = 25; attribute = x.definition.row })
  -- "26 for one that differs (at its name)"
  different : {x d : Defined} {u : Scope} → Asks standard f x u → find_definition u.definitions x.definition.name ≡ some d → (Agrees x d → ⊥)
      → Wrong f (record { place = d.definition.name.place; number = 26; attribute = x.definition.row })

-- The answer, where f is the syntax of an accepted text.
pub data Verdict (f : File) : Checked → Type 0 where
  nothing_wrong : Conforms standard f → Verdict f all_right
  -- "Leftmost place, then smaller number, then the order of names in section 5.2; tell too its number, from 0, among these in that order."
  wrong : (x : Finding) → Wrong f x → ((y : Finding) → Wrong f y → NotBehind x y) → Verdict f (wrong_at x.number x.place x.attribute)

-- For the text s; r is what is returned.
pub data ChecksByRules (s : List ℕ) (r : Checked) : Type 0 where
  -- "another gives its refusal"
  refuses : (n q : ℕ) → TheAnswer s (refused n q) → r ≡ refusing n q → ChecksByRules s r
  -- "a question over an accepted text"
  judges : (t : Tables) → TheAnswer s (accepted t) → Derivation (tokens s) → ((d : Derivation (tokens s)) → Verdict (syntax s d.tree) r) → ChecksByRules s r

-- Theorem: nothing is wrong exactly if every standard attribute that is asked for is there and agrees. Of every accepted text, by any derivation.
-- proofs/ByRules has `nothing_exactly`.
abbrev pub NothingExactly : Type 0
NothingExactly = (s : List ℕ) (t : Tables) → Answers s (accepted t) → (d : Derivation (tokens s)) → (checked s ≡ all_right) ↔ Conforms standard (syntax s d.tree)
