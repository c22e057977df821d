-- Where a file's definitions stand, and what is known of a text whose rows are read. Assumes nothing.
use Rattle.std.specs.Prelude.{◌≡◌, List, [], ◌∷◌, ◌++◌, ℕ, ◌≤◌, length}
use Rattle.token.specs.Tokens.{step_at, part_of}
use Rattle.grammar.specs.Grammar.{Derivation}
use Rattle.grammar.specs.Terminals.{tokens}
use Rattle.meaning.specs.Syntax.{Word, Definition, Definitions, no_more, define, Values, value, Defined, Spec, File}
use Rattle.meaning.specs.Actions.{syntax, num_of_step, float_of_step}
use Rattle.meaning.specs.Scopes.{Under}
use Rattle.layout.specs.Kept.{Choice, spec_entries, spec_choices, list_key}

-- f is the syntax of the text s.
pub record Situation (s : List ℕ) (f : File) : Type 0 where
  pub derivation : Derivation (tokens s)
  pub syntax_of : f ≡ syntax s derivation.tree

-- Standing ---------------------------------------------------------------------------------------------------------------------------------

-- A definition of a scope, a value of a list, a spec.
pub data HasDefinition : Definitions → Defined → Type 0 where
  this_definition : {d : Definition} {vs : Values} {ds : Definitions} → HasDefinition (define d vs ds) (record { definition = d; values = vs })
  later_definition : {d : Definition} {vs : Values} {ds : Definitions} {x : Defined} → HasDefinition ds x → HasDefinition (define d vs ds) x

pub data HasValue : Values → Under → Type 0 where
  this_value : {w : Word} {e : ℕ} {us : Definitions} {vs : Values} → HasValue (value w e us vs) (record { word = w; number = e; definitions = us })
  later_value : {w : Word} {e : ℕ} {us : Definitions} {vs : Values} {x : Under} → HasValue vs x → HasValue (value w e us vs) x

pub data HasSpec : List Spec → Spec → Type 0 where
  this_spec : {x : Spec} {xs : List Spec} → HasSpec (x ∷ xs) x
  later_spec : {x y : Spec} {xs : List Spec} → HasSpec xs x → HasSpec (y ∷ xs) x

-- The definitions ds stand under the word u: a kind's, or a value's at any depth.
pub data Stands (xs : List Spec) : Word → Definitions → Type 0 where
  under_kind : {x : Spec} → HasSpec xs x → Stands xs x.word x.definitions
  under_value : {u : Word} {ds : Definitions} {x : Defined} {v : Under} → Stands xs u ds → HasDefinition ds x → HasValue x.values v
      → Stands xs v.word v.definitions

-- The scope ds of the word at a place; the place 0 is no word's, and has none.
pub data ScopeAt (f : File) : ℕ → Definitions → Type 0 where
  no_scope : ScopeAt f 0 no_more
  scope : {u : Word} {ds : Definitions} {k : ℕ} → u.place ≡ k → Stands f.specs u ds → ScopeAt f k ds

-- Rows -------------------------------------------------------------------------------------------------------------------------------------

-- The element of number j.
pub record Nth {A : Type 0} (l : List A) (j : ℕ) (x : A) : Type 0 where
  pub front : List A
  pub rest : List A
  pub whole : l ≡ front ++ (x ∷ rest)
  pub place : length front ≡ j

-- Row j of the definitions is that of the definition x.
pub record RowOf (f : File) (j : ℕ) (x : Defined) : Type 0 where
  pub under : Word
  pub outer : ℕ
  pub nth : Nth (spec_entries f.specs) j (record { under = under; outer = outer; definition = x.definition; values = x.values })

-- None of some enumerators is of the list with the key k.
abbrev pub NoneOf : ℕ → List Choice → Type 0
NoneOf k [] = Unit {0}
NoneOf k (x ∷ xs) = (x.list ≡ k → ⊥) × NoneOf k xs

-- The first m enumerators, for which there is room, are all that the list vs has.
pub record Reached (f : File) (m : ℕ) (vs : Values) : Type 0 where
  pub front : List Choice
  pub rest : List Choice
  pub whole : spec_choices f.specs ≡ front ++ rest
  pub many : length front ≡ m
  pub room : m ≤ 1025
  pub free : NoneOf (list_key vs) rest

-- Words ------------------------------------------------------------------------------------------------------------------------------------

-- The word t is what stands in the text at a place, with a length.
pub record ReadAt (s : List ℕ) (t : Word) (at len : ℕ) : Type 0 where
  pub bytes : t.bytes ≡ part_of s at len
  pub number : t.number ≡ num_of_step (step_at s at)
  pub float : t.float ≡ float_of_step (step_at s at)
