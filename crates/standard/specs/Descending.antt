-- From a scope into that of a value, over the kept rows. No part of the public contract. Assumes nothing.
use Rattle.std.specs.Prelude.{◌≡◌, List, ℕ, ◌≤◌, length}
use Rattle.std.proofs.Math.Option.{Option, none, some}
use Rattle.meaning.specs.Syntax.{Values, File}
use Rattle.layout.specs.Kept.{spec_entries, kept_definitions, kept_enumerators}
use Rattle.scopes.specs.Situations.{Situation, Stands, ScopeAt, Reached}
use Rattle.standard.specs.Asking.{Step, Scope, into}

-- The scope that is entered is that of the word at a place; 0 where nothing is asked.
pub data Entered (f : File) : Option Scope → ℕ → Type 0 where
  nothing_asked : Entered f none 0
  entered : {u : Scope} {p : ℕ} → u.word.place ≡ p → Stands f.specs u.word u.definitions → Entered f (some u) p

-- From the scope of the word at key, by the attribute and the value with the bytes a and b.
abbrev pub StepsInto : List ℕ → List ℕ → List ℕ → (n m key : ℕ) → List ℕ → List ℕ → ℕ → Type 0
StepsInto s d e n m key a b r =
    (f : File) (x : Scope) (p : Step) → Situation s f → d ≡ kept_definitions f → e ≡ kept_enumerators f → n ≡ length (spec_entries f.specs) → n ≤ 513
    → ((vs : Values) → Reached f m vs) → ScopeAt f key x.definitions → p.attribute.bytes ≡ a → p.value.bytes ≡ b → Entered f (into x p) r
