-- A fault: the number and the place of a refusal that a text may get (document 01, "Refusals and their order"). Assumes nothing.
use Rattle.std.specs.Prelude.{List, [], ◌∷◌, Bool, true, false, ℕ, ltb, leb, eqb}
use Rattle.std.proofs.Math.Option.{Option, none, some}
use Rattle.token.specs.Find.{pick, both, either}
use Rattle.meaning.specs.Syntax.{Word}

pub record Fault : Type 0 where
  pub place : ℕ
  pub number : ℕ

-- The refusal n at the word t, if b.
unfoldable pub faults_if : Bool → Word → ℕ → List Fault
faults_if true t n = record { place = t.place; number = n } ∷ []
faults_if false t n = []

-- "by the leftmost place, then the smaller number": a is not after b.
unfoldable pub ahead : Fault → Fault → Bool
ahead a b = either (ltb a.place b.place) (both (eqb a.place b.place) (leb a.number b.number))

-- The earlier of two faults, where there are any.
unfoldable pub sooner : Option Fault → Option Fault → Option Fault
sooner none o = o
sooner (some a) none = some a
sooner (some a) (some b) = some (pick (ahead a b) a b)

-- The fault by which a stage with these faults answers.
unfoldable pub first : List Fault → Option Fault
first [] = none
first (f ∷ fs) = sooner (some f) (first fs)
