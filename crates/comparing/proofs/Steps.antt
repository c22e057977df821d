-- The rows of an object's resolved values, as their paths and steps say them, and the differences of a pair by partners. Assumes nothing.
use mathlib.Core.Path.{◌≡◌}
use mathlib.Core.List.{List, [], ◌∷◌, ◌++◌}
use mathlib.Core.Option.{Option, none, some}
use Prim.Native.Nat.{ℕ, zero, suc, ◌+◌, ◌*◌}
use lib.Dec.{eqb}
use Rattle.token.specs.Find.{bit}
use Rattle.meaning.specs.Syntax.{Word}
use Rattle.meaning.specs.Resolving.{Taken, Resolved, end, resolved, how_many_values}
use Rattle.meaning.specs.Words.{choose, alike}
use Rattle.comparing.specs.Contents.{Step, Path, Placed, step_to, Content}
use Rattle.comparing.specs.Differences.{Difference, value_in_second, met}
use Rattle.comparing.specs.Partners.{place_from}

-- The owners of an object's resolved values, of which the first is row k and stands under the owner of the number o.
unfoldable pub owner_numbers : Resolved → (k o : ℕ) → List ℕ
owner_numbers end k o = []
owner_numbers (resolved t us rest) k o = o ∷ (owner_numbers us (suc k) (suc k) ++ owner_numbers rest (suc k + how_many_values us) o)

-- The steps to these values, where the attributes `before` have an entry each before them: the last one of each path.
unfoldable pub steps_of : Resolved → (before : List Word) → List Step
steps_of end before = []
steps_of (resolved t us rest) before = step_to t before ∷ (steps_of us [] ++ steps_of rest (t.definition.name ∷ before))

-- The path of row i.
unfoldable pub path_at : List Placed → ℕ → Path
path_at [] i = []
path_at (v ∷ vs) zero = v.path
path_at (v ∷ vs) (suc i) = path_at vs i

-- The value that is one before the number, nothing for 0.
unfoldable pub value_at : List Placed → ℕ → Option Placed
value_at vs zero = none
value_at [] (suc k) = none
value_at (v ∷ vs) (suc zero) = some v
value_at (v ∷ vs) (suc (suc k)) = value_at vs (suc k)

-- The differences of a pair, by the partners ps of the second object's values: of its first object's values from row i on,
unfoldable pub first_part : Content → Content → List ℕ → ℕ → List Placed → List Difference
first_part x y ps i [] = []
first_part x y ps i (v ∷ vs) = met x y v (value_at y.values (place_from 0 ps (suc i))) ++ first_part x y ps (suc i) vs

-- and of its second object's.
unfoldable pub second_part : Content → Content → List ℕ → List Placed → List Difference
second_part x y [] ws = []
second_part x y (p ∷ ps) [] = []
second_part x y (p ∷ ps) (w ∷ ws) = choose (eqb p 0) (λ _. value_in_second x.object y.object w ∷ []) (λ _. []) ++ second_part x y ps ws

-- The names of the attributes of these values, by a number for each word.
unfoldable pub name_numbers : (Word → ℕ) → Resolved → List ℕ
name_numbers c end = []
name_numbers c (resolved t us rest) = c t.definition.name ∷ (name_numbers c us ++ name_numbers c rest)

-- The positions of steps.
unfoldable pub positions_in : List Step → List ℕ
positions_in [] = []
positions_in (s ∷ ss) = s.position ∷ positions_in ss

-- The numbers of steps, of their names by a number for each word: equal numbers are equal steps, where positions are below 2,048.
unfoldable pub step_number : (Word → ℕ) → Step → ℕ
step_number c s = (c s.name * 2 + bit s.list) * 2048 + s.position

unfoldable pub step_numbers : (Word → ℕ) → List Step → List ℕ
step_numbers c [] = []
step_numbers c (s ∷ ss) = step_number c s ∷ step_numbers c ss

-- All attributes of these values have names of which N holds.
pub data AllNames (N : Word → Type 0) : Resolved → Type 0 where
  names_end : AllNames N end
  names_more : {t : Taken} {us rest : Resolved} → N t.definition.name → AllNames N us → AllNames N rest → AllNames N (resolved t us rest)

-- Words of which N holds are numbered so that equal numbers are equal bytes.
abbrev pub Numbering : (Word → Type 0) → (Word → ℕ) → Type 0
Numbering N c = (a b : Word) → N a → N b → eqb (c a) (c b) ≡ alike a b
