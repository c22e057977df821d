-- What the comparison asks of lists. Assumes nothing.
use Rattle.std.specs.Prelude.{List, [], ◌∷◌, ◌++◌, Bool, ℕ, ◌+◌}
use Rattle.std.proofs.Math.Option.{Option, none, some}
use Rattle.token.specs.Find.{bit, pick}

-- The first of a list that passes a test.
unfoldable pub the_first : {A : Type 0} → (A → Bool) → List A → Option A
the_first t [] = none
the_first t (x ∷ xs) = let r = the_first t xs in pick (t x) (some x) r

-- What a function gives of each, one after the other.
unfoldable pub each_of : {A B : Type 0} → (A → List B) → List A → List B
each_of f [] = []
each_of f (x ∷ xs) = f x ++ each_of f xs

-- How many pass a test.
unfoldable pub count : {A : Type 0} → (A → Bool) → List A → ℕ
count t [] = 0
count t (x ∷ xs) = bit (t x) + count t xs

-- A lent list after the records ds were put to its front, "as many as it holds": "Entries past those used stay."
unfoldable pub overwrite : {A : Type 0} → List A → List A → List A
overwrite [] l = l
overwrite (d ∷ ds) [] = []
overwrite (d ∷ ds) (x ∷ l) = d ∷ overwrite ds l
