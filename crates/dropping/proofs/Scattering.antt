-- The laws of marks: the drops put into them one after another. Assumes nothing.
use mathlib.Core.Path.{◌≡◌, refl, ◌∙◌}
use mathlib.Core.List.{List, [], ◌∷◌, ◌++◌}
use Prim.Native.Nat.{ℕ}
use lib.ListN.{length, set, length-set}
use Rattle.dropping.specs.Drops.{Drop, scatter}

-- Those of two lists, one list after the other.
pub scatter_append : (m : List ℕ) (a b : List Drop) → scatter m (a ++ b) ≡ scatter (scatter m a) b
unfolding scatter
scatter_append m [] b = refl
scatter_append m (x ∷ a) b = scatter_append (set m x.place x.number) a b

-- There are as many marks as before.
pub length_scatter : (m : List ℕ) (ds : List Drop) → length (scatter m ds) ≡ length m
unfolding scatter
length_scatter m [] = refl
length_scatter m (x ∷ ds) = length_scatter (set m x.place x.number) ds ∙ length-set m x.place x.number
