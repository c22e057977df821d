-- Thirteen counts, one for each kind.
-- Assumes nothing.
use Rattle.std.specs.Prelude.{ℕ, ◌+◌, List, [], ◌∷◌, get_or, set, ltb}
use Rattle.token.specs.Find.{pick}

-- the largest count
abbrev pub full : ℕ
full = 18446744073709551615

-- one more of kind k, unless its cell is full
unfoldable pub one_more : List ℕ → ℕ → List ℕ
one_more cs k = pick (ltb (get_or cs k 0) full) (set cs k (get_or cs k 0 + 1)) cs

-- the counts after some more kinds
unfoldable pub count_on : List ℕ → List ℕ → List ℕ
count_on cs [] = cs
count_on cs (k ∷ ks) = count_on (one_more cs k) ks
