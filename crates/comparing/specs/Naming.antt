-- Numbers of names across two texts. Assumes nothing.
use Rattle.std.specs.Prelude.{List, ℕ, ◌+◌, ◌≤◌, length}
use Rattle.indexes.specs.Indexing.{Indexed, name_rank}

-- The number of a name: how many definitions of both texts have a lesser one, by the indexes x and x2.
unfoldable pub number_of_name : (s d x s2 d2 x2 : List ℕ) → List ℕ → ℕ
number_of_name s d x s2 d2 x2 l = name_rank s d 13 0 2 x l + name_rank s2 d2 13 0 2 x2 l

-- x is the index by name of the first definitions, as many as it has cells.
pub record Index (s d x : List ℕ) : Type 0 where
  pub index : Indexed s d 13 (length x) 0 2 x
  pub few : length x ≤ 65536
