-- The words under which marked rows of definitions stand. Assumes nothing.
use Rattle.std.specs.Prelude.{ℕ, ◌+◌, ◌*◌, ◌<◌, ◌≡◌, true, List, get_or}
use Rattle.sorting.specs.Sorted.{among_cells, Rising}

-- r is the word under which row i stands, if the row is marked in ms,
abbrev pub IsOwner : (d ms : List ℕ) → (i r : ℕ) → Type 0
IsOwner d ms i r = (get_or ms i 0 ≡ 0 → ⊥) → r ≡ get_or d (i * 19 + 0) 0

-- and each of the first n cells of u is that of its row.
pub record NotesOwners (d ms : List ℕ) (n : ℕ) (u : List ℕ) : Type 0 where
  pub cell : (i : ℕ) → i < n → IsOwner d ms i (get_or u i 0)

-- The cells of u rise, and the word under which a marked row stands is one of them.
pub record Owners (d ms u : List ℕ) : Type 0 where
  pub rising : Rising u
  pub has : (i : ℕ) → i < 512 → (get_or ms i 0 ≡ 0 → ⊥) → among_cells (get_or d (i * 19 + 0) 0) u ≡ true
