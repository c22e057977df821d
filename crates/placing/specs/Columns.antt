-- What is done to the cells of the lent tables. Assumes nothing.
use Rattle.std.specs.Prelude.{◌≡◌, List, [], ◌∷◌, ℕ, zero, suc, ◌+◌, ◌*◌, ◌≤◌, length, get_or, set, eqb}
use Rattle.token.specs.Find.{pick}
use Rattle.meaning.specs.Answers.{Tables}
use Rattle.meaning.specs.Cells.{definition_room, enumerator_room, object_room, value_room}
use Rattle.placing.specs.Placed.{placed_tables}

-- the place at cell i, with the length in the cell after it
unfoldable pub place_at : (ℕ → ℕ) → ℕ → List ℕ → List ℕ
place_at f i t = pick (eqb (get_or t (i + 1) 0) 0) t (set t i (f (get_or t i 0)))

-- column c of the first n rows of w cells
unfoldable pub place_column : (ℕ → ℕ) → ℕ → ℕ → ℕ → List ℕ → List ℕ
place_column f w c zero t = t
place_column f w c (suc n) t = place_at f (n * w + c) (place_column f w c n t)

-- columns, one after the other
unfoldable pub place_columns : (ℕ → ℕ) → ℕ → List ℕ → ℕ → List ℕ → List ℕ
place_columns f w [] n t = t
place_columns f w (c ∷ cs) n t = place_columns f w cs n (place_column f w c n t)

-- The rows of these tables fit into the stated rooms.
pub record RowsFit (t : Tables) : Type 0 where
  pub definitions : length t.definitions ≤ 512
  pub enumerators : length t.enumerators ≤ 1024
  pub objects : length t.objects ≤ 256
  pub values : length t.values ≤ 2048

-- Rooms with the rows of tables have the rows of the placed tables afterwards.
pub record PlacesTables (f : ℕ → ℕ) (d e o v d' e' o' v' : List ℕ) : Type 0 where
  pub definitions : (t : Tables) → RowsFit t → d ≡ definition_room t.definitions → d' ≡ definition_room (placed_tables f t).definitions
  pub enumerators : (t : Tables) → RowsFit t → e ≡ enumerator_room t.enumerators → e' ≡ enumerator_room (placed_tables f t).enumerators
  pub objects : (t : Tables) → RowsFit t → o ≡ object_room t.objects → o' ≡ object_room (placed_tables f t).objects
  pub values : (t : Tables) → RowsFit t → v ≡ value_room t.values → v' ≡ value_room (placed_tables f t).values
