-- What is copied out of the tables for the matching, row by row. Assumes nothing.
use Rattle.std.specs.Prelude.{◌≡◌, List, [], ◌∷◌, ℕ, zero, suc, ◌+◌, ◌-◌, ◌*◌, ◌<◌, ◌≤◌, min, eqb, length, get_or, set, drop}
use Rattle.token.specs.Find.{pick}
use Rattle.rows.specs.Table.{cell_of}
use Rattle.rows.specs.Search.{row_name}
use Rattle.comparing.specs.Naming.{number_of_name}
use Rattle.comparing.specs.Partners.{place_from, positions}
use Rattle.comparing.specs.Ordering.{Bounded}

-- Each of the first n cells of h is what f gives of its place.
pub record Holds (f : ℕ → ℕ) (n : ℕ) (h : List ℕ) : Type 0 where
  pub cell : (i : ℕ) → i < n → get_or h i 0 ≡ f i

-- The number of the name of definition i of the text s3.
unfoldable pub name_of : (s d x s2 d2 x2 s3 t : List ℕ) → ℕ → ℕ
name_of s d x s2 d2 x2 s3 t i = number_of_name s d x s2 d2 x2 (row_name s3 t 13 2 i)

-- The owner of row i, where the object's first row is r: 0 for the object, and else one more than the owner's row, counted from r.
unfoldable pub owner_cell : List ℕ → (r i : ℕ) → ℕ
owner_cell v r i = pick (eqb (cell_of v 9 i 1) 0) 0 (suc (min (cell_of v 9 i 2) 65536 - r))

unfoldable pub owner_from : List ℕ → (r i : ℕ) → ℕ
owner_from v r i = owner_cell v r (r + i)

-- The number of the name of row i, where h has those of the definitions.
unfoldable pub name_cell : (v h : List ℕ) → ℕ → ℕ
name_cell v h i = min (get_or h (cell_of v 9 i 0) 0) 1048576

unfoldable pub name_from : (v h : List ℕ) → (r i : ℕ) → ℕ
name_from v h r i = name_cell v h (r + i)

-- The step of row i with this name and this position.
unfoldable pub step_cell : (d v : List ℕ) → (i name p : ℕ) → ℕ
step_cell d v i name p = (min name 1048576 * 2 + min (cell_of d 13 (cell_of v 9 i 0) 6) 1) * 2048 + min p 65536

unfoldable pub step_of_row : (d v names places : List ℕ) → (r i : ℕ) → ℕ
step_of_row d v names places r i = step_cell d v (r + i) (get_or names i 0) (get_or places i 0)

-- The row, one more, of what is at the place p of an object whose first row is r; p is one more than the place, or 0.
unfoldable pub back_number : ℕ → ℕ → ℕ
back_number r p = pick (eqb p 0) 0 (r + p)

-- One cell of `back`.
unfoldable pub put_back : List ℕ → (p b : ℕ) → List ℕ
put_back l p b = pick (eqb p 0) l (set l (p - 1) b)

-- Each cell of `back` is one more than the row of the first partner from place k on, or 0.
pub record Backs (ps : List ℕ) (r k : ℕ) (back : List ℕ) : Type 0 where
  pub cell : (i : ℕ) → i < length back → get_or back i 0 ≡ back_number r (place_from k (drop k ps) (suc i))

-- What f gives of n numbers from i on.
unfoldable pub cells_of : (ℕ → ℕ) → (i n : ℕ) → List ℕ
cells_of f i zero = []
cells_of f i (suc n) = f i ∷ cells_of f (suc i) n

-- The columns of the n rows from row r on: owners, numbers of names, positions, steps.
unfoldable pub owners_of : List ℕ → (r n : ℕ) → List ℕ
owners_of v r n = cells_of (owner_cell v r) r n

unfoldable pub names_of : (v h : List ℕ) → (r n : ℕ) → List ℕ
names_of v h r n = cells_of (name_cell v h) r n

unfoldable pub places_of : (v h : List ℕ) → (r n : ℕ) → List ℕ
places_of v h r n = positions [] [] [] (owners_of v r n) (names_of v h r n)

unfoldable pub steps_of_rows : (d v h : List ℕ) → (r n : ℕ) → List ℕ
steps_of_rows d v h r n = cells_of (step_of_row d v (names_of v h r n) (places_of v h r n) r) 0 n

-- The rows, one more, of the partners of n rows, by the partners ps of the rows from row r on.
unfoldable pub back_cell : List ℕ → (r i : ℕ) → ℕ
back_cell ps r i = back_number r (place_from 0 ps (suc i))

unfoldable pub backs_of : List ℕ → (r n : ℕ) → List ℕ
backs_of ps r n = cells_of (back_cell ps r) 0 n

-- The columns of the n rows from row r on stand in os and ss.
pub record Columned (d v h : List ℕ) (r n : ℕ) (os ss : List ℕ) : Type 0 where
  pub owners : os ≡ owners_of v r n
  pub steps : ss ≡ steps_of_rows d v h r n

-- At most 2,048 rows from row r on, and the rooms b, c and e are as long as a.
pub record Roomy (r : ℕ) (a b c e : List ℕ) : Type 0 where
  pub few : r ≤ 2048
  pub owners : length a ≤ 2048
  pub names : length b ≡ length a
  pub places : length c ≡ length a
  pub steps : length e ≡ length a

-- At most 2,048 rows from row r on, with as many steps as owners.
pub record Coupled (r : ℕ) (a e : List ℕ) : Type 0 where
  pub few : r ≤ 2048
  pub owners : length a ≤ 2048
  pub steps : length e ≡ length a

-- Rows of a pair with the owners a and a2, the steps e and e2, and room for the partners of both.
pub record Partnering (r r2 : ℕ) (a e a2 e2 ps back : List ℕ) : Type 0 where
  pub steps : length e ≡ length a
  pub steps2 : length e2 ≡ length a2
  pub bounded : Bounded a e
  pub partners : length ps ≡ length a2
  pub first : r + length back ≤ 65536
  pub second : r2 + length ps ≤ 65536
