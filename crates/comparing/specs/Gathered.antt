-- Differences as they are gathered, by value. Assumes nothing.
use Rattle.std.specs.Prelude.{◌≡◌, List, [], ◌∷◌, ◌++◌, ℕ, zero, suc, ◌+◌, ◌-◌, min, eqb, length, take, get_or}
use Rattle.token.specs.Find.{pick}
use Rattle.token.specs.Words.{same}
use Rattle.comparing.specs.Keys.{row_key}
use Rattle.comparing.specs.Partners.{partners}
use Rattle.comparing.specs.Columns.{owners_of, steps_of_rows, backs_of}
use Rattle.comparing.specs.declared.Difference.{Difference}
use Rattle.comparing.specs.declared.Found.{Found}

-- No total is as large as this.
abbrev pub cap : ℕ
cap = 0x8000_0000_0000_0000

-- The records ds were found: the first 64 of them stand at the front, and how many there are is told.
pub record Told (ds : List Difference) (f : Found) : Type 0 where
  pub total : f.total ≡ min cap (length ds)
  pub records : take (min 64 (length ds)) f.records ≡ take 64 ds

-- One more after whatever was found.
abbrev pub ToldMore : Found → Difference → Found → Type 0
ToldMore f d r = (ds : List Difference) → Told ds f → Told (ds ++ (d ∷ [])) r

-- The records es after whatever was found.
abbrev pub ToldAlso : Found → List Difference → Found → Type 0
ToldAlso f es r = (ds : List Difference) → Told ds f → Told (ds ++ es) r

-- The record of row r of the first text, which has the partner b, one more than its row, or 0; x and y are one more than the objects' rows.
unfoldable pub first_record : (s d v s2 d2 v2 : List ℕ) (x y b r : ℕ) → List Difference
first_record s d v s2 d2 v2 x y b r =
    pick (eqb b 0) (record { first_object = x; second_object = y; first_value = r + 1; second_value = 0 } ∷ [])
    (pick (same (row_key s d v r) (row_key s2 d2 v2 (b - 1))) []
    (record { first_object = x; second_object = y; first_value = r + 1; second_value = b } ∷ []))

-- Those of n rows from row r on, whose partners are the cells of `back` from k on.
unfoldable pub first_records : (s d v s2 d2 v2 back : List ℕ) (x y : ℕ) → ℕ → (r k : ℕ) → List Difference
first_records s d v s2 d2 v2 back x y zero r k = []
first_records s d v s2 d2 v2 back x y (suc n) r k =
    first_record s d v s2 d2 v2 x y (get_or back k 0) r ++ first_records s d v s2 d2 v2 back x y n (r + 1) (k + 1)

-- The records of the second object's rows from row r on, whose partners are ps: of those that have none.
unfoldable pub second_record : (x y p r : ℕ) → List Difference
second_record x y p r = pick (eqb p 0) (record { first_object = x; second_object = y; first_value = 0; second_value = r + 1 } ∷ []) []

unfoldable pub second_records : (x y : ℕ) → List ℕ → (r : ℕ) → List Difference
second_records x y [] r = []
second_records x y (p ∷ ps) r = second_record x y p r ++ second_records x y ps (r + 1)

-- The partners of the n2 rows from row r2 of the second text on, among the n rows from row r of the first on; h and h2 have the numbers of names.
unfoldable pub pair_partners : (d v h : List ℕ) (r n : ℕ) (d2 v2 h2 : List ℕ) (r2 n2 : ℕ) → List ℕ
pair_partners d v h r n d2 v2 h2 r2 n2 = partners (owners_of v r n) (steps_of_rows d v h r n) [] (owners_of v2 r2 n2) (steps_of_rows d2 v2 h2 r2 n2)

-- The records of a pair, by its partners.
unfoldable pub pair_records : (s d v s2 d2 v2 ps : List ℕ) (r n r2 x y : ℕ) → List Difference
pair_records s d v s2 d2 v2 ps r n r2 x y = first_records s d v s2 d2 v2 (backs_of ps r2 n) x y n r 0 ++ second_records x y ps r2
