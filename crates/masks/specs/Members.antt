-- The tables of a reading as Q-6 sees them: which object the task of a row refers to, over the cells of the objects o and of the values v. No part
-- of the public contract. Assumes nothing.
use Rattle.std.specs.Prelude.{◌≡◌, List, [], ◌∷◌, Bool, false, ℕ, zero, suc, ◌+◌, ◌*◌, ◌<◌, ◌≤◌, length, get_or, eqb}
use Rattle.std.proofs.lemmas.List.Edits.{sets}
use Rattle.token.specs.Find.{pick, both, either}
use Rattle.rows.specs.Table.{cell_of}
use Rattle.rows.specs.Search.{row_name, find_from}
use Rattle.rows.specs.Found.{Found}
use Rattle.std.specs.Prelude.{Some, None}
use Rattle.token.specs.Words.{bytes_of, same}
use Rattle.masks.specs.Masks.{Mask, given, automatic}
use Rattle.masks.specs.Marks.{mask_at}

-- The object of row k: its owner, or that of the row before.
unfoldable pub object_at : List ℕ → ℕ → ℕ → ℕ
object_at v k now = pick (eqb (cell_of v 9 k 1) 0) (cell_of v 9 k 2) now

-- Row k, which is the object `now`'s, has the task t refer to the object x.
unfoldable pub hits : (o v : List ℕ) → (k now t x : ℕ) → Bool
hits o v k now t x = both (both (eqb (cell_of o 8 now 0) 2) (eqb (cell_of v 9 k 3) 5)) (both (eqb now t) (eqb (cell_of v 9 k 5) x))

-- One of the c rows from k on does so.
unfoldable pub refers_at : (o v : List ℕ) → (c k now t x : ℕ) → Bool
refers_at o v zero k now t x = false
refers_at o v (suc c) k now t x =
    let r = refers_at o v c (suc k) (object_at v k now) t x in
    either (hits o v k (object_at v k now) t x) r

-- The marks m' are those of m, and where the test holds.
pub record Marked (m : List ℕ) (h : ℕ → ℕ → Bool) (m' : List ℕ) : Type 0 where
  pub size : length m' ≡ length m
  pub marks : (t x : ℕ) → t < 256 → x < 256 → eqb (get_or m' (t * 256 + x) 0) 1 ≡ either (eqb (get_or m (t * 256 + x) 0) 1) (h t x)

-- The rows of the events among the c objects from row i on.
unfoldable pub event_rows_at : List ℕ → ℕ → ℕ → List ℕ
event_rows_at o zero i = []
event_rows_at o (suc c) i = let r = event_rows_at o c (suc i) in pick (eqb (cell_of o 8 i 0) 7) (i ∷ r) r

-- Row i was put at e, if it is an event's; r is the place after.
pub record PutEvent (o : List ℕ) (i : ℕ) (l : List ℕ) (e : ℕ) (l' : List ℕ) (r : ℕ) : Type 0 where
  pub stored : (rest : List ℕ) → sets l' r rest ≡ sets l e (pick (eqb (cell_of o 8 i 0) 7) (i ∷ rest) rest)
  pub next : (rest : List ℕ) → r + length rest ≡ e + length (pick (eqb (cell_of o 8 i 0) 7) (i ∷ rest) rest)
  pub high : r ≤ e + 1

-- The rows es were put into l from the front on.
pub record PutEvents (l es l' : List ℕ) (r : ℕ) : Type 0 where
  pub stored : l' ≡ sets l 0 es
  pub count : r ≡ length es

-- Masks ------------------------------------------------------------------------------------------------------------------------------------

-- Row k is the MASK of the object of a row: it is the object's own, and its definition has that name.
unfoldable pub is_mask_at : (s d v : List ℕ) → (row k : ℕ) → Bool
is_mask_at s d v row k = both (both (eqb (cell_of v 9 k 1) 0) (eqb (cell_of v 9 k 2) row)) (same (row_name s d 13 2 (cell_of v 9 k 0)) (bytes_of "MASK"))

-- The sort and the amount of the value of a row that was found; nothing found counts as AUTO.
unfoldable pub sort_found : List ℕ → Found → ℕ
sort_found v (Some k) = cell_of v 9 k 3
sort_found v None = 2

unfoldable pub amount_found : List ℕ → Found → ℕ
amount_found v (Some k) = cell_of v 9 k 5
amount_found v None = 0

unfoldable pub mask_found : List ℕ → Found → Mask
mask_found v f = pick (eqb (sort_found v f) 0) (given (amount_found v f)) automatic

-- The mask of the event j was stored.
pub record PutGiven (v : List ℕ) (f : Found) (j : ℕ) (l l' : List ℕ) : Type 0 where
  pub size : length l' ≡ length l
  pub own : mask_at l' j ≡ mask_found v f
  pub others : (i : ℕ) → (i ≡ j → ⊥) → mask_at l' i ≡ mask_at l i

-- The masks of the first e events, whose rows are in `rows`, are stored; the values are the first n rows of v.
pub record Filled (s d v : List ℕ) (n : ℕ) (rows : List ℕ) (e : ℕ) (l l' : List ℕ) : Type 0 where
  pub size : length l' ≡ length l
  pub masks : (j : ℕ) → j < e → mask_at l' j ≡ mask_found v (find_from (is_mask_at s d v (get_or rows j 0)) n 0)

-- Definitions ------------------------------------------------------------------------------------------------------------------------------

-- Row j of the definitions is a single UINT64 attribute MASK under the word at p.
unfoldable pub mask_row : (s d : List ℕ) → (p j : ℕ) → Bool
mask_row s d p j =
    both (eqb (cell_of d 13 j 0) p) (both (eqb (cell_of d 13 j 12) 37) (both (eqb (cell_of d 13 j 6) 0) (same (row_name s d 13 2 j) (bytes_of "MASK"))))

-- One of the c rows from j on passes the test.
unfoldable pub some_row : (ℕ → Bool) → (c j : ℕ) → Bool
some_row t zero j = false
some_row t (suc c) j = let r = some_row t c (suc j) in either (t j) r

-- The scope of the word at p, none where p is 0, has a single UINT64 MASK; there are n definitions.
unfoldable pub defines_mask : (s d : List ℕ) → (p n : ℕ) → Bool
defines_mask s d p n = pick (eqb p 0) false (some_row (mask_row s d p) n 0)
