-- Rows in the order of two numbers of each: a cell for each row, which is the number of its pair and then its own. Assumes nothing.
use Rattle.std.specs.Prelude.{◌≡◌, List, [], ℕ, ◌+◌, ◌*◌, ◌<◌, ◌≤◌, ltb, length, get_or, take}
use Rattle.token.specs.Find.{pick, both}
use Rattle.sorting.specs.Sorted.{Rising}
use Rattle.comparing.specs.Partners.{step_from, partner_of, partners, last_position}

-- The number of a pair; one number for all pairs that are too large.
unfoldable pub key_of : ℕ → ℕ → ℕ
key_of a b = pick (both (ltb a 131072) (ltb b 8589934592)) (a * 8589934592 + b) 1125899906842624

pub record IsKey (a b r : ℕ) : Type 0 where
  pub key : r ≡ key_of a b
  pub most : r ≤ 1125899906842624

-- The cell of row i, whose two numbers stand in xs and bs.
unfoldable pub entry_of : (xs bs : List ℕ) → ℕ → ℕ
entry_of xs bs i = key_of (get_or xs i 0) (get_or bs i 0) * 2048 + i

-- At most 2,048 rows with two numbers each, none of them too large.
pub record Bounded (xs bs : List ℕ) : Type 0 where
  pub long : length bs ≡ length xs
  pub few : length xs ≤ 2048
  pub first : (i : ℕ) → i < length xs → get_or xs i 0 < 131072
  pub second : (i : ℕ) → i < length xs → get_or bs i 0 < 8589934592

-- Room for the cells of so many rows, and for sorting them.
pub record Orderable (n : ℕ) (x room : List ℕ) : Type 0 where
  pub cells : length x ≡ n
  pub beside : n ≤ 2 * length room + 1

-- The cell v is that of a row.
pub record EntryOf (xs bs : List ℕ) (v : ℕ) : Type 0 where
  pub row : ℕ
  pub inside : row < length xs
  pub cell : v ≡ entry_of xs bs row

-- The cell v stands in x.
pub record StandsIn (x : List ℕ) (v : ℕ) : Type 0 where
  pub at : ℕ
  pub inside : at < length x
  pub cell : get_or x at 0 ≡ v

-- x has the cells of all rows and no others, in rising order.
pub record Ordered (xs bs x : List ℕ) : Type 0 where
  pub bounded : Bounded xs bs
  pub rising : Rising x
  pub only : (p : ℕ) → p < length x → EntryOf xs bs (get_or x p 0)
  pub all : (i : ℕ) → i < length xs → StandsIn x (entry_of xs bs i)

-- Before place low the cells are less than v, and from place high on they are not.
pub record Parted (x : List ℕ) (v low high : ℕ) : Type 0 where
  pub less : (i : ℕ) → i < low → get_or x i 0 < v
  pub more : (i : ℕ) → high ≤ i → i < length x → v ≤ get_or x i 0

-- r is the first place of x with a cell that is no less than v, if the cells rise.
pub record FirstPlace (x : List ℕ) (v r : ℕ) : Type 0 where
  pub inside : r ≤ length x
  pub parted : Rising x → Parted x v r r

-- r is one more than the first row with these two numbers, or 0, among the rows whose cells are x.
unfoldable pub FindsStep : List ℕ → (o t r : ℕ) → Type 0
FindsStep x o t r = (os ss : List ℕ) → Ordered os ss x → r ≡ step_from 0 os ss o t

-- So are partners of rows among these.
unfoldable pub FindsPartner : (x before : List ℕ) → (o t r : ℕ) → Type 0
FindsPartner x before o t r = (os ss : List ℕ) → Ordered os ss x → r ≡ partner_of os ss before o t

unfoldable pub FindsPartners : (x os2 ss2 out : List ℕ) → Type 0
FindsPartners x os2 ss2 out = (os ss : List ℕ) → Ordered os ss x → out ≡ partners os ss [] os2 ss2

-- r is the position of a row with these two numbers, where the rows before it have these positions.
unfoldable pub FindsPosition : (x before : List ℕ) → (o a r : ℕ) → Type 0
FindsPosition x before o a r =
    (os ns : List ℕ) → Ordered os ns x → length before ≤ length os → r ≡ last_position (take (length before) os) (take (length before) ns) before o a
