-- What the functions over the tables of numbers promise. Assumes nothing.
use Rattle.std.specs.Prelude.{◌≡◌, List, Bool, true, ℕ, ◌*◌, ◌+◌, ◌≤◌, length, get_or, take, replicate}
use Rattle.token.specs.Find.{either}
use Rattle.sorting.specs.Sorted.{among_cells, Rising}
use Rattle.meaning.specs.Syntax.{Num, Word}
use Rattle.meaning.specs.Words.{equal, among_numbers}
use Rattle.scopes.specs.Ranges.{Listed}
use Rattle.scopes.specs.Promises.{InRange, InFloats}
use Rattle.amounts.specs.Keys.{num_has_key, key}
use Rattle.amounts.specs.Known.{Noted, Known, KnownDefaults}

-- After the first cells of l, so many, stand those of the numbers that are listed from a place on; 0 where one has no cell, or does not fit.
pub record KeyedBehind (s : List ℕ) (sign : Bool) (from count : ℕ) (l l' : List ℕ) (r : ℕ) : Type 0 where
  pub size : length l' ≡ length l
  pub inside : r ≤ length l
  pub tells : (r ≡ 0 → ⊥) → (ws : List Word) → Listed s from ws → (n : Num) → num_has_key sign n ≡ true
      → among_cells (key n) (take r l') ≡ either (among_cells (key n) (take count l)) (among_numbers n ws)

-- The first r cells tell which numbers are m, or among those that are listed from a place on; 0 where one of them has no cell, or does not fit.
pub record Keyed (s : List ℕ) (sign : Bool) (m : Num) (from : ℕ) (l l' : List ℕ) (r : ℕ) : Type 0 where
  pub size : length l' ≡ length l
  pub inside : r ≤ length l
  pub tells : (r ≡ 0 → ⊥) → (ws : List Word) → Listed s from ws → (n : Num) → num_has_key sign n ≡ true
      → among_cells (key n) (take r l') ≡ either (equal n m) (among_numbers n ws)

-- Where r says so, the cells are in rising order.
abbrev pub Rises : List ℕ → Bool → Type 0
Rises l r = r ≡ true → Rising l

-- And they are in rising order.
pub record KeyedRising (s : List ℕ) (sign : Bool) (m : Num) (from : ℕ) (l l' : List ℕ) (r : ℕ) : Type 0 where
  pub keyed : Keyed s sign m from l l' r
  pub rising : (r ≡ 0 → ⊥) → Rising (take r l')

-- A row more is noted: the lists end at r.
pub record NotesRow (s d t : List ℕ) (used : ℕ) (t' : List ℕ) (r : ℕ) : Type 0 where
  pub size : length t' ≡ length t
  pub keeps : Noted s d t used → Noted s d t' r

-- A row of two floats is noted, and no list.
abbrev pub NotesFloats : (s d t t' : List ℕ) → Type 0
NotesFloats s d t t' = (used : ℕ) → NotesRow s d t used t' used

-- The table of ranges is made.
abbrev pub Notes : (s d t t' : List ℕ) → Type 0
Notes s d t t' = (n : ℕ) → 3072 ≤ n → t ≡ replicate n 0 → Known s d t'

-- Whether a number is in the range of the definition of row j.
abbrev pub InRangeOf : (s d : List ℕ) → ℕ → Num → Bool → Type 0
InRangeOf s d j n r = InRange s (get_or d (j * 19 + 8) 0) n r

-- Whether a float is in the range of the definition of row j.
abbrev pub InFloatsOf : (s d : List ℕ) → ℕ → Num → Bool → Type 0
InFloatsOf s d j n r = InFloats s (get_or d (j * 19 + 8) 0) n r

-- A default more is noted.
pub record NotesDefault (s d t t' : List ℕ) : Type 0 where
  pub size : length t' ≡ length t
  pub keeps : KnownDefaults s d t → KnownDefaults s d t'

-- The table of defaults is made.
abbrev pub NotesDefaults : (s d t t' : List ℕ) → Type 0
NotesDefaults s d t t' = t ≡ replicate 1536 0 → KnownDefaults s d t'
