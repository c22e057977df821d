-- Numbers of rows' names, noted once, and what comparing names by them first gives: two numbers are those of two names, and names of one number are
-- compared byte by byte. The answers hold for any function f that gives the numbers. Of row i the name's place and length stand in columns m and
-- m + 1 of the table t, whose rows have w cells; the name is a part of the text s.
-- Assumes nothing.
use Rattle.std.specs.Prelude.{ℕ, ◌+◌, ◌*◌, ◌<◌, ◌≤◌, ◌≡◌, Bool, false, List, length, get_or, set, ltb, eqb}
use Rattle.rows.specs.Search.{row_name}
use Rattle.token.specs.Find.{pick}
use Rattle.token.specs.Tokens.{part_of}
use Rattle.rows.specs.Found.{Found}
use Rattle.std.specs.Prelude.{None}
use Rattle.indexes.specs.Indexing.{Indexed, name_rank}
use Rattle.blocks.specs.Blocks.{row_after, FindsStated, IsStated}

-- each cell of h is the number of the name of the row of its place
pub record Ranked (f : List ℕ → ℕ) (s t : List ℕ) (w m : ℕ) (h : List ℕ) : Type 0 where
  pub cell : (i : ℕ) → i < length h → get_or h i 0 ≡ f (row_name s t w m i)

-- each cell of h is the rank of a name among those of the definitions d, if x is the index of the definitions
unfoldable pub NotesRanks : List ℕ → List ℕ → List ℕ → List ℕ → (w m : ℕ) → List ℕ → Type 0
NotesRanks s d x t w m h = (k : ℕ) → Indexed s d 19 k 0 2 x → k ≤ 65536 → Ranked (name_rank s d 19 0 2 x) s t w m h

-- r is the row after that of row k, in a block that ends before row e, if v is the last cell of row k
unfoldable pub NextRow : (k v e r : ℕ) → Type 0
NextRow k v e r = (st : List ℕ) → v ≡ get_or st (k * 7 + 6) 0 → r ≡ row_after st k e

-- no statement of the block from a to e before row r has a name whose number is g, if h has the statements' numbers
pub record Skips (st h : List ℕ) (a e g r : ℕ) : Type 0 where
  pub later : a ≤ r
  pub finds : (s : List ℕ) (at len : ℕ) (f : List ℕ → ℕ) (i : Found) → Ranked f s st 7 0 h → g ≡ f (part_of s at len) → FindsStated s st r e at len i
      → FindsStated s st a e at len i

-- where the search for a name with the number g begins, in a block that begins at row a: at a cell of F, or at a where there is none
unfoldable pub start_of : List ℕ → ℕ → ℕ → ℕ
start_of F a g = pick (ltb g (length F)) (get_or F g 0) a

-- no statement of the block from a to e before the start has a name with the number g, for each number
pub record Firsts (st h : List ℕ) (a e : ℕ) (F : List ℕ) : Type 0 where
  pub skips : (g : ℕ) → Skips st h a e g (start_of F a g)

-- F with row k noted as the first of the number g, where none is noted; e stands for none
unfoldable pub first_noted : List ℕ → (e g k : ℕ) → List ℕ
first_noted F e g k = pick (eqb (get_or F g 0) e) (set F g k) F

-- so it is where only the rows before k are looked at: a cell that is e stands for k
pub record FirstsTo (st h : List ℕ) (a e k : ℕ) (F : List ℕ) : Type 0 where
  pub skips : (g : ℕ) → g < length F → Skips st h a e g (pick (eqb (get_or F g 0) e) k (get_or F g 0))

-- where r says no, no statement of the block from a to e has a name whose number is g, if h has the statements' numbers
pub record MayState (st h F : List ℕ) (a e g : ℕ) (r : Bool) : Type 0 where
  pub none : (s : List ℕ) (at len : ℕ) (f : List ℕ → ℕ) → Firsts st h a e F → Ranked f s st 7 0 h → g ≡ f (part_of s at len) → r ≡ false → FindsStated s st a e at len None

-- r is the first statement of the block from a to e that has the name at a place, if h has the statements' numbers and g is that of the name
unfoldable pub StatedRanked : List ℕ → List ℕ → List ℕ → (a e at len g : ℕ) → Found → Type 0
StatedRanked s st h a e at len g r = (f : List ℕ → ℕ) → Ranked f s st 7 0 h → g ≡ f (part_of s at len) → FindsStated s st a e at len r

-- r is the first statement of the block from a to e that has the name of row i of t, if v and h have the numbers of t's rows and
-- of the statements, and F has the starts
unfoldable pub RowStated : List ℕ → List ℕ → (w m : ℕ) → List ℕ → ℕ → List ℕ → List ℕ → List ℕ → (a e : ℕ) → Found → Type 0
RowStated s t w m v i st h F a e r =
    (f : List ℕ → ℕ) → Ranked f s t w m v → Ranked f s st 7 0 h → Firsts st h a e F → FindsStated s st a e (get_or t (i * w + m) 0) (get_or t (i * w + (m + 1)) 0) r

-- r says whether there is one
unfoldable pub IsRowStated : List ℕ → List ℕ → (w m : ℕ) → List ℕ → ℕ → List ℕ → List ℕ → List ℕ → (a e : ℕ) → Bool → Type 0
IsRowStated s t w m v i st h F a e r =
    (f : List ℕ → ℕ) → Ranked f s t w m v → Ranked f s st 7 0 h → Firsts st h a e F → IsStated s st a e (get_or t (i * w + m) 0) (get_or t (i * w + (m + 1)) 0) r
