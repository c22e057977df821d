-- The contracts of the inner functions of the writer: for all resolved values whose rows stand in the tables. No part of the public contract.
-- Assumes nothing.
use Rattle.std.specs.Prelude.{◌≡◌, List, [], ◌∷◌, ◌++◌, ℕ, suc, ◌+◌, ◌*◌, ◌≤◌, ◌<◌, min, length, drop, replicate}
use Rattle.token.specs.Find.{bit}
use Rattle.rows.specs.Table.{cell_of}
use Rattle.rows.specs.Search.{row_name}
use Rattle.meaning.specs.Syntax.{Object, File}
use Rattle.meaning.specs.Defining.{all_definition_rows}
use Rattle.meaning.specs.Applying.{object_rows}
use Rattle.meaning.specs.Resolving.{Taken, Resolved, end, resolved, all_values, Owner, of_object, of_value, ValueRow, value_row, value_rows, all_value_rows, how_many_values}
use Rattle.meaning.specs.Cells.{cells, owner_sort, owner_row, object_cells, value_cells, definition_room, object_room, value_room}
use Rattle.meaning.specs.Normal.{lines, object_lines, application_lines, normal}
use Rattle.blocks.specs.Blocks.{WordIn}
use Rattle.scopes.specs.Situations.{Situation}
use Rattle.reading.specs.declared.Answer.TheVariants.{Accepted, Refused}
use Rattle.reading.specs.declared.Spanned.{Spanned}
use Rattle.writing.specs.Wrote.{cap, Wrote}
use Rattle.writing.specs.Lines.{line, object_line}
use Rattle.writing.specs.declared.Spot.{Spot}
use Rattle.writing.specs.declared.Written.{Written}

-- Rows -------------------------------------------------------------------------------------------------------------------------------------

-- In the table t, with rows of w cells, the rows from row k on and before row n are rs.
pub record From {R : Type 0} (w : ℕ) (f : R → List ℕ) (t : List ℕ) (n k : ℕ) (rs : List R) : Type 0 where
  pub front : List ℕ
  pub rest : List ℕ
  pub whole : t ≡ front ++ (cells f rs ++ rest)
  pub place : length front ≡ k * w
  pub count : n ≡ k + length rs

-- A value's definition is in its row of the table d, and the value's word is in the text.
pub record Told (s d : List ℕ) (t : Taken) : Type 0 where
  pub name : row_name s d 13 2 t.definition.row ≡ t.definition.name.bytes
  pub list : cell_of d 13 t.definition.row 6 ≡ bit t.definition.list
  pub word : WordIn s t.word

-- So it is for all of these values.
pub data AllTold (s d : List ℕ) : Resolved → Type 0 where
  end_told : AllTold s d end
  more_told : {t : Taken} {us rest : Resolved} → Told s d t → AllTold s d us → AllTold s d rest → AllTold s d (resolved t us rest)

-- The owner o is no value from row i on.
abbrev pub Earlier : ℕ → Owner → Type 0
Earlier i o = (m : ℕ) → i ≤ m → o ≡ of_value m → ⊥

-- The first of these rows, if there is one, is neither o's nor that of a value from row i on.
pub data Ends (i : ℕ) (o : Owner) : List ValueRow → Type 0 where
  ends : Ends i o []
  ends_before : {x : ValueRow} {xs : List ValueRow} → (x.owner ≡ o → ⊥) → Earlier i x.owner → Ends i o (x ∷ xs)

-- Values -----------------------------------------------------------------------------------------------------------------------------------

-- The bytes bs were written, and m is the row after.
pub record Puts (l : List ℕ) (at : ℕ) (bs : List ℕ) (m : ℕ) (l' : List ℕ) (r : Spot) : Type 0 where
  pub wrote : Wrote l at bs l' r.place
  pub next : r.next ≡ m

-- From row i on stand the values x of the owner o, and after them the rows `rest`.
pub record Laid (s d v : List ℕ) (n i sort row : ℕ) (o : Owner) (x : Resolved) (rest : List ValueRow) : Type 0 where
  pub of_sort : owner_sort o ≡ sort
  pub of_row : owner_row o ≡ row
  pub earlier : Earlier i o
  pub rows : From 9 value_cells v n i (value_rows x i o ++ rest)
  pub ends : Ends i o rest
  pub told : AllTold s d x

-- `put_lines`: the lines of all values of the owner from row i on; it never goes back.
pub record PutsLines (s d v : List ℕ) (n i sort row : ℕ) (l : List ℕ) (at : ℕ) (l' : List ℕ) (r : Spot) : Type 0 where
  pub size : length l' ≡ length l
  pub onward : i ≤ r.next
  pub puts : at ≤ cap → (o : Owner) (x : Resolved) (rest : List ValueRow) → Laid s d v n i sort row o x rest → Puts l at (lines x) (i + how_many_values x) l' r

-- Row k is that of the value t, after it stand the values us under it, and after these the rows `rest`.
pub record LaidLine (s d v : List ℕ) (n k : ℕ) (t : Taken) (o : Owner) (us : Resolved) (rest : List ValueRow) : Type 0 where
  pub rows : From 9 value_cells v n k (value_row t o ∷ (value_rows us (suc k) (of_value k) ++ rest))
  pub ends : Ends (suc k) (of_value k) rest
  pub told : Told s d t
  pub under : AllTold s d us

-- `put_line`: the lines of the value of row k and of what is under it; it goes on by at least one row.
pub record PutsLine (s d v : List ℕ) (n k : ℕ) (l : List ℕ) (at : ℕ) (l' : List ℕ) (r : Spot) : Type 0 where
  pub size : length l' ≡ length l
  pub onward : k < r.next
  pub puts : (t : Taken) (o : Owner) (us : Resolved) (rest : List ValueRow) → LaidLine s d v n k t o us rest → Puts l at (line t us) (suc k + how_many_values us) l' r

-- Objects ----------------------------------------------------------------------------------------------------------------------------------

-- Row i is that of the object x, and from row k on stand its values.
pub record LaidObject (s d o v : List ℕ) (n i k : ℕ) (x : Object) (y : Resolved) (rest : List ValueRow) : Type 0 where
  pub word : row_name s o 8 1 i ≡ x.word.bytes
  pub name : row_name s o 8 3 i ≡ x.name.bytes
  pub laid : Laid s d v n k 0 i (of_object i) y rest

-- `put_object`: the lines of the object of row i.
pub record PutsObject (s d o v : List ℕ) (n i k : ℕ) (l : List ℕ) (at : ℕ) (l' : List ℕ) (r : Spot) : Type 0 where
  pub size : length l' ≡ length l
  pub puts : (x : Object) (y : Resolved) (rest : List ValueRow) → LaidObject s d o v n i k x y rest → Puts l at (object_line x y) (k + how_many_values y) l' r

-- Objects, each with its values; their words are in the text.
pub data Pairs (s d : List ℕ) : List Object → List Resolved → Type 0 where
  no_pair : Pairs s d [] []
  a_pair : {x : Object} {xs : List Object} {y : Resolved} {ys : List Resolved} → WordIn s x.word → WordIn s x.name → AllTold s d y → Pairs s d xs ys
      → Pairs s d (x ∷ xs) (y ∷ ys)

-- From row i on stand the objects xs, and from row k on their values ys.
pub record LaidAll (s d o v : List ℕ) (m n i k : ℕ) (xs : List Object) (ys : List Resolved) : Type 0 where
  pub objects : From 8 object_cells o m i (object_rows xs)
  pub values : From 9 value_cells v n k (all_value_rows ys i k)
  pub pairs : Pairs s d xs ys

-- `put_objects`: the lines of the first m objects.
pub record PutsObjects (s d o v : List ℕ) (m n : ℕ) (l : List ℕ) (at : ℕ) (l' : List ℕ) (r : ℕ) : Type 0 where
  pub size : length l' ≡ length l
  pub puts : at ≤ cap → (xs : List Object) (ys : List Resolved) → LaidAll s d o v m n 0 0 xs ys → Wrote l at (object_lines xs ys) l' r

-- The whole --------------------------------------------------------------------------------------------------------------------------------

-- The text s is f, and the tables hold its rows: of the definitions, of the m objects and of the n values.
pub record Tables (s d o v : List ℕ) (m n : ℕ) (f : File) : Type 0 where
  pub situation : Situation s f
  pub definitions : d ≡ definition_room (all_definition_rows f.specs)
  pub objects : o ≡ object_room (object_rows f.objects)
  pub values : v ≡ value_room (all_value_rows (all_values f f.objects) 0 0)
  pub many_objects : m ≡ length (object_rows f.objects)
  pub many_values : n ≡ length (all_value_rows (all_values f f.objects) 0 0)

-- `put_application`: the lines of the application, where the CPU's name has this place and length.
pub record PutsApplication (s d o v : List ℕ) (m n cpu size : ℕ) (l : List ℕ) (at : ℕ) (l' : List ℕ) (r : ℕ) : Type 0 where
  pub same : length l' ≡ length l
  pub puts : (f : File) → Tables s d o v m n f → cpu ≡ f.cpu.place → size ≡ f.cpu.length
      → Wrote l at (application_lines f (all_values f f.objects)) l' r

-- The spans of the implementation and of the CPU's name are those of f.
pub record Spans (f : File) (from long cpu size : ℕ) : Type 0 where
  pub implementation_at : from ≡ f.implementation.place
  pub implementation_long : long ≡ f.implementation.length
  pub cpu_at : cpu ≡ f.cpu.place
  pub cpu_long : size ≡ f.cpu.length

-- `write_normal`: the whole normal text, from the front of the output on.
pub record WritesNormal (s d o v : List ℕ) (m n from long cpu size : ℕ) (l l' : List ℕ) (r : ℕ) : Type 0 where
  pub same : length l' ≡ length l
  pub puts : (f : File) → Tables s d o v m n f → Spans f from long cpu size → Wrote l 0 (normal s f) l' r

-- The call ---------------------------------------------------------------------------------------------------------------------------------

-- The tables hold the rows of f, and the reading's numbers and spans are those of f.
pub record Given (s d o v : List ℕ) (w : Spanned) (f : File) : Type 0 where
  pub tables : Tables s d o v w.reading.objects w.reading.values f
  pub spans : Spans f w.implementation_at w.implementation_len w.cpu_at w.cpu_len

-- `normal_length`: how long the normal text is.
abbrev pub Measures : (s d o v : List ℕ) → Spanned → ℕ → Type 0
Measures s d o v w r = (f : File) → Given s d o v w f → r ≡ min cap (length (normal s f))

-- The normal text bs was written, or it is longer than the output l: the tables are cleared then.
pub data PutOut (bs d e o v l d' e' o' v' l' : List ℕ) (r : Written) : Type 0 where
  fits : length bs ≤ length l → d' ≡ d → e' ≡ e → o' ≡ o → v' ≡ v → l' ≡ bs ++ drop (length bs) l → r ≡ record { answer = Accepted; length = length bs }
      → PutOut bs d e o v l d' e' o' v' l' r
  too_long : length l < length bs → d' ≡ replicate (length d) 0 → e' ≡ replicate (length e) 0 → o' ≡ replicate (length o) 0 → v' ≡ replicate (length v) 0 → l' ≡ l
      → r ≡ record { answer = Refused 20 0; length = 0 } → PutOut bs d e o v l d' e' o' v' l' r

-- `put_out`: so it is for the normal text of the file.
abbrev pub PutsOut : (s d e o v : List ℕ) → Spanned → (l d' e' o' v' l' : List ℕ) → Written → Type 0
PutsOut s d e o v w l d' e' o' v' l' r = (f : File) → Given s d o v w f → PutOut (normal s f) d e o v l d' e' o' v' l' r
