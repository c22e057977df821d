-- What making objects of their parts promises, for every file whose text and rows these are. Assumes nothing.
use Rattle.std.specs.Prelude.{◌≡◌, List, [], ◌∷◌, ◌++◌, Bool, true, false, ℕ, suc, ◌+◌, ◌*◌, ◌≤◌, ◌<◌, length, get_or}
use Rattle.std.proofs.lemmas.List.Edits.{sets}
use Rattle.token.specs.Find.{pick, bit}
use Rattle.meaning.specs.Syntax.{Statements, done, Object, File, statements_in}
use Rattle.meaning.specs.Merging.{same_object, used, further, continued, merged}
use Rattle.layout.specs.Kept.{join, statement_rows, all_statement_rows, object_rows, kept_parts, kept_part_statements, statement_count}
use Rattle.scopes.specs.Situations.{Situation, Nth}
use Rattle.merging.specs.Parts.{first_row}

-- The text s is f; its parts and their statements are in the tables p and st, all of them, and x has the first part of each.
pub record Parted (s p st x : List ℕ) (n : ℕ) (f : File) : Type 0 where
  pub situation : Situation s f
  pub in_parts : p ≡ kept_parts f
  pub in_statements : st ≡ kept_part_statements f
  pub parts : n ≡ length f.parts
  pub firsts : (j : ℕ) → j < n → get_or x j 0 ≡ first_row 0 s p j
  pub parts_fit : n ≤ 512
  pub statements_fit : statement_count f.parts ≤ 2048

-- Row i is that of y, the first part of an object.
pub record FirstAt (f : File) (i : ℕ) (y : Object) : Type 0 where
  pub front : List Object
  pub rest : List Object
  pub whole : f.parts ≡ front ++ (y ∷ rest)
  pub place : length front ≡ i
  pub new : used y front ≡ false

-- Of the statements ss and n parts: the rows of the statements stand in the table from row m on, and c parts were counted before.
pub record Gathered (ss : Statements) (n : ℕ) (l : List ℕ) (m c : ℕ) (l' : List ℕ) (m' c' : ℕ) : Type 0 where
  pub table : l' ≡ sets l (m * 7) (join (statement_rows ss m))
  pub row : m' ≡ m + statements_in ss
  pub parts : c' ≡ c + n

-- What z gives to the object whose first part is y.
unfoldable pub share : Object → Object → Statements
share y z = pick (same_object y z) z.statements done

-- What row j gives to the object whose first part is row i.
abbrev pub GathersOne : (p st x : List ℕ) → (i j : ℕ) → List ℕ → (m c : ℕ) → List ℕ → (m' c' : ℕ) → Type 0
GathersOne p st x i j l m c l' m' c' =
    (s : List ℕ) (n : ℕ) (f : File) (y z : Object) → Parted s p st x n f → FirstAt f i y → Nth f.parts j z → i ≤ j → m + statements_in (share y z) ≤ 2049
    → Gathered (share y z) (bit (same_object y z)) l m c l' m' c'

-- All that the object has whose first part is row i.
abbrev pub Gathers : (p st x : List ℕ) → (i n : ℕ) → List ℕ → ℕ → List ℕ → (m' c' : ℕ) → Type 0
Gathers p st x i n l m l' m' c' =
    (s : List ℕ) (f : File) (y : Object) (q : FirstAt f i y) → Parted s p st x n f → m + statements_in (continued y (y ∷ q.rest)) ≤ 2049
    → Gathered (continued y (y ∷ q.rest)) (further y (y ∷ q.rest)) l m 0 l' m' c'

-- The rows of the objects os and of their statements stand in the tables o and st, from rows k and m on.
pub record Put (os : List Object) (o st : List ℕ) (k m : ℕ) (o' st' : List ℕ) (k' m' : ℕ) : Type 0 where
  pub objects : o' ≡ sets o (k * 10) (join (object_rows os m))
  pub statements : st' ≡ sets st (m * 7) (join (all_statement_rows os m))
  pub count : k' ≡ k + length os
  pub row : m' ≡ m + statement_count os

-- The object of row k that begins with the part z: none where its kind and name were used before.
unfoldable pub begun : (before : List Object) → Object → List Object → ℕ → List Object
begun before z rest k = pick (used z before) [] (merged z k rest ∷ [])

abbrev pub MergesOne : (p st x : List ℕ) → (i n : ℕ) → (o t : List ℕ) → (k m : ℕ) → (o' t' : List ℕ) → (k' m' : ℕ) → Type 0
MergesOne p st x i n o t k m o' t' k' m' =
    (s : List ℕ) (f : File) (before : List Object) (z : Object) (rest : List Object) → Parted s p st x n f → f.parts ≡ before ++ (z ∷ rest) → length before ≡ i
    → m + statement_count (begun before z rest k) ≤ 2049 → Put (begun before z rest k) o t k m o' t' k' m'

-- The rows of all objects, and how many there are.
pub record AllPut (f : File) (o t o' t' : List ℕ) (r : ℕ) : Type 0 where
  pub objects : o' ≡ sets o 0 (join (object_rows f.objects 0))
  pub statements : t' ≡ sets t 0 (join (all_statement_rows f.objects 0))
  pub count : r ≡ length f.objects

abbrev pub Merges : (p st x : List ℕ) → (n : ℕ) → (o t o' t' : List ℕ) → ℕ → Type 0
Merges p st x n o t o' t' r = (s : List ℕ) (f : File) → Parted s p st x n f → AllPut f o t o' t' r
