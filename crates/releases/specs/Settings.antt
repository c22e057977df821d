-- What is known of two accepted texts whose tables are compared. Assumes nothing.
use Rattle.std.specs.Prelude.{◌≡◌, List, [], ◌∷◌, ℕ, suc, ◌+◌, ◌<◌, ◌≤◌, length, get_or}
use Rattle.meaning.specs.Syntax.{File}
use Rattle.meaning.specs.Resolving.{Resolved, of_object, how_many_values}
use Rattle.indexes.specs.Indexing.{Indexed}
use Rattle.comparing.specs.Contents.{placed, Content, contents}
use Rattle.comparing.specs.Standing.{TreeAt, ObjectIs, ObjectsAt}
use Rattle.comparing.specs.Naming.{Index}
use Rattle.comparing.specs.Columns.{Holds, name_of}
use Rattle.releases.specs.Starts.{start_at}

-- The object x of a text with the text's tables: its values stand from their first row on, of n rows in all, with so many definitions.
pub record Located (s d o v : List ℕ) (n many : ℕ) (x : Content) : Type 0 where
  pub rows : Resolved
  pub from : ℕ
  pub values : x.values ≡ placed rows from []
  pub tree : TreeAt s d v many from (of_object x.object.row) rows
  pub starts : start_at v n x.object.row ≡ from
  pub ends : start_at v n (suc x.object.row) ≡ from + how_many_values rows
  pub few : from + how_many_values rows ≤ 2048
  pub low : x.object.row < 256
  pub own : ObjectIs s o x.object.row x

pub data AllLocated (s d o v : List ℕ) (n many : ℕ) : List Content → Type 0 where
  none_located : AllLocated s d o v n many []
  more_located : {x : Content} {xs : List Content} → Located s d o v n many x → AllLocated s d o v n many xs → AllLocated s d o v n many (x ∷ xs)

-- The tables d, o, v of the text s, with so many rows of definitions, m of objects and n of values, are those of the file f.
pub record Scene (s d o v : List ℕ) (many m n : ℕ) (f : File) : Type 0 where
  pub bytes : (i : ℕ) → get_or s i 0 < 256
  pub short : length s ≤ 18446744073709551616
  pub cells : (i : ℕ) → get_or d i 0 < 18446744073709551616
  pub objects : ObjectsAt s o 0 (contents f)
  pub located : AllLocated s d o v n many (contents f)
  pub count : m ≡ length (contents f)
  pub few : m ≤ 256
  pub few_definitions : many ≤ 512

-- With what is made of the tables: x is the index of the definitions, y that of the objects, st the first rows of the objects' values.
pub record Made (s d o v : List ℕ) (n : ℕ) (x y st : List ℕ) : Type 0 where
  pub definitions : Index s d x
  pub objects : Indexed s o 8 (length y) 0 3 y
  pub starts : Holds (start_at v n) (length st) st

-- Both texts, and the numbers h and h2 of the names of their definitions.
pub record Setting (s d o v h y st s2 d2 o2 v2 h2 y2 st2 : List ℕ) (m m2 : ℕ) (f g : File) : Type 0 where
  pub n : ℕ
  pub n2 : ℕ
  pub x : List ℕ
  pub x2 : List ℕ
  pub first : Scene s d o v (length x) m n f
  pub second : Scene s2 d2 o2 v2 (length x2) m2 n2 g
  pub made : Made s d o v n x y st
  pub made2 : Made s2 d2 o2 v2 n2 x2 y2 st2
  pub names : Holds (name_of s d x s2 d2 x2 s d) (length x) h
  pub names2 : Holds (name_of s d x s2 d2 x2 s2 d2) (length x2) h2
  pub indexed : length y ≡ m
  pub indexed2 : length y2 ≡ m2
  pub started : length st ≡ suc m
  pub started2 : length st2 ≡ suc m2
