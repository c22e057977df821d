-- What the checks promise, for every file whose text and rows these are. Assumes nothing.
use Rattle.std.specs.Prelude.{◌≡◌, Some, None, true, List, [], ◌∷◌, ◌++◌, ℕ, ◌+◌, ◌≤◌, ◌<◌, min, length, get_or, replicate}
use Rattle.rows.specs.Order.{MaybeFault}
use Rattle.rows.specs.Tally.{count_on}
use Rattle.meaning.specs.Syntax.{Object, File}
use Rattle.meaning.specs.Kinds.{kind_number}
use Rattle.meaning.specs.Faults.{first}
use Rattle.meaning.specs.Merging.{merge_from, merge}
use Rattle.meaning.specs.Applying.{counts, each_object, elsewhere, each_name, object_faults}
use Rattle.layout.specs.Kept.{kept_parts, kept_part_statements, statement_count}
use Rattle.scopes.specs.Situations.{Situation}
use Rattle.scopes.specs.Promises.{fault_of}
use Rattle.merging.specs.Parts.{first_row}
use Rattle.checks.specs.declared.objects.Checked.{Checked}

-- The text s is f, its parts are in the table p, and x has the first part of each of the first n, for which there is room.
pub record Noted (s p x : List ℕ) (n : ℕ) (f : File) : Type 0 where
  pub situation : Situation s f
  pub in_parts : p ≡ kept_parts f
  pub firsts : (j : ℕ) → j < n → get_or x j 0 ≡ first_row 0 s p j
  pub few : n ≤ 513
  pub inside : n ≤ length f.parts

-- The numbers of the kinds of objects.
unfoldable pub numbers : List Object → List ℕ
numbers [] = []
numbers (x ∷ xs) = kind_number x.kind ∷ numbers xs

-- The objects that the first j parts begin: there are k of them, cs of each kind, and the fault is theirs.
pub record Met (f : File) (j : ℕ) (fault : MaybeFault) (k : ℕ) (cs : List ℕ) : Type 0 where
  pub before : List Object
  pub left : List Object
  pub so_far : List Object
  pub whole : f.parts ≡ before ++ left
  pub place : length before ≡ j
  pub merged_so : so_far ++ merge_from before left k ≡ merge f.parts
  pub number : length so_far ≡ k
  pub low : k ≤ j
  pub counted : cs ≡ count_on (replicate 13 0) (numbers so_far)
  pub found : fault ≡ fault_of (first (each_object [] so_far))

abbrev pub ChecksOne : (p x : List ℕ) → ℕ → MaybeFault → ℕ → List ℕ → Checked → Type 0
ChecksOne p x j best k cs r = (s : List ℕ) (n : ℕ) (f : File) → Noted s p x n f → j < n → Met f j best k cs → Met f (j + 1) r.fault r.objects r.counts

abbrev pub ChecksParts : (p x : List ℕ) → ℕ → Checked → Type 0
ChecksParts p x n r = (s : List ℕ) (f : File) → Noted s p x n f → Met f n r.fault r.objects r.counts

-- The text s is f, its parts are in the table p, and y has the first part with the name of each of the first n, for which there is room.
pub record Titled (s p y : List ℕ) (n : ℕ) (f : File) : Type 0 where
  pub situation : Situation s f
  pub in_parts : p ≡ kept_parts f
  pub firsts : (j : ℕ) → j < n → get_or y j 0 ≡ first_row (length p) s p j
  pub few : n ≤ 513
  pub inside : n ≤ length f.parts

-- The names of the first j parts are not at fault by 24.
pub record Unclashed (f : File) (j : ℕ) : Type 0 where
  pub front : List Object
  pub rest : List Object
  pub whole : f.parts ≡ front ++ rest
  pub place : length front ≡ j
  pub clear : each_name [] front ≡ []

-- The fault 24 at the first part that has it, or none of the first n has it.
pub data Clashes (f : File) (n : ℕ) (r : MaybeFault) : Type 0 where
  clash : (front : List Object) (z : Object) (rest : List Object) → f.parts ≡ front ++ (z ∷ rest) → each_name [] front ≡ [] → elsewhere z front ≡ true
      → r ≡ Some (record { number = 24; place = z.name.place }) → Clashes f n r
  no_clash : Unclashed f n → r ≡ None → Clashes f n r

abbrev pub NameFault : (p y : List ℕ) → ℕ → MaybeFault → Type 0
NameFault p y n r = (s : List ℕ) (f : File) → Titled s p y n f → Clashes f n r

-- The fault by which the stage of 11, 17 and 24 answers; where there is room for all parts, how many objects there are, and of each kind.
pub record Checks (f : File) (r : Checked) : Type 0 where
  pub fault : r.fault ≡ fault_of (first (object_faults f))
  pub objects : length f.parts ≤ 513 → r.objects ≡ length f.objects
  pub counted : length f.parts ≤ 513 → r.counts ≡ counts f.objects

-- n parts and m statements, and cs of each kind, stand in the text.
abbrev pub ObjectFaults : (s p st x : List ℕ) → (n m : ℕ) → (cs : List ℕ) → (cpu : ℕ) → Checked → Type 0
ObjectFaults s p st x n m cs cpu r =
    (f : File) → Situation s f → p ≡ kept_parts f → st ≡ kept_part_statements f → n ≡ length f.parts → m ≡ statement_count f.parts
    → cs ≡ counts f.parts → cpu ≡ f.cpu.place → ((j : ℕ) → j < min n 513 → get_or x j 0 ≡ first_row 0 s p j) → Checks f r
