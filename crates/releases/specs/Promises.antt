-- The contracts of the functions that compare two texts. Assumes nothing.
use Rattle.std.specs.Prelude.{◌≡◌, List, ℕ, suc, ◌≤◌, length}
use Rattle.meaning.specs.Syntax.{File}
use Rattle.meaning.specs.Defining.{all_definition_rows}
use Rattle.meaning.specs.Reading.{parse}
use Rattle.writing.specs.Promises.{Tables}
use Rattle.scopes.specs.Situations.{Nth}
use Rattle.comparing.specs.Lists.{each_of, overwrite}
use Rattle.comparing.specs.Contents.{Content, contents}
use Rattle.comparing.specs.Differences.{Compared, compared, not_compared, release, release_of, told, of_first_object, of_second_object, differences, records_of, compare_texts, Difference as Change}
use Rattle.comparing.specs.Gathered.{Told, ToldAlso, pair_partners, pair_records}
use Rattle.comparing.specs.declared.Difference.{Difference}
use Rattle.comparing.specs.declared.Found.{Found}
use Rattle.comparing.specs.declared.Compared.{Compared as Result}
use Rattle.releases.specs.Starts.{one_more, first_row, many_rows}
use Rattle.releases.specs.Settings.{Scene, Made, Setting}
use Rattle.releases.specs.Rules.{ComparesByRules}

-- The records of the pair of object i of the first text and object j of the second, by the first rows st and st2.
unfoldable pub pair_at : (s d v h st s2 d2 v2 h2 st2 : List ℕ) (i j : ℕ) → List Difference
pair_at s d v h st s2 d2 v2 h2 st2 i j =
    pair_records s d v s2 d2 v2 (pair_partners d v h (first_row st i) (many_rows st i) d2 v2 h2 (first_row st2 j) (many_rows st2 j))
    (first_row st i) (many_rows st i) (first_row st2 j) (one_more i) (one_more j)

-- Object i of the first text.
abbrev pub ObjectTold : (s d o v h st s2 d2 o2 v2 h2 y2 st2 : List ℕ) → ℕ → (found q : Found) → Type 0
ObjectTold s d o v h st s2 d2 o2 v2 h2 y2 st2 i found q =
    (y : List ℕ) (m m2 : ℕ) (f g : File) → Setting s d o v h y st s2 d2 o2 v2 h2 y2 st2 m m2 f g → (x : Content) → Nth (contents f) i x
    → ToldAlso found (records_of (of_first_object (contents g) x)) q

-- All objects of the first text, which are m.
abbrev pub FirstTold : (s d o v h st s2 d2 o2 v2 h2 y2 st2 : List ℕ) → ℕ → (found q : Found) → Type 0
FirstTold s d o v h st s2 d2 o2 v2 h2 y2 st2 m found q =
    (y : List ℕ) (m2 : ℕ) (f g : File) → Setting s d o v h y st s2 d2 o2 v2 h2 y2 st2 m m2 f g → ToldAlso found (records_of (each_of (of_first_object (contents g)) (contents f))) q

-- Object j of the second text; y is the index of the first's objects.
abbrev pub ObjectAdded : (s o y s2 o2 : List ℕ) → ℕ → (found q : Found) → Type 0
ObjectAdded s o y s2 o2 j found q =
    (d v h st d2 v2 h2 y2 st2 : List ℕ) (m m2 : ℕ) (f g : File) → Setting s d o v h y st s2 d2 o2 v2 h2 y2 st2 m m2 f g → (x : Content) → Nth (contents g) j x
    → ToldAlso found (records_of (of_second_object (contents f) x)) q

-- All objects of the second text, which are m2.
abbrev pub SecondTold : (s o y s2 o2 : List ℕ) → ℕ → (found q : Found) → Type 0
SecondTold s o y s2 o2 m2 found q =
    (d v h st d2 v2 h2 y2 st2 : List ℕ) (m : ℕ) (f g : File) → Setting s d o v h y st s2 d2 o2 v2 h2 y2 st2 m m2 f g
    → ToldAlso found (records_of (each_of (of_second_object (contents f)) (contents g))) q

-- Both, one after the other.
abbrev pub BothTold : (s d o v h y st s2 d2 o2 v2 h2 y2 st2 : List ℕ) → (m m2 : ℕ) → (found q : Found) → Type 0
BothTold s d o v h y st s2 d2 o2 v2 h2 y2 st2 m m2 found q =
    (f g : File) → Setting s d o v h y st s2 d2 o2 v2 h2 y2 st2 m m2 f g → ToldAlso found (records_of (differences f g)) q

-- All differences of two texts with these tables.
abbrev pub DifferencesTold : (s d o v s2 d2 o2 v2 : List ℕ) → (many m n many2 m2 n2 : ℕ) → Found → Type 0
DifferencesTold s d o v s2 d2 o2 v2 many m n many2 m2 n2 q =
    (f g : File) → Scene s d o v many m n f → Scene s2 d2 o2 v2 many2 m2 n2 g → Told (records_of (differences f g)) q

-- Room for at most 512 definitions and 256 objects of either text.
pub record Fitting (x x2 y y2 : List ℕ) : Type 0 where
  pub definitions : (length x ≤ 512) × (length x2 ≤ 512)
  pub objects : (length y ≤ 256) × (length y2 ≤ 256)

-- The indexes x and y, which had room for lx and ly rows, and the first rows st were made.
abbrev pub Prepares : (s d o v : List ℕ) → (n lx ly : ℕ) → (x y st : List ℕ) → Type 0
Prepares s d o v n lx ly x y st = lx ≤ 512 → ly ≤ 256 → Made s d o v n x y st

-- The differences, by the indexes.
abbrev pub NamedTold : (s d o v x y st : List ℕ) → ℕ → (s2 d2 o2 v2 x2 y2 st2 : List ℕ) → ℕ → Found → Type 0
NamedTold s d o v x y st m s2 d2 o2 v2 x2 y2 st2 m2 q =
    (n n2 : ℕ) (f g : File) → Scene s d o v (length x) m n f → Scene s2 d2 o2 v2 (length x2) m2 n2 g → Made s d o v n x y st → Made s2 d2 o2 v2 n2 x2 y2 st2
    → length y ≡ m → length y2 ≡ m2 → length st ≡ suc m → length st2 ≡ suc m2 → Told (records_of (differences f g)) q

-- The same with room for the indexes.
abbrev pub PreparedTold : (s d o v : List ℕ) → (m n lx ly ls : ℕ) → (s2 d2 o2 v2 : List ℕ) → (m2 n2 lx2 ly2 ls2 : ℕ) → Found → Type 0
PreparedTold s d o v m n lx ly ls s2 d2 o2 v2 m2 n2 lx2 ly2 ls2 q =
    (f g : File) → Scene s d o v lx m n f → Scene s2 d2 o2 v2 lx2 m2 n2 g → ly ≡ m → ly2 ≡ m2 → ls ≡ suc m → ls2 ≡ suc m2 → Told (records_of (differences f g)) q

-- The answer --------------------------------------------------------------------------------------------------------------------------------

-- What was found, with the answer that tells its total.
pub record Counted (found r : Found) : Type 0 where
  pub total : r.total ≡ found.total
  pub records : r.records ≡ found.records
  pub answer : r.compared ≡ record { which = 0; number = 0; place = 0; total = found.total }

-- A refused text.
pub record Stopped (which number place : ℕ) (r : Found) : Type 0 where
  pub total : r.total ≡ 0
  pub answer : r.compared ≡ record { which = which; number = number; place = place; total = 0 }

-- What is found is what was asked for: "The true total is always told. .. If a text is refused, say .. which (1 or 2), number and place".
pub data Answered : Compared → Found → Type 0 where
  all_told : {ds : List Change} {q : Found} → Told (records_of ds) q → q.compared ≡ record { which = 0; number = 0; place = 0; total = length ds } → Answered (compared ds) q
  refused_told : {w n p : ℕ} {q : Found} → Stopped w n p q → Answered (not_compared w n p) q

-- The second text was read, where the first is the file f with these tables.
abbrev pub SecondRead : (s d o v : List ℕ) → (many m n : ℕ) → (t : List ℕ) → Found → Type 0
SecondRead s d o v many m n t q =
    (f : File) → release_of (parse s) ≡ release f → Tables s d o v m n f → many ≡ length (all_definition_rows f.specs) → many ≤ 512 → m ≤ 256 → n ≤ 2048
    → Answered (compare_texts s t) q

-- THE CONTRACT of `compare` ----------------------------------------------------------------------------------------------------------------

-- The lent list afterwards: "as many as it holds, at most 64 .. Entries past those used stay"; a refusal leaves it.
unfoldable pub list_after : Compared → List Difference → List Difference
list_after (compared ds) l = overwrite (told ds) l
list_after (not_compared w n p) l = l

-- "The true total is always told"; "which (1 or 2), number and place".
unfoldable pub answer_for : Compared → Result
answer_for (compared ds) = record { which = 0; number = 0; place = 0; total = length ds }
answer_for (not_compared w n p) = record { which = w; number = n; place = p; total = 0 }

pub record Compares (s t : List ℕ) (l l' : List Difference) (r : Result) : Type 0 where
  pub list : l' ≡ list_after (compare_texts s t) l
  pub result : r ≡ answer_for (compare_texts s t)
  -- the same by the rules alone
  pub rules : ComparesByRules s t l l' r
