-- What the checks promise, for every file whose text and rows these are. Assumes nothing.
use Rattle.std.specs.Prelude.{◌≡◌, Option, Some, None, List, [], ◌++◌, Bool, not, ℕ, ◌+◌, ◌*◌, ◌<◌, ◌≤◌, min, length, get_or, ltb}
use Rattle.token.specs.Find.{pick}
use Rattle.token.specs.Words.{same, bytes_of}
use Rattle.token.specs.Tokens.{part_of}
use Rattle.rows.specs.Found.{Found}
use Rattle.std.specs.Prelude.{None}
use Rattle.rows.specs.Search.{find_named}
use Rattle.rows.specs.Order.{MaybeFault, fault_if}
use Rattle.indexes.specs.Indexing.{Indexed}
use Rattle.meaning.specs.Syntax.{File}
use Rattle.meaning.specs.Faults.{first}
use Rattle.meaning.specs.Defining.{differs, definition_faults}
use Rattle.layout.specs.Kept.{Entry, Choice, spec_entries, spec_choices, kept_definitions, kept_enumerators, again_place}
use Rattle.scopes.specs.Situations.{Situation, Nth}
use Rattle.scopes.specs.Promises.{fault_of}
use Rattle.scopes.specs.Listing.{each}
use Rattle.defining_checks.specs.Listing.{others_for, row_name_faults, judged_faults, kept_row_faults, choice_faults}

-- How many enumerators are kept, whether one is too many, and where that one stands.
pub record Room (f : File) (m : ℕ) (full : Bool) (limit : ℕ) : Type 0 where
  pub many : m ≡ min (length (spec_choices f.specs)) 1025
  pub over : full ≡ ltb 1024 (length (spec_choices f.specs))
  pub edge : (c : Choice) → Nth (spec_choices f.specs) 1024 c → limit ≡ c.word.place

-- Definitions --------------------------------------------------------------------------------------------------------------------------------

-- The first row before row j that is under the same word and has the same name.
unfoldable pub first_again : (s d : List ℕ) → ℕ → Found
first_again s d j = find_named s d 19 j 0 (get_or d (j * 19 + 0) 0) 2 (get_or d (j * 19 + 2) 0) (get_or d (j * 19 + 3) 0) 0

-- 9 at the name of row j: the first row under another value of the same attribute that has it has another type word.
abbrev pub TypeFault : (s d : List ℕ) → ℕ → MaybeFault → Type 0
TypeFault s d j r =
    (f : File) (x : Entry) → Situation s f → d ≡ kept_definitions f → (q : Nth (spec_entries f.specs) j x) → j < 513
    → r ≡ fault_if (differs x.definition (others_for x.outer x.under.place q.front)) 9 x.definition.name.place

-- The same, where 8 does not stand at the name.
abbrev pub NewTypeFault : (s d : List ℕ) → ℕ → MaybeFault → Type 0
NewTypeFault s d j r = first_again s d j ≡ None → TypeFault s d j r

-- 7, 8 and 9 at the name of row j.
abbrev pub NameFault : (s d : List ℕ) → ℕ → MaybeFault → Type 0
NameFault s d j r =
    (f : File) (x : Entry) → Situation s f → d ≡ kept_definitions f → (q : Nth (spec_entries f.specs) j x) → j < 513
    → r ≡ fault_of (first (row_name_faults q.front x))

-- 22 or 23 at the default of row j, where it is judged; xe is the index of the enumerators.
abbrev pub DefaultFault : (s d e xe : List ℕ) → (full : Bool) → (limit j : ℕ) → MaybeFault → Type 0
DefaultFault s d e xe full limit j r =
    (f : File) (m : ℕ) (x : Entry) → Situation s f → d ≡ kept_definitions f → e ≡ kept_enumerators f → Indexed s e 3 m 0 1 xe → Room f m full limit
    → Nth (spec_entries f.specs) j x → j < 513 → r ≡ fault_of (first (judged_faults full limit x.definition x.values))

-- All faults of row j.
abbrev pub RowFault : (s d e xe : List ℕ) → (full : Bool) → (limit j : ℕ) → MaybeFault → Type 0
RowFault s d e xe full limit j r =
    (f : File) (m : ℕ) (x : Entry) → Situation s f → d ≡ kept_definitions f → e ≡ kept_enumerators f → Indexed s e 3 m 0 1 xe → Room f m full limit
    → (q : Nth (spec_entries f.specs) j x) → j < 513 → r ≡ fault_of (first (kept_row_faults full limit q.front x))

-- Those of the first n rows.
abbrev pub RowsFault : (s d e xe : List ℕ) → (full : Bool) → (limit n : ℕ) → MaybeFault → Type 0
RowsFault s d e xe full limit n r =
    (f : File) (m : ℕ) (front rest : List Entry) → Situation s f → d ≡ kept_definitions f → e ≡ kept_enumerators f → Indexed s e 3 m 0 1 xe → Room f m full limit
    → spec_entries f.specs ≡ front ++ rest → length front ≡ n → n ≤ 513 → r ≡ fault_of (first (each (kept_row_faults full limit) [] front))

-- Enumerators --------------------------------------------------------------------------------------------------------------------------------

-- 7 and 8 at the enumerator of row j.
abbrev pub EnumeratorFault : (s e : List ℕ) → ℕ → MaybeFault → Type 0
EnumeratorFault s e j r =
    (f : File) (x : Choice) → Situation s f → e ≡ kept_enumerators f → (q : Nth (spec_choices f.specs) j x) → j < 1025
    → r ≡ fault_of (first (choice_faults q.front x))

-- Those of the first n rows.
abbrev pub EnumeratorsFault : (s e : List ℕ) → ℕ → MaybeFault → Type 0
EnumeratorsFault s e n r =
    (f : File) (front rest : List Choice) → Situation s f → e ≡ kept_enumerators f → spec_choices f.specs ≡ front ++ rest → length front ≡ n → n ≤ 1025
    → r ≡ fault_of (first (each choice_faults [] front))

-- The stage ----------------------------------------------------------------------------------------------------------------------------------

-- 6 at the version's word.
unfoldable pub version_code : List ℕ → (at len : ℕ) → MaybeFault
version_code s at len = fault_if (not (same (part_of s at len) (bytes_of "\"2.5\""))) 6 at

-- Where the enumerator stands that is one too many, if m have one.
unfoldable pub one_too_many : List ℕ → ℕ → Option ℕ
one_too_many e m = pick (ltb 1024 m) (Some (get_or e (1024 * 3 + 1) 0)) None

-- The fault by which the stage of 6 to 9 and 21 to 23 answers; n definitions and m enumerators stand in the text, the version's word at (at, len), and the
-- first kind word that comes a second time at again.
abbrev pub DefinitionFaults : (s d e : List ℕ) → (n m at len again : ℕ) → MaybeFault → Type 0
DefinitionFaults s d e n m at len again r =
    (f : File) → Situation s f → d ≡ kept_definitions f → e ≡ kept_enumerators f → n ≡ length (spec_entries f.specs) → m ≡ length (spec_choices f.specs)
    → at ≡ f.version.place → len ≡ f.version.length → again ≡ again_place [] f.specs → r ≡ fault_of (first (definition_faults f))
