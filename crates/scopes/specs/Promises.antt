-- What the functions over kept rows promise, for every file whose text and rows these are. Assumes nothing.
use Rattle.std.specs.Prelude.{Some, None, ◌≡◌, List, Bool, true, ℕ, ◌≤◌, ◌<◌, length}
use Rattle.std.proofs.Math.Option.{Option, none, some}
use Rattle.token.specs.Tokens.{step_at, part_of}
use Rattle.grammar.specs.Grammar.{Kind, Integer}
use Rattle.rows.specs.Order.{MaybeFault}
use Rattle.rows.specs.Found.{Found}
use Rattle.std.specs.Prelude.{Some, None}
use Rattle.meaning.specs.Syntax.{Num, Word, boolean, Bounds, Definitions, Defined, Object, File, is_enum}
use Rattle.meaning.specs.Actions.{num_of_step, float_of_step}
use Rattle.meaning.specs.Words.{in_bounds, in_float_bounds, among_numbers}
use Rattle.meaning.specs.Kinds.{kind_number}
use Rattle.meaning.specs.Faults.{Fault as Refusal, first}
use Rattle.meaning.specs.Scopes.{Under, find_definition, find_value, find_object, fits, fits_number, fits_float}
use Rattle.meaning.specs.Defining.{range_faults, bound_faults, low_faults, outside}
use Rattle.layout.specs.Kept.{spec_entries, kept_definitions, kept_enumerators, kept_objects, code_of}
use Rattle.scopes.specs.Situations.{Situation, ScopeAt, RowOf, Reached, ReadAt}
use Rattle.scopes.specs.Ranges.{Listed, RangeAt, FloatsAt}

-- Faults -----------------------------------------------------------------------------------------------------------------------------------

-- A fault as a struct, where there is one.
unfoldable pub fault_of : Option Refusal → MaybeFault
fault_of none = None
fault_of (some x) = Some (record { number = x.number; place = x.place })

-- Ranges -----------------------------------------------------------------------------------------------------------------------------------

-- Whether n is among the numbers that are listed from p on.
abbrev pub IsListed : List ℕ → ℕ → Num → Bool → Type 0
IsListed s p n r = (ws : List Word) → Listed s p ws → r ≡ among_numbers n ws

-- Whether n is in the bounds of the range whose `[` stands at p.
abbrev pub InRange : List ℕ → ℕ → Num → Bool → Type 0
InRange s p n r = (b : Bounds) → RangeAt s p b → r ≡ in_bounds n b

-- 21 at the numbers listed from p on.
abbrev pub ListFault : List ℕ → Integer → ℕ → MaybeFault → Type 0
ListFault s i p r = (ws : List Word) → Listed s p ws → r ≡ fault_of (first (outside i ws))

-- 21 at the bounds of the range whose `[` stands at p.
abbrev pub BoundFault : List ℕ → Integer → ℕ → MaybeFault → Type 0
BoundFault s i p r = (b : Bounds) → RangeAt s p b → r ≡ fault_of (first (bound_faults i b))

-- Whether n is in the bounds of the range of floats whose `[` stands at p.
abbrev pub InFloats : List ℕ → ℕ → Num → Bool → Type 0
InFloats s p n r = (b : Bounds) → FloatsAt s p b → r ≡ in_float_bounds n b

-- 21 at the low of the range of floats whose `[` stands at p, where it is above the high.
abbrev pub LowFault : List ℕ → ℕ → MaybeFault → Type 0
LowFault s p r = (b : Bounds) → FloatsAt s p b → r ≡ fault_of (first (low_faults b))

-- Lookups ----------------------------------------------------------------------------------------------------------------------------------

-- Row n of the definitions, where there is one of the name.
unfoldable pub row_found : Option Defined → Found
row_found none = None
row_found (some x) = Some x.definition.row

-- The row of the definition that the name at a place has in the scope of the word at key.
abbrev pub FindsDefinition : List ℕ → List ℕ → (n key at len : ℕ) → Found → Type 0
FindsDefinition s d n key at len r =
    (f : File) (ds : Definitions) (t : Word) → Situation s f → d ≡ kept_definitions f → n ≡ length (spec_entries f.specs) → n ≤ 513
    → ScopeAt f key ds → t.bytes ≡ part_of s at len → r ≡ row_found (find_definition ds t)

unfoldable pub number_found : Option Under → Found
number_found none = None
number_found (some x) = Some x.number

-- The row of the enumerator that the word at a place is, of the list of the attribute of row j.
abbrev pub FindsEnumerator : List ℕ → List ℕ → List ℕ → (m j at len : ℕ) → Found → Type 0
FindsEnumerator s d e m j at len r =
    (f : File) (x : Defined) (t : Word) → Situation s f → d ≡ kept_definitions f → e ≡ kept_enumerators f → RowOf f j x → j < 513
    → Reached f m x.values → is_enum x.definition.type ≡ true → t.bytes ≡ part_of s at len → r ≡ number_found (find_value x.values t)

unfoldable pub place_found : Option Under → ℕ
place_found none = 0
place_found (some x) = x.word.place

-- The place of the value word that the word at a place is, of the list of the attribute of row j; 0 for none.
abbrev pub FindsWord : List ℕ → List ℕ → List ℕ → (m j at len : ℕ) → ℕ → Type 0
FindsWord s d e m j at len r =
    (f : File) (x : Defined) (t : Word) → Situation s f → d ≡ kept_definitions f → e ≡ kept_enumerators f → RowOf f j x → j < 513
    → Reached f m x.values → t.bytes ≡ part_of s at len → r ≡ place_found (find_value x.values t)

unfoldable pub object_found : Option Object → Found
object_found none = None
object_found (some x) = Some x.row

-- The row of the object of a kind, by its number, that has the name at a place.
abbrev pub FindsObject : List ℕ → List ℕ → (n kind at len : ℕ) → Found → Type 0
FindsObject s o n kind at len r =
    (f : File) (k : Kind) (t : Word) → Situation s f → o ≡ kept_objects f → n ≡ length f.objects → n ≤ 257
    → kind ≡ kind_number k → t.bytes ≡ part_of s at len → r ≡ object_found (find_object k f.objects t)

-- Whether the attribute of row j takes the word at a place with a code.
abbrev pub Takes : List ℕ → List ℕ → List ℕ → (m j at len code : ℕ) → Bool → Type 0
Takes s d e m j at len code r =
    (f : File) (x : Defined) (t : Word) → Situation s f → d ≡ kept_definitions f → e ≡ kept_enumerators f → RowOf f j x → j < 513
    → Reached f m x.values → ReadAt s t at len → code_of t ≡ code → r ≡ fits x.definition x.values t

-- The same, if u is the place of the value word that it is.
abbrev pub TakesUnder : List ℕ → List ℕ → (j at code u : ℕ) → Bool → Type 0
TakesUnder s d j at code u r = (e : List ℕ) (m len : ℕ) → FindsWord s d e m j at len u → Takes s d e m j at len code r

-- Of a word that is no number and no float, wherever it stands.
abbrev pub TakesWord : List ℕ → (j code u : ℕ) → Bool → Type 0
TakesWord d j code u r = (code ≡ 43 → ⊥) → (code ≡ 54 → ⊥) → (s : List ℕ) (at : ℕ) → TakesUnder s d j at code u r

-- The word TRUE or FALSE that the word at a place is, of the list of the BOOLEAN of row j; 0 for none.
abbrev pub FindsTruth : List ℕ → List ℕ → (j at len : ℕ) → ℕ → Type 0
FindsTruth s d j at len r =
    (f : File) (x : Defined) (t : Word) → Situation s f → d ≡ kept_definitions f → RowOf f j x → j < 513
    → x.definition.type ≡ boolean → t.bytes ≡ part_of s at len → r ≡ place_found (find_value x.values t)

-- Whether the attribute of row j takes the number at a place.
abbrev pub TakesNumber : List ℕ → List ℕ → (j at : ℕ) → Bool → Type 0
TakesNumber s d j at r =
    (f : File) (x : Defined) → Situation s f → d ≡ kept_definitions f → RowOf f j x → j < 513
    → r ≡ fits_number x.definition.type x.definition.bounds (num_of_step (step_at s at))

-- Whether the attribute of row j takes the float at a place.
abbrev pub TakesFloat : List ℕ → List ℕ → (j at : ℕ) → Bool → Type 0
TakesFloat s d j at r =
    (f : File) (x : Defined) → Situation s f → d ≡ kept_definitions f → RowOf f j x → j < 513
    → r ≡ fits_float x.definition.type x.definition.bounds (float_of_step (step_at s at))

-- 21 at the bounds of the range of the attribute of row j.
abbrev pub RangeFault : List ℕ → List ℕ → ℕ → MaybeFault → Type 0
RangeFault s d j r =
    (f : File) (x : Defined) → Situation s f → d ≡ kept_definitions f → RowOf f j x → j < 513
    → r ≡ fault_of (first (range_faults x.definition.type x.definition.bounds))
