-- What is known of a text whose kept rows are looked at, and the finding of one standard attribute. No part of the public contract. Assumes nothing.
use Rattle.std.specs.Prelude.{◌≡◌, List, [], ◌∷◌, Bool, true, not, ℕ, ◌+◌, ◌*◌, ◌≤◌, ◌<◌, length, get_or, eqb, Option as Maybe, Some, None}
use Rattle.std.proofs.Math.Option.{Option, none, some}
use Rattle.token.specs.Find.{pick, bit, is_there}
use Rattle.token.specs.Tokens.{part_of}
use Rattle.grammar.specs.Grammar.{Kind, Integer}
use Rattle.meaning.specs.Syntax.{Word, Bounds, Definition, Values, Defined, integer, File}
use Rattle.meaning.specs.Kinds.{kind_number}
use Rattle.meaning.specs.Cells.{type_code}
use Rattle.meaning.specs.Scopes.{find_value}
use Rattle.layout.specs.Kept.{spec_entries, spec_choices, kept_definitions, kept_enumerators}
use Rattle.scopes.specs.Situations.{Situation, ScopeAt, Nth, RowOf, Reached}
use Rattle.scopes.specs.Given.{Places}
use Rattle.standard.specs.Asking.{Step, Asked, asked, Scope, scope_of, along, only_where, has_default, has_list, within, wider, differs, Finding, finding, findings, not_behind, foremost}
use Rattle.standard.specs.Section.{standard}
use Rattle.standard.specs.Choices.{is_word}
use Rattle.standard.specs.Spans.{within_one_two}
use Rattle.standard.specs.declared.Known.{Known}
use Rattle.standard.specs.declared.Owner.{Owner}
use Rattle.standard.specs.declared.Told.{Told}

-- The text and the standard ------------------------------------------------------------------------------------------------------------------

-- The text s is f, its definitions and enumerators are in the tables d and e, all of them, and x tells how many and where its name and kinds stand.
pub record Knows (s d e : List ℕ) (x : Known) (f : File) : Type 0 where
  pub situation : Situation s f
  pub in_definitions : d ≡ kept_definitions f
  pub in_enumerators : e ≡ kept_enumerators f
  pub definitions : x.definitions ≡ length (spec_entries f.specs)
  pub enumerators : x.enumerators ≡ length (spec_choices f.specs)
  pub definitions_fit : x.definitions ≤ 512
  pub enumerators_fit : x.enumerators ≤ 1024
  pub name : x.name ≡ f.implementation_name.place
  pub named : 0 < x.name
  pub places : Places f x.places

-- The step that leads down by the cells of row i, if any.
pub data PathIs (g rs : List ℕ) (i : ℕ) : List Step → Type 0 where
  no_step : get_or rs (i * 14 + 8) 0 ≡ 0 → PathIs g rs i []
  one_step : {p : Step} → (get_or rs (i * 14 + 8) 0 ≡ 0 → ⊥) → p.attribute.bytes ≡ part_of g (get_or rs (i * 14 + 7) 0) (get_or rs (i * 14 + 8) 0)
      → p.value.bytes ≡ part_of g (get_or rs (i * 14 + 9) 0) (get_or rs (i * 14 + 10) 0) → PathIs g rs i (p ∷ [])

-- An integer attribute that takes 1 and 2.
pub record Restricted (d : Definition) : Type 0 where
  pub width : Integer
  pub type : d.type ≡ integer width
  pub within_is : (c : Bounds) → within width d.bounds c ≡ within_one_two c

-- Row i of the table rs, with words from the table ws, all over the text g, is that of the standard attribute a.
pub record RowIs (g rs ws : List ℕ) (i : ℕ) (a : Asked) : Type 0 where
  pub kind : get_or rs (i * 14 + 0) 0 ≡ kind_number a.kind
  pub name : a.wanted.definition.name.bytes ≡ part_of g (get_or rs (i * 14 + 1) 0) (get_or rs (i * 14 + 2) 0)
  pub type : get_or rs (i * 14 + 3) 0 ≡ type_code a.wanted.definition.type
  pub list : get_or rs (i * 14 + 4) 0 ≡ bit a.wanted.definition.list
  pub auto : get_or rs (i * 14 + 5) 0 ≡ bit a.wanted.definition.auto
  pub default : get_or rs (i * 14 + 6) 0 ≡ bit (has_default a.wanted.definition)
  pub path : PathIs g rs i a.path
  pub free : get_or rs (i * 14 + 11) 0 ≡ 0 → (k : Integer) (c : Bounds) → within k a.wanted.definition.bounds c ≡ true
  pub restricted : (get_or rs (i * 14 + 11) 0 ≡ 0 → ⊥) → Restricted a.wanted.definition
  pub words : (t : Word) → is_word g ws (get_or rs (i * 14 + 12) 0) (get_or rs (i * 14 + 13) 0) t.bytes ≡ is_there (find_value a.wanted.values t)
  pub listed : has_list a.wanted.values ≡ not (eqb (get_or rs (i * 14 + 12) 0) (get_or rs (i * 14 + 13) 0))
  pub number : a.wanted.definition.row ≡ i

-- So are all rows.
abbrev pub RowsAre : (g rs ws : List ℕ) → Type 0
RowsAre g rs ws = (i : ℕ) (a : Asked) → Nth (asked standard) i a → RowIs g rs ws i a

-- One attribute -----------------------------------------------------------------------------------------------------------------------------

-- A scope of the file: the word at which a lack is told, and the place by which its rows are known.
pub record ScopeIs (f : File) (u : Scope) (o : Owner) : Type 0 where
  pub word : u.word.place ≡ o.word
  pub there : 0 < o.word
  pub at : ScopeAt f o.key u.definitions

-- The scope in which an attribute is asked for; no word where it is not.
pub data Reaches (f : File) : Option Scope → Owner → Type 0 where
  nowhere : {o : Owner} → o.word ≡ 0 → Reaches f none o
  reaches : {u : Scope} {o : Owner} → ScopeIs f u o → Reaches f (some u) o

-- The scope of the kind with the number.
abbrev pub OwnsKind : Known → ℕ → Owner → Type 0
OwnsKind x n o = (s d e : List ℕ) (f : File) (k : Kind) → Knows s d e x f → n ≡ kind_number k → ScopeIs f (scope_of f k) o

-- The scope of the attribute of row i.
abbrev pub Owns : (g rs s d e : List ℕ) → Known → ℕ → Owner → Type 0
Owns g rs s d e x i o = (ws : List ℕ) (f : File) (a : Asked) → Knows s d e x f → RowIs g rs ws i a → Reaches f (along (scope_of f a.kind) a.path) o

-- Whether the default of row j is none where the standard has none; has is 1 where it has one.
abbrev pub DefaultDiffers : List ℕ → (j has : ℕ) → Bool → Type 0
DefaultDiffers d j has r =
    (s : List ℕ) (f : File) (x w : Defined) → Situation s f → d ≡ kept_definitions f → RowOf f j x → j < 513
    → has ≡ bit (has_default w.definition) → r ≡ only_where (has_default w.definition) (has_default x.definition)

-- Whether the values of row j are wider than those of row i of the standard, which is of the same type.
abbrev pub Wider : (g rs ws s d e : List ℕ) → (m i j : ℕ) → Bool → Type 0
Wider g rs ws s d e m i j r =
    (f : File) (x : Defined) (a : Asked) → Situation s f → d ≡ kept_definitions f → e ≡ kept_enumerators f → RowOf f j x → j < 513
    → ((vs : Values) → Reached f m vs) → RowIs g rs ws i a → type_code a.wanted.definition.type ≡ type_code x.definition.type
    → r ≡ wider a.wanted.definition.type a.wanted.definition.bounds a.wanted.values x.definition.bounds x.values

-- Whether row j differs from row i of the standard.
abbrev pub Differs : (g rs ws s d e : List ℕ) → (m i j : ℕ) → Bool → Type 0
Differs g rs ws s d e m i j r =
    (f : File) (x : Defined) (a : Asked) → Situation s f → d ≡ kept_definitions f → e ≡ kept_enumerators f → RowOf f j x → j < 513
    → ((vs : Values) → Reached f m vs) → RowIs g rs ws i a → r ≡ differs a.wanted x

-- The struct of a finding, and the finding of a struct.
abbrev pub told_as : Finding → Told
told_as x = record { place = x.place; number = x.number; attribute = x.attribute }

abbrev pub finding_as : Told → Finding
finding_as t = record { place = t.place; number = t.number; attribute = t.attribute }

-- Of the first of a list.
unfoldable pub first_told : List Finding → Maybe Told
first_told [] = None
first_told (x ∷ l) = Some (told_as x)

-- What is found of the attribute of row i.
abbrev pub Finds : (g rs ws s d e : List ℕ) → Known → ℕ → Maybe Told → Type 0
Finds g rs ws s d e x i r = (f : File) (a : Asked) → Knows s d e x f → RowIs g rs ws i a → r ≡ first_told (finding f a)

-- All attributes ------------------------------------------------------------------------------------------------------------------------------

unfoldable pub as_told : Option Finding → Maybe Told
as_told none = None
as_told (some x) = Some (told_as x)

-- What is found of one attribute, before what is told of those after it.
abbrev pub sooner : Maybe Told → Maybe Told → Maybe Told
sooner None b = b
sooner (Some x) None = Some x
sooner (Some x) (Some y) = Some (pick (not_behind (finding_as x) (finding_as y)) x y)

abbrev pub TellsForemost : (g rs ws s d e : List ℕ) → Known → Maybe Told → Type 0
TellsForemost g rs ws s d e x r = (f : File) → Knows s d e x f → RowsAre g rs ws → r ≡ as_told (foremost (findings standard f))
