-- The standard attributes that an implementation has to define, and what is wrong with those that it defines otherwise (document 02, Q-9). The
-- standard is a list of specs, as the text of section 5.2 means them (Section). Assumes nothing.
use Rattle.std.specs.Prelude.{List, [], ◌∷◌, ◌++◌, Bool, true, false, not, ℕ, zero, suc, ltb, leb, eqb}
use Rattle.std.proofs.Math.Option.{Option, none, some}
use Rattle.grammar.specs.Grammar.{Kind, Integer}
use Rattle.token.specs.Find.{pick, both, either, is_there}
use Rattle.meaning.specs.Syntax.{Num, Word, AttributeType, integer, string, boolean, enum, float, reference, Bounds, no_bounds, from_to, one_of, Definition, Definitions, no_more, define, Values, no_value, value, Defined, Spec, File}
use Rattle.meaning.specs.Words.{num_at_most, in_bounds, among_numbers, least_of, greatest_of, signed, width}
use Rattle.meaning.specs.Kinds.{same_kind}
use Rattle.meaning.specs.Scopes.{Under, find_value, find_definition}
use Rattle.meaning.specs.Judging.{taken}
use Rattle.meaning.specs.Cells.{type_code}

-- What is asked for --------------------------------------------------------------------------------------------------------------------------

-- Into the scope of a value: the name of the attribute, and the word of the value in its list.
pub record Step : Type 0 where
  pub attribute : Word
  pub value : Word

-- A standard attribute with the values of its list, and where it stands: its kind, and the way from the kind's definitions down.
pub record Asked : Type 0 where
  pub kind : Kind
  pub path : List Step
  pub wanted : Defined

-- "every standard attribute and sub-attribute", in "the order of names in section 5.2": what is under the values of an attribute stands before it.
unfoldable mutual
  pub asked_in : Definitions → Kind → List Step → List Asked
  asked_in no_more k p = []
  asked_in (define d vs ds) k p = asked_under vs k p d.name ++ (record { kind = k; path = p; wanted = record { definition = d; values = vs } } ∷ asked_in ds k p)

  pub asked_under : Values → Kind → List Step → Word → List Asked
  asked_under no_value k p a = []
  asked_under (value w e us vs) k p a = asked_in us k (p ++ (record { attribute = a; value = w } ∷ [])) ++ asked_under vs k p a

unfoldable pub asked : List Spec → List Asked
asked [] = []
asked (x ∷ xs) = asked_in x.definitions x.kind [] ++ asked xs

-- Where it is asked for ----------------------------------------------------------------------------------------------------------------------

-- A scope of the implementation, and the word at which an attribute that it lacks is reported.
pub record Scope : Type 0 where
  pub word : Word
  pub definitions : Definitions

unfoldable pub find_spec : Kind → List Spec → Option Spec
find_spec k [] = none
find_spec k (x ∷ xs) = let r = find_spec k xs in pick (same_kind k x.kind) (some x) r

-- "at the owning kind word .., or the implementation's name if the kind is absent".
unfoldable pub scope_or : Word → Option Spec → Scope
scope_or n none = record { word = n; definitions = no_more }
scope_or n (some x) = record { word = x.word; definitions = x.definitions }

unfoldable pub scope_of : File → Kind → Scope
scope_of f k = scope_or f.implementation_name (find_spec k f.specs)

-- "Under a value or attribute left out nothing is asked": the scope of a value, where the attribute is there and its list has the value.
unfoldable pub into_value : Option Under → Option Scope
into_value none = none
into_value (some v) = some (record { word = v.word; definitions = v.definitions })

unfoldable pub into_list : Option Defined → Word → Option Scope
into_list none t = none
into_list (some x) t = into_value (find_value x.values t)

unfoldable pub into : Scope → Step → Option Scope
into x p = into_list (find_definition x.definitions p.attribute) p.value

unfoldable pub and_then : Option Scope → (Scope → Option Scope) → Option Scope
and_then none f = none
and_then (some x) f = f x

unfoldable pub along : Scope → List Step → Option Scope
along x [] = some x
along x (p ∷ ps) = and_then (into x p) (λ y. along y ps)

-- What differs -------------------------------------------------------------------------------------------------------------------------------

-- "WITH_AUTO or a default only where the standard has one; NO_DEFAULT is no default": b without a.
unfoldable pub only_where : Bool → Bool → Bool
only_where a b = both b (not a)

unfoldable pub has_default : Definition → Bool
has_default d = is_there (taken d.default)

-- The number after a number.
unfoldable pub less_by_one : ℕ → Num
less_by_one zero = record { negative = false; amount = 1 }
less_by_one (suc zero) = record { negative = false; amount = 0 }
less_by_one (suc (suc n)) = record { negative = true; amount = suc n }

unfoldable pub next : Num → Num
next n = pick n.negative (less_by_one n.amount) (record { negative = false; amount = suc n.amount })

-- Every number listed that is not below low and is below high is followed by one of all.
unfoldable pub followed : Num → Num → List Word → List Word → Bool
followed low high all [] = true
followed low high all (t ∷ ts) =
    let r = followed low high all ts in
    both (either (not (both (num_at_most low t.number) (not (num_at_most high t.number)))) (among_numbers (next t.number) all)) r

-- All numbers from low through high are in the bounds.
unfoldable pub spans : Bounds → Num → Num → Bool
spans no_bounds low high = true
spans (from_to a b) low high = both (num_at_most a.number low) (num_at_most high b.number)
spans (one_of ts) low high = both (among_numbers low ts) (followed low high ts ts)

unfoldable pub all_in : Bounds → List Word → Bool
all_in b [] = true
all_in b (t ∷ ts) = let r = all_in b ts in both (in_bounds t.number b) r

-- The numbers of the type i in the bounds c are in the bounds b too.
unfoldable pub within : Integer → Bounds → Bounds → Bool
within i b no_bounds = spans b (least_of (signed i) (width i)) (greatest_of (signed i) (width i))
within i b (from_to low high) = spans b low.number high.number
within i b (one_of ts) = all_in b ts

-- The words of the list vs are words of the list ws.
unfoldable pub words_in : Values → Values → Bool
words_in ws no_value = true
words_in ws (value t e us vs) = let r = words_in ws vs in both (is_there (find_value ws t)) r

unfoldable pub has_list : Values → Bool
has_list no_value = false
has_list (value t e us vs) = true

-- "values .. wider than the standard's", of an attribute of the same type; "a BOOLEAN without its list differs". Strings and references have nothing
-- to compare, and section 5.2 has no FLOAT.
unfoldable pub wider : AttributeType → Bounds → Values → Bounds → Values → Bool
wider (integer i) b ws c vs = not (within i b c)
wider string b ws c vs = false
wider boolean b ws c vs = both (has_list ws) (not (has_list vs))
wider enum b ws c vs = not (words_in ws vs)
wider float b ws c vs = false
wider (reference k) b ws c vs = false

-- "with the same type and list mark, values no wider than the standard's, and WITH_AUTO or a default only where the standard has one": the
-- standard's w, and the implementation's d.
unfoldable pub same_truth : Bool → Bool → Bool
same_truth a b = pick a b (not b)

unfoldable pub differs : Defined → Defined → Bool
differs w d =
    either (not (eqb (type_code w.definition.type) (type_code d.definition.type)))
    (either (not (same_truth w.definition.list d.definition.list))
    (either (only_where w.definition.auto d.definition.auto)
    (either (only_where (has_default w.definition) (has_default d.definition))
    (wider w.definition.type w.definition.bounds w.values d.definition.bounds d.values))))

-- Findings -----------------------------------------------------------------------------------------------------------------------------------

-- A place, 25 or 26, and the number of the standard attribute.
pub record Finding : Type 0 where
  pub place : ℕ
  pub number : ℕ
  pub attribute : ℕ

unfoldable pub finding_if : Bool → ℕ → ℕ → ℕ → List Finding
finding_if true p n a = record { place = p; number = n; attribute = a } ∷ []
finding_if false p n a = []

-- "25 for one absent (at the owning kind word or value word ..) and 26 for one that differs (at its name)".
unfoldable pub found : Word → Defined → Option Defined → List Finding
found u w none = finding_if true u.place 25 w.definition.row
found u w (some d) = finding_if (differs w d) d.definition.name.place 26 w.definition.row

unfoldable pub in_scope : Defined → Option Scope → List Finding
in_scope w none = []
in_scope w (some x) = found x.word w (find_definition x.definitions w.definition.name)

unfoldable pub finding : File → Asked → List Finding
finding f a = in_scope a.wanted (along (scope_of f a.kind) a.path)

unfoldable pub findings_of : File → List Asked → List Finding
findings_of f [] = []
findings_of f (a ∷ as') = finding f a ++ findings_of f as'

-- All that is wrong with the implementation of a file, by the standard gs.
unfoldable pub findings : List Spec → File → List Finding
findings gs f = findings_of f (asked gs)

-- "Leftmost place, then smaller number, then the order of names in section 5.2": a is not after b.
unfoldable pub not_behind : Finding → Finding → Bool
not_behind a b =
    either (ltb a.place b.place)
    (both (eqb a.place b.place)
    (either (ltb a.number b.number)
    (both (eqb a.number b.number) (leb a.attribute b.attribute))))

unfoldable pub earlier : Option Finding → Option Finding → Option Finding
earlier none o = o
earlier (some a) none = some a
earlier (some a) (some b) = some (pick (not_behind a b) a b)

unfoldable pub foremost : List Finding → Option Finding
foremost [] = none
foremost (x ∷ xs) = earlier (some x) (foremost xs)
