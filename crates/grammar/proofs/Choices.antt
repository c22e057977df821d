-- How a computation over all rules and all classes of tokens is put to use. Assumes nothing.
use mathlib.Core.Path.{◌≡◌, refl, sym, ◌∙◌, ap, subst}
use mathlib.Core.List.{List, [], ◌∷◌}
use mathlib.Core.Bool.{Bool, true, false, ◌&&◌, false≢true, Bool-set}
use Prim.Native.Nat.{ℕ, zero, suc}
use lib.ListN.{get_or}
use Rattle.grammar.specs.Grammar.{Form, Rule, ◌⟶◌, Class, Kind, Integer, OS, UINT32, integers, strings, booleans, enums, floats, file, version, implementation, specs, spec, definitions, definition, attribute, reference, D, P, auto, mark, integer_range, numbers, boolean_range, float_range, enumerator, enumerators, default, own, application, objects, object, block, statements, statement, value, file_is, version_is, implementation_is, no_spec, a_spec, spec_is, no_definition, a_definition, an_attribute, a_reference, an_integer, a_string, a_boolean, an_enum, a_float, reference_is, no_D, a_D, no_P, a_P, no_auto, with_auto, no_mark, a_mark, no_range, a_range, a_list, no_number, a_number, no_boolean_range, no_float_range, a_boolean_range, a_float_range, enumerator_is, no_enumerator, an_enumerator, no_default, a_default, own_auto, own_none, own_number, own_string, own_true, own_false, own_name, own_float, application_is, no_object, an_object, an_object_alone, an_object_with, no_block, a_block, no_statement, a_statement, statement_is, value_number, value_string, value_float, value_auto, value_name, value_true, value_false, ordinary, numeral, quoted, floating, other, kind_word, type_word, integer_word, word, sign, OIL-VERSION, IMPLEMENTATION, CPU, STRING, BOOLEAN, ENUM, FLOAT, TRUE, FALSE, AUTO, NO-DEFAULT, WITH-AUTO, lbrace, rbrace, lsquare, rsquare, equals, semicolon, colon, comma, dots}
use Rattle.grammar.specs.Factored.{Written, written, forms, Status, same, changed, status, is_same, kept, Nonterminal, paper, span, Symbols, ◌⟹◌, keep, object_is, range_none, range_is, one_number, up_to, many_numbers, by, kept_choices, choices_by, choices}

-- `In a l`: a is an element of l.
pub data In {A : Type 0} : A → List A → Type 0 where
  here : {a : A} {l : List A} → In a (a ∷ l)
  there : {a b : A} {l : List A} → In a l → In a (b ∷ l)

abbrev pub all : {A : Type 0} → (A → Bool) → List A → Bool
all Q [] = true
all Q (a ∷ l) = Q a && all Q l

pub formed : {x : Rule} {f : Form} (p : x ⟶ f) → In (written p) (forms x)
unfolding forms
formed file_is = here
formed version_is = here
formed implementation_is = here
formed no_spec = here
formed a_spec = there here
formed spec_is = here
formed no_definition = here
formed a_definition = there here
formed an_attribute = here
formed a_reference = there here
formed an_integer = here
formed a_string = there here
formed a_boolean = there (there here)
formed an_enum = there (there (there here))
formed a_float = there (there (there (there here)))
formed reference_is = here
formed no_D = here
formed a_D = there here
formed no_P = here
formed a_P = there here
formed no_auto = here
formed with_auto = there here
formed no_mark = here
formed a_mark = there here
formed no_range = here
formed a_range = there here
formed a_list = there (there here)
formed no_number = here
formed a_number = there here
formed no_boolean_range = here
formed a_boolean_range = there here
formed no_float_range = here
formed a_float_range = there here
formed enumerator_is = here
formed no_enumerator = here
formed an_enumerator = there here
formed no_default = here
formed a_default = there here
formed own_number = there (there here)
formed own_string = there (there here)
formed own_true = there (there here)
formed own_false = there (there (there here))
formed own_name = there (there here)
formed own_float = there (there here)
formed application_is = here
formed no_object = here
formed an_object = there here
formed an_object_alone = here
formed an_object_with = there here
formed no_block = here
formed a_block = there here
formed no_statement = here
formed a_statement = there here
formed statement_is = here
formed value_number = here
formed value_string = there here
formed value_auto = there (there here)
formed value_name = there (there (there here))
formed value_true = there (there (there (there here)))
formed value_false = there (there (there (there (there here))))
formed value_float = there (there (there (there (there (there here)))))
formed (own_auto {s = integers}) = here
formed (own_auto {s = strings}) = here
formed (own_auto {s = booleans}) = here
formed (own_auto {s = enums}) = here
formed (own_auto {s = floats}) = here
formed (own_none {s = integers}) = there here
formed (own_none {s = strings}) = there here
formed (own_none {s = booleans}) = there here
formed (own_none {s = enums}) = there here
formed (own_none {s = floats}) = there here

kept_listed : {x : Rule} {f : Form} {p : x ⟶ f} (e : kept x ≡ true) {ws : List (Written x)} → In (written p) ws → In (by (keep p e)) (kept_choices e ws)
unfolding kept_choices
kept_listed e here = here
kept_listed e (there {b = written q} m) = there (kept_listed e m)

choices_kept : {x : Rule} (s : Status x) (q : status x ≡ s) (e : kept x ≡ true) → choices_by s q ≡ kept_choices e (forms x)
unfolding choices_by
choices_kept {x} same q e = ap (λ h. kept_choices h (forms x)) (Bool-set (kept x) true (ap is_same q) e)
choices_kept (changed c) q e = absurd (false≢true (sym (ap is_same q) ∙ e))

pub listed : {x : Nonterminal} {f : Symbols} (p : x ⟹ f) → In (by p) (choices x)
unfolding choices
listed (keep {x} p e) = subst (In (by (keep p e))) (sym (choices_kept (status x) refl e)) (kept_listed e (formed p))
listed object_is = here
listed range_none = here
listed range_is = there here
listed one_number = here
listed up_to = there here
listed many_numbers = there (there here)

-- What a computation finds of each rule, and of each class, holds of each.
pub both : (a b : Bool) → (a && b) ≡ true → (a ≡ true) × (b ≡ true)
both true true e = (refl, refl)
both true false e = (refl, e)
both false true e = (e, refl)
both false false e = (e, e)

pub every : {A : Type 0} (Q : A → Bool) {a : A} {l : List A} → all Q l ≡ true → In a l → Q a ≡ true
every Q e (here {a} {l}) = (both (Q a) (all Q l) e).0
every Q e (there {b} {l} m) = every Q (both (Q b) (all Q l) e).1 m

at : {A : Type 0} (Q : A → Bool) (l : List A) (d : A) → Q d ≡ true → all Q l ≡ true → (n : ℕ) → Q (get_or l n d) ≡ true
at Q [] d e h n = e
at Q (a ∷ l) d e h zero = (both (Q a) (all Q l) h).0
at Q (a ∷ l) d e h (suc n) = at Q l d e (both (Q a) (all Q l) h).1 n

abbrev pub nonterminals : List Nonterminal
nonterminals =
    paper file ∷ paper version ∷ paper implementation ∷ paper specs ∷ paper spec ∷ paper definitions ∷ paper definition
    ∷ paper attribute ∷ paper reference ∷ paper D ∷ paper P ∷ paper auto ∷ paper mark ∷ paper integer_range
    ∷ paper numbers ∷ paper boolean_range ∷ paper enumerator ∷ paper enumerators ∷ paper (default integers) ∷ paper (default strings) ∷ paper (default booleans)
    ∷ paper (default enums) ∷ paper (own integers) ∷ paper (own strings) ∷ paper (own booleans) ∷ paper (own enums) ∷ paper application ∷ paper objects
    ∷ paper object ∷ paper block ∷ paper statements ∷ paper statement ∷ paper value ∷ span
    ∷ paper float_range ∷ paper (default floats) ∷ paper (own floats) ∷ []

abbrev pub classes : Kind → Integer → List Class
classes k i =
    ordinary ∷ numeral ∷ quoted ∷ other ∷ kind_word k ∷ type_word k ∷ integer_word i
    ∷ word OIL-VERSION ∷ word IMPLEMENTATION ∷ word CPU ∷ word STRING ∷ word BOOLEAN ∷ word ENUM ∷ word TRUE ∷ word FALSE ∷ word AUTO ∷ word NO-DEFAULT ∷ word WITH-AUTO
    ∷ sign lbrace ∷ sign rbrace ∷ sign lsquare ∷ sign rsquare ∷ sign equals ∷ sign semicolon ∷ sign colon ∷ sign comma ∷ sign dots ∷ floating ∷ word FLOAT ∷ []

rule_at : (Q : Nonterminal → Bool) → all Q nonterminals ≡ true → (n : ℕ) → Q (get_or nonterminals n (paper file)) ≡ true
rule_at Q h = at Q nonterminals (paper file) (both (Q (paper file)) _ h).0 h

pub every_rule : (Q : Nonterminal → Bool) → all Q nonterminals ≡ true → (x : Nonterminal) → Q x ≡ true
every_rule Q h (paper file) = rule_at Q h 0
every_rule Q h (paper version) = rule_at Q h 1
every_rule Q h (paper implementation) = rule_at Q h 2
every_rule Q h (paper specs) = rule_at Q h 3
every_rule Q h (paper spec) = rule_at Q h 4
every_rule Q h (paper definitions) = rule_at Q h 5
every_rule Q h (paper definition) = rule_at Q h 6
every_rule Q h (paper attribute) = rule_at Q h 7
every_rule Q h (paper reference) = rule_at Q h 8
every_rule Q h (paper D) = rule_at Q h 9
every_rule Q h (paper P) = rule_at Q h 10
every_rule Q h (paper auto) = rule_at Q h 11
every_rule Q h (paper mark) = rule_at Q h 12
every_rule Q h (paper integer_range) = rule_at Q h 13
every_rule Q h (paper numbers) = rule_at Q h 14
every_rule Q h (paper boolean_range) = rule_at Q h 15
every_rule Q h (paper enumerator) = rule_at Q h 16
every_rule Q h (paper enumerators) = rule_at Q h 17
every_rule Q h (paper (default integers)) = rule_at Q h 18
every_rule Q h (paper (default strings)) = rule_at Q h 19
every_rule Q h (paper (default booleans)) = rule_at Q h 20
every_rule Q h (paper (default enums)) = rule_at Q h 21
every_rule Q h (paper (own integers)) = rule_at Q h 22
every_rule Q h (paper (own strings)) = rule_at Q h 23
every_rule Q h (paper (own booleans)) = rule_at Q h 24
every_rule Q h (paper (own enums)) = rule_at Q h 25
every_rule Q h (paper application) = rule_at Q h 26
every_rule Q h (paper objects) = rule_at Q h 27
every_rule Q h (paper object) = rule_at Q h 28
every_rule Q h (paper block) = rule_at Q h 29
every_rule Q h (paper statements) = rule_at Q h 30
every_rule Q h (paper statement) = rule_at Q h 31
every_rule Q h (paper value) = rule_at Q h 32
every_rule Q h span = rule_at Q h 33
every_rule Q h (paper float_range) = rule_at Q h 34
every_rule Q h (paper (default floats)) = rule_at Q h 35
every_rule Q h (paper (own floats)) = rule_at Q h 36

class_at : (Q : Class → Bool) (k : Kind) (i : Integer) → all Q (classes k i) ≡ true → (n : ℕ) → Q (get_or (classes k i) n ordinary) ≡ true
class_at Q k i h = at Q (classes k i) ordinary (both (Q ordinary) _ h).0 h

pub every_class : (Q : Class → Bool) → ((k : Kind) (i : Integer) → all Q (classes k i) ≡ true) → (c : Class) → Q c ≡ true
every_class Q h ordinary = class_at Q OS UINT32 (h OS UINT32) 0
every_class Q h numeral = class_at Q OS UINT32 (h OS UINT32) 1
every_class Q h quoted = class_at Q OS UINT32 (h OS UINT32) 2
every_class Q h other = class_at Q OS UINT32 (h OS UINT32) 3
every_class Q h (kind_word k) = class_at Q k UINT32 (h k UINT32) 4
every_class Q h (type_word k) = class_at Q k UINT32 (h k UINT32) 5
every_class Q h (integer_word i) = class_at Q OS i (h OS i) 6
every_class Q h (word OIL-VERSION) = class_at Q OS UINT32 (h OS UINT32) 7
every_class Q h (word IMPLEMENTATION) = class_at Q OS UINT32 (h OS UINT32) 8
every_class Q h (word CPU) = class_at Q OS UINT32 (h OS UINT32) 9
every_class Q h (word STRING) = class_at Q OS UINT32 (h OS UINT32) 10
every_class Q h (word BOOLEAN) = class_at Q OS UINT32 (h OS UINT32) 11
every_class Q h (word ENUM) = class_at Q OS UINT32 (h OS UINT32) 12
every_class Q h (word TRUE) = class_at Q OS UINT32 (h OS UINT32) 13
every_class Q h (word FALSE) = class_at Q OS UINT32 (h OS UINT32) 14
every_class Q h (word AUTO) = class_at Q OS UINT32 (h OS UINT32) 15
every_class Q h (word NO-DEFAULT) = class_at Q OS UINT32 (h OS UINT32) 16
every_class Q h (word WITH-AUTO) = class_at Q OS UINT32 (h OS UINT32) 17
every_class Q h (sign lbrace) = class_at Q OS UINT32 (h OS UINT32) 18
every_class Q h (sign rbrace) = class_at Q OS UINT32 (h OS UINT32) 19
every_class Q h (sign lsquare) = class_at Q OS UINT32 (h OS UINT32) 20
every_class Q h (sign rsquare) = class_at Q OS UINT32 (h OS UINT32) 21
every_class Q h (sign equals) = class_at Q OS UINT32 (h OS UINT32) 22
every_class Q h (sign semicolon) = class_at Q OS UINT32 (h OS UINT32) 23
every_class Q h (sign colon) = class_at Q OS UINT32 (h OS UINT32) 24
every_class Q h (sign comma) = class_at Q OS UINT32 (h OS UINT32) 25
every_class Q h (sign dots) = class_at Q OS UINT32 (h OS UINT32) 26
every_class Q h floating = class_at Q OS UINT32 (h OS UINT32) 27
every_class Q h (word FLOAT) = class_at Q OS UINT32 (h OS UINT32) 28
