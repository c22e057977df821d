-- The factored grammar: what the readers go by, where no two forms of a rule begin alike. The forms of `object` and `integer_range` are drawn
-- together, with one more rule, `span`. It has the same trees as the grammar of document 01 (proofs/Literal). The rules do not name it;
-- `reading`, which computes their answer, does.
-- Assumes nothing.
use Rattle.std.specs.Prelude.{◌≡◌, refl, List, [], ◌∷◌, Bool, true, false}
use Rattle.std.proofs.Common.{ap}
use Rattle.grammar.specs.Grammar.{Form, Symbol, tok, rule, Rule, ◌⟶◌, ◌·◌, ◌▸◌, ∎, name, number, kind, sg, lsquare, rsquare, semicolon, dots, comma, integers, strings, booleans, enums, floats, file, version, implementation, specs, spec, definitions, definition, attribute, reference, D, P, auto, mark, integer_range, numbers, boolean_range, float_range, enumerator, enumerators, default, own, application, objects, object, block, statements, statement, value, file_is, version_is, implementation_is, no_spec, a_spec, spec_is, no_definition, a_definition, an_attribute, a_reference, an_integer, a_string, a_boolean, an_enum, a_float, reference_is, no_D, a_D, no_P, a_P, no_auto, with_auto, no_mark, a_mark, no_range, a_range, a_list, no_number, a_number, no_boolean_range, no_float_range, a_boolean_range, a_float_range, enumerator_is, no_enumerator, an_enumerator, no_default, a_default, own_auto, own_none, own_number, own_string, own_true, own_false, own_name, own_float, application_is, no_object, an_object, an_object_alone, an_object_with, no_block, a_block, no_statement, a_statement, statement_is, value_number, value_string, value_float, value_auto, value_name, value_true, value_false}

-- The forms of each rule of document 01, as a list.
pub data Written (x : Rule) : Type 0 where
  written : {f : Form} → x ⟶ f → Written x

unfoldable pub forms : (x : Rule) → List (Written x)
forms file = written file_is ∷ []
forms version = written version_is ∷ []
forms implementation = written implementation_is ∷ []
forms specs = written no_spec ∷ written a_spec ∷ []
forms spec = written spec_is ∷ []
forms definitions = written no_definition ∷ written a_definition ∷ []
forms definition = written an_attribute ∷ written a_reference ∷ []
forms attribute = written an_integer ∷ written a_string ∷ written a_boolean ∷ written an_enum ∷ written a_float ∷ []
forms reference = written reference_is ∷ []
forms D = written no_D ∷ written a_D ∷ []
forms P = written no_P ∷ written a_P ∷ []
forms auto = written no_auto ∷ written with_auto ∷ []
forms mark = written no_mark ∷ written a_mark ∷ []
forms integer_range = written no_range ∷ written a_range ∷ written a_list ∷ []
forms numbers = written no_number ∷ written a_number ∷ []
forms boolean_range = written no_boolean_range ∷ written a_boolean_range ∷ []
forms float_range = written no_float_range ∷ written a_float_range ∷ []
forms enumerator = written enumerator_is ∷ []
forms enumerators = written no_enumerator ∷ written an_enumerator ∷ []
forms (default s) = written no_default ∷ written a_default ∷ []
forms (own integers) = written own_auto ∷ written own_none ∷ written own_number ∷ []
forms (own strings) = written own_auto ∷ written own_none ∷ written own_string ∷ []
forms (own booleans) = written own_auto ∷ written own_none ∷ written own_true ∷ written own_false ∷ []
forms (own enums) = written own_auto ∷ written own_none ∷ written own_name ∷ []
forms (own floats) = written own_auto ∷ written own_none ∷ written own_float ∷ []
forms application = written application_is ∷ []
forms objects = written no_object ∷ written an_object ∷ []
forms object = written an_object_alone ∷ written an_object_with ∷ []
forms block = written no_block ∷ written a_block ∷ []
forms statements = written no_statement ∷ written a_statement ∷ []
forms statement = written statement_is ∷ []
forms value = written value_number ∷ written value_string ∷ written value_auto ∷ written value_name ∷ written value_true ∷ written value_false ∷ written value_float ∷ []

-- The rules whose forms are changed.
pub data Changed : Rule → Type 0 where
  object_changed : Changed object
  range_changed : Changed integer_range

pub data Status (x : Rule) : Type 0 where
  same : Status x
  changed : Changed x → Status x

unfoldable pub status : (x : Rule) → Status x
status file = same
status version = same
status implementation = same
status specs = same
status spec = same
status definitions = same
status definition = same
status attribute = same
status reference = same
status D = same
status P = same
status auto = same
status mark = same
status integer_range = changed range_changed
status numbers = same
status boolean_range = same
status float_range = same
status enumerator = same
status enumerators = same
status (default s) = same
status application = same
status objects = same
status object = changed object_changed
status block = same
status statements = same
status statement = same
status value = same
status (own s) = same

unfoldable pub is_same : {x : Rule} → Status x → Bool
is_same same = true
is_same (changed c) = false

unfoldable pub kept : Rule → Bool
unfolding status is_same
kept x = is_same (status x)

-- the names of the factored grammar's rules: those of document 01, and what stands after the first number of an integer range
pub data Nonterminal : Type 0 where
  paper : Rule → Nonterminal
  span : Nonterminal

abbrev pub Symbols : Type 0
Symbols = List (Symbol Nonterminal)

-- a form of document 01 as a form of the factored grammar
abbrev pub lift : Form → Symbols
lift [] = []
lift (tok a ∷ f) = tok a ∷ lift f
lift (rule x ∷ f) = rule (paper x) ∷ lift f

infix 20 ◌⟹◌
pub data ◌⟹◌ : Nonterminal → Symbols → Type 0 where
  keep : {x : Rule} {g : Form} → x ⟶ g → kept x ≡ true → paper x ⟹ lift g
  object_is : paper object ⟹ kind · name · paper block ▸ paper D ▸ sg semicolon · ∎
  range_none : paper integer_range ⟹ ∎
  range_is : paper integer_range ⟹ sg lsquare · number · span ▸ sg rsquare · ∎
  one_number : span ⟹ ∎
  up_to : span ⟹ sg dots · number · ∎
  many_numbers : span ⟹ sg comma · number · paper numbers ▸ ∎

-- The forms of each of its rules, as a list.
pub data Choice (x : Nonterminal) : Type 0 where
  by : {f : Symbols} → x ⟹ f → Choice x

unfoldable pub kept_choices : {x : Rule} → kept x ≡ true → List (Written x) → List (Choice (paper x))
kept_choices e [] = []
kept_choices e (written p ∷ ws) = by (keep p e) ∷ kept_choices e ws

unfoldable pub new_choices : {x : Rule} → Changed x → List (Choice (paper x))
new_choices object_changed = by object_is ∷ []
new_choices range_changed = by range_none ∷ by range_is ∷ []

unfoldable pub choices_by : {x : Rule} (s : Status x) → status x ≡ s → List (Choice (paper x))
unfolding kept kept_choices new_choices forms
choices_by {x} same e = kept_choices (ap is_same e) (forms x)
choices_by (changed c) e = new_choices c

unfoldable pub choices : (x : Nonterminal) → List (Choice x)
unfolding choices_by status
choices (paper x) = choices_by (status x) refl
choices span = by one_number ∷ by up_to ∷ by many_numbers ∷ []
