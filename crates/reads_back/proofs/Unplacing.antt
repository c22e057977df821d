-- The actions do not look at places: of unplaced parts a form means what it means of the parts, unplaced. Assumes nothing.
use mathlib.Core.Path.{◌≡◌, refl, ◌∙◌, ap, ap₂, fun_ext}
use mathlib.Core.List.{List, [], ◌∷◌}
use mathlib.Core.Bool.{Bool, false}
use mathlib.Core.Option.{Option, none}
use Prim.Native.Nat.{ℕ, suc, ◌+◌}
use Rattle.reads_back.proofs.MergedAgain.{merge_unplaced}
use Rattle.token.specs.Find.{bit}
use Rattle.grammar.specs.Grammar.{Rule, rule, tok, Form, ◌⟶◌, file, version, implementation, specs, spec, definitions, definition, attribute, D, P, auto, mark, integer_range, numbers, boolean_range, float_range, enumerator, enumerators, application, objects, object, block, statements, statement, default, own, file_is, version_is, implementation_is, no_spec, a_spec, spec_is, no_definition, a_definition, an_attribute, a_reference, an_integer, a_string, a_boolean, an_enum, a_float, reference_is, no_D, a_D, no_P, a_P, no_auto, with_auto, no_mark, a_mark, no_range, a_range, a_list, no_number, a_number, no_boolean_range, no_float_range, a_boolean_range, a_float_range, enumerator_is, no_enumerator, an_enumerator, no_default, a_default, own_auto, own_none, own_number, own_string, own_true, own_false, own_name, own_float, application_is, no_object, an_object, an_object_alone, an_object_with, no_block, a_block, no_statement, a_statement, statement_is, value_number, value_string, value_float, value_auto, value_name, value_true, value_false, reference as reference-rule, value as value-rule}
use Rattle.meaning.specs.Syntax.{Word, Span, absent, through, AttributeType, integer, string, boolean, enum, float, Bounds, no_bounds, Definitions, no_more, define, Values, no_value, Defined, Spec, Statements, done, state, definitions_in, definitions_under, is_enum, enumerators_in, enumerators_under, statements_in, value as a-value, reference as reference-to, Object}
use Rattle.meaning.specs.Actions.{kind_of, integer_of, Implementation, Application, IntegerRange, BooleanRange, Enumerator, Block, ValueWithBlock, Stated, M, Parts, first_value, truths, defined, defining, specifying, stating, means}
use Rattle.meaning.specs.Places.{each}
use Rattle.meaning.proofs.Unplaced.{if_there, unplaced_word, unplaced_bounds, unplaced_definition, unplaced_definitions, unplaced_values, unplaced_defined, unplaced_spec, unplaced_statement, unplaced_statements, unplaced_object, unplaced}

-- What rules mean, unplaced ----------------------------------------------------------------------------------------------------------------

-- Implementations, applications, ranges, enumerators, blocks, values and statements without their places.
unfoldable pub bare_implementation : Implementation → Implementation
bare_implementation i = record { span = absent; name = unplaced_word i.name; specs = each unplaced_spec i.specs }

unfoldable pub bare_application : Application → Application
bare_application a = record { name = unplaced_word a.name; objects = each unplaced_object a.objects }

unfoldable pub bare_integer_range : IntegerRange → IntegerRange
bare_integer_range r = record { span = absent; bounds = unplaced_bounds r.bounds }

unfoldable pub bare_boolean_range : BooleanRange → BooleanRange
bare_boolean_range r = record { span = absent; values = unplaced_values r.values }

unfoldable pub bare_enumerator : Enumerator → Enumerator
bare_enumerator x = record { word = unplaced_word x.word; under = unplaced_definitions x.under }

unfoldable pub bare_block : Block → Block
bare_block b = record { brace = if_there unplaced_word b.brace; inside = λ k. unplaced_statements (b.inside k) }

unfoldable pub bare_value : ValueWithBlock → ValueWithBlock
bare_value v = record { word = unplaced_word v.word; block = bare_block v.block }

unfoldable pub bare_stated : Stated → Stated
bare_stated x = record { statement = unplaced_statement x.statement; inside = unplaced_statements x.inside }

-- What a rule means, unplaced.
unfoldable pub bare_M : (x : Rule) → M x → M x
bare_M file m = unplaced m
bare_M version m = unplaced_word m
bare_M implementation m = bare_implementation m
bare_M specs m = λ n e. each unplaced_spec (m n e)
bare_M spec m = λ n e. unplaced_spec (m n e)
bare_M definitions m = λ n e. unplaced_definitions (m n e)
bare_M definition m = λ n e. unplaced_defined (m n e)
bare_M attribute m = λ n e. unplaced_defined (m n e)
bare_M reference-rule m = λ n e. unplaced_defined (m n e)
bare_M D m = m
bare_M P m = λ n e. unplaced_definitions (m n e)
bare_M auto m = m
bare_M mark m = m
bare_M integer_range m = bare_integer_range m
bare_M float_range m = bare_integer_range m
bare_M numbers m = each unplaced_word m
bare_M boolean_range m = λ n e. bare_boolean_range (m n e)
bare_M enumerator m = λ n e. bare_enumerator (m n e)
bare_M enumerators m = λ n e. unplaced_values (m n e)
bare_M application m = bare_application m
bare_M objects m = λ n k. each unplaced_object (m n k)
bare_M object m = λ n k. unplaced_object (m n k)
bare_M block m = bare_block m
bare_M statements m = λ k. unplaced_statements (m k)
bare_M statement m = λ k. bare_stated (m k)
bare_M value-rule m = bare_value m
bare_M (default s) m = if_there unplaced_word m
bare_M (own s) m = unplaced_word m

-- What the parts of a form mean, unplaced.
unfoldable pub bare_parts : (f : Form) → Parts f → Parts f
bare_parts [] m = tt
bare_parts (tok a ∷ f) (w, m) = (unplaced_word w, bare_parts f m)
bare_parts (rule x ∷ f) (k, m) = (bare_M x k, bare_parts f m)

-- How many there are -----------------------------------------------------------------------------------------------------------------------

-- As many definitions, enumerators and statements are in what is unplaced.
mutual
  unfolding definitions_in unplaced_definitions

  definitions_in_unplaced : (ds : Definitions) → definitions_in (unplaced_definitions ds) ≡ definitions_in ds
  definitions_in_unplaced no_more = refl
  definitions_in_unplaced (define d vs ds) = ap₂ (λ a b. suc (a + b)) (definitions_under_unplaced vs) (definitions_in_unplaced ds)

  definitions_under_unplaced : (vs : Values) → definitions_under (unplaced_values vs) ≡ definitions_under vs
  definitions_under_unplaced no_value = refl
  definitions_under_unplaced (a-value w e us vs) = ap₂ ◌+◌ (definitions_in_unplaced us) (definitions_under_unplaced vs)

mutual
  unfolding enumerators_in unplaced_definitions unplaced_definition

  enumerators_in_unplaced : (ds : Definitions) → enumerators_in (unplaced_definitions ds) ≡ enumerators_in ds
  enumerators_in_unplaced no_more = refl
  enumerators_in_unplaced (define d vs ds) = ap₂ ◌+◌ (enumerators_under_unplaced vs (is_enum d.type)) (enumerators_in_unplaced ds)

  enumerators_under_unplaced : (vs : Values) (b : Bool) → enumerators_under (unplaced_values vs) b ≡ enumerators_under vs b
  enumerators_under_unplaced no_value b = refl
  enumerators_under_unplaced (a-value w e us vs) b =
      ap₂ (λ m n. bit b + (m + n)) (enumerators_in_unplaced us) (enumerators_under_unplaced vs b)

statements_in_unplaced : (ss : Statements) → statements_in (unplaced_statements ss) ≡ statements_in ss
unfolding statements_in unplaced_statements
statements_in_unplaced done = refl
statements_in_unplaced (state x inside rest) = ap₂ (λ a b. suc (a + b)) (statements_in_unplaced inside) (statements_in_unplaced rest)

-- The actions' parts -----------------------------------------------------------------------------------------------------------------------

first_bare : (x : Enumerator) (n e : ℕ) (vs : ℕ → ℕ → Values)
    → first_value (bare_enumerator x) n e (λ n e. unplaced_values (vs n e)) ≡ unplaced_values (first_value x n e vs)
unfolding first_value bare_enumerator unplaced_values
first_bare x n e vs =
    ap₂ (λ a b. a-value (unplaced_word x.word) e (unplaced_definitions x.under) (unplaced_values (vs (n + a) (suc e + b))))
    (definitions_in_unplaced x.under) (enumerators_in_unplaced x.under)

truths_bare : (t : Word) (us : ℕ → ℕ → Definitions) (f : Word) (vs : ℕ → ℕ → Definitions) (n e : ℕ)
    → truths (unplaced_word t) (λ n e. unplaced_definitions (us n e)) (unplaced_word f) (λ n e. unplaced_definitions (vs n e)) n e
    ≡ unplaced_values (truths t us f vs n e)
unfolding truths unplaced_values
truths_bare t us f vs n e =
    ap₂ (λ a b. a-value (unplaced_word t) 0 (unplaced_definitions (us n e)) (a-value (unplaced_word f) 0 (unplaced_definitions (vs (n + a) (e + b))) no_value))
    (definitions_in_unplaced (us n e)) (enumerators_in_unplaced (us n e))

defined_bare : (n : ℕ) (vs : Values) (y : AttributeType) (t : Word) (a : Bool) (r : Span) (b : Bounds) (x : Word) (l : Bool) (d : Option Word)
    → defined n (unplaced_values vs) y (unplaced_word t) a absent (unplaced_bounds b) (unplaced_word x) l (if_there unplaced_word d)
    ≡ unplaced_defined (defined n vs y t a r b x l d)
unfolding defined unplaced_defined unplaced_definition
defined_bare n vs y t a r b x l d =
    ap (λ (k : ℕ). record { definition = record { row = n + k; type = y; word = unplaced_word t; auto = a; range = absent; bounds = unplaced_bounds b; name = unplaced_word x; list = l; default = if_there unplaced_word d }; values = unplaced_values vs })
    (definitions_under_unplaced vs)

defining_bare : (x : Defined) (e : ℕ) (xs : ℕ → ℕ → Definitions)
    → defining (unplaced_defined x) e (λ n e. unplaced_definitions (xs n e)) ≡ unplaced_definitions (defining x e xs)
unfolding defining unplaced_defined unplaced_definitions unplaced_definition
defining_bare x e xs =
    ap (λ k. define (unplaced_definition x.definition) (unplaced_values x.values) (unplaced_definitions (xs (suc x.definition.row) (e + k))))
    (enumerators_in_unplaced (define x.definition x.values no_more))

specifying_bare : (x : Spec) (n e : ℕ) (xs : ℕ → ℕ → List Spec)
    → specifying (unplaced_spec x) n e (λ n e. each unplaced_spec (xs n e)) ≡ each unplaced_spec (specifying x n e xs)
unfolding specifying each unplaced_spec
specifying_bare x n e xs =
    ap₂ (λ a b. unplaced_spec x ∷ each unplaced_spec (xs (n + a) (e + b))) (definitions_in_unplaced x.definitions) (enumerators_in_unplaced x.definitions)

stating_bare : (x : Stated) (k : ℕ) (xs : ℕ → Statements)
    → stating (bare_stated x) k (λ m. unplaced_statements (xs m)) ≡ unplaced_statements (stating x k xs)
unfolding stating bare_stated unplaced_statements
stating_bare x k xs =
    ap (λ a. state (unplaced_statement x.statement) (unplaced_statements x.inside) (unplaced_statements (xs (suc k + a)))) (statements_in_unplaced x.inside)

-- The actions ------------------------------------------------------------------------------------------------------------------------------

-- What a form means of unplaced parts is what it means, unplaced.
pub means_bare : {x : Rule} {g : Form} (p : x ⟶ g) (m : Parts g) → means p (bare_parts g m) ≡ bare_M x (means p m)
unfolding means bare_parts bare_M unplaced bare_implementation bare_application bare_integer_range bare_boolean_range bare_enumerator bare_block bare_value bare_stated each if_there through unplaced_word absent unplaced_bounds unplaced_values unplaced_definitions unplaced_spec unplaced_object unplaced_statement unplaced_statements
means_bare file_is (v, (i, (a, u))) =
    ap (λ (os : List Object). record {
      version = unplaced_word v;
      implementation = absent;
      implementation_name = unplaced_word i.name;
      specs = each unplaced_spec i.specs;
      cpu = unplaced_word a.name;
      parts = each unplaced_object a.objects;
      objects = os;
    }) (merge_unplaced a.objects)
means_bare version_is (_, (_, (v, _))) = refl
means_bare implementation_is m = refl
means_bare no_spec m = refl
means_bare a_spec (x, (xs, _)) = λ i n e. specifying_bare (x n e) n e xs i
means_bare spec_is m = refl
means_bare no_definition m = refl
means_bare a_definition (x, (xs, _)) = λ i n e. defining_bare (x n e) e xs i
means_bare an_attribute m = refl
means_bare a_reference m = refl
means_bare an_integer (t, (a, (r, (x, (l, (d, _)))))) = λ i n e. defined_bare n no_value (integer (integer_of t.class)) t a r.span r.bounds x l d i
means_bare a_float (t, (a, (r, (x, (l, (d, _)))))) = λ i n e. defined_bare n no_value float t a r.span r.bounds x l d i
means_bare a_string (t, (a, (x, (l, (d, _))))) = λ i n e. defined_bare n no_value string t a absent no_bounds x l d i
means_bare a_boolean (t, (a, (r, (x, (l, (d, _)))))) = λ i n e. defined_bare n (r n e).values boolean t a (r n e).span no_bounds x l d i
means_bare an_enum (t, (a, (o, (v, (vs, (c, (x, (l, (d, _))))))))) =
    fun_ext (λ n. fun_ext (λ e.
    ap (λ q. defined n q enum (unplaced_word t) a absent no_bounds (unplaced_word x) l (if_there unplaced_word d)) (first_bare (v n e) n e vs)
    ∙ defined_bare n (first_value (v n e) n e vs) enum t a (through o c) no_bounds x l d))
means_bare reference_is (t, (x, (l, _))) = λ i n e. defined_bare n no_value (reference-to (kind_of t.class)) t false absent no_bounds x l none i
means_bare no_D m = refl
means_bare a_D m = refl
means_bare no_P m = refl
means_bare a_P m = refl
means_bare no_auto m = refl
means_bare with_auto m = refl
means_bare no_mark m = refl
means_bare a_mark m = refl
means_bare no_range m = refl
means_bare no_float_range m = refl
means_bare a_range m = refl
means_bare a_float_range m = refl
means_bare a_list m = refl
means_bare no_number m = refl
means_bare a_number m = refl
means_bare no_boolean_range m = refl
means_bare a_boolean_range (o, (t, (us, (_, (_, (f, (vs, (_, (c, _))))))))) =
    λ i n e. record { span = absent; values = truths_bare t us f vs n e i }
means_bare enumerator_is m = refl
means_bare no_enumerator m = refl
means_bare an_enumerator (_, (v, (vs, _))) = λ i n e. first_bare (v n e) n e vs i
means_bare no_default m = refl
means_bare a_default m = refl
means_bare own_auto m = refl
means_bare own_none m = refl
means_bare own_number m = refl
means_bare own_string m = refl
means_bare own_float m = refl
means_bare own_true m = refl
means_bare own_false m = refl
means_bare own_name m = refl
means_bare application_is m = refl
means_bare no_object m = refl
means_bare an_object (x, (xs, _)) =
    λ i n k. unplaced_object (x n k) ∷ each unplaced_object (xs (suc n) (k + statements_in_unplaced (x n k).statements i))
means_bare an_object_alone m = refl
means_bare an_object_with m = refl
means_bare no_block m = refl
means_bare a_block m = refl
means_bare no_statement m = refl
means_bare a_statement (x, (xs, _)) = λ i k. stating_bare (x k) k xs i
means_bare statement_is m = refl
means_bare value_number m = refl
means_bare value_string m = refl
means_bare value_float m = refl
means_bare value_auto m = refl
means_bare value_name m = refl
means_bare value_true m = refl
means_bare value_false m = refl
