-- Which definitions of a text have values in a list. Assumes nothing.
use mathlib.Core.List.{List, [], ◌∷◌}
use mathlib.Core.Option.{Option, none}
use Prim.Native.Nat.{ℕ, suc}
use Rattle.grammar.specs.Grammar.{Kind, Integer, Rule, Form, ◌▸◌, ∎, ◌⟶◌, Trees, nil, leaf, node, file, version, implementation, specs, spec, definitions, definition, attribute, D, P, auto, mark, integer_range, numbers, boolean_range, float_range, enumerator, enumerators, application, objects, object, block, statements, statement, default, own, file_is, version_is, implementation_is, no_spec, a_spec, spec_is, no_definition, a_definition, an_attribute, a_reference, an_integer, a_string, a_boolean, an_enum, a_float, reference_is, no_D, a_D, no_P, a_P, no_auto, with_auto, no_mark, a_mark, no_range, a_range, a_list, no_number, a_number, no_boolean_range, no_float_range, a_boolean_range, a_float_range, enumerator_is, no_enumerator, an_enumerator, no_default, a_default, own_auto, own_none, own_number, own_string, own_true, own_false, own_name, own_float, application_is, no_object, an_object, an_object_alone, an_object_with, no_block, a_block, no_statement, a_statement, statement_is, value_number, value_string, value_float, value_auto, value_name, value_true, value_false, reference as reference-rule, value as value-rule}
use Rattle.meaning.specs.Actions.{M, first_value, truths, defined, defining, specifying, means, meaning, syntax}
use Rattle.meaning.specs.Syntax.{Word, AttributeType, integer, string, boolean, enum, float, reference, Definition, Definitions, no_more, define, Values, no_value, value, Defined, Spec}

-- Integers and references have no values in a list, and references no default.
pub data Plain : AttributeType → Option Word → Values → Type 0 where
  plain_integer : {i : Integer} {o : Option Word} → Plain (integer i) o no_value
  plain_string : {o : Option Word} {vs : Values} → Plain string o vs
  plain_boolean : {o : Option Word} {vs : Values} → Plain boolean o vs
  plain_enum : {o : Option Word} {vs : Values} → Plain enum o vs
  plain_float : {o : Option Word} {vs : Values} → Plain float o vs
  plain_reference : {k : Kind} → Plain (reference k) none no_value

-- So it is for definitions, and for those under their values.
mutual
  -- Plain definitions.
  pub data AllPlain : Definitions → Type 0 where
    none_plain : AllPlain no_more
    more_plain : {d : Definition} {vs : Values} {ds : Definitions} → Plain d.type d.default vs → AllPlainUnder vs → AllPlain ds → AllPlain (define d vs ds)

  -- Values with plain definitions under them.
  pub data AllPlainUnder : Values → Type 0 where
    none_under : AllPlainUnder no_value
    more_under : {w : Word} {e : ℕ} {us : Definitions} {vs : Values} → AllPlain us → AllPlainUnder vs → AllPlainUnder (value w e us vs)

-- Specs with plain definitions.
pub data PlainSpecs : List Spec → Type 0 where
  no_specs : PlainSpecs []
  more_specs : {x : Spec} {xs : List Spec} → AllPlain x.definitions → PlainSpecs xs → PlainSpecs (x ∷ xs)

-- The first of plain definitions, and its values.
pub plain_first : {d : Definition} {vs : Values} {ds : Definitions} → AllPlain (define d vs ds) → Plain d.type d.default vs
plain_first (more_plain p u q) = p

-- Its values.
pub plain_inside : {d : Definition} {vs : Values} {ds : Definitions} → AllPlain (define d vs ds) → AllPlainUnder vs
plain_inside (more_plain p u q) = u

-- Those behind it.
pub plain_rest : {d : Definition} {vs : Values} {ds : Definitions} → AllPlain (define d vs ds) → AllPlain ds
plain_rest (more_plain p u q) = q

-- The definitions under the first value.
pub plain_under : {w : Word} {e : ℕ} {us : Definitions} {vs : Values} → AllPlainUnder (value w e us vs) → AllPlain us
plain_under (more_under p q) = p

-- The other values.
pub plain_others : {w : Word} {e : ℕ} {us : Definitions} {vs : Values} → AllPlainUnder (value w e us vs) → AllPlainUnder vs
plain_others (more_under p q) = q

-- The trees ----------------------------------------------------------------------------------------------------------------------------------

record PlainDefined (x : Defined) : Type 0 where
  own : Plain x.definition.type x.definition.default x.values
  under : AllPlainUnder x.values

-- What holds of what a rule means.
abbrev W : (x : Rule) → M x → Type 0
W file f = PlainSpecs f.specs
W version v = Unit {0}
W implementation i = PlainSpecs i.specs
W specs g = (n e : ℕ) → PlainSpecs (g n e)
W spec g = (n e : ℕ) → AllPlain (g n e).definitions
W definitions g = (n e : ℕ) → AllPlain (g n e)
W definition g = (n e : ℕ) → PlainDefined (g n e)
W attribute g = (n e : ℕ) → PlainDefined (g n e)
W reference-rule g = (n e : ℕ) → PlainDefined (g n e)
W D m = Unit {0}
W P g = (n e : ℕ) → AllPlain (g n e)
W auto m = Unit {0}
W mark m = Unit {0}
W integer_range r = Unit {0}
W float_range r = Unit {0}
W numbers ts = Unit {0}
W boolean_range g = (n e : ℕ) → AllPlainUnder (g n e).values
W enumerator g = (n e : ℕ) → AllPlain (g n e).under
W enumerators g = (n e : ℕ) → AllPlainUnder (g n e)
W application a = Unit {0}
W objects g = Unit {0}
W object g = Unit {0}
W block b = Unit {0}
W statements g = Unit {0}
W statement g = Unit {0}
W value-rule v = Unit {0}
W (default s) o = Unit {0}
W (own s) t = Unit {0}

abbrev All : {f : Form} → List ℕ → Trees ◌⟶◌ f → Type 0
All s nil = Unit {0}
All s (leaf t m ts) = All s ts
All s (node {x} p us ts) = W x (means p (meaning s us)) × All s ts

means_plain : {x : Rule} {g : Form} (s : List ℕ) (p : x ⟶ g) (us : Trees ◌⟶◌ g) → All s us → W x (means p (meaning s us))
unfolding means meaning first_value truths defined defining specifying
means_plain s file_is (node _ v (node _ i (node _ a nil))) h = h.1.0
means_plain s version_is us h = tt
means_plain s implementation_is (leaf _ _ (leaf _ _ (leaf _ _ (node _ ss r)))) h = h.0 0 0
means_plain s no_spec nil h = λ n e. no_specs
means_plain s a_spec (node _ x (node _ xs nil)) h = λ n e. more_specs (h.0 n e) (h.1.0 _ _)
means_plain s spec_is (leaf _ _ (leaf _ _ (node _ d r))) h = λ n e. h.0 n e
means_plain s no_definition nil h = λ n e. none_plain
means_plain s a_definition (node _ x (node _ xs nil)) h = λ n e. more_plain (h.0 n e).own (h.0 n e).under (h.1.0 _ _)
means_plain s an_attribute (node _ x nil) h = h.0
means_plain s a_reference (node _ x nil) h = h.0
means_plain s an_integer (leaf _ _ (node _ a (node _ r (leaf x _ (node _ k (node _ d b)))))) h = λ n e. record { own = plain_integer; under = none_under }
means_plain s a_float (leaf _ _ (node _ a (node _ r (leaf x _ (node _ k (node _ d b)))))) h = λ n e. record { own = plain_float; under = none_under }
means_plain s a_string (leaf _ _ (node _ a (leaf x _ (node _ k (node _ d b))))) h = λ n e. record { own = plain_string; under = none_under }
means_plain s a_boolean (leaf _ _ (node _ a (node _ r (leaf x _ (node _ k (node _ d b)))))) h = λ n e. record { own = plain_boolean; under = h.1.0 n e }
means_plain s an_enum (leaf _ _ (node _ a (leaf _ _ (node q v (node r vs (leaf _ _ (leaf x _ (node _ k (node _ d b))))))))) h = λ n e.
    record { own = plain_enum; under = more_under (h.1.0 n e) (h.1.1.0 _ _) }
means_plain s reference_is (leaf _ _ (leaf x _ (node _ k b))) h = λ n e. record { own = plain_reference; under = none_under }
means_plain s no_D us h = tt
means_plain s a_D us h = tt
means_plain s no_P nil h = λ n e. none_plain
means_plain s a_P (leaf _ _ (node _ d (leaf _ _ nil))) h = h.0
means_plain s no_auto us h = tt
means_plain s with_auto us h = tt
means_plain s no_mark us h = tt
means_plain s a_mark us h = tt
means_plain s no_range us h = tt
means_plain s no_float_range us h = tt
means_plain s a_range us h = tt
means_plain s a_float_range us h = tt
means_plain s a_list us h = tt
means_plain s no_number us h = tt
means_plain s a_number us h = tt
means_plain s no_boolean_range nil h = λ n e. none_under
means_plain s a_boolean_range (leaf _ _ (leaf t _ (node _ us (node _ d (leaf _ _ (leaf f _ (node _ vs (node _ b c)))))))) h = λ n e.
    more_under (h.0 n e) (more_under (h.1.1.0 _ _) none_under)
means_plain s enumerator_is (leaf w _ (node _ us (node _ d nil))) h = λ n e. h.0 n (suc e)
means_plain s no_enumerator nil h = λ n e. none_under
means_plain s an_enumerator (leaf _ _ (node q v (node r vs nil))) h = λ n e. more_under (h.0 n e) (h.1.0 _ _)
means_plain s no_default us h = tt
means_plain s a_default us h = tt
means_plain s own_auto us h = tt
means_plain s own_none us h = tt
means_plain s own_number us h = tt
means_plain s own_string us h = tt
means_plain s own_float us h = tt
means_plain s own_true us h = tt
means_plain s own_false us h = tt
means_plain s own_name us h = tt
means_plain s application_is us h = tt
means_plain s no_object us h = tt
means_plain s an_object us h = tt
means_plain s an_object_alone us h = tt
means_plain s an_object_with us h = tt
means_plain s no_block us h = tt
means_plain s a_block us h = tt
means_plain s no_statement us h = tt
means_plain s a_statement us h = tt
means_plain s statement_is us h = tt
means_plain s value_number us h = tt
means_plain s value_string us h = tt
means_plain s value_float us h = tt
means_plain s value_auto us h = tt
means_plain s value_name us h = tt
means_plain s value_true us h = tt
means_plain s value_false us h = tt

all_plain : {f : Form} (s : List ℕ) (ts : Trees ◌⟶◌ f) → All s ts
all_plain s nil = tt
all_plain s (leaf t m ts) = all_plain s ts
all_plain s (node p us ts) = (means_plain s p us (all_plain s us), all_plain s ts)

-- The definitions of a text are plain.
pub syntax_plain : (s : List ℕ) (t : Trees ◌⟶◌ (file ▸ ∎)) → PlainSpecs (syntax s t).specs
unfolding syntax meaning
syntax_plain s (node p us nil) = means_plain s p us (all_plain s us)
