-- An object's numbers change nothing else of it. Assumes nothing.
use mathlib.Core.Path.{◌≡◌, refl}
use mathlib.Core.List.{List}
use Prim.Native.Nat.{ℕ, suc}
use Rattle.grammar.specs.Grammar.{Rule, Form, ◌⟶◌, Trees, nil, leaf, node, file, version, implementation, specs, spec, definitions, definition, attribute, D, P, auto, mark, integer_range, numbers, boolean_range, float_range, enumerator, enumerators, application, objects, object, block, statements, statement, default, own, file_is, version_is, implementation_is, no_spec, a_spec, spec_is, no_definition, a_definition, an_attribute, a_reference, an_integer, a_string, a_boolean, an_enum, a_float, reference_is, no_D, a_D, no_P, a_P, no_auto, with_auto, no_mark, a_mark, no_range, a_range, a_list, no_number, a_number, no_boolean_range, a_boolean_range, no_float_range, a_float_range, enumerator_is, no_enumerator, an_enumerator, no_default, a_default, own_auto, own_none, own_number, own_string, own_true, own_false, own_name, own_float, application_is, no_object, an_object, an_object_alone, an_object_with, no_block, a_block, no_statement, a_statement, statement_is, value_number, value_string, value_float, value_auto, value_name, value_true, value_false, reference as reference-rule, value as value-rule}
use Rattle.meaning.specs.Actions.{M, Stated, stating, means, meaning}
use Rattle.meaning.specs.Syntax.{Statements, state}
use Rattle.channels.specs.Neighbours.{ObjectTree}
use Rattle.channels.proofs.Ideals.{unnumbered_statement, unnumbered}
use Rattle.channels.proofs.Twins.{Twin}

-- A statement, and those in its braces, with other numbers.
record SameStated (x y : Stated) : Type 0 where
  statement : unnumbered_statement x.statement ≡ unnumbered_statement y.statement
  inside : unnumbered x.inside ≡ unnumbered y.inside

statement_more : {x y : Stated} (a b : Statements) → SameStated x y → unnumbered a ≡ unnumbered b → unnumbered (state x.statement x.inside a) ≡ unnumbered (state y.statement y.inside b)
unfolding unnumbered
statement_more a b h e = λ i. state (h.statement i) (h.inside i) (e i)

-- What holds of what a rule means.
abbrev W : (x : Rule) → M x → Type 0
W file m = Unit {0}
W version m = Unit {0}
W implementation m = Unit {0}
W specs m = Unit {0}
W spec m = Unit {0}
W definitions m = Unit {0}
W definition m = Unit {0}
W attribute m = Unit {0}
W reference-rule m = Unit {0}
W D m = Unit {0}
W P m = Unit {0}
W auto m = Unit {0}
W mark m = Unit {0}
W integer_range m = Unit {0}
W numbers m = Unit {0}
W boolean_range m = Unit {0}
W float_range m = Unit {0}
W enumerator m = Unit {0}
W enumerators m = Unit {0}
W application m = Unit {0}
W objects m = Unit {0}
W object g = (n k m j : ℕ) → Twin (g n k) (g m j)
W block b = (k j : ℕ) → unnumbered (b.inside k) ≡ unnumbered (b.inside j)
W statements g = (k j : ℕ) → unnumbered (g k) ≡ unnumbered (g j)
W statement g = (k j : ℕ) → SameStated (g k) (g j)
W value-rule v = (k j : ℕ) → unnumbered (v.block.inside k) ≡ unnumbered (v.block.inside j)
W (default s) m = Unit {0}
W (own s) m = Unit {0}

abbrev All : {f : Form} → List ℕ → Trees ◌⟶◌ f → Type 0
All s nil = Unit {0}
All s (leaf t m ts) = All s ts
All s (node {x} p us ts) = W x (means p (meaning s us)) × All s ts

means_kept : {x : Rule} {g : Form} (s : List ℕ) (p : x ⟶ g) (us : Trees ◌⟶◌ g) → All s us → W x (means p (meaning s us))
unfolding means meaning stating unnumbered_statement
means_kept s file_is us h = tt
means_kept s version_is us h = tt
means_kept s implementation_is us h = tt
means_kept s no_spec us h = tt
means_kept s a_spec us h = tt
means_kept s spec_is us h = tt
means_kept s no_definition us h = tt
means_kept s a_definition us h = tt
means_kept s an_attribute us h = tt
means_kept s a_reference us h = tt
means_kept s an_integer us h = tt
means_kept s a_string us h = tt
means_kept s a_boolean us h = tt
means_kept s an_enum us h = tt
means_kept s a_float us h = tt
means_kept s reference_is us h = tt
means_kept s no_D us h = tt
means_kept s a_D us h = tt
means_kept s no_P us h = tt
means_kept s a_P us h = tt
means_kept s no_auto us h = tt
means_kept s with_auto us h = tt
means_kept s no_mark us h = tt
means_kept s a_mark us h = tt
means_kept s no_range us h = tt
means_kept s a_range us h = tt
means_kept s a_list us h = tt
means_kept s no_number us h = tt
means_kept s a_number us h = tt
means_kept s no_boolean_range us h = tt
means_kept s a_boolean_range us h = tt
means_kept s no_float_range us h = tt
means_kept s a_float_range us h = tt
means_kept s enumerator_is us h = tt
means_kept s no_enumerator us h = tt
means_kept s an_enumerator us h = tt
means_kept s no_default us h = tt
means_kept s a_default us h = tt
means_kept s own_auto us h = tt
means_kept s own_none us h = tt
means_kept s own_number us h = tt
means_kept s own_string us h = tt
means_kept s own_true us h = tt
means_kept s own_false us h = tt
means_kept s own_name us h = tt
means_kept s own_float us h = tt
means_kept s application_is us h = tt
means_kept s no_object us h = tt
means_kept s an_object us h = tt
means_kept s an_object_alone (leaf _ _ (leaf x _ r)) h = λ n k m j. record { kind = refl; name = refl; statements = refl }
means_kept s an_object_with (leaf _ _ (leaf x _ (leaf _ _ (node _ ss r)))) h = λ n k m j. record { kind = refl; name = refl; statements = h.0 k j }
means_kept s no_block nil h = λ k j. refl
means_kept s a_block (leaf _ _ (node _ ss r)) h = h.0
means_kept s no_statement nil h = λ k j. refl
means_kept s a_statement (node p x (node q xs nil)) h = λ k j. statement_more _ _ (h.0 k j) (h.1.0 _ _)
means_kept s statement_is (leaf x _ (leaf _ _ (node _ v r))) h = λ k j. record { statement = refl; inside = h.0 (suc k) (suc j) }
means_kept s value_number (leaf t _ nil) h = λ k j. refl
means_kept s value_string (leaf t _ nil) h = λ k j. refl
means_kept s value_float (leaf t _ nil) h = λ k j. refl
means_kept s value_auto (leaf t _ nil) h = λ k j. refl
means_kept s value_name (leaf t _ (node _ b nil)) h = h.0
means_kept s value_true (leaf t _ (node _ b nil)) h = h.0
means_kept s value_false (leaf t _ (node _ b nil)) h = h.0

all_kept : {f : Form} (s : List ℕ) (ts : Trees ◌⟶◌ f) → All s ts
all_kept s nil = tt
all_kept s (leaf t m ts) = all_kept s ts
all_kept s (node p us ts) = (means_kept s p us (all_kept s us), all_kept s ts)

-- An object of a text, wherever it stands.
pub object_kept : (s : List ℕ) (x : ObjectTree) (n k m j : ℕ) → Twin ((meaning s x).0 n k) ((meaning s x).0 m j)
unfolding meaning
object_kept s (node p us nil) n k m j = means_kept s p us (all_kept s us) n k m j
