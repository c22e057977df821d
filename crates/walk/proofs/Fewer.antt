-- There are no more rows than tokens, and no more tokens than bytes and one. Assumes nothing.
use mathlib.Core.Path.{◌≡◌, refl, sym, ◌∙◌, ap}
use mathlib.Core.List.{List, [], ◌∷◌}
use mathlib.Core.Bool.{true, false}
use Prim.Native.Nat.{ℕ, zero, suc, ◌+◌, ◌-◌, ◌≤◌}
use native.Mathlib.Omega.{arith}
use lib.ListN.{length, length-append}
use Rattle.token.specs.Find.{bit}
use Rattle.token.specs.Tokens.{step_at}
use Rattle.token.specs.Lexing.{lex_n, lex_from, after_step}
use Rattle.token.specs.declared.Step.{Step}
use Rattle.token.specs.declared.Step.TheVariants.{Found, Refused, End}
use Rattle.grammar.specs.Grammar.{Token, Rule, rule, tok, Form, ◌▸◌, ∎, ◌⟶◌, Trees, nil, leaf, node, tokens, file, version, implementation, specs, spec, definitions, definition, attribute, reference, D, P, auto, mark, integer_range, numbers, boolean_range, float_range, enumerator, enumerators, application, objects, object, block, statements, statement, value, default, own, file_is, version_is, implementation_is, no_spec, a_spec, spec_is, no_definition, a_definition, an_attribute, a_reference, an_integer, a_string, a_boolean, an_enum, a_float, reference_is, no_D, a_D, no_P, a_P, no_auto, with_auto, no_mark, a_mark, no_range, a_range, a_list, no_number, a_number, no_boolean_range, no_float_range, a_boolean_range, a_float_range, enumerator_is, no_enumerator, an_enumerator, no_default, a_default, own_auto, own_none, own_number, own_string, own_true, own_false, own_name, own_float, application_is, no_object, an_object, an_object_alone, an_object_with, no_block, a_block, no_statement, a_statement, statement_is, value_number, value_string, value_float, value_auto, value_name, value_true, value_false}
use Rattle.grammar.specs.Machine.{Stream, ended, bad, ◌▹◌, prepend}
use Rattle.grammar.specs.Readers.{stream_of, lex_at, look_at, rest}
use Rattle.grammar.proofs.Meeting.{rest_look}
use Rattle.meaning.specs.Syntax.{no_more, define, Spec, definitions_in, definitions_under, enumerators_in, enumerators_under, is_enum, statements_in}
use Rattle.meaning.specs.Actions.{M, Parts, means, meaning, first_value, truths, defined, defining, specifying, stating}
use Rattle.walk.specs.Whole.{Few}
use Rattle.layout.specs.Kept.{entries, choices, spec_entries, spec_choices, statement_count}
use Rattle.layout.proofs.Lengths.{length_entries, length_choices}

-- How many rows there are.
unfoldable all_definitions : List Spec → ℕ
all_definitions [] = 0
all_definitions (x ∷ xs) = definitions_in x.definitions + all_definitions xs

unfoldable all_enumerators : List Spec → ℕ
all_enumerators [] = 0
all_enumerators (x ∷ xs) = enumerators_in x.definitions + all_enumerators xs

spec_entries_many : (xs : List Spec) → length (spec_entries xs) ≡ all_definitions xs
unfolding spec_entries all_definitions
spec_entries_many [] = refl
spec_entries_many (x ∷ xs) =
    let a = length-append (entries x.definitions x.word 0) (spec_entries xs) in
    omega (arith, a, length_entries x.definitions x.word 0, spec_entries_many xs)

spec_choices_many : (xs : List Spec) → length (spec_choices xs) ≡ all_enumerators xs
unfolding spec_choices all_enumerators
spec_choices_many [] = refl
spec_choices_many (x ∷ xs) =
    let a = length-append (choices x.definitions) (spec_choices xs) in
    omega (arith, a, length_choices x.definitions, spec_choices_many xs)

-- What a rule means holds no more rows than n.
unfoldable Small : (x : Rule) → M x → ℕ → Type 0
Small file m n = (all_definitions m.specs ≤ n) × (all_enumerators m.specs ≤ n) × (length m.parts ≤ n) × (statement_count m.parts ≤ n)
Small version m n = Unit {0}
Small implementation m n = (all_definitions m.specs ≤ n) × (all_enumerators m.specs ≤ n)
Small specs m n = (i j : ℕ) → (all_definitions (m i j) ≤ n) × (all_enumerators (m i j) ≤ n)
Small spec m n = (i j : ℕ) → (definitions_in (m i j).definitions ≤ n) × (enumerators_in (m i j).definitions ≤ n)
Small definitions m n = (i j : ℕ) → (definitions_in (m i j) ≤ n) × (enumerators_in (m i j) ≤ n)
Small definition m n = (i j : ℕ) → (suc (definitions_under (m i j).values) ≤ n) × (enumerators_under (m i j).values (is_enum (m i j).definition.type) ≤ n)
Small attribute m n = (i j : ℕ) → (suc (definitions_under (m i j).values) ≤ n) × (enumerators_under (m i j).values (is_enum (m i j).definition.type) ≤ n)
Small reference m n = (i j : ℕ) → (suc (definitions_under (m i j).values) ≤ n) × (enumerators_under (m i j).values (is_enum (m i j).definition.type) ≤ n)
Small D m n = Unit {0}
Small P m n = (i j : ℕ) → (definitions_in (m i j) ≤ n) × (enumerators_in (m i j) ≤ n)
Small auto m n = Unit {0}
Small mark m n = Unit {0}
Small integer_range m n = Unit {0}
Small float_range m n = Unit {0}
Small numbers m n = Unit {0}
Small boolean_range m n = (i j : ℕ) → (definitions_under (m i j).values ≤ n) × (enumerators_under (m i j).values false ≤ n)
Small enumerator m n = (i j : ℕ) → (definitions_in (m i j).under ≤ n) × (suc (enumerators_in (m i j).under) ≤ n)
Small enumerators m n = (i j : ℕ) → (definitions_under (m i j) ≤ n) × (enumerators_under (m i j) true ≤ n)
Small application m n = (length m.objects ≤ n) × (statement_count m.objects ≤ n)
Small objects m n = (i k : ℕ) → (length (m i k) ≤ n) × (statement_count (m i k) ≤ n)
Small object m n = (i k : ℕ) → (1 ≤ n) × (statements_in (m i k).statements ≤ n)
Small block m n = (k : ℕ) → statements_in (m.inside k) ≤ n
Small statements m n = (k : ℕ) → statements_in (m k) ≤ n
Small statement m n = (k : ℕ) → suc (statements_in (m k).inside) ≤ n
Small value m n = (k : ℕ) → statements_in (m.block.inside k) ≤ n
Small (default s) m n = Unit {0}
Small (own s) m n = Unit {0}

-- The parts of a form, with the tokens of each.
unfoldable Parted : (f : Form) → Parts f → ℕ → Type 0
unfolding Small
Parted [] m n = Unit {0}
Parted (tok a ∷ f) m n = (k : ℕ) × (suc k ≤ n) × Parted f m.1 k
Parted (rule x ∷ f) m n = (j : ℕ) × (k : ℕ) × (j + k ≤ n) × Small x m.0 j × Parted f m.1 k

fewer : {x : Rule} {g : Form} (p : x ⟶ g) (m : Parts g) (n : ℕ) → Parted g m n → Small x (means p m) n
unfolding Small Parted means first_value truths defined defining specifying stating definitions_in enumerators_in bit is_enum statements_in all_definitions all_enumerators statement_count
fewer file_is m n q =
    let a = q.4 in
    let b = a.4 in
    (omega (arith, q.2, a.2, a.3.0), omega (arith, q.2, a.2, a.3.1), omega (arith, q.2, a.2, b.2, b.3.0), omega (arith, q.2, a.2, b.2, b.3.1))
fewer version_is m n q = tt
fewer implementation_is m n q =
    let c = q.2.2.2 in
    let r = c.3 0 0 in
    (omega (arith, q.1, q.2.1, q.2.2.1, c.2, r.0), omega (arith, q.1, q.2.1, q.2.2.1, c.2, r.1))
fewer no_spec m n q = λ i j. (omega arith, omega arith)
fewer a_spec m n q = λ i j.
    let ds = (m.0 i j).definitions in
    let a = q.3 i j in
    let b = q.4.3 (i + definitions_in ds) (j + enumerators_in ds) in
    (omega (arith, q.2, q.4.2, a.0, b.0), omega (arith, q.2, q.4.2, a.1, b.1))
fewer spec_is m n q = λ i j.
    let c = q.2.2 in
    let r = c.3 i j in
    (omega (arith, q.1, q.2.1, c.2, r.0), omega (arith, q.1, q.2.1, c.2, r.1))
fewer no_definition m n q = λ i j. (omega arith, omega arith)
fewer a_definition m n q = λ i j.
    let d = m.0 i j in
    let a = q.3 i j in
    let b = q.4.3 (suc d.definition.row) (j + enumerators_in (define d.definition d.values no_more)) in
    (omega (arith, q.2, q.4.2, a.0, b.0), omega (arith, q.2, q.4.2, a.1, b.1))
fewer an_attribute m n q = λ i j. let a = q.3 i j in (omega (arith, q.2, a.0), omega (arith, q.2, a.1))
fewer a_reference m n q = λ i j. let a = q.3 i j in (omega (arith, q.2, a.0), omega (arith, q.2, a.1))
fewer an_integer m n q = λ i j. (omega (arith, q.1), omega arith)
fewer a_float m n q = λ i j. (omega (arith, q.1), omega arith)
fewer a_string m n q = λ i j. (omega (arith, q.1), omega arith)
fewer a_boolean m n q = λ i j.
    let b = q.2 in
    let c = b.4 in
    let r = c.3 i j in
    (omega (arith, q.1, b.2, c.2, r.0), omega (arith, q.1, b.2, c.2, r.1))
fewer an_enum m n q = λ i j.
    let b = q.2 in
    let c = b.4 in
    let d = c.2 in
    let f = d.4 in
    let us = (m.1.1.1.0 i j).under in
    let r = d.3 i j in
    let t = f.3 (i + definitions_in us) (suc j + enumerators_in us) in
    (omega (arith, q.1, b.2, c.1, d.2, f.2, r.0, t.0), omega (arith, q.1, b.2, c.1, d.2, f.2, r.1, t.1))
fewer reference_is m n q = λ i j. (omega (arith, q.1), omega arith)
fewer no_D m n q = tt
fewer a_D m n q = tt
fewer no_P m n q = λ i j. (omega arith, omega arith)
fewer a_P m n q = λ i j. let c = q.2 in let r = c.3 i j in (omega (arith, q.1, c.2, r.0), omega (arith, q.1, c.2, r.1))
fewer no_auto m n q = tt
fewer with_auto m n q = tt
fewer no_mark m n q = tt
fewer a_mark m n q = tt
fewer no_range m n q = tt
fewer no_float_range m n q = tt
fewer a_range m n q = tt
fewer a_float_range m n q = tt
fewer a_list m n q = tt
fewer no_number m n q = tt
fewer a_number m n q = tt
fewer no_boolean_range m n q = λ i j. (omega arith, omega arith)
fewer a_boolean_range m n q = λ i j.
    let c = q.2.2 in
    let d = c.4 in
    let e = d.4 in
    let f = e.2 in
    let g = f.2 in
    let us = m.1.1.0 i j in
    let r = c.3 i j in
    let t = g.3 (i + definitions_in us) (j + enumerators_in us) in
    (omega (arith, q.1, q.2.1, c.2, d.2, e.1, f.1, g.2, r.0, t.0), omega (arith, q.1, q.2.1, c.2, d.2, e.1, f.1, g.2, r.1, t.1))
fewer enumerator_is m n q = λ i j. let c = q.2 in let r = c.3 i (suc j) in (omega (arith, q.1, c.2, r.0), omega (arith, q.1, c.2, r.1))
fewer no_enumerator m n q = λ i j. (omega arith, omega arith)
fewer an_enumerator m n q = λ i j.
    let c = q.2 in
    let d = c.4 in
    let us = (m.1.0 i j).under in
    let r = c.3 i j in
    let t = d.3 (i + definitions_in us) (suc j + enumerators_in us) in
    (omega (arith, q.1, c.2, d.2, r.0, t.0), omega (arith, q.1, c.2, d.2, r.1, t.1))
fewer no_default m n q = tt
fewer a_default m n q = tt
fewer own_auto m n q = tt
fewer own_none m n q = tt
fewer own_number m n q = tt
fewer own_string m n q = tt
fewer own_float m n q = tt
fewer own_true m n q = tt
fewer own_false m n q = tt
fewer own_name m n q = tt
fewer application_is m n q =
    let c = q.2.2.2 in
    let r = c.3 0 0 in
    (omega (arith, q.1, q.2.1, q.2.2.1, c.2, r.0), omega (arith, q.1, q.2.1, q.2.2.1, c.2, r.1))
fewer no_object m n q = λ i k. (omega arith, omega arith)
fewer an_object m n q = λ i k.
    let a = q.3 i k in
    let b = q.4.3 (suc i) (k + statements_in (m.0 i k).statements) in
    (omega (arith, q.2, q.4.2, a.0, b.0), omega (arith, q.2, q.4.2, a.1, b.1))
fewer an_object_alone m n q = λ i k. (omega (arith, q.1), omega arith)
fewer an_object_with m n q = λ i k. let c = q.2.2.2 in let r = c.3 k in (omega (arith, q.1), omega (arith, q.1, q.2.1, q.2.2.1, c.2, r))
fewer no_block m n q = λ k. omega arith
fewer a_block m n q = λ k. let c = q.2 in let r = c.3 k in omega (arith, q.1, c.2, r)
fewer no_statement m n q = λ k. omega arith
fewer a_statement m n q = λ k.
    let a = q.3 k in
    let b = q.4.3 (suc k + statements_in (m.0 k).inside) in
    omega (arith, q.2, q.4.2, a, b)
fewer statement_is m n q = λ k. let c = q.2.2 in let r = c.3 (suc k) in omega (arith, q.1, q.2.1, c.2, r)
fewer value_number m n q = λ k. omega arith
fewer value_string m n q = λ k. omega arith
fewer value_float m n q = λ k. omega arith
fewer value_auto m n q = λ k. omega arith
fewer value_name m n q = λ k. let c = q.2 in let r = c.3 k in omega (arith, q.1, c.2, r)
fewer value_true m n q = λ k. let c = q.2 in let r = c.3 k in omega (arith, q.1, c.2, r)
fewer value_false m n q = λ k. let c = q.2 in let r = c.3 k in omega (arith, q.1, c.2, r)

parted : {f : Form} (s : List ℕ) (ts : Trees ◌⟶◌ f) → Parted f (meaning s ts) (length (tokens ts))
unfolding Parted meaning tokens
parted s nil = tt
parted s (leaf t m ts) = (length (tokens ts), omega arith, parted s ts)
parted s (node p us ts) =
    let e = length-append (tokens us) (tokens ts) in
    (length (tokens us), length (tokens ts), omega (arith, e), fewer p (meaning s us) (length (tokens us)) (parted s us), parted s ts)

-- Tokens and bytes.
unfoldable size : Stream → ℕ
size (t ▹ l) = suc (size l)
size (ended n) = 0
size (bad n) = 0

size_prepend : (l : List Token) (v : Stream) → length l ≤ size (prepend l v)
unfolding prepend size
size_prepend [] v = omega arith
size_prepend (t ∷ l) v = let h = size_prepend l v in omega (arith, h)

size_lex : (n : ℕ) (s : List ℕ) (p : ℕ) → size (stream_of (lex_n n s p)) ≤ n
unfolding lex_n stream_of size
size_lex zero s p = omega arith
size_lex (suc n) s p = go (step_at s p) (λ q. size_lex n s q)
  where
    go : (r : Step) → ((q : ℕ) → size (stream_of (lex_n n s q)) ≤ n) → size (stream_of (after_step r (λ q. lex_n n s q))) ≤ suc n
    go (Found t c) h = let k = h c.at in omega (arith, k)
    go (Refused q) h = omega arith
    go (End m) h = omega arith

pub few_rows : (s : List ℕ) (v : Stream) (ts : Trees ◌⟶◌ (file ▸ ∎)) → (look_at s 0 0).code ≤ 56 → rest s (look_at s 0 0) ≡ prepend (tokens ts) v → Few s (meaning s ts).0
unfolding Few Parted Small lex_at lex_from
few_rows s v ts c q h =
    let a = parted s ts in
    let z = a.3 in
    let i = size_prepend (tokens ts) v in
    let j = ap size (sym q ∙ rest_look s 0 0 c) in
    let k = size_lex (suc (length s - 0)) s 0 in
    let f = (meaning s ts).0 in (
      omega (arith, a.2, z.0, i, j, k, h, spec_entries_many f.specs),
      omega (arith, a.2, z.1, i, j, k, h, spec_choices_many f.specs),
      omega (arith, a.2, z.2, i, j, k, h),
      omega (arith, a.2, z.3, i, j, k, h),
    )
