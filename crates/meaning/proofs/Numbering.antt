-- The numbers that definitions, enumerators, objects and statements bear are their places in the order of their names: the rows' numbers.
-- Assumes nothing.
use mathlib.Core.Path.{◌≡◌, refl, subst}
use mathlib.Core.List.{List, [], ◌∷◌, ◌++◌}
use mathlib.Core.Bool.{Bool, true, false}
use Prim.Native.Nat.{ℕ, suc, ◌+◌}
use native.Mathlib.Omega.{arith}
use lib.ListN.{length, length-append}
use Rattle.token.specs.Find.{bit}
use Rattle.grammar.specs.Grammar.{Rule, Form, ◌▸◌, ∎, ◌⟶◌, Trees, nil, leaf, node, file, version, implementation, specs, spec, definitions, definition, attribute, D, P, auto, mark, integer_range, numbers, boolean_range, float_range, enumerator, enumerators, application, objects, object, block, statements, statement, default, own, file_is, version_is, implementation_is, no_spec, a_spec, spec_is, no_definition, a_definition, an_attribute, a_reference, an_integer, a_string, a_boolean, an_enum, a_float, reference_is, no_D, a_D, no_P, a_P, no_auto, with_auto, no_mark, a_mark, no_range, a_range, a_list, no_number, a_number, no_boolean_range, no_float_range, a_boolean_range, a_float_range, enumerator_is, no_enumerator, an_enumerator, no_default, a_default, own_auto, own_none, own_number, own_string, own_true, own_false, own_name, own_float, application_is, no_object, an_object, an_object_alone, an_object_with, no_block, a_block, no_statement, a_statement, statement_is, value_number, value_string, value_float, value_auto, value_name, value_true, value_false, reference as reference-rule, value as value-rule}
use Rattle.meaning.specs.Actions.{M, Enumerator, Stated, first_value, truths, defined, defining, specifying, stating, means, meaning, syntax, word_of}
use Rattle.meaning.specs.Syntax.{Definitions, no_more, define, Values, no_value, value, Defined, Statements, done, state, Object, Spec, is_enum, definitions_in, definitions_under, enumerators_in, enumerators_under, statements_in, Word}
use Rattle.meaning.specs.Merging.{used, merged, merge_from, merge}
use Rattle.meaning.specs.Words.{choose}

-- The numbers --------------------------------------------------------------------------------------------------------------------------

unfoldable mutual
  pub definition_numbers : Definitions → List ℕ
  definition_numbers no_more = []
  definition_numbers (define d vs ds) = numbers_under vs ++ (d.row ∷ definition_numbers ds)

  pub numbers_under : Values → List ℕ
  numbers_under no_value = []
  numbers_under (value w e us vs) = definition_numbers us ++ numbers_under vs

unfoldable pub number_if : Bool → ℕ → List ℕ
number_if true e = e ∷ []
number_if false e = []

unfoldable mutual
  pub enumerator_numbers : Definitions → List ℕ
  enumerator_numbers no_more = []
  enumerator_numbers (define d vs ds) = enumerator_numbers_of vs (is_enum d.type) ++ enumerator_numbers ds

  pub enumerator_numbers_of : Values → Bool → List ℕ
  enumerator_numbers_of no_value b = []
  enumerator_numbers_of (value w e us vs) b = number_if b e ++ (enumerator_numbers us ++ enumerator_numbers_of vs b)

unfoldable pub spec_numbers : List Spec → List ℕ
spec_numbers [] = []
spec_numbers (x ∷ xs) = definition_numbers x.definitions ++ spec_numbers xs

unfoldable pub spec_enumerator_numbers : List Spec → List ℕ
spec_enumerator_numbers [] = []
spec_enumerator_numbers (x ∷ xs) = enumerator_numbers x.definitions ++ spec_enumerator_numbers xs

unfoldable pub statement_numbers : Statements → List ℕ
statement_numbers done = []
statement_numbers (state x inside rest) = x.number ∷ (statement_numbers inside ++ statement_numbers rest)

unfoldable pub object_numbers : List Object → List ℕ
object_numbers [] = []
object_numbers (x ∷ xs) = x.row ∷ object_numbers xs

unfoldable pub all_statement_numbers : List Object → List ℕ
all_statement_numbers [] = []
all_statement_numbers (x ∷ xs) = statement_numbers x.statements ++ all_statement_numbers xs

-- n, n + 1, ..
pub data Counts : ℕ → List ℕ → Type 0 where
  counts_none : {n : ℕ} → Counts n []
  counts_more : {n k : ℕ} {ks : List ℕ} → k ≡ n → Counts (suc n) ks → Counts n (k ∷ ks)

counts_at : {l : List ℕ} {n m : ℕ} → n ≡ m → Counts n l → Counts m l
counts_at {l} e c = subst (λ k. Counts k l) e c

-- Those of a from n on and those of b from m on, where m is n and the length of a.
counts_append : {a : List ℕ} {n m : ℕ} {b : List ℕ} → Counts n a → Counts m b → m ≡ n + length a → Counts n (a ++ b)
counts_append counts_none q e = counts_at (omega arith) q
counts_append (counts_more h p) q e = counts_more h (counts_append p q (omega arith))

-- How many there are.
mutual
  unfolding definition_numbers definitions_in

  pub length_definitions : (ds : Definitions) → length (definition_numbers ds) ≡ definitions_in ds
  length_definitions no_more = refl
  length_definitions (define d vs ds) =
      let a = length-append (numbers_under vs) (d.row ∷ definition_numbers ds) in
      let b = length_under vs in
      let c = length_definitions ds in
      omega arith

  pub length_under : (vs : Values) → length (numbers_under vs) ≡ definitions_under vs
  length_under no_value = refl
  length_under (value w e us vs) =
      let a = length-append (definition_numbers us) (numbers_under vs) in
      let b = length_definitions us in
      let c = length_under vs in
      omega arith

pub length_if : (b : Bool) (e : ℕ) → length (number_if b e) ≡ bit b
unfolding number_if bit
length_if true e = refl
length_if false e = refl

mutual
  unfolding enumerator_numbers enumerators_in

  pub length_enumerators : (ds : Definitions) → length (enumerator_numbers ds) ≡ enumerators_in ds
  length_enumerators no_more = refl
  length_enumerators (define d vs ds) =
      let a = length-append (enumerator_numbers_of vs (is_enum d.type)) (enumerator_numbers ds) in
      let b = length_enumerators_of vs (is_enum d.type) in
      let c = length_enumerators ds in
      omega arith

  pub length_enumerators_of : (vs : Values) (b : Bool) → length (enumerator_numbers_of vs b) ≡ enumerators_under vs b
  length_enumerators_of no_value b = refl
  length_enumerators_of (value w e us vs) b =
      let i = length_if b e in
      let a = length-append (number_if b e) (enumerator_numbers us ++ enumerator_numbers_of vs b) in
      let k = length-append (enumerator_numbers us) (enumerator_numbers_of vs b) in
      let c = length_enumerators us in
      let d = length_enumerators_of vs b in
      omega arith

pub length_statements : (ss : Statements) → length (statement_numbers ss) ≡ statements_in ss
unfolding statement_numbers statements_in
length_statements done = refl
length_statements (state x inside rest) =
    let a = length-append (statement_numbers inside) (statement_numbers rest) in
    let b = length_statements inside in
    let c = length_statements rest in
    omega arith

-- The trees ------------------------------------------------------------------------------------------------------------------------------

-- What a rule means bears the numbers from those given on.
abbrev pub N : (x : Rule) → M x → Type 0
N file f = (Counts 0 (spec_numbers f.specs) × Counts 0 (spec_enumerator_numbers f.specs)) × (Counts 0 (object_numbers f.objects) × (Counts 0 (object_numbers f.parts) × Counts 0 (all_statement_numbers f.parts)))
N version v = Unit {0}
N implementation i = Counts 0 (spec_numbers i.specs) × Counts 0 (spec_enumerator_numbers i.specs)
N specs g = (n e : ℕ) → Counts n (spec_numbers (g n e)) × Counts e (spec_enumerator_numbers (g n e))
N spec g = (n e : ℕ) → Counts n (definition_numbers (g n e).definitions) × Counts e (enumerator_numbers (g n e).definitions)
N definitions g = (n e : ℕ) → Counts n (definition_numbers (g n e)) × Counts e (enumerator_numbers (g n e))
N definition g = (n e : ℕ) → ((g n e).definition.row ≡ n + definitions_under (g n e).values) × (Counts n (numbers_under (g n e).values) × Counts e (enumerator_numbers_of (g n e).values (is_enum (g n e).definition.type)))
N attribute g = (n e : ℕ) → ((g n e).definition.row ≡ n + definitions_under (g n e).values) × (Counts n (numbers_under (g n e).values) × Counts e (enumerator_numbers_of (g n e).values (is_enum (g n e).definition.type)))
N reference-rule g = (n e : ℕ) → ((g n e).definition.row ≡ n + definitions_under (g n e).values) × (Counts n (numbers_under (g n e).values) × Counts e (enumerator_numbers_of (g n e).values (is_enum (g n e).definition.type)))
N D m = Unit {0}
N P g = (n e : ℕ) → Counts n (definition_numbers (g n e)) × Counts e (enumerator_numbers (g n e))
N auto m = Unit {0}
N mark m = Unit {0}
N integer_range r = Unit {0}
N float_range r = Unit {0}
N numbers ts = Unit {0}
N boolean_range g = (n e : ℕ) → Counts n (numbers_under (g n e).values) × Counts e (enumerator_numbers_of (g n e).values false)
N enumerator g = (n e : ℕ) → Counts n (definition_numbers (g n e).under) × Counts (suc e) (enumerator_numbers (g n e).under)
N enumerators g = (n e : ℕ) → Counts n (numbers_under (g n e)) × Counts e (enumerator_numbers_of (g n e) true)
N application a = Counts 0 (object_numbers a.objects) × Counts 0 (all_statement_numbers a.objects)
N objects g = (n k : ℕ) → Counts n (object_numbers (g n k)) × Counts k (all_statement_numbers (g n k))
N object g = (n k : ℕ) → ((g n k).row ≡ n) × Counts k (statement_numbers (g n k).statements)
N block b = (k : ℕ) → Counts k (statement_numbers (b.inside k))
N statements g = (k : ℕ) → Counts k (statement_numbers (g k))
N statement g = (k : ℕ) → ((g k).statement.number ≡ k) × Counts (suc k) (statement_numbers (g k).inside)
N value-rule v = (k : ℕ) → Counts k (statement_numbers (v.block.inside k))
N (default s) o = Unit {0}
N (own s) t = Unit {0}

abbrev pub AllN : {f : Form} → List ℕ → Trees ◌⟶◌ f → Type 0
AllN s nil = Unit {0}
AllN s (leaf t m ts) = AllN s ts
AllN s (node {x} p us ts) = N x (means p (meaning s us)) × AllN s ts

-- A list of values, the first of which is x.
value_list_numbers : (x : Enumerator) (n e : ℕ) (g : ℕ → ℕ → Values)
    → Counts n (definition_numbers x.under) × Counts (suc e) (enumerator_numbers x.under)
    → ((n e : ℕ) → Counts n (numbers_under (g n e)) × Counts e (enumerator_numbers_of (g n e) true))
    → Counts n (numbers_under (first_value x n e g)) × Counts e (enumerator_numbers_of (first_value x n e g) true)
unfolding first_value definition_numbers enumerator_numbers number_if
value_list_numbers x n e g p q =
    let n' = n + definitions_in x.under in
    let e' = suc e + enumerators_in x.under in
    let a = length_definitions x.under in
    let b = length_enumerators x.under in
    (counts_append p.0 (q n' e').0 (omega arith), counts_more refl (counts_append p.1 (q n' e').1 (omega arith)))

truths_numbers : (t f : Word) (g k : ℕ → ℕ → Definitions) (n e : ℕ)
    → ((n e : ℕ) → Counts n (definition_numbers (g n e)) × Counts e (enumerator_numbers (g n e)))
    → ((n e : ℕ) → Counts n (definition_numbers (k n e)) × Counts e (enumerator_numbers (k n e)))
    → Counts n (numbers_under (truths t g f k n e)) × Counts e (enumerator_numbers_of (truths t g f k n e) false)
unfolding truths definition_numbers enumerator_numbers number_if
truths_numbers t f g k n e p q =
    let n' = n + definitions_in (g n e) in
    let e' = e + enumerators_in (g n e) in
    let a = length_definitions (g n e) in
    let b = length_enumerators (g n e) in
    (counts_append (p n e).0 (counts_append (q n' e').0 counts_none refl) (omega arith), counts_append (p n e).1 (counts_append (q n' e').1 counts_none refl) (omega arith))

defining_numbers : (x : Defined) (n e : ℕ) (g : ℕ → ℕ → Definitions)
    → (x.definition.row ≡ n + definitions_under x.values) × (Counts n (numbers_under x.values) × Counts e (enumerator_numbers_of x.values (is_enum x.definition.type)))
    → ((n e : ℕ) → Counts n (definition_numbers (g n e)) × Counts e (enumerator_numbers (g n e)))
    → Counts n (definition_numbers (defining x e g)) × Counts e (enumerator_numbers (defining x e g))
unfolding defining definition_numbers enumerator_numbers enumerators_in
defining_numbers x n e g p q =
    let r = p.0 in
    let n' = suc x.definition.row in
    let e' = e + (enumerators_under x.values (is_enum x.definition.type) + 0) in
    let a = length_under x.values in
    let b = length_enumerators_of x.values (is_enum x.definition.type) in
    (counts_append p.1.0 (counts_more {n = x.definition.row} refl (q n' e').0) (omega arith), counts_append p.1.1 (q n' e').1 (omega arith))

specifying_numbers : (x : Spec) (n e : ℕ) (g : ℕ → ℕ → List Spec)
    → Counts n (definition_numbers x.definitions) × Counts e (enumerator_numbers x.definitions)
    → ((n e : ℕ) → Counts n (spec_numbers (g n e)) × Counts e (spec_enumerator_numbers (g n e)))
    → Counts n (spec_numbers (specifying x n e g)) × Counts e (spec_enumerator_numbers (specifying x n e g))
unfolding specifying spec_numbers spec_enumerator_numbers
specifying_numbers x n e g p q =
    let n' = n + definitions_in x.definitions in
    let e' = e + enumerators_in x.definitions in
    let a = length_definitions x.definitions in
    let b = length_enumerators x.definitions in
    (counts_append p.0 (q n' e').0 (omega arith), counts_append p.1 (q n' e').1 (omega arith))

stating_numbers : (x : Stated) (k : ℕ) (g : ℕ → Statements) → (x.statement.number ≡ k) × Counts (suc k) (statement_numbers x.inside)
    → ((k : ℕ) → Counts k (statement_numbers (g k))) → Counts k (statement_numbers (stating x k g))
unfolding stating statement_numbers
stating_numbers x k g p q =
    let k' = suc k + statements_in x.inside in
    let a = length_statements x.inside in
    counts_more p.0 (counts_append p.1 (q k') (omega arith))

object_more : (x : Object) (n k : ℕ) (g : ℕ → ℕ → List Object) → (x.row ≡ n) × Counts k (statement_numbers x.statements)
    → ((n k : ℕ) → Counts n (object_numbers (g n k)) × Counts k (all_statement_numbers (g n k)))
    → Counts n (object_numbers (x ∷ g (suc n) (k + statements_in x.statements))) × Counts k (all_statement_numbers (x ∷ g (suc n) (k + statements_in x.statements)))
unfolding object_numbers all_statement_numbers
object_more x n k g p q =
    let k' = k + statements_in x.statements in
    let a = length_statements x.statements in
    (counts_more p.0 (q (suc n) k').0, counts_append p.1 (q (suc n) k').1 (omega arith))

-- The rows of merged objects.
merge_numbers : (before xs : List Object) (n : ℕ) → Counts n (object_numbers (merge_from before xs n))
unfolding merge_from object_numbers merged choose
merge_numbers before [] n = counts_none
merge_numbers before (x ∷ xs) n = go (used x before) (merge_numbers (before ++ (x ∷ [])) xs n) (merge_numbers (before ++ (x ∷ [])) xs (suc n))
  where
    go : (b : Bool) → Counts n (object_numbers (merge_from (before ++ (x ∷ [])) xs n)) → Counts (suc n) (object_numbers (merge_from (before ++ (x ∷ [])) xs (suc n)))
        → Counts n (object_numbers (choose b (λ _. merge_from (before ++ (x ∷ [])) xs n) (λ _. merged x n xs ∷ merge_from (before ++ (x ∷ [])) xs (suc n))))
    go true p q = p
    go false p q = counts_more refl q

pub merged_numbers : (xs : List Object) → Counts 0 (object_numbers (merge xs))
unfolding merge
merged_numbers xs = merge_numbers [] xs 0

means_numbers : {x : Rule} {g : Form} (s : List ℕ) (p : x ⟶ g) (us : Trees ◌⟶◌ g) → AllN s us → N x (means p (meaning s us))
unfolding means meaning defined definition_numbers enumerator_numbers statement_numbers spec_numbers spec_enumerator_numbers object_numbers all_statement_numbers definitions_under is_enum
means_numbers s file_is (node _ v (node _ i (node q a nil))) h = (h.1.0, (merged_numbers (means q (meaning s a)).objects, h.1.1.0))
means_numbers s version_is us h = tt
means_numbers s implementation_is (leaf _ _ (leaf _ _ (leaf _ _ (node _ ss (leaf _ _ (node _ d (leaf _ _ nil))))))) h = h.0 0 0
means_numbers s no_spec nil h = λ n e. (counts_none, counts_none)
means_numbers s a_spec (node p x (node q xs nil)) h = λ n e. specifying_numbers (means p (meaning s x) n e) n e (means q (meaning s xs)) (h.0 n e) h.1.0
means_numbers s spec_is (leaf _ _ (leaf _ _ (node _ d r))) h = λ n e. h.0 n e
means_numbers s no_definition nil h = λ n e. (counts_none, counts_none)
means_numbers s a_definition (node p x (node q xs nil)) h = λ n e. defining_numbers (means p (meaning s x) n e) n e (means q (meaning s xs)) (h.0 n e) h.1.0
means_numbers s an_attribute (node _ x nil) h = h.0
means_numbers s a_reference (node _ x nil) h = h.0
means_numbers s an_integer (leaf _ _ (node _ a (node _ r (leaf x _ (node _ k (node _ d b)))))) h = λ n e. (refl, (counts_none, counts_none))
means_numbers s a_float (leaf _ _ (node _ a (node _ r (leaf x _ (node _ k (node _ d b)))))) h = λ n e. (refl, (counts_none, counts_none))
means_numbers s a_string (leaf _ _ (node _ a (leaf x _ (node _ k (node _ d b))))) h = λ n e. (refl, (counts_none, counts_none))
means_numbers s a_boolean (leaf _ _ (node _ a (node _ r (leaf x _ (node _ k (node _ d b)))))) h = λ n e. (refl, h.1.0 n e)
means_numbers s an_enum (leaf _ _ (node _ a (leaf _ _ (node q v (node r vs (leaf _ _ (leaf x _ (node _ k (node _ d b))))))))) h = λ n e.
    (refl, value_list_numbers (means q (meaning s v) n e) n e (means r (meaning s vs)) (h.1.0 n e) h.1.1.0)
means_numbers s reference_is (leaf _ _ (leaf x _ (node _ k b))) h = λ n e. (refl, (counts_none, counts_none))
means_numbers s no_D us h = tt
means_numbers s a_D us h = tt
means_numbers s no_P nil h = λ n e. (counts_none, counts_none)
means_numbers s a_P (leaf _ _ (node _ d (leaf _ _ nil))) h = h.0
means_numbers s no_auto us h = tt
means_numbers s with_auto us h = tt
means_numbers s no_mark us h = tt
means_numbers s a_mark us h = tt
means_numbers s no_range us h = tt
means_numbers s no_float_range us h = tt
means_numbers s a_range us h = tt
means_numbers s a_float_range us h = tt
means_numbers s a_list us h = tt
means_numbers s no_number us h = tt
means_numbers s a_number us h = tt
means_numbers s no_boolean_range nil h = λ n e. (counts_none, counts_none)
means_numbers s a_boolean_range (leaf _ _ (leaf t _ (node p us (node _ d (leaf _ _ (leaf f _ (node q vs (node _ b c)))))))) h = λ n e.
    truths_numbers (word_of s t) (word_of s f) (means p (meaning s us)) (means q (meaning s vs)) n e h.0 h.1.1.0
means_numbers s enumerator_is (leaf w _ (node _ us (node _ d nil))) h = λ n e. h.0 n (suc e)
means_numbers s no_enumerator nil h = λ n e. (counts_none, counts_none)
means_numbers s an_enumerator (leaf _ _ (node q v (node r vs nil))) h = λ n e. value_list_numbers (means q (meaning s v) n e) n e (means r (meaning s vs)) (h.0 n e) h.1.0
means_numbers s no_default us h = tt
means_numbers s a_default us h = tt
means_numbers s own_auto us h = tt
means_numbers s own_none us h = tt
means_numbers s own_number us h = tt
means_numbers s own_string us h = tt
means_numbers s own_float us h = tt
means_numbers s own_true us h = tt
means_numbers s own_false us h = tt
means_numbers s own_name us h = tt
means_numbers s application_is (leaf _ _ (leaf x _ (leaf _ _ (node _ os r)))) h = h.0 0 0
means_numbers s no_object nil h = λ n k. (counts_none, counts_none)
means_numbers s an_object (node p x (node q xs nil)) h = λ n k. object_more (means p (meaning s x) n k) n k (means q (meaning s xs)) (h.0 n k) h.1.0
means_numbers s an_object_alone (leaf _ _ (leaf x _ r)) h = λ n k. (refl, counts_none)
means_numbers s an_object_with (leaf _ _ (leaf x _ (leaf _ _ (node _ ss r)))) h = λ n k. (refl, h.0 k)
means_numbers s no_block nil h = λ k. counts_none
means_numbers s a_block (leaf _ _ (node _ ss r)) h = h.0
means_numbers s no_statement nil h = λ k. counts_none
means_numbers s a_statement (node p x (node q xs nil)) h = λ k. stating_numbers (means p (meaning s x) k) k (means q (meaning s xs)) (h.0 k) h.1.0
means_numbers s statement_is (leaf x _ (leaf _ _ (node _ v r))) h = λ k. (refl, h.0 (suc k))
means_numbers s value_number (leaf t _ nil) h = λ k. counts_none
means_numbers s value_string (leaf t _ nil) h = λ k. counts_none
means_numbers s value_float (leaf t _ nil) h = λ k. counts_none
means_numbers s value_auto (leaf t _ nil) h = λ k. counts_none
means_numbers s value_name (leaf t _ (node _ b nil)) h = h.0
means_numbers s value_true (leaf t _ (node _ b nil)) h = h.0
means_numbers s value_false (leaf t _ (node _ b nil)) h = h.0

pub all_numbers : {f : Form} (s : List ℕ) (ts : Trees ◌⟶◌ f) → AllN s ts
all_numbers s nil = tt
all_numbers s (leaf t m ts) = all_numbers s ts
all_numbers s (node p us ts) = (means_numbers s p us (all_numbers s us), all_numbers s ts)

-- The definitions of a text bear the numbers 0, 1, .. in the order of their names, and so do its enumerators, objects and statements.
pub numbered : (s : List ℕ) (t : Trees ◌⟶◌ (file ▸ ∎)) → N file (syntax s t)
unfolding syntax meaning
numbered s (node p us nil) = means_numbers s p us (all_numbers s us)
