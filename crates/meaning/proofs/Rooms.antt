-- The cells of the tables: fixed widths, and that the rows of an accepted text fit into the stated rooms. Assumes nothing.
use mathlib.Core.Path.{◌≡◌, refl, sym, ◌∙◌, ap, ap₂, subst}
use mathlib.Core.List.{List, [], ◌∷◌, ◌++◌}
use mathlib.Core.Bool.{Bool, true, false, not}
use mathlib.Core.Option.{Option, none, some}
use Prim.Native.Nat.{ℕ, zero, suc, ◌+◌, ◌-◌, ◌*◌, ◌≤◌}
use native.Mathlib.Omega.{arith}
use native.Mathlib.Nat.{zero-mul, suc-mul, add_comm}
use lib.ListN.{length, length-append}
use lib.Dec.{eqb, ltb}
use borrow.Author.Tests.{eqb-false, ltb-false}
use Rattle.token.specs.Find.{is_there}
use Rattle.token.specs.Words.{bytes_of, same}
use Rattle.grammar.specs.Grammar.{file, ◌▸◌, ∎, ◌⟶◌, Trees}
use Rattle.meaning.specs.Syntax.{Word, Definition, Definitions, no_more, define, Values, no_value, value, Spec, Statements, done, state, Object, is_enum}
use Rattle.meaning.specs.Words.{choose, among}
use Rattle.meaning.specs.Faults.{Fault, faults_if, sooner, first}
use Rattle.meaning.specs.Actions.{syntax}
use Rattle.meaning.specs.Scopes.{heads, find_object}
use Rattle.meaning.specs.Defining.{DefinitionRow, EnumeratorRow, definition_rows, enumerator_rows, all_definition_rows, all_enumerator_rows, range_faults, default_faults, defined_in, differs, name_faults, word_faults, scope_faults, value_faults, specified, spec_faults, definition_faults}
use Rattle.meaning.specs.Applying.{ObjectRow, object_rows, how_many, full, too_few, statement_faults, each_object, each_part, each_name, object_faults}
use Rattle.meaning.specs.Kinds.{kinds, most}
use Rattle.meaning.specs.Judging.{statement_stage}
use Rattle.meaning.specs.Resolving.{ValueRow, Resolved, all_values, value_rows, all_value_rows, how_many_values, how_many_in_all, of_object, too_many}
use Rattle.meaning.specs.Answers.{Tables, Answer, accepted, tables, unless, answer}
use Rattle.meaning.specs.Cells.{definition_cells, enumerator_cells, object_cells, value_cells, cells, zeros, room_cells, definition_room, enumerator_room, object_room, value_room}
use Rattle.meaning.proofs.Entries.{length_values}
use Rattle.meaning.proofs.Numbering.{Counts, counts_more, definition_numbers, numbers_under, number_if, enumerator_numbers, enumerator_numbers_of, spec_numbers, spec_enumerator_numbers, statement_numbers, object_numbers, all_statement_numbers, length_definitions, length_enumerators, numbered}
use Rattle.meaning.proofs.Standing.{length_rows}
use Rattle.meaning.proofs.Choices.{length_rows as length-enumerator-rows}

-- Widths -----------------------------------------------------------------------------------------------------------------------------------

pub definition_width : (r : DefinitionRow) → length (definition_cells r) ≡ 13
unfolding definition_cells
definition_width r = refl

pub enumerator_width : (r : EnumeratorRow) → length (enumerator_cells r) ≡ 3
unfolding enumerator_cells
enumerator_width r = refl

pub object_width : (r : ObjectRow) → length (object_cells r) ≡ 8
unfolding object_cells
object_width r = refl

pub value_width : (r : ValueRow) → length (value_cells r) ≡ 9
unfolding value_cells
value_width r = refl

-- Rows of w cells each.
pub cells_length : {R : Type 0} (w : ℕ) (f : R → List ℕ) → ((r : R) → length (f r) ≡ w) → (rs : List R) → length (cells f rs) ≡ length rs * w
unfolding cells
cells_length w f h [] = sym (zero-mul w)
cells_length w f h (r ∷ rs) =
    length-append (f r) (cells f rs) ∙ ap₂ ◌+◌ (h r) (cells_length w f h rs) ∙ add_comm w (length rs * w) ∙ sym (suc-mul (length rs) w)

pub zeros_length : (n : ℕ) → length (zeros n) ≡ n
unfolding zeros
zeros_length zero = refl
zeros_length (suc n) = ap suc (zeros_length n)

-- A room into which the rows fit has its own length.
pub room_length : {R : Type 0} (n : ℕ) (f : R → List ℕ) (rs : List R) → length (cells f rs) ≤ n → length (room_cells n f rs) ≡ n
unfolding room_cells
room_length n f rs h =
    let a = length-append (cells f rs) (zeros (n - length (cells f rs))) in
    let b = zeros_length (n - length (cells f rs)) in
    omega arith

-- No fault ---------------------------------------------------------------------------------------------------------------------------------

pub nothing_front : (a b : List Fault) → a ++ b ≡ [] → a ≡ []
nothing_front [] b e = refl
nothing_front (f ∷ a) b e = absurd (let z : ◌≡◌ {A = ℕ} 0 1 = cc in omega arith)

pub nothing_back : (a b : List Fault) → a ++ b ≡ [] → b ≡ []
nothing_back [] b e = e
nothing_back (f ∷ a) b e = absurd (let z : ◌≡◌ {A = ℕ} 0 1 = cc in omega arith)

pub not_faulty : (b : Bool) (t : Word) (n : ℕ) → faults_if b t n ≡ [] → b ≡ false
unfolding faults_if
not_faulty true t n e = absurd (let z : ◌≡◌ {A = ℕ} 0 1 = cc in omega arith)
not_faulty false t n e = refl

-- A stage that does not answer has no fault.
pub no_first : (fs : List Fault) → first fs ≡ none → fs ≡ []
unfolding first sooner
no_first [] e = refl
no_first (f ∷ fs) e = absurd (go (first fs) e)
  where
    go : (o : Option Fault) → sooner (some f) o ≡ none → ⊥
    go none e = let z : ◌≡◌ {A = ℕ} 0 1 = cc in omega arith
    go (some g) e = let z : ◌≡◌ {A = ℕ} 0 1 = cc in omega arith

-- Numbers that stop short ------------------------------------------------------------------------------------------------------------------

-- None of the numbers is m.
abbrev Without : ℕ → List ℕ → Type 0
Without m [] = Unit {0}
Without m (k ∷ ks) = (k ≡ m → ⊥) × Without m ks

without_append : (m : ℕ) (a b : List ℕ) → Without m a → Without m b → Without m (a ++ b)
without_append m [] b p q = q
without_append m (k ∷ a) b p q = (p.0, without_append m a b p.1 q)

-- Numbers counted from n on, of which none is m, end before m where n does.
stays : (l : List ℕ) (n m : ℕ) → Counts n l → n ≤ m → Without m l → n + length l ≤ m
stays [] n m c h w = omega arith
stays (k ∷ l) n m (counts_more e c) h w =
    let d : n ≡ m → ⊥ = λ q. w.0 (e ∙ q) in
    let i = stays l (suc n) m c (omega (arith, d)) w.1 in
    omega arith

-- Definitions and enumerators ----------------------------------------------------------------------------------------------------------------

name_without : (d : Definition) (others before : List Definition) → name_faults d others before ≡ [] → d.row ≡ 512 → ⊥
unfolding name_faults
name_without d others before e =
    let a = faults_if (eqb d.row 512) d.name 7 in
    let b = faults_if (defined_in d.name before) d.name 8 ++ faults_if (differs d others) d.name 9 in
    eqb-false d.row 512 (not_faulty (eqb d.row 512) d.name 7 (nothing_front a b e))

word_without : (b : Bool) (e : ℕ) (w : Word) (before : List Word) → word_faults b e w before ≡ [] → Without 1024 (number_if b e)
unfolding word_faults number_if
word_without true e w before h =
    (eqb-false e 1024 (not_faulty (eqb e 1024) w 7 (nothing_front (faults_if (eqb e 1024) w 7) (faults_if (among w before) w 8) h)), tt)
word_without false e w before h = tt

-- What a definition's own faults, and those of the definitions behind it, are made of.
module _ (d : Definition) (vs : Values) (ds : Definitions) (others before : List Definition) where
  of_range : List Fault
  of_range = range_faults d.type d.bounds

  of_values : List Fault
  of_values = value_faults vs (is_enum d.type) [] []

  of_name : List Fault
  of_name = name_faults d others before

  of_default : List Fault
  of_default = default_faults d vs d.default

  rest_none : scope_faults (define d vs ds) others before ≡ [] → scope_faults ds others (before ++ (d ∷ [])) ≡ []
  unfolding scope_faults of_range of_values of_name of_default
  rest_none e = nothing_back (of_range ++ (of_values ++ (of_name ++ of_default))) (scope_faults ds others (before ++ (d ∷ []))) e

  inner_none : scope_faults (define d vs ds) others before ≡ [] → of_values ++ (of_name ++ of_default) ≡ []
  unfolding scope_faults of_range of_values of_name of_default
  inner_none e =
      nothing_back of_range (of_values ++ (of_name ++ of_default))
      (nothing_front (of_range ++ (of_values ++ (of_name ++ of_default))) (scope_faults ds others (before ++ (d ∷ []))) e)

  values_none : scope_faults (define d vs ds) others before ≡ [] → value_faults vs (is_enum d.type) [] [] ≡ []
  unfolding of_values of_name of_default
  values_none e = nothing_front of_values (of_name ++ of_default) (inner_none e)

  name_none : scope_faults (define d vs ds) others before ≡ [] → name_faults d others before ≡ []
  unfolding of_values of_name of_default
  name_none e = nothing_front of_name of_default (nothing_back of_values (of_name ++ of_default) (inner_none e))

module _ (w : Word) (e : ℕ) (us : Definitions) (vs : Values) (b : Bool) (before : List Word) (others : List Definition) where
  word_none : value_faults (value w e us vs) b before others ≡ [] → word_faults b e w before ≡ []
  unfolding scope_faults
  word_none h =
      nothing_front (word_faults b e w before) (scope_faults us others [])
      (nothing_front (word_faults b e w before ++ scope_faults us others []) (value_faults vs b (before ++ (w ∷ [])) (others ++ heads us)) h)

  under_none : value_faults (value w e us vs) b before others ≡ [] → scope_faults us others [] ≡ []
  unfolding scope_faults
  under_none h =
      nothing_back (word_faults b e w before) (scope_faults us others [])
      (nothing_front (word_faults b e w before ++ scope_faults us others []) (value_faults vs b (before ++ (w ∷ [])) (others ++ heads us)) h)

  behind_none : value_faults (value w e us vs) b before others ≡ [] → value_faults vs b (before ++ (w ∷ [])) (others ++ heads us) ≡ []
  unfolding scope_faults
  behind_none h = nothing_back (word_faults b e w before ++ scope_faults us others []) (value_faults vs b (before ++ (w ∷ [])) (others ++ heads us)) h

mutual
  unfolding definition_numbers

  scope_without : (ds : Definitions) (others before : List Definition) → scope_faults ds others before ≡ [] → Without 512 (definition_numbers ds)
  scope_without no_more others before e = tt
  scope_without (define d vs ds) others before e =
      without_append 512 (numbers_under vs) (d.row ∷ definition_numbers ds)
      (values_without vs (is_enum d.type) [] [] (values_none d vs ds others before e))
      (name_without d others before (name_none d vs ds others before e), scope_without ds others (before ++ (d ∷ [])) (rest_none d vs ds others before e))

  values_without : (vs : Values) (b : Bool) (before : List Word) (others : List Definition) → value_faults vs b before others ≡ [] → Without 512 (numbers_under vs)
  values_without no_value b before others h = tt
  values_without (value w e us vs) b before others h =
      without_append 512 (definition_numbers us) (numbers_under vs)
      (scope_without us others [] (under_none w e us vs b before others h))
      (values_without vs b (before ++ (w ∷ [])) (others ++ heads us) (behind_none w e us vs b before others h))

mutual
  unfolding enumerator_numbers

  enums_without : (ds : Definitions) (others before : List Definition) → scope_faults ds others before ≡ [] → Without 1024 (enumerator_numbers ds)
  enums_without no_more others before e = tt
  enums_without (define d vs ds) others before e =
      without_append 1024 (enumerator_numbers_of vs (is_enum d.type)) (enumerator_numbers ds)
      (list_without vs (is_enum d.type) [] [] (values_none d vs ds others before e))
      (enums_without ds others (before ++ (d ∷ [])) (rest_none d vs ds others before e))

  list_without : (vs : Values) (b : Bool) (before : List Word) (others : List Definition) → value_faults vs b before others ≡ [] → Without 1024 (enumerator_numbers_of vs b)
  list_without no_value b before others h = tt
  list_without (value w e us vs) b before others h =
      without_append 1024 (number_if b e) (enumerator_numbers us ++ enumerator_numbers_of vs b)
      (word_without b e w before (word_none w e us vs b before others h))
      (without_append 1024 (enumerator_numbers us) (enumerator_numbers_of vs b)
      (enums_without us others [] (under_none w e us vs b before others h))
      (list_without vs b (before ++ (w ∷ [])) (others ++ heads us) (behind_none w e us vs b before others h)))

specs_without : (before xs : List Spec) → spec_faults before xs ≡ [] → Without 512 (spec_numbers xs) × Without 1024 (spec_enumerator_numbers xs)
unfolding spec_faults spec_numbers spec_enumerator_numbers
specs_without before [] e = (tt, tt)
specs_without before (x ∷ xs) e =
    let a = faults_if (specified x before) x.word 8 in
    let b = scope_faults x.definitions [] [] in
    let c = spec_faults (before ++ (x ∷ [])) xs in
    let own = nothing_back a b (nothing_front (a ++ b) c e) in
    let more = specs_without (before ++ (x ∷ [])) xs (nothing_back (a ++ b) c e) in (
      without_append 512 (definition_numbers x.definitions) (spec_numbers xs) (scope_without x.definitions [] [] own) more.0,
      without_append 1024 (enumerator_numbers x.definitions) (spec_enumerator_numbers xs) (enums_without x.definitions [] [] own) more.1,
    )

definition_rows_length : (xs : List Spec) → length (all_definition_rows xs) ≡ length (spec_numbers xs)
unfolding all_definition_rows spec_numbers
definition_rows_length [] = refl
definition_rows_length (x ∷ xs) =
    length-append (definition_rows x.definitions x.word) (all_definition_rows xs)
    ∙ ap₂ ◌+◌ (length_rows x.definitions x.word ∙ sym (length_definitions x.definitions)) (definition_rows_length xs)
    ∙ sym (length-append (definition_numbers x.definitions) (spec_numbers xs))

enumerator_rows_length : (xs : List Spec) → length (all_enumerator_rows xs) ≡ length (spec_enumerator_numbers xs)
unfolding all_enumerator_rows spec_enumerator_numbers
enumerator_rows_length [] = refl
enumerator_rows_length (x ∷ xs) =
    length-append (enumerator_rows x.definitions) (all_enumerator_rows xs)
    ∙ ap₂ ◌+◌ (length-enumerator-rows x.definitions ∙ sym (length_enumerators x.definitions)) (enumerator_rows_length xs)
    ∙ sym (length-append (enumerator_numbers x.definitions) (spec_enumerator_numbers xs))

-- Objects and values -------------------------------------------------------------------------------------------------------------------------

objects_without : (before xs : List Object) → each_object before xs ≡ [] → Without 256 (object_numbers xs)
unfolding each_object object_numbers
objects_without before [] e = tt
objects_without before (x ∷ xs) e =
    let a = faults_if (eqb x.row 256) x.word 11 in
    let b = faults_if (full (most x.kind) (how_many x.kind before)) x.word 17 in
    let c = each_object (before ++ (x ∷ [])) xs in (
      eqb-false x.row 256 (not_faulty (eqb x.row 256) x.word 11 (nothing_front a b (nothing_front (a ++ b) c e))),
      objects_without (before ++ (x ∷ [])) xs (nothing_back (a ++ b) c e),
    )

statements_without : (ss : Statements) → statement_faults ss ≡ [] → Without 2048 (statement_numbers ss)
unfolding statement_faults statement_numbers
statements_without done e = tt
statements_without (state x inside rest) e =
    let a = faults_if (eqb x.number 2048) x.name 11 in
    let b = statement_faults inside in
    let c = statement_faults rest in
    let front = nothing_front (a ++ b) c e in (
      eqb-false x.number 2048 (not_faulty (eqb x.number 2048) x.name 11 (nothing_front a b front)),
      without_append 2048 (statement_numbers inside) (statement_numbers rest) (statements_without inside (nothing_back a b front))
          (statements_without rest (nothing_back (a ++ b) c e)),
    )

parts_without : (xs : List Object) → each_part xs ≡ [] → Without 512 (object_numbers xs) × Without 2048 (all_statement_numbers xs)
unfolding each_part object_numbers all_statement_numbers
parts_without [] e = (tt, tt)
parts_without (x ∷ xs) e =
    let a = faults_if (eqb x.row 512) x.word 11 in
    let b = statement_faults x.statements in
    let c = each_part xs in
    let front = nothing_front (a ++ b) c e in
    let r = parts_without xs (nothing_back (a ++ b) c e) in (
      (eqb-false x.row 512 (not_faulty (eqb x.row 512) x.word 11 (nothing_front a b front)), r.0),
      without_append 2048 (statement_numbers x.statements) (all_statement_numbers xs) (statements_without x.statements (nothing_back a b front)) r.1,
    )

object_rows_length : (xs : List Object) → length (object_rows xs) ≡ length (object_numbers xs)
unfolding object_rows object_numbers
object_rows_length [] = refl
object_rows_length (x ∷ xs) = ap suc (object_rows_length xs)

object_numbers_length : (xs : List Object) → length (object_numbers xs) ≡ length xs
unfolding object_numbers
object_numbers_length [] = refl
object_numbers_length (x ∷ xs) = ap suc (object_numbers_length xs)

pub value_rows_length : (rs : List Resolved) (o n : ℕ) → length (all_value_rows rs o n) ≡ how_many_in_all rs
unfolding all_value_rows how_many_in_all
value_rows_length [] o n = refl
value_rows_length (r ∷ rs) o n =
    length-append (value_rows r n (of_object o)) (all_value_rows rs (suc o) (n + how_many_values r))
    ∙ ap₂ ◌+◌ (length_values r n (of_object o)) (value_rows_length rs (suc o) (n + how_many_values r))

pub few_values : (n : ℕ) → too_many n ≡ [] → n ≤ 2048
unfolding too_many choose
few_values n e = ltb-false 2048 n (go (ltb 2048 n) e)
  where
    go : (b : Bool) → ◌≡◌ {A = List Fault} (choose b (λ _. record { place = 0; number = 19 } ∷ []) (λ _. [])) [] → b ≡ false
    go true h = absurd (let z : ◌≡◌ {A = ℕ} 0 1 = cc in omega arith)
    go false h = refl

-- The rooms ----------------------------------------------------------------------------------------------------------------------------------

-- Where the stage of 6 to 9 and 21 to 23 has no fault, definitions and enumerators fit; where that of 11, 17 and 24 has none, objects, parts and statements do.
pub definitions_fit : (s : List ℕ) (t : Trees ◌⟶◌ (file ▸ ∎)) → first (definition_faults (syntax s t)) ≡ none
    → (length (all_definition_rows (syntax s t).specs) ≤ 512) × (length (all_enumerator_rows (syntax s t).specs) ≤ 1024)
unfolding definition_faults
definitions_fit s t e =
    let f = syntax s t in
    let ds = specs_without [] f.specs (nothing_back (faults_if (not (same f.version.bytes (bytes_of "\"2.5\""))) f.version 6) (spec_faults [] f.specs) (no_first (definition_faults f) e)) in
    let n = numbered s t in (
      (let a = stays (spec_numbers f.specs) 0 512 n.0.0 (omega arith) ds.0 in let l = definition_rows_length f.specs in omega arith),
      (let a = stays (spec_enumerator_numbers f.specs) 0 1024 n.0.1 (omega arith) ds.1 in let l = enumerator_rows_length f.specs in omega arith),
    )

pub objects_fit : (s : List ℕ) (t : Trees ◌⟶◌ (file ▸ ∎)) → first (object_faults (syntax s t)) ≡ none
    → (length (object_rows (syntax s t).objects) ≤ 256) × (length (syntax s t).parts ≤ 512) × (length (all_statement_numbers (syntax s t).parts) ≤ 2048)
unfolding object_faults
objects_fit s t e =
    let f = syntax s t in
    let z = nothing_back (too_few kinds f.objects f.cpu) (each_object [] f.objects ++ (each_part f.parts ++ each_name [] f.parts)) (no_first (object_faults f) e) in
    let os = objects_without [] f.objects (nothing_front (each_object [] f.objects) (each_part f.parts ++ each_name [] f.parts) z) in
    let ps = parts_without f.parts (nothing_front (each_part f.parts) (each_name [] f.parts) (nothing_back (each_object [] f.objects) (each_part f.parts ++ each_name [] f.parts) z)) in
    let n = numbered s t in (
      (let a = stays (object_numbers f.objects) 0 256 n.1.0 (omega arith) os in let l = object_rows_length f.objects in omega arith),
      (let a = stays (object_numbers f.parts) 0 512 n.1.1.0 (omega arith) ps.0 in let l = object_numbers_length f.parts in omega arith),
      (let a = stays (all_statement_numbers f.parts) 0 2048 n.1.1.1 (omega arith) ps.1 in omega arith),
    )

-- The rows of the tables fit into the stated rooms.
pub record Fits (t : Tables) : Type 0 where
  pub definitions : length t.definitions ≤ 512
  pub enumerators : length t.enumerators ≤ 1024
  pub objects : length t.objects ≤ 256
  pub values : length t.values ≤ 2048

passed : (o : Option Fault) (k : Unit {0} → Answer) (t : Tables) → unless o k ≡ accepted t → (o ≡ none) × (k tt ≡ accepted t)
unfolding unless
passed none k t e = (refl, e)
passed (some f) k t e = absurd (let z : ◌≡◌ {A = ℕ} 0 1 = cc in omega arith)

-- A text that is accepted has rows that fit.
pub accepted_fits : (s : List ℕ) (t : Trees ◌⟶◌ (file ▸ ∎)) (x : Tables) → answer (syntax s t) ≡ accepted x → Fits x
unfolding answer tables
accepted_fits s t x e =
    let f = syntax s t in
    let rs = all_values f f.objects in
    let p₁ = passed (first (definition_faults f)) _ x e in
    let p₂ = passed (first (object_faults f)) _ x p₁.1 in
    let p₃ = passed (first (statement_stage f)) _ x p₂.1 in
    let p₄ = passed (first (too_many (how_many_in_all rs))) _ x p₃.1 in
    let ds = definitions_fit s t p₁.0 in
    let os = objects_fit s t p₂.0 in
    let vs = few_values (how_many_in_all rs) (no_first (too_many (how_many_in_all rs)) p₄.0) in
    let q : tables f rs ≡ x = cc in
    subst Fits q (record {
      definitions = ds.0;
      enumerators = ds.1;
      objects = os.0;
      values = let l = value_rows_length rs 0 0 in omega arith;
    })

-- So the rooms have their stated lengths.
pub rooms_full : (t : Tables) → Fits t
    → (length (definition_room t.definitions) ≡ 512 * 13) × (length (enumerator_room t.enumerators) ≡ 1024 * 3)
    × (length (object_room t.objects) ≡ 256 * 8) × (length (value_room t.values) ≡ 2048 * 9)
unfolding definition_room enumerator_room object_room value_room
rooms_full t h =
    let a = cells_length 13 definition_cells definition_width t.definitions in
    let b = cells_length 3 enumerator_cells enumerator_width t.enumerators in
    let c = cells_length 8 object_cells object_width t.objects in
    let d = cells_length 9 value_cells value_width t.values in
    let a' = h.definitions in
    let b' = h.enumerators in
    let c' = h.objects in
    let d' = h.values in (
      room_length (512 * 13) definition_cells t.definitions (omega arith),
      room_length (1024 * 3) enumerator_cells t.enumerators (omega arith),
      room_length (256 * 8) object_cells t.objects (omega arith),
      room_length (2048 * 9) value_cells t.values (omega arith),
    )
