-- How many rows there are of each sort, and how many cells they have. Assumes nothing.
use mathlib.Core.Path.{◌≡◌, refl, sym, ◌∙◌, ap}
use mathlib.Core.List.{List, [], ◌∷◌, ◌++◌, append_assoc}
use mathlib.Core.Bool.{Bool, true, false}
use Prim.Native.Nat.{ℕ, suc, ◌+◌, ◌*◌}
use native.Mathlib.Omega.{arith}
use lib.ListN.{length, length-append}
use Rattle.token.specs.Find.{bit}
use Rattle.meaning.specs.Syntax.{Word, Definitions, no_more, define, Values, no_value, value, Statements, done, state, Object, is_enum, definitions_in, definitions_under, enumerators_in, enumerators_under, statements_in}
use Rattle.layout.specs.Kept.{Wide, Entry, entries, entries_under, list_key, truth_cells, default_code, definition_cells, choice_if, choices, choices_of, statement_rows, all_statement_rows, statement_count, object_cells, object_rows, join, map_cells}

-- Rows of one width ------------------------------------------------------------------------------------------------------------------------

pub join_append : (a b : List (List ℕ)) → join (a ++ b) ≡ join a ++ join b
unfolding join
join_append [] b = refl
join_append (r ∷ a) b = ap (λ l. r ++ l) (join_append a b) ∙ sym (append_assoc r (join a) (join b))

pub wide_front : (w : ℕ) (a b : List (List ℕ)) → Wide w (a ++ b) → Wide w a
wide_front w [] b h = tt
wide_front w (r ∷ a) b h = (h.0, wide_front w a b h.1)

pub wide_back : (w : ℕ) (a b : List (List ℕ)) → Wide w (a ++ b) → Wide w b
wide_back w [] b h = h
wide_back w (r ∷ a) b h = wide_back w a b h.1

pub wide_append : (w : ℕ) (a b : List (List ℕ)) → Wide w a → Wide w b → Wide w (a ++ b)
wide_append w [] b h g = g
wide_append w (r ∷ a) b h g = (h.0, wide_append w a b h.1 g)

pub length_join : (w : ℕ) (rs : List (List ℕ)) → Wide w rs → length (join rs) ≡ length rs * w
unfolding join
length_join w [] h = omega arith
length_join w (r ∷ rs) h =
    let a = length-append r (join rs) in
    let b = length_join w rs h.1 in
    let c = h.0 in
    omega arith

-- Rows made of a list, one of each element.
module _ {A : Type 0} (f : A → List ℕ) where
  pub map_append : (xs ys : List A) → map_cells f (xs ++ ys) ≡ map_cells f xs ++ map_cells f ys
  unfolding map_cells
  map_append [] ys = refl
  map_append (x ∷ xs) ys = ap (λ (l : List (List ℕ)). f x ∷ l) (map_append xs ys)

  pub length_map : (xs : List A) → length (map_cells f xs) ≡ length xs
  unfolding map_cells
  length_map [] = refl
  length_map (x ∷ xs) = ap suc (length_map xs)

  pub wide_map : (w : ℕ) → ((x : A) → length (f x) ≡ w) → (xs : List A) → Wide w (map_cells f xs)
  unfolding map_cells
  wide_map w h [] = tt
  wide_map w h (x ∷ xs) = (h x, wide_map w h xs)

-- Definitions ------------------------------------------------------------------------------------------------------------------------------

truth_three : (b : Bool) (vs : Values) → length (truth_cells b vs) ≡ 3
unfolding truth_cells
truth_three true vs = refl
truth_three false no_value = refl
truth_three false (value t e us no_value) = refl
truth_three false (value t e us (value f e' us' vs)) = refl

pub definition_wide : (x : Entry) → length (definition_cells x) ≡ 19
unfolding definition_cells
definition_wide x =
    let a = truth_three (is_enum x.definition.type) x.values in
    let b = length-append (truth_cells (is_enum x.definition.type) x.values) (default_code x.definition.default ∷ []) in
    omega arith

mutual
  unfolding entries definitions_in

  pub length_entries : (ds : Definitions) (u : Word) (o : ℕ) → length (entries ds u o) ≡ definitions_in ds
  length_entries no_more u o = refl
  length_entries (define d vs ds) u o =
      let a = length-append (entries_under vs (list_key vs)) (record { under = u; outer = o; definition = d; values = vs } ∷ entries ds u o) in
      let b = length_entries_under vs (list_key vs) in
      let c = length_entries ds u o in
      omega arith

  pub length_entries_under : (vs : Values) (o : ℕ) → length (entries_under vs o) ≡ definitions_under vs
  length_entries_under no_value o = refl
  length_entries_under (value w e us vs) o =
      let a = length-append (entries us w o) (entries_under vs o) in
      let b = length_entries us w o in
      let c = length_entries_under vs o in
      omega arith

-- Enumerators ------------------------------------------------------------------------------------------------------------------------------

pub length_choice : (b : Bool) (o : ℕ) (w : Word) → length (choice_if b o w) ≡ bit b
unfolding choice_if bit
length_choice true o w = refl
length_choice false o w = refl

mutual
  unfolding choices enumerators_in

  pub length_choices : (ds : Definitions) → length (choices ds) ≡ enumerators_in ds
  length_choices no_more = refl
  length_choices (define d vs ds) =
      let a = length-append (choices_of vs (is_enum d.type) (list_key vs)) (choices ds) in
      let b = length_choices_of vs (is_enum d.type) (list_key vs) in
      let c = length_choices ds in
      omega arith

  pub length_choices_of : (vs : Values) (b : Bool) (o : ℕ) → length (choices_of vs b o) ≡ enumerators_under vs b
  length_choices_of no_value b o = refl
  length_choices_of (value w e us vs) b o =
      let i = length_choice b o w in
      let j = length-append (choice_if b o w) (choices us ++ choices_of vs b o) in
      let k = length-append (choices us) (choices_of vs b o) in
      let c = length_choices us in
      let d = length_choices_of vs b o in
      omega arith

-- Statements and objects -------------------------------------------------------------------------------------------------------------------

pub length_statements : (ss : Statements) (m : ℕ) → length (statement_rows ss m) ≡ statements_in ss
unfolding statement_rows statements_in
length_statements done m = refl
length_statements (state x inside rest) m =
    let a = length-append (statement_rows inside (suc m)) (statement_rows rest (suc m + statements_in inside)) in
    let b = length_statements inside (suc m) in
    let c = length_statements rest (suc m + statements_in inside) in
    omega arith

pub length_all : (xs : List Object) (m : ℕ) → length (all_statement_rows xs m) ≡ statement_count xs
unfolding all_statement_rows statement_count
length_all [] m = refl
length_all (x ∷ xs) m =
    let n = m + statements_in x.statements in
    let a = length-append (statement_rows x.statements m) (all_statement_rows xs n) in
    let b = length_statements x.statements m in
    let c = length_all xs n in
    omega arith

pub object_wide : (xs : List Object) (m : ℕ) → Wide 10 (object_rows xs m)
unfolding object_rows object_cells
object_wide [] m = tt
object_wide (x ∷ xs) m = (refl, object_wide xs (m + statements_in x.statements))

pub length_objects : (xs : List Object) (m : ℕ) → length (object_rows xs m) ≡ length xs
unfolding object_rows
length_objects [] m = refl
length_objects (x ∷ xs) m = ap suc (length_objects xs (m + statements_in x.statements))
