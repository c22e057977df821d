-- Cells of rows in a kept table. Assumes nothing.
use mathlib.Core.Path.{◌≡◌, refl, sym, ◌∙◌, ap, subst}
use mathlib.Core.List.{List, [], ◌∷◌, ◌++◌}
use Prim.Native.Nat.{ℕ, suc, ◌+◌, ◌*◌, ◌<◌, zero, ◌≤◌}
use native.Mathlib.Omega.{arith}
use lib.ListN.{length, get_or, length-append}
use Rattle.meaning.specs.Syntax.{Object, File, statements_in, Values, no_value, value, is_enum}
use Rattle.layout.specs.Kept.{Entry, Choice, definition_cells, choice_cells, object_cells, object_rows, spec_entries, spec_choices, map_cells, kept, kept_definitions, kept_enumerators, kept_objects, Wide, truth_cells, default_code}
use Rattle.scopes.specs.Situations.{Nth}
use Rattle.layout.proofs.Lengths.{map_append, length_map, wide_map, definition_wide, object_wide}
use Rattle.layout.proofs.Cells.{cell_kept}
use mathlib.Core.Bool.{Bool, true, false}

-- A row's number is less than how many there are.
pub nth_low : {A : Type 0} {l : List A} {j : ℕ} {x : A} → Nth l j x → j < length l
nth_low {A} {l} {j} {x} n =
    let a = ap (λ (k : List A). length k) n.whole in
    let b = length-append n.front (x ∷ n.rest) in
    let c = n.place in
    omega arith

-- An element of each number below the length.
pub record HasNth {A : Type 0} (l : List A) (j : ℕ) : Type 0 where
  pub element : A
  pub nth : Nth l j element

pub nth_of : {A : Type 0} (l : List A) (j : ℕ) → j < length l → HasNth l j
nth_of [] j h = absurd (omega arith)
nth_of (x ∷ l) zero h = record { element = x; nth = record { front = []; rest = l; whole = refl; place = refl } }
nth_of {A} (x ∷ l) (suc j) h =
    let k = nth_of l j (omega arith) in
    let n = k.nth in
    record { element = k.element; nth = record { front = x ∷ n.front; rest = n.rest; whole = ap (λ (m : List A). x ∷ m) n.whole; place = ap suc n.place } }

-- The first n, and the rest.
pub record Split {A : Type 0} (l : List A) (n : ℕ) : Type 0 where
  pub front : List A
  pub rest : List A
  pub whole : l ≡ front ++ rest
  pub many : length front ≡ n

pub split : {A : Type 0} (l : List A) (n : ℕ) → n ≤ length l → Split l n
split l zero h = record { front = []; rest = l; whole = refl; many = refl }
split [] (suc n) h = absurd (omega arith)
split (x ∷ l) (suc n) h =
    let r = split l n (omega arith) in
    record { front = x ∷ r.front; rest = r.rest; whole = ap (λ m. x ∷ m) r.whole; many = ap suc r.many }

-- A cell of row j, where there is room for it.
pub kept_cell : (n w j c : ℕ) (rs : List (List ℕ)) (r : List ℕ) → Wide w rs → Nth rs j r → c < w → j * w + c < n → get_or (kept n rs) (j * w + c) 0 ≡ get_or r c 0
kept_cell n w j c rs r h q l m =
    let a = q.front in
    let b = q.rest in
    let e : j * w + c ≡ length a * w + c = ap (λ (k : ℕ). k * w + c) (sym q.place) in
    ap (λ (i : List (List ℕ)). get_or (kept n i) (j * w + c) 0) q.whole
    ∙ ap (λ (i : ℕ). get_or (kept n (a ++ (r ∷ b))) i 0) e
    ∙ cell_kept n w c a r b (subst (Wide w) q.whole h) l (omega arith)

-- Rows made of a list, one of each element.
module _ {A : Type 0} (g : A → List ℕ) (w : ℕ) (wide : (x : A) → length (g x) ≡ w) where
  map_nth : {xs : List A} {j : ℕ} {x : A} → Nth xs j x → Nth (map_cells g xs) j (g x)
  unfolding map_cells
  map_nth {x = x} q =
      record { front = map_cells g q.front; rest = map_cells g q.rest; whole = ap (map_cells g) q.whole ∙ map_append g q.front (x ∷ q.rest); place = length_map g q.front ∙ q.place }

  pub map_cell : (n j c : ℕ) (xs : List A) (x : A) → Nth xs j x → c < w → j * w + c < n → get_or (kept n (map_cells g xs)) (j * w + c) 0 ≡ get_or (g x) c 0
  map_cell n j c xs x q l m = kept_cell n w j c (map_cells g xs) (g x) (wide_map g w wide xs) (map_nth q) l m

pub definition_cell : (f : File) (d : List ℕ) (j c : ℕ) (x : Entry) → d ≡ kept_definitions f → Nth (spec_entries f.specs) j x → j < 513 → c < 19
    → get_or d (j * 19 + c) 0 ≡ get_or (definition_cells x) c 0
unfolding kept_definitions
definition_cell f d j c x e q h l =
    ap (λ (t : List ℕ). get_or t (j * 19 + c) 0) e ∙ map_cell definition_cells 19 definition_wide (513 * 19) j c (spec_entries f.specs) x q l (omega arith)

-- The last cell is the code of the default.
last_truth : (b : Bool) (vs : Values) (k : ℕ) → get_or (truth_cells b vs ++ (k ∷ [])) 3 0 ≡ k
unfolding truth_cells
last_truth true vs k = refl
last_truth false no_value k = refl
last_truth false (value t e us no_value) k = refl
last_truth false (value t e us (value g e' us' vs)) k = refl

pub default_cell : (f : File) (d : List ℕ) (j : ℕ) (x : Entry) → d ≡ kept_definitions f → Nth (spec_entries f.specs) j x → j < 513
    → get_or d (j * 19 + 18) 0 ≡ default_code x.definition.default
unfolding definition_cells
default_cell f d j x e q h = definition_cell f d j 18 x e q h (omega arith) ∙ last_truth (is_enum x.definition.type) x.values (default_code x.definition.default)

-- Enumerators.
pub choice_cell : (f : File) (e : List ℕ) (j c : ℕ) (x : Choice) → e ≡ kept_enumerators f → Nth (spec_choices f.specs) j x → j < 1025 → c < 3
    → get_or e (j * 3 + c) 0 ≡ get_or (choice_cells x) c 0
unfolding kept_enumerators choice_cells
choice_cell f e j c x t q h l =
    ap (λ (t : List ℕ). get_or t (j * 3 + c) 0) t ∙ map_cell choice_cells 3 (λ y. choice_wide y) (1025 * 3) j c (spec_choices f.specs) x q l (omega arith)
  where
    choice_wide : (y : Choice) → length (choice_cells y) ≡ 3
    choice_wide y = refl

-- The row of an object: before it stand `first` statements.
pub record ObjectRow (os : List Object) (m j : ℕ) (x : Object) : Type 0 where
  pub first : ℕ
  pub nth : Nth (object_rows os m) j (object_cells x first)

object_nth : (a : List Object) (x : Object) (b : List Object) (m : ℕ) → ObjectRow (a ++ (x ∷ b)) m (length a) x
unfolding object_rows
object_nth [] x b m = record { first = m; nth = record { front = []; rest = object_rows b (m + statements_in x.statements); whole = refl; place = refl } }
object_nth (y ∷ a) x b m =
    let r = object_nth a x b (m + statements_in y.statements) in
    record { first = r.first; nth = record { front = object_cells y m ∷ r.nth.front; rest = r.nth.rest; whole = ap (λ (l : List (List ℕ)). object_cells y m ∷ l) r.nth.whole; place = ap suc r.nth.place } }

pub object_row : {os : List Object} {j : ℕ} {x : Object} → Nth os j x → ObjectRow os 0 j x
object_row {os} {x = x} q =
    let r = object_nth q.front x q.rest 0 in
    subst (λ (k : ℕ). ObjectRow os 0 k x) q.place (subst (λ (l : List Object). ObjectRow l 0 (length q.front) x) (sym q.whole) r)

-- Rows of objects, or of their parts, in a room of so many.
pub row_cell_lem : (room : ℕ) (os : List Object) (o : List ℕ) (j c : ℕ) (x : Object) → o ≡ kept (room * 10) (object_rows os 0) → (q : Nth os j x) → j < room → c < 10
    → get_or o (j * 10 + c) 0 ≡ get_or (object_cells x (object_row q).first) c 0
row_cell_lem room os o j c x e q h l =
    ap (λ (t : List ℕ). get_or t (j * 10 + c) 0) e
    ∙ kept_cell (room * 10) 10 j c (object_rows os 0) (object_cells x (object_row q).first) (object_wide os 0) (object_row q).nth l (omega arith)

pub object_cell : (f : File) (o : List ℕ) (j c : ℕ) (x : Object) → o ≡ kept_objects f → (q : Nth f.objects j x) → j < 257 → c < 10
    → get_or o (j * 10 + c) 0 ≡ get_or (object_cells x (object_row q).first) c 0
unfolding kept_objects
object_cell f o j c x e q h l = row_cell_lem 257 f.objects o j c x e q h l
