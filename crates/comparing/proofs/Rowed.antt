-- What is copied out of the tables is what the matching is asked of, where an object's values stand in them. Assumes nothing.
use mathlib.Core.Path.{◌≡◌, refl, sym, ◌∙◌, ap, ap₂}
use mathlib.Core.List.{List, [], ◌∷◌, ◌++◌}
use mathlib.Core.Bool.{Bool, true, false}
use Prim.Native.Nat.{ℕ, zero, suc, ◌+◌, ◌-◌, ◌*◌, ◌<◌, ◌≤◌, min}
use native.Mathlib.Omega.{arith}
use native.Mathlib.Nat.{not-suc-le-zero, le_of_suc-le-suc}
use lib.ListN.{length, get_or}
use lib.Seq.{ext_get_or}
use borrow.Author.Tests.{eq-eqb, ne_eqb}
use Rattle.token.specs.Find.{pick, bit}
use Rattle.rows.specs.Table.{cell_of}
use Rattle.rows.specs.Search.{row_name}
use Rattle.meaning.specs.Syntax.{Word}
use Rattle.meaning.specs.Resolving.{Taken, Resolved, end, resolved, Owner, of_object, of_value, how_many_values}
use Rattle.meaning.specs.Cells.{owner_sort, owner_row}
use Rattle.comparing.specs.Contents.{Step, step_to}
use Rattle.comparing.specs.Partners.{positions}
use Rattle.comparing.proofs.Steps.{owner_numbers, name_numbers, steps_of, positions_in, step_number, step_numbers, AllNames, Numbering}
use Rattle.comparing.specs.Columns.{owner_cell, step_cell, step_of_row, cells_of, owners_of, name_cell, names_of, places_of, steps_of_rows}
use Rattle.comparing.specs.Standing.{RowIs, TreeAt, no_rows, some_rows}
use Rattle.comparing.proofs.Owned.{owner_number}
use Rattle.comparing.proofs.Rooting.{steps_length}
use Rattle.comparing.proofs.Codings.{all_fit, fit_at, number_at, numbers_length}
use Rattle.comparing.proofs.Positioned.{object_positions}

-- Lists of cells ---------------------------------------------------------------------------------------------------------------------------

pub cells_length : (f : ℕ → ℕ) (i n : ℕ) → length (cells_of f i n) ≡ n
unfolding cells_of
cells_length f i zero = refl
cells_length f i (suc n) = ap suc (cells_length f (suc i) n)

cells_append : (f : ℕ → ℕ) (i m n : ℕ) → cells_of f i (m + n) ≡ cells_of f i m ++ cells_of f (i + m) n
unfolding cells_of
cells_append f i zero n = let a : 0 + n ≡ n = omega arith in let b : i ≡ i + 0 = omega arith in λ t. cells_of f (b t) (a t)
cells_append f i (suc m) n =
    let a : suc m + n ≡ suc (m + n) = omega arith in
    let b : suc i + m ≡ i + suc m = omega arith in
    ap (cells_of f i) a ∙ ap (λ (l : List ℕ). f i ∷ l) (cells_append f (suc i) m n ∙ ap (λ (k : ℕ). cells_of f (suc i) m ++ cells_of f k n) b)

pub cells_at : (f : ℕ → ℕ) (i n j : ℕ) → j < n → get_or (cells_of f i n) j 0 ≡ f (i + j)
unfolding cells_of
cells_at f i zero j h = absurd (not-suc-le-zero h)
cells_at f i (suc n) zero h = let a : i ≡ i + 0 = omega arith in ap f a
cells_at f i (suc n) (suc j) h = let a : suc i + j ≡ i + suc j = omega arith in cells_at f (suc i) n j (le_of_suc-le-suc h) ∙ ap f a

pub cells_are : (f : ℕ → ℕ) (i : ℕ) (l : List ℕ) → ((j : ℕ) → j < length l → get_or l j 0 ≡ f (i + j)) → l ≡ cells_of f i (length l)
cells_are f i l g = ext_get_or 0 l (cells_of f i (length l)) (sym (cells_length f i (length l))) (λ j h. g j h ∙ sym (cells_at f i (length l) j h))

-- Values in the tables ---------------------------------------------------------------------------------------------------------------------

-- A number of each value.
unfoldable pub numbers_of : (Taken → ℕ) → Resolved → List ℕ
numbers_of g end = []
numbers_of g (resolved t us rest) = g t ∷ (numbers_of g us ++ numbers_of g rest)

pub names_numbers : (c : Word → ℕ) (x : Resolved) → numbers_of (λ t. c t.definition.name) x ≡ name_numbers c x
unfolding numbers_of name_numbers
names_numbers c end = refl
names_numbers c (resolved t us rest) = ap₂ (λ (a b : List ℕ). c t.definition.name ∷ (a ++ b)) (names_numbers c us) (names_numbers c rest)

module _ (s d v : List ℕ) (many : ℕ) where
  pub tree_cells : (f : ℕ → ℕ) (g : Taken → ℕ) → ((i : ℕ) (o : Owner) (t : Taken) → RowIs s d v many i o t → f i ≡ g t) → (x : Resolved) (i : ℕ) (o : Owner) → TreeAt s d v many i o x
      → cells_of f i (how_many_values x) ≡ numbers_of g x
  unfolding cells_of numbers_of how_many_values
  tree_cells f g e end i o no_rows = refl
  tree_cells f g e (resolved t us rest) i o (some_rows r a b) =
      ap₂ (λ (n : ℕ) (l : List ℕ). n ∷ l) (e i o t r)
      (cells_append f (suc i) (how_many_values us) (how_many_values rest)
      ∙ ap₂ ◌++◌ (tree_cells f g e us (suc i) (of_value i) a) (tree_cells f g e rest (suc i + how_many_values us) o b))

  owner_read : (n i : ℕ) (o : Owner) (t : Taken) → RowIs s d v many i o t → owner_cell v n i ≡ owner_number n o
  unfolding owner_cell owner_number owner_sort owner_row
  owner_read n i (of_object k) t r =
      ap (λ (b : Bool). pick b 0 (suc (min (cell_of v 9 i 2) 65536 - n))) (eq-eqb (cell_of v 9 i 1) 0 r.of_sort)
  owner_read n i (of_value m) t r =
      let a = r.of_sort in
      let b = r.of_row in
      let few = r.few in
      let e : suc (min (cell_of v 9 i 2) 65536 - n) ≡ suc (m - n) = omega (arith, b, few) in
      ap (λ (b : Bool). pick b 0 (suc (min (cell_of v 9 i 2) 65536 - n))) (ne_eqb (cell_of v 9 i 1) 0 (λ z. omega (arith, a, z))) ∙ e

  tree_owners : (n k : ℕ) (x : Resolved) (i : ℕ) (o : Owner) → i ≡ n + k → TreeAt s d v many i o x → cells_of (owner_cell v n) i (how_many_values x) ≡ owner_numbers x k (owner_number n o)
  unfolding cells_of owner_numbers how_many_values owner_number
  tree_owners n k end i o e no_rows = refl
  tree_owners n k (resolved t us rest) i o e (some_rows r a b) =
      let inner : suc i ≡ n + suc k = omega (arith, e) in
      let behind : suc i + how_many_values us ≡ n + (suc k + how_many_values us) = omega (arith, e) in
      ap₂ (λ (n : ℕ) (l : List ℕ). n ∷ l) (owner_read n i o t r)
      (cells_append (owner_cell v n) (suc i) (how_many_values us) (how_many_values rest)
      ∙ ap₂ ◌++◌ (tree_owners n (suc k) us (suc i) (of_value i) inner a ∙ ap (owner_numbers us (suc k)) (own e)) (tree_owners n (suc k + how_many_values us) rest (suc i + how_many_values us) o behind b))
    where
      own : i ≡ n + k → owner_number n (of_value i) ≡ suc k
      own q = let z : suc (i - n) ≡ suc k = omega (arith, q) in z

  -- THE OWNERS of an object's rows.
  pub owners_are : (x : Resolved) (n k : ℕ) → TreeAt s d v many n (of_object k) x → owners_of v n (how_many_values x) ≡ owner_numbers x 0 0
  unfolding owners_of owner_number
  owners_are x n k a = let e : n ≡ n + 0 = omega arith in tree_owners n 0 x n (of_object k) e a

  -- THE NAMES, where h has the numbers of the definitions' names by c.
  module _ (c : List ℕ → ℕ) (h : List ℕ) (g : (i : ℕ) → i < many → get_or h i 0 ≡ c (row_name s d 13 2 i)) (low : (l : List ℕ) → c l ≤ 1048576) where
    name_read : (i : ℕ) (o : Owner) (t : Taken) → RowIs s d v many i o t → name_cell v h i ≡ c t.definition.name.bytes
    unfolding name_cell
    name_read i o t r =
        let few = low t.definition.name.bytes in
        let least : min (c t.definition.name.bytes) 1048576 ≡ c t.definition.name.bytes = omega (arith, few) in
        ap (λ (k : ℕ). min k 1048576) (ap (λ (j : ℕ). get_or h j 0) r.definition ∙ g t.definition.row r.known ∙ ap c r.name) ∙ least

    pub names_are : (x : Resolved) (n : ℕ) (o : Owner) → TreeAt s d v many n o x → names_of v h n (how_many_values x) ≡ name_numbers (λ w. c w.bytes) x
    unfolding names_of
    names_are x n o a = tree_cells (name_cell v h) (λ t. c t.definition.name.bytes) name_read x n o a ∙ names_numbers (λ w. c w.bytes) x

  -- The list marks.
  abbrev mark_cell : ℕ → ℕ
  mark_cell i = min (cell_of d 13 (cell_of v 9 i 0) 6) 1

  below_two : (b : Bool) → min (bit b) 1 ≡ bit b
  unfolding bit
  below_two true = refl
  below_two false = refl

  mark_read : (i : ℕ) (o : Owner) (t : Taken) → RowIs s d v many i o t → mark_cell i ≡ bit t.definition.list
  mark_read i o t r = ap (λ (j : ℕ). min (cell_of d 13 j 6) 1) r.definition ∙ ap (λ (j : ℕ). min j 1) r.list ∙ below_two t.definition.list

  pub marks_are : (x : Resolved) (n : ℕ) (o : Owner) → TreeAt s d v many n o x → cells_of mark_cell n (how_many_values x) ≡ numbers_of (λ t. bit t.definition.list) x
  marks_are x n o a = tree_cells mark_cell (λ t. bit t.definition.list) mark_read x n o a

-- Steps ------------------------------------------------------------------------------------------------------------------------------------

-- A number of each step.
unfoldable step_cells : (Step → ℕ) → List Step → List ℕ
step_cells g [] = []
step_cells g (s ∷ ss) = g s ∷ step_cells g ss

step_cells_append : (g : Step → ℕ) (ss ts : List Step) → step_cells g (ss ++ ts) ≡ step_cells g ss ++ step_cells g ts
unfolding step_cells
step_cells_append g [] ts = refl
step_cells_append g (s ∷ ss) ts = ap (λ (l : List ℕ). g s ∷ l) (step_cells_append g ss ts)

step_cells_at : (g : Step → ℕ) (ss : List Step) (d : Step) (i : ℕ) → i < length ss → get_or (step_cells g ss) i 0 ≡ g (get_or ss i d)
unfolding step_cells
step_cells_at g [] d i h = absurd (not-suc-le-zero h)
step_cells_at g (s ∷ ss) d zero h = refl
step_cells_at g (s ∷ ss) d (suc i) h = step_cells_at g ss d i (le_of_suc-le-suc h)

positions_cells : (ss : List Step) → positions_in ss ≡ step_cells (λ s. s.position) ss
unfolding step_cells positions_in
positions_cells [] = refl
positions_cells (s ∷ ss) = ap (λ (l : List ℕ). s.position ∷ l) (positions_cells ss)

-- of a step that does not ask for its position
steps_numbers : (g : Step → ℕ) (e : Taken → ℕ) → ((t : Taken) (b : List Word) → g (step_to t b) ≡ e t) → (x : Resolved) (b : List Word) → step_cells g (steps_of x b) ≡ numbers_of e x
unfolding step_cells steps_of numbers_of
steps_numbers g e q end b = refl
steps_numbers g e q (resolved t us rest) b =
    ap₂ (λ (n : ℕ) (l : List ℕ). n ∷ l) (q t b)
    (step_cells_append g (steps_of us []) (steps_of rest (t.definition.name ∷ b)) ∙ ap₂ ◌++◌ (steps_numbers g e q us []) (steps_numbers g e q rest (t.definition.name ∷ b)))

module _ (s d v : List ℕ) (many : ℕ) (N : Word → Type 0) (c : List ℕ → ℕ) (h : List ℕ) (g : (i : ℕ) → i < many → get_or h i 0 ≡ c (row_name s d 13 2 i)) where
  abbrev cw : Word → ℕ
  cw w = c w.bytes

  -- THE STEPS of an object's rows.
  pub steps_are : Numbering N cw → ((l : List ℕ) → c l ≤ 1048576) → (x : Resolved) (n k : ℕ) → TreeAt s d v many n (of_object k) x → AllNames N x → how_many_values x ≤ 2048 → (z : Step)
      → steps_of_rows d v h n (how_many_values x) ≡ step_numbers cw (steps_of x [])
  unfolding steps_of_rows places_of step_of_row step_cell step_number step_to
  steps_are num low x n k a w few z =
      ext_get_or 0 (steps_of_rows d v h n (how_many_values x)) (step_numbers cw (steps_of x []))
      (cells_length (step_of_row d v (names_of v h n (how_many_values x)) (places_of v h n (how_many_values x)) n) 0 (how_many_values x) ∙ sym (numbers_length cw (steps_of x []) ∙ steps_length x []))
      (λ i l. at i (inside i l))
    where
      M : ℕ
      M = how_many_values x

      inside : (i : ℕ) → i < length (steps_of_rows d v h n (how_many_values x)) → i < how_many_values x
      inside i l = let e = cells_length (step_of_row d v (names_of v h n (how_many_values x)) (places_of v h n (how_many_values x)) n) 0 (how_many_values x) in omega (arith, e, l)

      places : places_of v h n (how_many_values x) ≡ positions_in (steps_of x [])
      places = ap₂ (λ (y u : List ℕ). positions [] [] [] y u) (owners_are s d v many x n k a) (names_are s d v many c h g low x n (of_object k) a) ∙ object_positions N cw num x w

      at : (i : ℕ) → i < how_many_values x → get_or (steps_of_rows d v h n (how_many_values x)) i 0 ≡ get_or (step_numbers cw (steps_of x [])) i 0
      at i l =
          let long : i < length (steps_of x []) = let e = steps_length x [] in omega (arith, e, l) in
          let st = get_or (steps_of x []) i z in
          let fit = fit_at (steps_of x []) z i (all_fit N x [] w (omega (arith, few))) long in
          let pos = fit.position in
          let high = low st.name.bytes in
          let name : get_or (names_of v h n (how_many_values x)) i 0 ≡ cw st.name =
          ap (λ (y : List ℕ). get_or y i 0) (names_are s d v many c h g low x n (of_object k) a ∙ sym (names_numbers cw x) ∙ sym (steps_numbers (λ y. cw y.name) (λ t. cw t.definition.name) (λ t b. refl) x []))
          ∙ step_cells_at (λ y. cw y.name) (steps_of x []) z i long in
          let place : get_or (places_of v h n (how_many_values x)) i 0 ≡ st.position =
          ap (λ (y : List ℕ). get_or y i 0) (places ∙ positions_cells (steps_of x [])) ∙ step_cells_at (λ y. y.position) (steps_of x []) z i long in
          let mark : mark_cell s d v many (n + i) ≡ bit st.list =
          sym (cells_at (mark_cell s d v many) n (how_many_values x) i l)
          ∙ ap (λ (y : List ℕ). get_or y i 0) (marks_are s d v many x n (of_object k) a ∙ sym (steps_numbers (λ y. bit y.list) (λ t. bit t.definition.list) (λ t b. refl) x []))
          ∙ step_cells_at (λ y. bit y.list) (steps_of x []) z i long in
          cells_at (step_of_row d v (names_of v h n (how_many_values x)) (places_of v h n (how_many_values x)) n) 0 (how_many_values x) i l
          ∙ ap (step_of_row d v (names_of v h n (how_many_values x)) (places_of v h n (how_many_values x)) n) (nought i)
          ∙ (λ t. (min (name t) 1048576 * 2 + mark t) * 2048 + min (place t) 65536)
          ∙ ap₂ (λ (y u : ℕ). (y * 2 + bit st.list) * 2048 + u) (least (cw st.name) 1048576 high) (least st.position 65536 (omega (arith, pos)))
          ∙ sym (number_at cw (steps_of x []) z i long)
        where
          nought : (j : ℕ) → 0 + j ≡ j
          nought j = omega arith

          least : (p q : ℕ) → p ≤ q → min p q ≡ p
          least p q u = omega arith
