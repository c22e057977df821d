-- The columns of places, row by row: what is done to the cells of a table is what is done to its rows. Assumes nothing.
use Prim.Native.Nat.{ℕ, zero, suc, ◌+◌, ◌-◌, ◌*◌, ◌≤◌, ◌<◌}
use mathlib.Core.List.{List, [], ◌∷◌, ◌++◌, append_assoc}
use mathlib.Core.Bool.{Bool, true, false}
use mathlib.Core.Path.{◌≡◌, refl, sym, ◌∙◌, ap, ap₂}
use native.Mathlib.Omega.{arith}
use native.Mathlib.Nat.{zero-mul, suc-mul}
use lib.ListN.{length, get_or, set, length-set, get_or-append, get_or-eq_default}
use native.Mathlib.Decide.{dec_lt}
use lib.Seq.{get_or-append-add, set-append_left}
use lib.Dec.{eqb}
use borrow.Author.Tests.{eq-eqb, ne_eqb, lt-ltb, le-ltb}
use Rattle.token.specs.Find.{pick}
use Rattle.meaning.specs.Syntax.{Span}
use Rattle.meaning.specs.Defining.{DefinitionRow, EnumeratorRow}
use Rattle.meaning.specs.Applying.{ObjectRow}
use Rattle.meaning.specs.Resolving.{ValueRow}
use Rattle.meaning.specs.Answers.{Tables}
use Rattle.meaning.specs.Cells.{definition_cells, enumerator_cells, object_cells, value_cells, cells, zeros, room_cells, definition_room, enumerator_room, object_room, value_room}
use Rattle.meaning.specs.Places.{each}
use Rattle.meaning.proofs.Rooms.{definition_width, enumerator_width, object_width, value_width, cells_length}
use Rattle.placing.specs.Placed.{place_in, is_at_start, placed_span, placed_definition_row, placed_enumerator_row, placed_object_row, placed_value_row, placed_tables}
use Rattle.placing.specs.Columns.{place_at, place_column, place_columns, RowsFit, PlacesTables}

-- ---- lists

set_right : (x y : List ℕ) (i a : ℕ) → set (x ++ y) (length x + i) a ≡ x ++ set y i a
set_right [] y i a = let e : 0 + i ≡ i = omega arith in ap (λ (j : ℕ). set y j a) e
set_right (v ∷ x) y i a =
    let e : suc (length x) + i ≡ suc (length x + i) = omega arith in
    ap (λ (j : ℕ). set (v ∷ (x ++ y)) j a) e ∙ ap (λ (l : List ℕ). v ∷ l) (set_right x y i a)

pick_right : (b : Bool) (x y z : List ℕ) → pick b (x ++ y) (x ++ z) ≡ x ++ pick b y z
pick_right true x y z = refl
pick_right false x y z = refl

pick_left : (b : Bool) (x y z : List ℕ) → pick b (x ++ y) (z ++ y) ≡ pick b x z ++ y
pick_left true x y z = refl
pick_left false x y z = refl

pick_first : (b : Bool) (p q : ℕ) (l : List ℕ) → pick b (p ∷ l) (q ∷ l) ≡ pick b p q ∷ l
pick_first true p q l = refl
pick_first false p q l = refl

pick_length : (b : Bool) (x y : List ℕ) → length y ≡ length x → length (pick b x y) ≡ length x
pick_length true x y e = refl
pick_length false x y e = e

pick_same : (b : Bool) (x : List ℕ) → pick b x x ≡ x
pick_same true x = refl
pick_same false x = refl

zeros_get : (k i : ℕ) → get_or (zeros k) i 0 ≡ 0
unfolding zeros
zeros_get zero i = refl
zeros_get (suc k) zero = refl
zeros_get (suc k) (suc i) = zeros_get k i

pub length_each : {A B : Type 0} (f : A → B) (l : List A) → length (each f l) ≡ length l
unfolding each
length_each f [] = refl
length_each f (a ∷ l) = ap suc (length_each f l)

-- ---- one cell

module _ (f : ℕ → ℕ) where
  pub length_at : (i : ℕ) (t : List ℕ) → length (place_at f i t) ≡ length t
  unfolding place_at
  length_at i t = pick_length (eqb (get_or t (i + 1) 0) 0) t (set t i (f (get_or t i 0))) (length-set t i (f (get_or t i 0)))

  at_right : (x y : List ℕ) (w i : ℕ) → length x ≡ w → place_at f (w + i) (x ++ y) ≡ x ++ place_at f i y
  unfolding place_at
  at_right x y w i e =
      let k : w + i ≡ length x + i = omega arith in
      let k' : length x + i + 1 ≡ length x + (i + 1) = omega arith in
      ap (λ (j : ℕ). pick (eqb (get_or (x ++ y) (j + 1) 0) 0) (x ++ y) (set (x ++ y) j (f (get_or (x ++ y) j 0)))) k
      ∙ ap (λ (j : ℕ). pick (eqb (get_or (x ++ y) j 0) 0) (x ++ y) (set (x ++ y) (length x + i) (f (get_or (x ++ y) (length x + i) 0)))) k'
      ∙ ap (λ (v : ℕ). pick (eqb v 0) (x ++ y) (set (x ++ y) (length x + i) (f (get_or (x ++ y) (length x + i) 0)))) (get_or-append-add x y (i + 1) 0)
      ∙ ap (λ (v : ℕ). pick (eqb (get_or y (i + 1) 0) 0) (x ++ y) (set (x ++ y) (length x + i) (f v))) (get_or-append-add x y i 0)
      ∙ ap (λ (l : List ℕ). pick (eqb (get_or y (i + 1) 0) 0) (x ++ y) l) (set_right x y i (f (get_or y i 0)))
      ∙ pick_right (eqb (get_or y (i + 1) 0) 0) x y (set y i (f (get_or y i 0)))

  at_left : (x y : List ℕ) (c : ℕ) → c + 1 < length x → place_at f c (x ++ y) ≡ place_at f c x ++ y
  unfolding place_at
  at_left x y c h =
      let k : c < length x = omega arith in
      ap (λ (v : ℕ). pick (eqb v 0) (x ++ y) (set (x ++ y) c (f (get_or (x ++ y) c 0)))) (get_or-append x y 0 (c + 1) h)
      ∙ ap (λ (v : ℕ). pick (eqb (get_or x (c + 1) 0) 0) (x ++ y) (set (x ++ y) c (f v))) (get_or-append x y 0 c k)
      ∙ ap (λ (l : List ℕ). pick (eqb (get_or x (c + 1) 0) 0) (x ++ y) l) (set-append_left x y c (f (get_or x c 0)) k)
      ∙ pick_left (eqb (get_or x (c + 1) 0) 0) x y (set x c (f (get_or x c 0)))

  at_zeros : (i k : ℕ) → place_at f i (zeros k) ≡ zeros k
  unfolding place_at
  at_zeros i k = ap (λ (v : ℕ). pick (eqb v 0) (zeros k) (set (zeros k) i (f (get_or (zeros k) i 0)))) (zeros_get k (i + 1))

  at_first : (p n : ℕ) (y : List ℕ) → place_at f 0 (p ∷ n ∷ y) ≡ pick (eqb n 0) p (f p) ∷ n ∷ y
  unfolding place_at
  at_first p n y = pick_first (eqb n 0) p (f p) (n ∷ y)

  -- a place and its length, behind the cells x
  place_here : (x : List ℕ) (p n : ℕ) (y : List ℕ) (i : ℕ) → length x ≡ i → place_at f i (x ++ (p ∷ n ∷ y)) ≡ x ++ (pick (eqb n 0) p (f p) ∷ n ∷ y)
  place_here x p n y i e =
      let k : i ≡ i + 0 = omega arith in
      ap (λ (j : ℕ). place_at f j (x ++ (p ∷ n ∷ y))) k ∙ at_right x (p ∷ n ∷ y) i 0 e ∙ ap (λ (l : List ℕ). x ++ l) (at_first p n y)

-- ---- a column

shuffle : (a b c : ℕ) → a + b + c ≡ b + (a + c)
shuffle a b c = omega arith

next_row : (n w c : ℕ) → suc n * w + c ≡ w + (n * w + c)
next_row n w c = ap (λ (k : ℕ). k + c) (suc-mul n w) ∙ shuffle (n * w) w c

pub first_row : (w c : ℕ) → 0 * w + c ≡ c
first_row w c = ap (λ (k : ℕ). k + c) (zero-mul w) ∙ (let e : 0 + c ≡ c = omega arith in e)

module _ (f : ℕ → ℕ) (w c : ℕ) where
  -- by its first row
  column_row : (n : ℕ) (r t : List ℕ) → length r ≡ w → c + 1 < w → place_column f w c (suc n) (r ++ t) ≡ place_at f c r ++ place_column f w c n t
  unfolding place_column
  column_row zero r t e h =
      let k : c + 1 < length r = omega arith in
      ap (λ (j : ℕ). place_at f j (r ++ t)) (first_row w c) ∙ at_left f r t c k
  column_row (suc n) r t e h =
      ap (place_at f (suc n * w + c)) (column_row n r t e h)
      ∙ ap (λ (j : ℕ). place_at f j (place_at f c r ++ place_column f w c n t)) (next_row n w c)
      ∙ at_right f (place_at f c r) (place_column f w c n t) w (n * w + c) (length_at f c r ∙ e)

  column_zeros : (n k : ℕ) → place_column f w c n (zeros k) ≡ zeros k
  unfolding place_column
  column_zeros zero k = refl
  column_zeros (suc n) k = ap (place_at f (n * w + c)) (column_zeros n k) ∙ at_zeros f (n * w + c) k

-- ---- columns

abbrev Within : ℕ → List ℕ → Type 0
Within w [] = Unit {0}
Within w (c ∷ cs) = (c + 1 < w) × Within w cs

abbrev place_cells : (ℕ → ℕ) → List ℕ → List ℕ → List ℕ
place_cells f [] r = r
place_cells f (c ∷ cs) r = place_cells f cs (place_at f c r)

module _ (f : ℕ → ℕ) (w : ℕ) where
  columns_row : (cs : List ℕ) (n : ℕ) (r t : List ℕ) → length r ≡ w → Within w cs →
      place_columns f w cs (suc n) (r ++ t) ≡ place_cells f cs r ++ place_columns f w cs n t
  unfolding place_columns
  columns_row [] n r t e h = refl
  columns_row (c ∷ cs) n r t e h =
      ap (place_columns f w cs (suc n)) (column_row f w c n r t e h.0)
      ∙ columns_row cs n (place_at f c r) (place_column f w c n t) (length_at f c r ∙ e) h.1

  columns_zeros : (cs : List ℕ) (n k : ℕ) → place_columns f w cs n (zeros k) ≡ zeros k
  unfolding place_columns
  columns_zeros [] n k = refl
  columns_zeros (c ∷ cs) n k = ap (place_columns f w cs n) (column_zeros f w c n k) ∙ columns_zeros cs n k

-- ---- rows

module _ (f : ℕ → ℕ) (w : ℕ) (cs : List ℕ) (within : Within w cs) {R : Type 0} (g : R → List ℕ) (width : (r : R) → length (g r) ≡ w) (q : R → R)
    (same : (r : R) → place_cells f cs (g r) ≡ g (q r)) where
  rows_placed : (n : ℕ) (rs : List R) (k : ℕ) → length rs ≤ n → place_columns f w cs n (cells g rs ++ zeros k) ≡ cells g (each q rs) ++ zeros k
  unfolding cells each
  rows_placed n [] k h = columns_zeros f w cs n k
  rows_placed zero (r ∷ rs) k h = absurd (omega arith)
  rows_placed (suc n) (r ∷ rs) k h =
      ap (place_columns f w cs (suc n)) (append_assoc (g r) (cells g rs) (zeros k))
      ∙ columns_row f w cs n (g r) (cells g rs ++ zeros k) (width r) within
      ∙ ap₂ ◌++◌ (same r) (rows_placed n rs k (omega arith))
      ∙ sym (append_assoc (g (q r)) (cells g (each q rs)) (zeros k))

  pub room_placed : (m n : ℕ) (rs : List R) → length rs ≤ n → place_columns f w cs n (room_cells m g rs) ≡ room_cells m g (each q rs)
  unfolding room_cells
  room_placed m n rs h =
      let a = cells_length w g width rs in
      let b = cells_length w g width (each q rs) in
      let e : length (cells g rs) ≡ length (cells g (each q rs)) = a ∙ ap (λ (i : ℕ). i * w) (sym (length_each q rs)) ∙ sym b in
      rows_placed n rs (m - length (cells g rs)) h ∙ ap (λ (i : ℕ). cells g (each q rs) ++ zeros (m - i)) e

-- ---- the four tables

module _ (f : ℕ → ℕ) where
  definition_placed : (r : DefinitionRow) → place_cells f (0 ∷ 2 ∷ 4 ∷ 8 ∷ 10 ∷ []) (definition_cells r) ≡ definition_cells (placed_definition_row f r)
  unfolding definition_cells placed_definition_row placed_span
  definition_placed r =
      let a : (Span → ℕ) = λ s. pick (eqb s.length 0) s.place (f s.place) in
      let u = r.under in
      let n = r.name in
      let t = r.type in
      let g = r.range in
      ap (λ (l : List ℕ). place_at f 10 (place_at f 8 (place_at f 4 (place_at f 2 l)))) (place_here f [] u.place u.length _ 0 refl)
      ∙ ap (λ (l : List ℕ). place_at f 10 (place_at f 8 (place_at f 4 l))) (place_here f (a u ∷ u.length ∷ []) n.place n.length _ 2 refl)
      ∙ ap (λ (l : List ℕ). place_at f 10 (place_at f 8 l)) (place_here f (a u ∷ u.length ∷ a n ∷ n.length ∷ []) t.place t.length _ 4 refl)
      ∙ ap (λ (l : List ℕ). place_at f 10 l) (place_here f (a u ∷ u.length ∷ a n ∷ n.length ∷ a t ∷ t.length ∷ _ ∷ _ ∷ []) g.place g.length _ 8 refl)
      ∙ place_here f (a u ∷ u.length ∷ a n ∷ n.length ∷ a t ∷ t.length ∷ _ ∷ _ ∷ a g ∷ g.length ∷ []) r.default.place r.default.length _ 10 refl

  enumerator_placed : (r : EnumeratorRow) → place_cells f (1 ∷ []) (enumerator_cells r) ≡ enumerator_cells (placed_enumerator_row f r)
  unfolding enumerator_cells placed_enumerator_row placed_span
  enumerator_placed r = place_here f (r.attribute ∷ []) r.name.place r.name.length [] 1 refl

  object_placed : (r : ObjectRow) → place_cells f (1 ∷ 3 ∷ 5 ∷ []) (object_cells r) ≡ object_cells (placed_object_row f r)
  unfolding object_cells placed_object_row placed_span
  object_placed r =
      let a : (Span → ℕ) = λ s. pick (eqb s.length 0) s.place (f s.place) in
      let w = r.word in
      let n = r.name in
      ap (λ (l : List ℕ). place_at f 5 (place_at f 3 l)) (place_here f (_ ∷ []) w.place w.length _ 1 refl)
      ∙ ap (λ (l : List ℕ). place_at f 5 l) (place_here f (_ ∷ a w ∷ w.length ∷ []) n.place n.length _ 3 refl)
      ∙ place_here f (_ ∷ a w ∷ w.length ∷ a n ∷ n.length ∷ []) r.block.place r.block.length _ 5 refl

  value_placed : (r : ValueRow) → place_cells f (7 ∷ []) (value_cells r) ≡ value_cells (placed_value_row f r)
  unfolding value_cells placed_value_row placed_span
  value_placed r = place_here f (_ ∷ _ ∷ _ ∷ _ ∷ _ ∷ _ ∷ _ ∷ []) r.word.place r.word.length [] 7 refl

  pub places_tables : (d e o v d' e' o' v' : List ℕ) → d' ≡ place_columns f 13 (0 ∷ 2 ∷ 4 ∷ 8 ∷ 10 ∷ []) 512 d → e' ≡ place_column f 3 1 1024 e →
      o' ≡ place_columns f 8 (1 ∷ 3 ∷ 5 ∷ []) 256 o → v' ≡ place_column f 9 7 2048 v → PlacesTables f d e o v d' e' o' v'
  unfolding placed_tables definition_room enumerator_room object_room value_room place_columns
  places_tables d e o v d' e' o' v' p q r s =
      record {
        definitions = λ t h z. p ∙ ap (place_columns f 13 (0 ∷ 2 ∷ 4 ∷ 8 ∷ 10 ∷ []) 512) z
            ∙ room_placed f 13 (0 ∷ 2 ∷ 4 ∷ 8 ∷ 10 ∷ []) (omega arith, (omega arith, (omega arith, (omega arith, (omega arith, tt))))) definition_cells definition_width (placed_definition_row f) definition_placed (512 * 13) 512 t.definitions h.definitions;
        enumerators = λ t h z. q ∙ ap (place_column f 3 1 1024) z
            ∙ room_placed f 3 (1 ∷ []) (omega arith, tt) enumerator_cells enumerator_width (placed_enumerator_row f) enumerator_placed (1024 * 3) 1024 t.enumerators h.enumerators;
        objects = λ t h z. r ∙ ap (place_columns f 8 (1 ∷ 3 ∷ 5 ∷ []) 256) z
            ∙ room_placed f 8 (1 ∷ 3 ∷ 5 ∷ []) (omega arith, (omega arith, (omega arith, tt))) object_cells object_width (placed_object_row f) object_placed (256 * 8) 256 t.objects h.objects;
        values = λ t h z. s ∙ ap (place_column f 9 7 2048) z
            ∙ room_placed f 9 (7 ∷ []) (omega arith, tt) value_cells value_width (placed_value_row f) value_placed (2048 * 9) 2048 t.values h.values;
      }

-- ---- the functions

module _ (f : ℕ → ℕ) where
  pub place_none : (i : ℕ) (t : List ℕ) → get_or t (i + 1) 0 ≡ 0 → t ≡ place_at f i t
  unfolding place_at
  place_none i t e = rw (eq-eqb (get_or t (i + 1) 0) 0 e)

  pub place_some : (i : ℕ) (t : List ℕ) (v : ℕ) → (get_or t (i + 1) 0 ≡ 0 → ⊥) → v ≡ f (get_or t i 0) → set t i v ≡ place_at f i t
  unfolding place_at
  place_some i t v e g = rw (ne_eqb (get_or t (i + 1) 0) 0 e, g)

  pub column_start : (w c : ℕ) (t : List ℕ) → t ≡ place_column f w c 0 t
  unfolding place_column
  column_start w c t = refl

  pub column_next : (w c i at : ℕ) (t u v : List ℕ) → at ≡ i * w + c → u ≡ place_column f w c i t → v ≡ place_at f at u → v ≡ place_column f w c (i + 1) t
  unfolding place_column
  column_next w c i at t u v e g h =
      let k : suc i ≡ i + 1 = omega arith in
      h ∙ ap (λ (j : ℕ). place_at f j u) e ∙ ap (place_at f (i * w + c)) g ∙ ap (λ (j : ℕ). place_column f w c j t) k

pub row_next : (w c i : ℕ) → i * w + c + w ≡ (i + 1) * w + c
row_next w c i =
    let k : suc i ≡ i + 1 = omega arith in
    around (i * w) w c ∙ ap (λ (j : ℕ). j + c) (sym (suc-mul i w)) ∙ ap (λ (j : ℕ). j * w + c) k
  where
    around : (a b c : ℕ) → a + c + b ≡ a + b + c
    around a b c = omega arith

-- a cell with a length behind it lies in the table
pub inside : (i : ℕ) (t : List ℕ) → (get_or t (i + 1) 0 ≡ 0 → ⊥) → i < length t
inside i t e = by (dec_lt i (length t))
  where
    by : Dec (i < length t) → i < length t
    by (yes h) = h
    by (no h) = absurd (e (get_or-eq_default t 0 (omega (arith, h))))

pub column_end : (f : ℕ → ℕ) (w c i n : ℕ) (t u : List ℕ) → i ≡ n → u ≡ place_column f w c i t → u ≡ place_column f w c n t
column_end f w c i n t u e g = g ∙ ap (λ (j : ℕ). place_column f w c j t) e

module _ (g : List ℕ) (n m p : ℕ) where
  pub place_lent : (v : ℕ) → p < n → v ≡ get_or g p 0 → v ≡ place_in g n m p
  unfolding place_in
  place_lent v h e = e ∙ ap (λ (b : Bool). pick b (get_or g p 0) m) (sym (lt-ltb p n h))

  pub place_end : n ≤ p → m ≡ place_in g n m p
  unfolding place_in
  place_end h = ap (λ (b : Bool). pick b (get_or g p 0) m) (sym (le-ltb p n h))

module _ (n : ℕ) where
  pub start_one : n ≡ 1 → true ≡ is_at_start n
  unfolding is_at_start
  start_one e = rw (eq-eqb n 1 e)

  pub start_nineteen : (n ≡ 1 → ⊥) → n ≡ 19 → true ≡ is_at_start n
  unfolding is_at_start
  start_nineteen a e = rw (ne_eqb n 1 a, eq-eqb n 19 e)

  pub start_twenty : (n ≡ 1 → ⊥) → (n ≡ 19 → ⊥) → n ≡ 20 → true ≡ is_at_start n
  unfolding is_at_start
  start_twenty a b e = rw (ne_eqb n 1 a, ne_eqb n 19 b, eq-eqb n 20 e)

  pub start_last : (n ≡ 1 → ⊥) → (n ≡ 19 → ⊥) → (n ≡ 20 → ⊥) → eqb n 30 ≡ is_at_start n
  unfolding is_at_start
  start_last a b c = rw (ne_eqb n 1 a, ne_eqb n 19 b, ne_eqb n 20 c)

pub refused_start : (b : Bool) (p q : ℕ) → b ≡ true → p ≡ pick b p q
refused_start b p q e = ap (λ (t : Bool). pick t p q) (sym e)

pub refused_placed : (b : Bool) (p q v : ℕ) → b ≡ false → v ≡ q → v ≡ pick b p q
refused_placed b p q v e f = f ∙ ap (λ (t : Bool). pick t p q) (sym e)

-- one column after the other
module _ (f : ℕ → ℕ) (w n : ℕ) where
  pub columns_three : (a b c : ℕ) (t t₁ t₂ t₃ : List ℕ) → t₁ ≡ place_column f w a n t → t₂ ≡ place_column f w b n t₁ → t₃ ≡ place_column f w c n t₂ →
      t₃ ≡ place_columns f w (a ∷ b ∷ c ∷ []) n t
  unfolding place_columns
  columns_three a b c t t₁ t₂ t₃ p q r =
      r ∙ ap (place_column f w c n) (q ∙ ap (place_column f w b n) p)

  pub columns_five : (a b c d e : ℕ) (t t₁ t₂ t₃ t₄ t₅ : List ℕ) → t₁ ≡ place_column f w a n t → t₂ ≡ place_column f w b n t₁ → t₃ ≡ place_column f w c n t₂ →
      t₄ ≡ place_column f w d n t₃ → t₅ ≡ place_column f w e n t₄ → t₅ ≡ place_columns f w (a ∷ b ∷ c ∷ d ∷ e ∷ []) n t
  unfolding place_columns
  columns_five a b c d e t t₁ t₂ t₃ t₄ t₅ p q r s u =
      u ∙ ap (place_column f w e n) (s ∙ ap (place_column f w d n) (r ∙ ap (place_column f w c n) (q ∙ ap (place_column f w b n) p)))
