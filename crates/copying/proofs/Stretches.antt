-- The loops that copy: what is left to store decides the whole. Assumes nothing.
use Prim.Native.Nat.{ℕ, zero, suc, ◌+◌, ◌*◌, ◌-◌, ◌<◌, ◌≤◌, min}
use mathlib.Core.Path.{◌≡◌, refl, sym, ap, ap₂, ◌∙◌}
use mathlib.Core.List.{List, [], ◌∷◌}
use native.Mathlib.Omega.{arith}
use native.Mathlib.Decide.{dec_le}
use lib.ListN.{length, get_or, set, length-append}
use lib.Seq.{sets, length-sets}
use Rattle.rows.proofs.Stores.{sets_append, sets_out}
use Rattle.rows.proofs.Starts.{cell_past, start_next}
use Rattle.copying.specs.Copies.{cells_from, each_row, as_is, attribute_of, attributed}

pub length_cells : (l : List ℕ) (a c : ℕ) → length (cells_from l a c) ≡ c
unfolding cells_from
length_cells l a zero = refl
length_cells l a (suc c) = ap suc (length_cells l (suc a) c)

-- A loop that copies one cell a turn.
module _ (l m : List ℕ) (j a c : ℕ) where
  pub cells_start : sets l j (cells_from m (a + 0) (c - 0)) ≡ sets l j (cells_from m a c)
  cells_start =
      let e : a + 0 ≡ a = omega arith in
      let f : c - 0 ≡ c = omega arith in
      ap₂ (λ (p q : ℕ). sets l j (cells_from m p q)) e f

  module _ (i : ℕ) where
    cells_more : i < c → sets l j (cells_from m (a + i) (c - i)) ≡ sets (set l j (get_or m (a + i) 0)) (j + 1) (cells_from m (a + (i + 1)) (c - (i + 1)))
    unfolding cells_from
    cells_more h =
        let e : c - i ≡ suc (c - (i + 1)) = omega arith in
        let f : suc (a + i) ≡ a + (i + 1) = omega arith in
        let g : suc j ≡ j + 1 = omega arith in
        ap (λ (k : ℕ). sets l j (cells_from m (a + i) k)) e
        ∙ ap₂ (λ (p q : ℕ). sets (set l j (get_or m (a + i) 0)) p (cells_from m q (c - (i + 1)))) g f

    pub cells_turn : (v : ℕ) (all : List ℕ) → i < c → v ≡ get_or m (a + i) 0 → sets l j (cells_from m (a + i) (c - i)) ≡ all
        → sets (set l j v) (j + 1) (cells_from m (a + (i + 1)) (c - (i + 1))) ≡ all
    cells_turn v all h e inv = ap (λ (k : ℕ). sets (set l j k) (j + 1) (cells_from m (a + (i + 1)) (c - (i + 1)))) e ∙ sym (cells_more h) ∙ inv

    pub cells_past : length l ≤ j → l ≡ sets l j (cells_from m (a + i) (c - i))
    cells_past h = sym (sets_out l j (cells_from m (a + i) (c - i)) h)

    pub cells_end : c ≤ i → l ≡ sets l j (cells_from m (a + i) (c - i))
    unfolding cells_from
    cells_end h =
        let e : 0 ≡ c - i = omega arith in
        ap (λ (k : ℕ). sets l j (cells_from m (a + i) k)) e

-- A place past the end serves as the end does.
cells_out : (l : List ℕ) (a b c : ℕ) → length l ≤ a → length l ≤ b → cells_from l a c ≡ cells_from l b c
unfolding cells_from
cells_out l a b zero h k = refl
cells_out l a b (suc c) h k = ap₂ (λ (x : ℕ) (r : List ℕ). x ∷ r) (cell_past l a h ∙ sym (cell_past l b k)) (cells_out l (suc a) (suc b) c (omega arith) (omega arith))

by_end : (l : List ℕ) (a c : ℕ) → Dec (length l ≤ a) → cells_from l (min (length l) a) c ≡ cells_from l a c
by_end l a c (yes h) = cells_out l (min (length l) a) a c (omega arith) h
by_end l a c (no h) =
    let e : min (length l) a ≡ a = omega arith in
    ap (λ (k : ℕ). cells_from l k c) e

cells_at : (l : List ℕ) (a c : ℕ) → cells_from l (min (length l) a) c ≡ cells_from l a c
cells_at l a c = by_end l a c (dec_le (length l) a)

by_room : (l : List ℕ) (a : ℕ) (vs : List ℕ) → Dec (length l ≤ a) → sets l (min (length l) a) vs ≡ sets l a vs
by_room l a vs (yes h) = sets_out l (min (length l) a) vs (omega arith) ∙ sym (sets_out l a vs h)
by_room l a vs (no h) =
    let e : min (length l) a ≡ a = omega arith in
    ap (λ (k : ℕ). sets l k vs) e

sets_at : (l : List ℕ) (a : ℕ) (vs : List ℕ) → sets l (min (length l) a) vs ≡ sets l a vs
sets_at l a vs = by_room l a vs (dec_le (length l) a)

-- What is made of a row has as many cells as the row.
abbrev pub Keeps : (List ℕ → List ℕ) → Type 0
Keeps g = (r : List ℕ) → length (g r) ≡ length r

pub as_is_keeps : Keeps as_is
unfolding as_is
as_is_keeps r = refl

pub attributed_keeps : (d : List ℕ) (n : ℕ) → Keeps (attributed d n)
unfolding attributed
attributed_keeps d n [] = refl
attributed_keeps d n (k ∷ r) = refl

-- A loop that copies one row a turn.
module _ (g : List ℕ → List ℕ) (keeps : Keeps g) (m : List ℕ) (w c : ℕ) where
  length_one : (a : ℕ) → length (g (cells_from m a c)) ≡ c
  length_one a = keeps (cells_from m a c) ∙ length_cells m a c

  pub length_rows : (i n : ℕ) → length (each_row g m w c i n) ≡ n * c
  unfolding each_row
  length_rows i zero = omega arith
  length_rows i (suc n) =
      let a = length-append (g (cells_from m (i * w) c)) (each_row g m w c (suc i) n) in
      let b = length_one (i * w) in
      let e = length_rows (suc i) n in
      omega arith

  module _ (n : ℕ) where
    rows_more : (l : List ℕ) (i : ℕ) → i < n
        → sets l (i * c) (each_row g m w c i (n - i)) ≡ sets (sets l (i * c) (g (cells_from m (i * w) c))) ((i + 1) * c) (each_row g m w c (i + 1) (n - (i + 1)))
    unfolding each_row
    rows_more l i h =
        let r = g (cells_from m (i * w) c) in
        let e : n - i ≡ suc (n - (i + 1)) = omega arith in
        let f : suc i ≡ i + 1 = omega arith in
        let b = length_one (i * w) in
        let k : i * c + length r ≡ (i + 1) * c = omega arith in
        ap (λ (q : ℕ). sets l (i * c) (each_row g m w c i q)) e
        ∙ sets_append l (i * c) r (each_row g m w c (suc i) (n - (i + 1)))
        ∙ ap₂ (λ (p q : ℕ). sets (sets l (i * c) r) p (each_row g m w c q (n - (i + 1)))) k f

-- The loop at row i: `start` is where the row begins in m, `place` where it goes in l; l₀ is l before the loop.
pub record Copying (g : List ℕ → List ℕ) (m : List ℕ) (w c n : ℕ) (l₀ l : List ℕ) (i start place : ℕ) : Type 0 where
  pub same : length l ≡ length l₀
  pub begins : start ≡ min (length m) (i * w)
  pub goes : place ≡ min (length l) (i * c)
  pub left : sets l (i * c) (each_row g m w c i (n - i)) ≡ sets l₀ 0 (each_row g m w c 0 n)

pub copying_start : (g : List ℕ → List ℕ) (m : List ℕ) (w c n : ℕ) (l : List ℕ) → Copying g m w c n l l 0 0 0
copying_start g m w c n l =
    let e : 0 * c ≡ 0 = omega arith in
    let f : n - 0 ≡ n = omega arith in
    record { same = refl; begins = omega arith; goes = omega arith; left = ap₂ (λ (p q : ℕ). sets l p (each_row g m w c 0 q)) e f }

-- One turn: the row goes to its place, or nowhere where that is past the end.
pub copying_turn : {g : List ℕ → List ℕ} {m : List ℕ} {w c n : ℕ} {l₀ l : List ℕ} {i start place : ℕ} (l' : List ℕ) (start' place' : ℕ) → Keeps g
    → Copying g m w c n l₀ l i start place → i < n → l' ≡ sets l place (g (cells_from m start c))
    → start' ≡ min (length m) (start + w) → place' ≡ min (length l') (place + c) → Copying g m w c n l₀ l' (i + 1) start' place'
copying_turn {g} {m} {w} {c} {n} {l₀} {l} {i} {start} {place} l' start' place' keeps k h e s p =
    let x : cells_from m start c ≡ cells_from m (i * w) c = ap (λ (q : ℕ). cells_from m q c) k.begins ∙ cells_at m (i * w) c in
    let y : l' ≡ sets l (i * c) (g (cells_from m (i * w) c)) =
    e ∙ ap₂ (λ (q : ℕ) (r : List ℕ). sets l q (g r)) k.goes x ∙ sets_at l (i * c) (g (cells_from m (i * w) c)) in
    let z : length l' ≡ length l = ap length e ∙ length-sets l place (g (cells_from m start c)) in
    record {
      same = z ∙ k.same;
      begins = s ∙ ap (λ (q : ℕ). min (length m) (q + w)) k.begins ∙ start_next (length m) w i;
      goes = p ∙ ap (λ (q : ℕ). min (length l') (q + c)) (k.goes ∙ ap (λ (q : ℕ). min q (i * c)) (sym z)) ∙ start_next (length l') c i;
      left =
          ap (λ (t : List ℕ). sets t ((i + 1) * c) (each_row g m w c (i + 1) (n - (i + 1)))) y ∙ sym (rows_more g keeps m w c n l i h) ∙ k.left;
    }

pub copying_end : {g : List ℕ → List ℕ} {m : List ℕ} {w c n : ℕ} {l₀ l : List ℕ} {i start place : ℕ} → Copying g m w c n l₀ l i start place → n ≤ i
    → l ≡ sets l₀ 0 (each_row g m w c 0 n)
unfolding each_row
copying_end {g} {m} {w} {c} {n} {l₀} {l} {i} k h =
    let e : 0 ≡ n - i = omega arith in
    ap (λ (q : ℕ). sets l (i * c) (each_row g m w c i q)) e ∙ k.left

-- The row of an enumerator, cell by cell.
pub row_attributed : (l l' : List ℕ) (p : ℕ) (d : List ℕ) (n : ℕ) (e : List ℕ) (at k x y z : ℕ) → l' ≡ sets l p (x ∷ y ∷ z ∷ [])
    → k ≡ get_or e (at + 0) 0 → x ≡ attribute_of d n k → y ≡ get_or e (at + 1) 0 → z ≡ get_or e (at + 2) 0 → l' ≡ sets l p (attributed d n (cells_from e at 3))
unfolding attributed cells_from
row_attributed l l' p d n e at k x y z h a b c f =
    let at₀ : at + 0 ≡ at = omega arith in
    let at₁ : at + 1 ≡ suc at = omega arith in
    let at₂ : at + 2 ≡ suc (suc at) = omega arith in
    let u : x ≡ attribute_of d n (get_or e at 0) = b ∙ ap (attribute_of d n) (a ∙ ap (λ (q : ℕ). get_or e q 0) at₀) in
    let v : y ≡ get_or e (suc at) 0 = c ∙ ap (λ (q : ℕ). get_or e q 0) at₁ in
    let w : z ≡ get_or e (suc (suc at)) 0 = f ∙ ap (λ (q : ℕ). get_or e q 0) at₂ in
    h ∙ ap₂ (λ (q r : ℕ). sets l p (q ∷ r ∷ z ∷ [])) u v
    ∙ ap (λ (q : ℕ). sets l p (attribute_of d n (get_or e at 0) ∷ get_or e (suc at) 0 ∷ q ∷ [])) w
