-- The laws of what is copied out of the tables. Assumes nothing.
use mathlib.Core.Path.{◌≡◌, refl, sym, ◌∙◌, ap, ap₂, subst}
use mathlib.Core.List.{List, [], ◌∷◌}
use mathlib.Core.Bool.{Bool}
use Prim.Native.Nat.{ℕ, suc, ◌+◌, ◌-◌, ◌*◌, ◌<◌, ◌≤◌, min}
use native.Mathlib.Omega.{arith}
use native.Mathlib.Decide.{ℕ_discrete}
use lib.ListN.{length, get_or, set, drop, replicate, length-set, length-replicate, get_or-replicate, drop_of_length-le}
use lib.Seq.{get_or-set_same, get_or-set_other, set_out, drop-cons}
use borrow.Author.Tests.{eq-eqb, ne_eqb}
use Rattle.token.specs.Find.{pick}
use Rattle.token.specs.Tokens.{part_of}
use Rattle.rows.specs.Table.{cell_of}
use Rattle.rows.specs.Search.{row_name}
use Rattle.comparing.specs.Naming.{number_of_name}
use Rattle.comparing.specs.Partners.{place_from}
use Rattle.comparing.specs.Columns.{Holds, name_of, owner_cell, owner_from, name_cell, name_from, step_cell, step_of_row, back_number, put_back, Backs}

-- Cells that hold what f gives -------------------------------------------------------------------------------------------------------------

pub holds_none : (f : ℕ → ℕ) (h : List ℕ) → Holds f 0 h
holds_none f h = record { cell = λ i b. absurd (omega arith) }

pub holds_more : (f : ℕ → ℕ) (j : ℕ) (h : List ℕ) (v : ℕ) → Holds f j h → j < length h → v ≡ f j → Holds f (j + 1) (set h j v)
holds_more f j h v g l e = record { cell = λ i b. by i b (ℕ_discrete i j) }
  where
    by : (i : ℕ) → i < j + 1 → Dec (i ≡ j) → get_or (set h j v) i 0 ≡ f i
    by i b (yes o) = subst (λ (u : ℕ). get_or (set h j v) u 0 ≡ f u) (sym o) (get_or-set_same h j v 0 l ∙ e)
    by i b (no o) = get_or-set_other h j i v 0 o ∙ g.cell i (omega arith)

pub holds_all : (f : ℕ → ℕ) (j : ℕ) (h : List ℕ) → Holds f j h → length h ≤ j → Holds f (length h) h
holds_all f j h g l = record { cell = λ i b. g.cell i (omega arith) }

-- One cell ---------------------------------------------------------------------------------------------------------------------------------

pub name_found : (s d x s2 d2 x2 s3 t : List ℕ) (i p n : ℕ) (w : List ℕ) (r : ℕ) → p ≡ cell_of t 13 i 2 → n ≡ cell_of t 13 i 3 → w ≡ part_of s3 p n → r ≡ number_of_name s d x s2 d2 x2 w
    → r ≡ name_of s d x s2 d2 x2 s3 t i
unfolding name_of row_name
name_found s d x s2 d2 x2 s3 t i p n w r e f g h = h ∙ ap (number_of_name s d x s2 d2 x2) (g ∙ ap₂ (λ (a b : ℕ). part_of s3 a b) e f)

pub owner_none : (v : List ℕ) (r i a : ℕ) → a ≡ cell_of v 9 i 1 → a ≡ 0 → 0 ≡ owner_cell v r i
unfolding owner_cell
owner_none v r i a e z = sym (ap (λ (b : Bool). pick b 0 (suc (min (cell_of v 9 i 2) 65536 - r))) (eq-eqb (cell_of v 9 i 1) 0 (sym e ∙ z)))

owner_some : (v : List ℕ) (r i a b m : ℕ) → a ≡ cell_of v 9 i 1 → (a ≡ 0 → ⊥) → b ≡ cell_of v 9 i 2 → m ≡ min b 65536 → suc (m - r) ≡ owner_cell v r i
unfolding owner_cell
owner_some v r i a b m e z f g =
    ap (λ (k : ℕ). suc (k - r)) (g ∙ ap (λ (k : ℕ). min k 65536) f)
    ∙ sym (ap (λ (c : Bool). pick c 0 (suc (min (cell_of v 9 i 2) 65536 - r))) (ne_eqb (cell_of v 9 i 1) 0 (λ q. z (e ∙ q))))

low_one : (m r : ℕ) → m < r → 1 ≡ suc (m - r)
low_one m r h = omega arith

high_one : (m r : ℕ) → r ≤ m → (m - r) + 1 ≡ suc (m - r)
high_one m r h = omega arith

pub owner_low : (v : List ℕ) (r i a b m : ℕ) → a ≡ cell_of v 9 i 1 → (a ≡ 0 → ⊥) → b ≡ cell_of v 9 i 2 → m ≡ min b 65536 → m < r → 1 ≡ owner_cell v r i
owner_low v r i a b m e z f g h = low_one m r h ∙ owner_some v r i a b m e z f g

pub owner_high : (v : List ℕ) (r i a b m : ℕ) → a ≡ cell_of v 9 i 1 → (a ≡ 0 → ⊥) → b ≡ cell_of v 9 i 2 → m ≡ min b 65536 → r ≤ m → (m - r) + 1 ≡ owner_cell v r i
owner_high v r i a b m e z f g h = high_one m r h ∙ owner_some v r i a b m e z f g

pub owner_is : (v : List ℕ) (r i a : ℕ) → a ≡ owner_cell v r (r + i) → a ≡ owner_from v r i
unfolding owner_from
owner_is v r i a e = e

pub name_is : (v h : List ℕ) (r i j a b : ℕ) → j ≡ cell_of v 9 (r + i) 0 → a ≡ get_or h j 0 → b ≡ min a 1048576 → b ≡ name_from v h r i
unfolding name_from name_cell
name_is v h r i j a b e f g = g ∙ ap (λ (k : ℕ). min k 1048576) (f ∙ ap (λ (k : ℕ). get_or h k 0) e)

pub step_found : (d v : List ℕ) (i name p j k m a b : ℕ) → j ≡ cell_of v 9 i 0 → k ≡ cell_of d 13 j 6 → m ≡ min k 1 → a ≡ min name 1048576 → b ≡ min p 65536
    → (a * 2 + m) * 2048 + b ≡ step_cell d v i name p
unfolding step_cell
step_found d v i name p j k m a b e f g h q =
    let n : m ≡ min (cell_of d 13 (cell_of v 9 i 0) 6) 1 = g ∙ ap (λ (z : ℕ). min z 1) (f ∙ ap (λ (z : ℕ). cell_of d 13 z 6) e) in
    (λ t. (h t * 2 + n t) * 2048 + q t)

pub step_is : (d v names places : List ℕ) (r i a p q : ℕ) → a ≡ get_or names i 0 → p ≡ get_or places i 0 → q ≡ step_cell d v (r + i) a p → q ≡ step_of_row d v names places r i
unfolding step_of_row
step_is d v names places r i a p q e f g = g ∙ ap₂ (λ (y z : ℕ). step_cell d v (r + i) y z) e f

-- The rows of partners ---------------------------------------------------------------------------------------------------------------------

pub put_none : (l : List ℕ) (p b : ℕ) → p ≡ 0 → l ≡ put_back l p b
unfolding put_back
put_none l p b e = sym (ap (λ (c : Bool). pick c l (set l (p - 1) b)) (eq-eqb p 0 e))

pub put_one : (l : List ℕ) (p b : ℕ) → (p ≡ 0 → ⊥) → set l (p - 1) b ≡ put_back l p b
unfolding put_back
put_one l p b e = sym (ap (λ (c : Bool). pick c l (set l (p - 1) b)) (ne_eqb p 0 e))

pub put_past : (l : List ℕ) (p b : ℕ) → length l < p → l ≡ put_back l p b
put_past l p b h = sym (set_out l (p - 1) b (omega arith)) ∙ put_one l p b (λ z. omega (arith, z))

put_length : (l : List ℕ) (p b : ℕ) → length (put_back l p b) ≡ length l
put_length l p b = by (ℕ_discrete p 0)
  where
    by : Dec (p ≡ 0) → length (put_back l p b) ≡ length l
    by (yes e) = ap length (sym (put_none l p b e))
    by (no e) = ap length (sym (put_one l p b e)) ∙ length-set l (p - 1) b

pub backed_length : (l m : List ℕ) (p b : ℕ) → m ≡ put_back l p b → length m ≡ length l
backed_length l m p b e = ap length e ∙ put_length l p b

back_none : (r : ℕ) → back_number r 0 ≡ 0
unfolding back_number
back_none r = ap (λ (c : Bool). pick c 0 (r + 0)) (eq-eqb 0 0 refl)

back_some : (r p : ℕ) → (p ≡ 0 → ⊥) → back_number r p ≡ r + p
unfolding back_number
back_some r p z = ap (λ (c : Bool). pick c 0 (r + p)) (ne_eqb p 0 z)

place_none : (k a : ℕ) → place_from k [] a ≡ 0
unfolding place_from
place_none k a = refl

place_here : (k x a : ℕ) (l : List ℕ) → x ≡ a → place_from k (x ∷ l) a ≡ suc k
unfolding place_from
place_here k x a l e = ap (λ (c : Bool). pick c (suc k) (place_from (suc k) l a)) (eq-eqb x a e)

place_later : (k x a : ℕ) (l : List ℕ) → (x ≡ a → ⊥) → place_from k (x ∷ l) a ≡ place_from (suc k) l a
unfolding place_from
place_later k x a l e = ap (λ (c : Bool). pick c (suc k) (place_from (suc k) l a)) (ne_eqb x a e)

pub backs_start : (ps : List ℕ) (r n k : ℕ) (l : List ℕ) → l ≡ replicate n 0 → k ≡ length ps → Backs ps r k l
backs_start ps r n k l e q = record {
  cell = λ i h.
      let many : length l ≡ n = ap length e ∙ length-replicate n 0 in
      ap (λ (m : List ℕ). get_or m i 0) e ∙ get_or-replicate n i 0 0 (omega (arith, many, h))
      ∙ sym (ap (back_number r) (ap (λ (m : List ℕ). place_from k m (suc i)) (drop_of_length-le ps {i = k} (omega (arith, q))) ∙ place_none k (suc i)) ∙ back_none r);
}

module _ (ps : List ℕ) (r j : ℕ) (l : List ℕ) (g : j < length ps) (w : Backs ps r (suc j) l) where
  abbrev here : ℕ
  here = get_or ps j 0

  cut : (i : ℕ) → place_from j (drop j ps) (suc i) ≡ place_from j (here ∷ drop (suc j) ps) (suc i)
  cut i = ap (λ (m : List ℕ). place_from j m (suc i)) (drop-cons ps j 0 g)

  at_cell : (p b : ℕ) → p ≡ here → b ≡ r + suc j → (i : ℕ) → i < length l → get_or (put_back l p b) i 0 ≡ back_number r (place_from j (drop j ps) (suc i))
  at_cell p b e f i h = by (ℕ_discrete p 0) (ℕ_discrete p (suc i))
    where
      later : (here ≡ suc i → ⊥) → get_or l i 0 ≡ back_number r (place_from j (drop j ps) (suc i))
      later z = w.cell i h ∙ ap (back_number r) (sym (cut i ∙ place_later j here (suc i) (drop (suc j) ps) z))

      by : Dec (p ≡ 0) → Dec (p ≡ suc i) → get_or (put_back l p b) i 0 ≡ back_number r (place_from j (drop j ps) (suc i))
      by (yes z) q = ap (λ (m : List ℕ). get_or m i 0) (sym (put_none l p b z)) ∙ later (λ y. omega (arith, y, z, e))
      by (no z) (yes q) =
          let place : p - 1 ≡ i = omega (arith, q) in
          ap (λ (m : List ℕ). get_or m i 0) (sym (put_one l p b z)) ∙ ap (λ (k : ℕ). get_or (set l k b) i 0) place ∙ get_or-set_same l i b 0 h ∙ f
          ∙ sym (ap (back_number r) (cut i ∙ place_here j here (suc i) (drop (suc j) ps) (sym e ∙ q)) ∙ back_some r (suc j) (λ y. omega (arith, y)))
      by (no z) (no q) =
          ap (λ (m : List ℕ). get_or m i 0) (sym (put_one l p b z)) ∙ get_or-set_other l (p - 1) i b 0 (λ y. q (omega (arith, y, z))) ∙ later (λ y. q (e ∙ y))

  backs_step : (p b : ℕ) → p ≡ here → b ≡ r + suc j → Backs ps r j (put_back l p b)
  backs_step p b e f = record { cell = λ i h. at_cell p b e f i (omega (arith, put_length l p b, h)) }

pub backs_next : (ps : List ℕ) (r k : ℕ) (l m : List ℕ) (p b : ℕ) → Backs ps r k l → 0 < k → k ≤ length ps → p ≡ get_or ps (k - 1) 0 → b ≡ (r + (k - 1)) + 1 → m ≡ put_back l p b → Backs ps r (k - 1) m
backs_next ps r k l m p b w h g e f q =
    let same : k ≡ suc (k - 1) = omega (arith, h) in
    subst (Backs ps r (k - 1)) (sym q) (backs_step ps r (k - 1) l (omega (arith, h, g)) (subst (λ (n : ℕ). Backs ps r n l) same w) p b e (f ∙ one_more r (k - 1)))
  where
    one_more : (a b : ℕ) → (a + b) + 1 ≡ a + suc b
    one_more a b = omega arith

pub backs_end : (ps : List ℕ) (r k : ℕ) (l : List ℕ) → Backs ps r k l → k ≡ 0 → Backs ps r 0 l
backs_end ps r k l w e = subst (λ (n : ℕ). Backs ps r n l) e w
