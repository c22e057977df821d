-- What the table of ranges answers. Assumes nothing.
use mathlib.Core.Path.{◌≡◌, sym, ◌∙◌, ap, ap₂, subst}
use mathlib.Core.List.{List}
use mathlib.Core.Bool.{Bool, true, false}
use Prim.Native.Nat.{ℕ, ◌+◌, ◌-◌, ◌*◌, ◌<◌}
use native.Mathlib.Omega.{arith}
use lib.ListN.{get_or, take, drop}
use Rattle.token.specs.Find.{both}
use Rattle.rows.specs.Table.{part}
use Rattle.rows.proofs.Tables.{cell_of_lem}
use Rattle.sorting.specs.Sorted.{among_cells, Tells}
use Rattle.meaning.specs.Syntax.{Num, Bounds}
use Rattle.meaning.specs.Words.{num_at_most}
use Rattle.scopes.specs.Ranges.{RangeAt}
use Rattle.scopes.specs.Promises.{InRange, InFloats}
use Rattle.amounts.specs.Keys.{signed_code, num_has_key, key, Listing}
use Rattle.amounts.specs.Known.{num_in, float_in, Told, Known}
use Rattle.amounts.specs.Promises.{InRangeOf, InFloatsOf}

-- The text is read.
pub by_text : (s d : List ℕ) (j p : ℕ) (n : Num) (r : Bool) → p ≡ get_or d (j * 19 + 8) 0 → InRange s p n r → InRangeOf s d j n r
by_text s d j p n r e h = subst (λ i. InRange s i n r) e h

pub floats_by_text : (s d : List ℕ) (j p : ℕ) (n : Num) (r : Bool) → p ≡ get_or d (j * 19 + 8) 0 → InFloats s p n r → InFloatsOf s d j n r
floats_by_text s d j p n r e h = subst (λ i. InFloats s i n r) e h

module _ (s d t : List ℕ) (k : Known s d t) (j : ℕ) (l : j < 512) (n : Num) where
  told : (b : Bounds) → RangeAt s (get_or d (j * 19 + 8) 0) b → Told (signed_code (get_or d (j * 19 + 12) 0)) b (part t (512 + j * 5) 5) t k.used
  told b x = k.noted.told j l b x

  known_cell : (c x : ℕ) → c < 5 → x ≡ get_or t (512 + j * 5 + c) 0 → get_or (part t (512 + j * 5) 5) c 0 ≡ x
  known_cell c x h e = cell_of_lem t (512 + j * 5) 5 c h ∙ sym e

  module _ (x a b : ℕ) (x-is : x ≡ get_or t (512 + j * 5 + 0) 0) (a-is : a ≡ get_or t (512 + j * 5 + 1) 0) (b-is : b ≡ get_or t (512 + j * 5 + 2) 0) where
    pub below : x ≡ 1 → (c : Bool) → c ≡ num_at_most (num_in a b) n → c ≡ false → InRangeOf s d j n false
    below e c q h v r =
        sym (ap (λ y. both y (num_at_most n (num_in (get_or (part t (512 + j * 5) 5) 3 0) (get_or (part t (512 + j * 5) 5) 4 0))))
        (ap₂ (λ u w. num_at_most (num_in u w) n) (known_cell 1 a (omega arith) a-is) (known_cell 2 b (omega arith) b-is) ∙ sym q ∙ h))
        ∙ (told v r).two (known_cell 0 x (omega arith) x-is ∙ e) n

    pub not_below : x ≡ 1 → (c : Bool) → c ≡ num_at_most (num_in a b) n → c ≡ true → (f g : ℕ) → f ≡ get_or t (512 + j * 5 + 3) 0 → g ≡ get_or t (512 + j * 5 + 4) 0
        → (r : Bool) → r ≡ num_at_most n (num_in f g) → InRangeOf s d j n r
    not_below e c q h f g f-is g-is r i v w =
        i
        ∙ ap₂ (λ u y. num_at_most n (num_in u y)) (sym (known_cell 3 f (omega arith) f-is)) (sym (known_cell 4 g (omega arith) g-is))
        ∙ sym (ap (λ y. both y (num_at_most n (num_in (get_or (part t (512 + j * 5) 5) 3 0) (get_or (part t (512 + j * 5) 5) 4 0))))
        (ap₂ (λ u w. num_at_most (num_in u w) n) (known_cell 1 a (omega arith) a-is) (known_cell 2 b (omega arith) b-is) ∙ sym q ∙ h))
        ∙ (told v w).two (known_cell 0 x (omega arith) x-is ∙ e) n

    pub by_list : x ≡ 2 → (c : ℕ) → c ≡ get_or d (j * 19 + 12) 0 → (g : Bool) → g ≡ signed_code c → (h : Bool) → h ≡ num_has_key g n → h ≡ true
        → (m : ℕ) → m ≡ key n → (r : Bool) → Tells (take (b - a) (drop a t)) m r → InRangeOf s d j n r
    unfolding Tells
    by_list e c c-is g g-is h h-is y m m-is r f v w =
        let o = (told v w).list (known_cell 0 x (omega arith) x-is ∙ e) in
        let q = subst (Listing (signed_code (get_or d (j * 19 + 12) 0)) v) (ap₂ (λ i u. part t i (u - i)) (known_cell 1 a (omega arith) a-is) (known_cell 2 b (omega arith) b-is)) o in
        f q.rising
        ∙ ap (λ i. among_cells i (take (b - a) (drop a t))) m-is
        ∙ q.tells n (ap (λ i. num_has_key i n) (ap signed_code (sym c-is) ∙ sym g-is) ∙ sym h-is ∙ y)

    -- The low float, and the test by it.
    module _ (e : x ≡ 3) (y : Num) (y-is : y ≡ float_in a b) (c : Bool) (q : c ≡ num_at_most y n) where
      low_float : num_at_most (float_in (get_or (part t (512 + j * 5) 5) 1 0) (get_or (part t (512 + j * 5) 5) 2 0)) n ≡ c
      low_float =
          ap₂ (λ u w. num_at_most (float_in u w) n) (known_cell 1 a (omega arith) a-is) (known_cell 2 b (omega arith) b-is)
          ∙ ap (λ m. num_at_most m n) (sym y-is) ∙ sym q

      pub float_below : c ≡ false → InFloatsOf s d j n false
      float_below h v r =
          sym (ap (λ y. both y (num_at_most n (float_in (get_or (part t (512 + j * 5) 5) 3 0) (get_or (part t (512 + j * 5) 5) 4 0)))) (low_float ∙ h))
          ∙ k.noted.floats j l v r (known_cell 0 x (omega arith) x-is ∙ e) n

      pub float-not-below : c ≡ true → (f g : ℕ) → f ≡ get_or t (512 + j * 5 + 3) 0 → g ≡ get_or t (512 + j * 5 + 4) 0 → (z : Num) → z ≡ float_in f g
          → (r : Bool) → r ≡ num_at_most n z → InFloatsOf s d j n r
      float-not-below h f g f-is g-is z z-is r i v w =
          i ∙ ap (num_at_most n) z-is
          ∙ ap₂ (λ u y. num_at_most n (float_in u y)) (sym (known_cell 3 f (omega arith) f-is)) (sym (known_cell 4 g (omega arith) g-is))
          ∙ sym (ap (λ y. both y (num_at_most n (float_in (get_or (part t (512 + j * 5) 5) 3 0) (get_or (part t (512 + j * 5) 5) 4 0)))) (low_float ∙ h))
          ∙ k.noted.floats j l v w (known_cell 0 x (omega arith) x-is ∙ e) n
