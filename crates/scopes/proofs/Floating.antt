-- What the functions over floats cite. Assumes nothing.
use mathlib.Core.Path.{◌≡◌, refl, sym, ◌∙◌, ap, ap₂}
use mathlib.Core.List.{List}
use mathlib.Core.Bool.{Bool, true, false, not}
use Prim.Native.Nat.{ℕ}
use Rattle.std.specs.Prelude.{None}
use Rattle.token.specs.Find.{both}
use Rattle.token.specs.Tokens.{step_at}
use Rattle.rows.specs.Order.{MaybeFault, fault_if}
use Rattle.meaning.specs.Syntax.{Num, Word, Bounds, from_to}
use Rattle.meaning.specs.Actions.{float_of_step}
use Rattle.meaning.specs.Words.{num_at_most, in_float_bounds}
use Rattle.meaning.specs.Faults.{faults_if, first}
use Rattle.meaning.specs.Defining.{low_faults}
use Rattle.scopes.specs.declared.Item.{Item}
use Rattle.scopes.specs.Items.{item_at}
use Rattle.scopes.specs.Ranges.{FloatsAt, floats_none, floats_two}
use Rattle.scopes.specs.Promises.{fault_of, InFloats, LowFault}
use Rattle.scopes.proofs.Ranging.{fault_if_is}

module _ (s : List ℕ) (p : ℕ) where
  -- Ranges.
  pub floats_zero : (n : Num) → p ≡ 0 → InFloats s p n true
  unfolding in_float_bounds
  floats_zero n e b (floats_none i) = refl
  floats_zero n e b (floats_two h o a t c) = absurd (h e)

  pub low_zero : p ≡ 0 → LowFault s p None
  unfolding low_faults first fault_of
  low_zero e b (floats_none j) = refl
  low_zero e b (floats_two h o a t c) = absurd (h e)

  module _ (h : p ≡ 0 → ⊥) (o a z : Item) (e : o ≡ item_at s p) (g : a ≡ item_at s o.next) (k : z ≡ item_at s a.next) (x y : Num)
      (u : x ≡ float_of_step (step_at s o.next)) (v : y ≡ float_of_step (step_at s z.next)) where
    -- The two bounds.
    record Ends (b : Bounds) : Type 0 where
      low : Word
      high : Word
      bounds : b ≡ from_to low high
      low_float : x ≡ low.float
      low-place : a.at ≡ low.place
      high-float : y ≡ high.float

    ends : (b : Bounds) → FloatsAt s p b → Ends b
    ends b (floats_none i) = absurd (h i)
    ends b (floats_two {q = q} {r} {t = t} n c m w d) =
        let i : o.next ≡ q = ap (λ (i : Item). i.next) e ∙ c.next in
        let j : a ≡ item_at s q = g ∙ ap (item_at s) i in
        let l : z ≡ item_at s r = k ∙ ap (item_at s) (ap (λ (i : Item). i.next) j ∙ m.next) in
        let f : z.next ≡ t = ap (λ (i : Item). i.next) l ∙ w.next in
        record {
          low = _;
          high = _;
          bounds = refl;
          low_float = u ∙ ap (λ (n : ℕ). float_of_step (step_at s n)) i ∙ m.float;
          low-place = ap (λ (i : Item). i.at) j ∙ m.place;
          high-float = v ∙ ap (λ (n : ℕ). float_of_step (step_at s n)) f ∙ d.float;
        }

    pub floats_in : (n : Num) (c r : Bool) → c ≡ num_at_most x n → c ≡ true → r ≡ num_at_most n y → InFloats s p n r
    unfolding in_float_bounds
    floats_in n c r q t w b d =
        let i = ends b d in
        w ∙ ap (num_at_most n) i.high-float
        ∙ sym (ap (in_float_bounds n) i.bounds ∙ ap (λ f. both f (num_at_most n i.high.float)) (ap (λ m. num_at_most m n) (sym i.low_float) ∙ sym q ∙ t))

    pub floats_below : (n : Num) (c : Bool) → c ≡ num_at_most x n → c ≡ false → InFloats s p n false
    unfolding in_float_bounds
    floats_below n c q t b d =
        let i = ends b d in
        sym (ap (in_float_bounds n) i.bounds ∙ ap (λ f. both f (num_at_most n i.high.float)) (ap (λ m. num_at_most m n) (sym i.low_float) ∙ sym q ∙ t))

    pub low_is : (c : Bool) (r : MaybeFault) → c ≡ num_at_most x y → r ≡ fault_if (not c) 21 a.at → LowFault s p r
    unfolding low_faults
    low_is c r q f b d =
        let i = ends b d in
        f ∙ fault_if_is (not c) i.low a.at i.low-place
        ∙ sym (ap (λ b. fault_of (first (low_faults b))) i.bounds
        ∙ ap (λ c. fault_of (first (faults_if (not c) i.low 21))) (sym (ap₂ num_at_most i.low_float i.high-float) ∙ sym q))
