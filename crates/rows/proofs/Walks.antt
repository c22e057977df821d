-- Searches over rows of any type R, and the law of one over rows and some more.
-- Assumes nothing.
use Prim.Native.Nat.{ℕ, suc, ◌+◌}
use mathlib.Core.Path.{◌≡◌, ap, ◌∙◌}
use mathlib.Core.Bool.{Bool, false}
use mathlib.Core.List.{List, [], ◌∷◌, ◌++◌}
use native.Mathlib.Nat.{add-zero}
use native.Mathlib.Omega.{arith}
use lib.ListN.{length}
use Rattle.token.proofs.Bytes.{neither_first, neither_second}
use Rattle.token.specs.Find.{pick, either}

module _ {R : Type 0} (p : R → Bool) where
  -- p holds for one of some rows
  unfoldable pub any_of : List R → Bool
  any_of [] = false
  any_of (r ∷ rs) = let a = any_of rs in either (p r) a

module _ {R : Type 0} {A : Type 0} (p : R → Bool) (hit : ℕ → A) (none : A) where
  -- what `hit` makes of the number of the first row for which p holds, of rows that are counted from i
  unfoldable pub first : ℕ → List R → A
  first i [] = none
  first i (r ∷ rs) = let a = first (suc i) rs in pick (p r) (hit i) a

-- a search over rows and some more
module _ {R : Type 0} {A : Type 0} (p : R → Bool) (hit : ℕ → A) (none : A) where
  pub first_append : (i : ℕ) (xs ys : List R) → any_of p xs ≡ false → first p hit none i (xs ++ ys) ≡ first p hit none (i + length xs) ys
  unfolding first any_of
  first_append i [] ys e = rw (add-zero i)
  first_append i (x ∷ xs) ys e =
      let k : suc i + length xs ≡ i + suc (length xs) = omega arith in
      let h : p x ≡ false = neither_first (p x) (any_of p xs) e in
      rw h (first_append (suc i) xs ys (neither_second (p x) (any_of p xs) e) ∙ ap (λ (m : ℕ). first p hit none m ys) k)
