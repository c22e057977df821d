-- A table that holds the values of a function, and a test that antt computes at each number below a bound.
-- Assumes nothing.
use mathlib.Core.Path.{◌≡◌, refl, ◌∙◌, ap, subst, sym}
use mathlib.Core.Bool.{Bool, true, false}
use mathlib.Core.List.{List, [], ◌∷◌}
use mathlib.Core.Logic.{⊎_elim}
use Prim.Native.Nat.{ℕ, zero, suc, ◌+◌, ◌<◌}
use native.Mathlib.Nat.{add-zero, zero-add, add-suc, suc-add, le_of_suc-le-suc, not-suc-le-zero, eq-or-lt_of_le}
use lib.Dec.{T}
use lib.ListN.{get_or, length}
use Rattle.std.proofs.Common.{Bor}
use Rattle.token.specs.Find.{both}

-- the n values of f from i on
abbrev pub values_from : (ℕ → ℕ) → ℕ → ℕ → List ℕ
values_from f i zero = []
values_from f i (suc n) = f i ∷ values_from f (suc i) n

from : (f : ℕ → ℕ) (n i k : ℕ) → k < n → get_or (values_from f i n) k 0 ≡ f (i + k)
from f zero i k h = absurd (not-suc-le-zero h)
from f (suc n) i zero h = ap f (sym (add-zero i))
from f (suc n) i (suc k) h = from f n (suc i) k (le_of_suc-le-suc h) ∙ ap f (suc-add i k ∙ sym (add-suc i k))

-- a table that holds the first n values of f holds f k at k; that it holds them is computed
pub at : (f : ℕ → ℕ) (n k : ℕ) → k < n → get_or (values_from f 0 n) k 0 ≡ f k
at f n k h = from f n 0 k h ∙ ap f (zero-add k)

both_left : (a b : Bool) → T (both a b) → T a
both_left true b t = tt
both_left false b t = t

both_right : (a b : Bool) → T (both a b) → T b
both_right true b t = t
both_right false b t = absurd t

-- the test f passes at each number below n
abbrev pub up_to : (ℕ → Bool) → ℕ → Bool
up_to f zero = true
up_to f (suc n) = both (f n) (up_to f n)

pub below : (f : ℕ → Bool) (n : ℕ) → T (up_to f n) → (k : ℕ) → k < n → T (f k)
below f zero t k h = absurd (not-suc-le-zero h)
below f (suc n) t k h =
    ⊎_elim (λ e. subst (λ (m : ℕ). T (f m)) (sym e) (both_left (f n) (up_to f n) t))
    (λ l. below f n (both_right (f n) (up_to f n) t) k l)
    (eq-or-lt_of_le (le_of_suc-le-suc h))

-- the words that a table of references points to
abbrev pub words_of : List (Bor (List ℕ)) → List (List ℕ)
words_of [] = []
words_of (x ∷ xs) = x.now ∷ words_of xs

pub now_at : (xs : List (Bor (List ℕ))) (k : ℕ) (d : Bor (List ℕ)) → k < length xs → (get_or xs k d).now ≡ get_or (words_of xs) k []
now_at [] k d h = absurd (not-suc-le-zero h)
now_at (x ∷ xs) zero d h = refl
now_at (x ∷ xs) (suc k) d h = now_at xs k d (le_of_suc-le-suc h)
