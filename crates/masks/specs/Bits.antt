-- The bits of a mask, by arithmetic. Assumes nothing.
use Rattle.std.specs.Prelude.{Bool, false, ℕ, zero, suc, ◌^◌, ◌/◌, ◌%◌, eqb}
use Rattle.token.specs.Find.{both, either}

-- Bit k of the mask m is set.
unfoldable pub has : ℕ → ℕ → Bool
has m k = eqb (m / 2 ^ k % 2) 1

-- p holds for one of the n numbers below n.
unfoldable pub some_below : ℕ → (ℕ → Bool) → Bool
some_below zero p = false
some_below (suc n) p = let r = some_below n p in either (p n) r

-- "a single bit of 64".
unfoldable pub single : ℕ → Bool
single m = some_below 64 (λ k. eqb m (2 ^ k))

-- Two masks share a bit.
unfoldable pub common : ℕ → ℕ → Bool
common m n = some_below 64 (λ k. both (has m k) (has n k))
