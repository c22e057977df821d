-- How a known word is found without comparing a word with all of them. This is no rule of document 01: only the contracts inside the code
-- of `words` speak of it, and no public contract does.
-- Assumes nothing.
use Rattle.std.specs.Prelude.{ℕ, suc, ◌+◌, ◌-◌, ◌*◌, ◌%◌, List, [], ◌∷◌, length, eqb}
use Rattle.token.specs.Find.{pick, byte}
use Rattle.token.specs.Words.{known}

-- the slot of a word of n bytes that begins with a and ends with z
unfoldable pub slot_by : ℕ → ℕ → ℕ → ℕ
slot_by n a z = (n + 3 * a + 9 * z) % 128

unfoldable pub slot_of : List ℕ → ℕ
unfolding slot_by
slot_of w = slot_by (length w) (byte w 0) (byte w (length w - 1))

-- the number of the first word of a list that has the slot, counted from n, or 0
unfoldable pub candidate_in : ℕ → List (List ℕ) → ℕ → ℕ
unfolding slot_of
candidate_in n [] i = 0
candidate_in n (w ∷ ws) i = pick (eqb (slot_of w) i) n (candidate_in (suc n) ws i)

-- the code of the first known word that has the slot, or 0
unfoldable pub candidate_of : ℕ → ℕ
unfolding candidate_in
candidate_of i = candidate_in 1 known i
