-- Rows of statements moved to another place: each holds the number of the row after the last one in its braces, which moves along.
-- Assumes nothing.
use Rattle.std.specs.Prelude.{◌≡◌, List, [], ◌∷◌, ◌++◌, ℕ, zero, suc, ◌+◌, ◌*◌, ◌-◌, ◌≤◌, length, get_or, ltb}
use Rattle.std.proofs.lemmas.List.Edits.{sets}
use Rattle.token.specs.Find.{pick}

-- The number a of a row, where row `from` becomes row `to`; 0 for numbers that no row of a text has.
unfoldable pub shift_of : (a from to : ℕ) → ℕ
shift_of a from to = pick (ltb a from) 0 (pick (ltb 65536 (a - from)) 0 (pick (ltb 65536 to) 0 ((a - from) + to)))

unfoldable pub moved_row : List ℕ → (k from to : ℕ) → List ℕ
moved_row st k from to =
    get_or st (k * 7 + 0) 0 ∷ get_or st (k * 7 + 1) 0 ∷ get_or st (k * 7 + 2) 0 ∷ get_or st (k * 7 + 3) 0 ∷ get_or st (k * 7 + 4) 0 ∷ get_or st (k * 7 + 5) 0
    ∷ shift_of (get_or st (k * 7 + 6) 0) from to ∷ []

-- n rows from row k on.
unfoldable pub moved_rows : List ℕ → (from to n k : ℕ) → List ℕ
moved_rows st from to zero k = []
moved_rows st from to (suc n) k = moved_row st k from to ++ moved_rows st from to n (suc k)

-- The rows of st from `from` to `end` have been put into the table l from row `to` on, which has become l'; r is the row after them.
pub record Moved (st : List ℕ) (from end : ℕ) (l : List ℕ) (to : ℕ) (l' : List ℕ) (r : ℕ) : Type 0 where
  pub table : l' ≡ sets l (to * 7) (moved_rows st from to (end - from) from)
  pub row : r ≡ to + (end - from)

abbrev pub Moves : List ℕ → (from end : ℕ) → List ℕ → ℕ → List ℕ → ℕ → Type 0
Moves st from end l to l' r = end ≤ 2049 → to ≤ 2049 → Moved st from end l to l' r
