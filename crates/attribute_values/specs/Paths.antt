-- A dotted path and which entry each of its steps picks (document 02, Q-13). Assumes nothing.
use Rattle.std.specs.Prelude.{List, [], ◌∷◌, ◌++◌, Bool, ℕ, take, drop, eqb}
use Rattle.token.specs.Find.{both}
use Rattle.token.specs.Bytes.{find_byte}
use Rattle.token.specs.Words.{bytes_of, same}
use Rattle.meaning.specs.Words.{choose}
use Rattle.meaning.specs.Normal.{digits_in}

-- The byte b at the front of the first step.
unfoldable pub in_front : ℕ → List (List ℕ) → List (List ℕ)
in_front b [] = (b ∷ []) ∷ []
in_front b (x ∷ xs) = (b ∷ x) ∷ xs

-- "dotted path": its steps are what stands between the dots. There is always one, and it may be empty.
unfoldable pub steps : List ℕ → List (List ℕ)
steps [] = [] ∷ []
steps (b ∷ bs) = let r = steps bs in choose (eqb b 46) (λ _. [] ∷ r) (λ _. in_front b r)

-- A step is a name and what stands after it, from the first `[` on.
unfoldable pub name_of : List ℕ → List ℕ
name_of b = take (find_byte 91 b 0) b

unfoldable pub mark_of : List ℕ → List ℕ
mark_of b = drop (find_byte 91 b 0) b

-- "`[n]`, decimal without leading zeros".
unfoldable pub entry_mark : ℕ → List ℕ
entry_mark n = bytes_of "[" ++ (digits_in 20 n ++ bytes_of "]")

-- "`[n]` .. after a name picks a list's entry from 0; without it, entry 0; after a single attribute, or in a path of another form, it is not
-- found": whether a mark picks entry n of an attribute, which is a list or a single one.
unfoldable pub picks : (list : Bool) → (mark : List ℕ) → (n : ℕ) → Bool
picks list [] n = eqb n 0
picks list (b ∷ bs) n = both list (same (b ∷ bs) (entry_mark n))
