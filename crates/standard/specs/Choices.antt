-- The words of an ENUM of the implementation, compared with those of a list of the standard. No part of the public contract. Assumes nothing.
use Rattle.std.specs.Prelude.{List, Bool, not, ℕ, ◌+◌, ◌*◌, get_or}
use Rattle.token.specs.Find.{both}
use Rattle.token.specs.Words.{same}
use Rattle.token.specs.Tokens.{part_of}
use Rattle.rows.specs.Found.{Found}
use Rattle.rows.specs.Search.{has_key, find_from, is_found}

-- The first of the words of the text g, from row a on, below z, that has the bytes b.
unfoldable pub find_word : (g ws : List ℕ) → (z : ℕ) → List ℕ → ℕ → Found
find_word g ws z b a = find_from (λ k. same (part_of g (get_or ws (k * 2 + 0) 0) (get_or ws (k * 2 + 1) 0)) b) z a

-- One of them has.
unfoldable pub is_word : (g ws : List ℕ) → (a z : ℕ) → List ℕ → Bool
is_word g ws a z b = is_found (find_word g ws z b a)

-- Enumerator i of the text s is of the list with the key, and none of those words.
unfoldable pub is_extra : (s e g ws : List ℕ) → (a z key i : ℕ) → Bool
is_extra s e g ws a z key i = both (has_key e (i * 3) 0 key) (not (is_word g ws a z (part_of s (get_or e (i * 3 + 1) 0) (get_or e (i * 3 + 2) 0))))

-- The first such enumerator from i on, below m.
unfoldable pub find_extra : (s e g ws : List ℕ) → (a z key m i : ℕ) → Found
find_extra s e g ws a z key m i = find_from (is_extra s e g ws a z key) m i

unfoldable pub has_extra : (s e g ws : List ℕ) → (a z key m : ℕ) → Bool
has_extra s e g ws a z key m = is_found (find_extra s e g ws a z key m 0)
