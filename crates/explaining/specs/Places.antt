-- Lines of a text, and the line and the column of a place, counted from 1, and where the token at a place ends. A line ends at LF or at the text's end; a place may be the text's
-- length. Assumes nothing.
use Rattle.std.specs.Prelude.{ℕ, zero, suc, ◌+◌, ◌-◌, ◌≤◌, ◌<◌, min, ◌≡◌, Bool, List, [], ◌∷◌, ◌≢◌, length, take, ltb, eqb}
use Rattle.token.specs.Find.{pick, both, byte}
use Rattle.token.specs.Bytes.{find_byte}
use Rattle.token.specs.Tokens.{bytes_between, step_at}
use Rattle.token.specs.declared.Step.{Step}
use Rattle.token.specs.declared.Step.TheVariants.{Found, Refused, End}
use Rattle.explaining.specs.Characters.{characters}

-- the place itself, or the text's length where it is past it
unfoldable pub within : List ℕ → ℕ → ℕ
within s p = min (length s) p

-- 1 for an LF, 0 for any other byte
unfoldable pub feed_of : ℕ → ℕ
feed_of b = pick (eqb b 10) 1 0

-- how many of the bytes are LF
unfoldable pub line_feeds : List ℕ → ℕ
line_feeds [] = 0
line_feeds (b ∷ s) = feed_of b + line_feeds s

-- the line of a place: one more than the LF before it
unfoldable pub line_of : List ℕ → ℕ → ℕ
line_of s p = line_feeds (take p s) + 1

-- where the line of a place starts: after the last LF before the place, or at 0
unfoldable pub line_start : List ℕ → ℕ → ℕ
line_start s zero = 0
line_start s (suc p) = let r = line_start s p in pick (eqb (byte s p) 10) (suc p) r

-- the column of a place: one more than the characters before it in its line
unfoldable pub column_of : List ℕ → ℕ → ℕ
column_of s p = characters (bytes_between s (line_start s p) p) + 1

-- where the token found by a step from p ends, if it begins at p; else one byte after p
unfoldable pub end_from : ℕ → Step → ℕ
end_from p (Found t c) = pick (eqb t.at p) c.at (p + 1)
end_from p (Refused q) = p + 1
end_from p (End n) = p + 1

unfoldable pub token_end : List ℕ → ℕ → ℕ
token_end s p = end_from p (step_at s p)

-- where the line of a place ends: at the first LF at or after it, or at the text's length
unfoldable pub line_end : List ℕ → ℕ → ℕ
line_end s p = find_byte 10 s p

-- a CR stands before the LF at e
unfoldable pub cr_before : List ℕ → ℕ → Bool
cr_before s e = both (ltb e (length s)) (both (ltb 0 e) (eqb (byte s (e - 1)) 13))

-- where a line that ends at e ends without such a CR
unfoldable pub shown_end : List ℕ → ℕ → ℕ
shown_end s e = pick (cr_before s e) (e - 1) e

-- the line of p is from a to e: it starts at 0 or after an LF, ends at an LF or at the text's length, and has no LF in it
pub record IsLine (s : List ℕ) (p a e : ℕ) : Type 0 where
  pub before : a ≤ p
  pub behind : p ≤ e
  pub inside : e ≤ length s
  pub starts : 0 < a → byte s (a - 1) ≡ 10
  pub ends : e < length s → byte s e ≡ 10
  pub clear : (i : ℕ) → a ≤ i → i < e → byte s i ≢ 10

-- THE STATEMENTS, which proofs/Whole has: the line of a place is from `line_start` to `line_end` (`line_is`), and no other (`only_line`).
abbrev pub LinesFound : Type 0
LinesFound = (s : List ℕ) (p : ℕ) → p ≤ length s → IsLine s p (line_start s p) (line_end s p)

abbrev pub LinesApart : Type 0
LinesApart = (s : List ℕ) (p a e b f : ℕ) → IsLine s p a e → IsLine s p b f → (a ≡ b) × (e ≡ f)
