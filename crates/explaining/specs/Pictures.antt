-- The two lines that show a place: the part of its line, and the mark under the token there.
-- Assumes nothing.
use Rattle.std.specs.Prelude.{ℕ, ◌+◌, ◌-◌, min, ◌≡◌, List, [], ◌∷◌, ◌++◌, map, length, take, eqb}
use Rattle.std.proofs.lemmas.List.Edits.{sets}
use Rattle.token.specs.Tokens.{bytes_between, part_of}
use Rattle.token.specs.Find.{pick}
use Rattle.token.specs.Bytes.{between}
use Rattle.explaining.specs.declared.View.{View}
use Rattle.explaining.specs.declared.Ink.{Ink}
use Rattle.explaining.specs.declared.Ink.TheVariants.{Shown, Before, Marked}
use Rattle.explaining.specs.declared.Explained.{Explained}
use Rattle.explaining.specs.Places.{within, line_of, column_of, token_end}
use Rattle.explaining.specs.Windows.{view_of}

-- a byte as it is shown: a tab and printable ASCII as they are, any other as `?`
unfoldable pub shown_byte : ℕ → ℕ
shown_byte b = pick (eqb b 9) 9 (pick (between 32 126 b) b 63)

-- what stands under a byte: a tab under a tab, else a sign
unfoldable pub under_byte : ℕ → ℕ → ℕ
under_byte c b = pick (eqb b 9) 9 c

-- a byte in the line shown; under it, before the mark a space, and in it after its first sign `~`
unfoldable pub drawn : Ink → ℕ → ℕ
drawn Shown b = shown_byte b
drawn Before b = under_byte 32 b
drawn Marked b = under_byte 126 b

-- three dots, or none
unfoldable pub dots : ℕ → List ℕ
dots n = take n (46 ∷ 46 ∷ 46 ∷ [])

-- the bytes of the view, with its dots
unfoldable pub line_bytes : List ℕ → View → List ℕ
line_bytes s v = dots v.front ++ bytes_between s v.from v.to ++ dots v.behind

-- those before the place
unfoldable pub mark_bytes : List ℕ → View → List ℕ
mark_bytes s v = dots v.front ++ bytes_between s v.from v.at

-- how many bytes of the token that ends at e are shown after the one at the place
unfoldable pub marked : View → ℕ → ℕ
marked v e = min e v.to - (v.at + 1)

-- the line shown, with LF
unfoldable pub shown_line : List ℕ → View → List ℕ
shown_line s v = map (drawn Shown) (line_bytes s v) ++ 10 ∷ []

-- the mark's line: `^` under the place, `~` under what is shown of the token that ends at e, and LF
unfoldable pub mark_line : List ℕ → View → ℕ → List ℕ
mark_line s v e = map (drawn Before) (mark_bytes s v) ++ (94 ∷ []) ++ map (drawn Marked) (part_of s (v.at + 1) (marked v e)) ++ (10 ∷ [])

-- both lines for a place of a text
unfoldable pub picture : List ℕ → ℕ → List ℕ
picture s p = shown_line s (view_of s p) ++ mark_line s (view_of s p) (token_end s p)

-- what is told of a place: its line and column, and the picture, from the start of the lent bytes as far as they reach
pub record Explains (s : List ℕ) (p : ℕ) (out done : List ℕ) (r : Explained) : Type 0 where
  pub line : r.line ≡ line_of s (within s p)
  pub column : r.column ≡ column_of s (within s p)
  pub first : r.shown ≡ length (shown_line s (view_of s (within s p)))
  pub long : r.len ≡ length (picture s (within s p))
  pub cells : done ≡ sets out 0 (picture s (within s p))
