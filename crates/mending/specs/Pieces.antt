-- The text without the statements that are dropped, the places of its bytes, and the lines that tell what was dropped (document 02, Q-11).
-- Assumes nothing.
use Rattle.std.specs.Prelude.{List, [], ◌∷◌, ◌++◌, false, ℕ, zero, suc, ◌+◌, ◌-◌, ◌/◌, ◌%◌, length, get_or, ltb, eqb}
use Rattle.token.specs.Find.{pick, byte}
use Rattle.token.specs.Words.{bytes_of}
use Rattle.meaning.specs.Words.{choose}
use Rattle.meaning.specs.Normal.{decimal}
use Rattle.dropping.specs.Drops.{Drop}
use Rattle.mending.specs.Ends.{end_of}

-- What is dropped: the place of the statement's name, its length "from its name through its semicolon", and the number of its fault.
pub record Dropped : Type 0 where
  pub place : ℕ
  pub length : ℕ
  pub number : ℕ

-- A piece of the text: a byte that is kept, by its place, or what is dropped.
pub data Piece : Type 0 where
  keeps : ℕ → Piece
  drops : Dropped → Piece

-- The piece at p, where the number of the drop there is n, and 0 says that there is none.
unfoldable pub piece_at : ℕ → List ℕ → ℕ → Piece
piece_at zero s p = keeps p
piece_at (suc n) s p = drops (record { place = p; length = end_of s p - p; number = suc n })

-- The place after it.
unfoldable pub next_place : ℕ → List ℕ → ℕ → ℕ
next_place zero s p = p + 1
next_place (suc n) s p = end_of s p

-- At most n pieces from p on, by the number of the drop at each place; the text has z bytes.
unfoldable pub pieces_in : ℕ → List ℕ → ℕ → (ℕ → ℕ) → ℕ → List Piece
pieces_in zero s z m p = []
pieces_in (suc n) s z m p = choose (ltb p z) (λ _. let k = m p in piece_at k s p ∷ pieces_in n s z m (next_place k s p)) (λ _. [])

-- All pieces from p on, in text order.
unfoldable pub pieces : List ℕ → (ℕ → ℕ) → ℕ → List Piece
pieces s m p = let z = length s in pieces_in (z - p) s z m p

-- The places of the bytes that are kept, and what is dropped.
unfoldable pub kept_of : List Piece → List ℕ
kept_of [] = []
kept_of (keeps p ∷ ps) = p ∷ kept_of ps
kept_of (drops x ∷ ps) = kept_of ps

unfoldable pub dropped_of : List Piece → List Dropped
dropped_of [] = []
dropped_of (keeps p ∷ ps) = dropped_of ps
dropped_of (drops x ∷ ps) = x ∷ dropped_of ps

-- The bytes at places.
unfoldable pub bytes_at : List ℕ → List ℕ → List ℕ
bytes_at s [] = []
bytes_at s (p ∷ ps) = byte s p ∷ bytes_at s ps

-- A number in decimal digits, and what stands after it.
unfoldable pub field : ℕ → List ℕ → List ℕ
field n after = decimal (record { negative = false; amount = n }) ++ after

-- "place, length, number, by tabs", where a place is "a text number, from 0, and a byte" (Q-10): the origin o of the name's first byte is the text's
-- number times 65,536, and the byte.
unfoldable pub line : (o length number : ℕ) → List ℕ
line o n k = field (o / 65536) (bytes_of "\t") ++ (field (o % 65536) (bytes_of "\t") ++ (field n (bytes_of "\t") ++ field k (bytes_of "\n")))

-- "one line for each drop in text order", where the origins of the text's bytes are g.
unfoldable pub lines : List ℕ → List Dropped → List ℕ
lines g [] = []
lines g (x ∷ xs) = line (get_or g x.place 0) x.length x.number ++ lines g xs

-- By the drops -----------------------------------------------------------------------------------------------------------------------------

-- The number of the drop at a place, else n.
unfoldable pub number_or : ℕ → List Drop → ℕ → ℕ
number_or n [] p = n
number_or n (x ∷ xs) p = number_or (pick (eqb p x.place) x.number n) xs p

-- The number of the drop at a place, 0 where there is none.
unfoldable pub number_at : List Drop → ℕ → ℕ
number_at ds p = number_or 0 ds p

-- The places of the bytes that are kept, in order.
unfoldable pub kept : List ℕ → List Drop → List ℕ
kept s ds = kept_of (pieces s (number_at ds) 0)

-- What is dropped, in text order.
unfoldable pub dropped : List ℕ → List Drop → List Dropped
dropped s ds = dropped_of (pieces s (number_at ds) 0)

-- "drop each statement .., from its name through its semicolon, and change no other byte": the mended text.
unfoldable pub mended : List ℕ → List Drop → List ℕ
mended s ds = bytes_at s (kept s ds)

-- "its place in the original": of place p of the mended text; the text's end for that of the mended text.
unfoldable pub back : List ℕ → List Drop → ℕ → ℕ
back s ds p = get_or (kept s ds) p (length s)
