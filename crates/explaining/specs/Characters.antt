-- Characters: bytes that are UTF-8 are so many characters, others so many bytes.
-- Assumes nothing.
use Rattle.std.specs.Prelude.{ℕ, ◌+◌, List, [], ◌∷◌, length, eqb, ltb}
use Rattle.token.specs.Find.{pick}
use Rattle.token.specs.Bytes.{between}

-- Unicode, table 3-7, "Well-Formed UTF-8 Byte Sequences", as states: 0 between two characters; 1, 2 and 3 where so many bytes from 80 to BF are to come;
-- 4 after E0 and 5 after ED, of three bytes; 6 after F0 and 7 after F4, of four bytes; 8 where the bytes are not UTF-8.

-- The state after the first byte of a character: 00..7F are whole; C2..DF, E0, E1..EC, ED, EE..EF, F0, F1..F3 and F4 begin longer ones.
unfoldable pub begun_by : ℕ → ℕ
begun_by b =
    pick (ltb b 128) 0 (pick (ltb b 194) 8 (pick (ltb b 224) 1 (pick (ltb b 225) 4 (pick (ltb b 237) 2
    (pick (ltb b 238) 5 (pick (ltb b 240) 2 (pick (ltb b 241) 6 (pick (ltb b 244) 3 (pick (ltb b 245) 7 8)))))))))

-- The bytes that go on: A0..BF after E0, 80..9F after ED, 90..BF after F0, 80..8F after F4, else 80..BF.
unfoldable pub lowest_in : ℕ → ℕ
lowest_in k = pick (eqb k 4) 160 (pick (eqb k 6) 144 128)

unfoldable pub highest_in : ℕ → ℕ
highest_in k = pick (eqb k 5) 159 (pick (eqb k 7) 143 191)

-- The state after such a byte.
unfoldable pub rest_of : ℕ → ℕ
rest_of k = pick (ltb k 2) 0 (pick (eqb k 2) 1 (pick (eqb k 3) 2 (pick (ltb k 6) 1 2)))

-- The state after a byte.
unfoldable pub state_after : ℕ → ℕ → ℕ
state_after k b = pick (eqb k 0) (begun_by b) (pick (eqb k 8) 8 (pick (between (lowest_in k) (highest_in k) b) (rest_of k) 8))

unfoldable pub state_of : ℕ → List ℕ → ℕ
state_of k [] = k
state_of k (b ∷ s) = state_of (state_after k b) s

-- 1 for a byte that begins a character, 0 for one from 80 to BF.
unfoldable pub start_of : ℕ → ℕ
start_of b = pick (ltb b 128) 1 (pick (ltb b 192) 0 1)

unfoldable pub starts : List ℕ → ℕ
starts [] = 0
starts (b ∷ s) = start_of b + starts s

-- How many characters the bytes are, if they are UTF-8; else how many bytes.
unfoldable pub characters : List ℕ → ℕ
characters s = pick (eqb (state_of 0 s) 0) (starts s) (length s)
