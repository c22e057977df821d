-- Examples to each sentence of Q-7 (document 02), with the bytes that are told: `Hold examples`, which proofs/Examples has. Assumes nothing.
use Rattle.std.specs.Prelude.{◌≡◌, List, [], ◌∷◌, ◌++◌, ℕ, ◌<◌, length, Ok, Err}
use Prim.Native.String.{String as Literal}
use Rattle.token.specs.Words.{bytes_of}
use Rattle.token.specs.Tokens.{part_of}
use Rattle.heading.specs.Headings.{Heads}
use Rattle.heading.specs.Answered.{Answer, heading_at}
use Rattle.rows.specs.Refusing.{refusing}

-- The parts of a text that an answer tells.
unfoldable pub parts_told : List ℕ → Answer → List (List ℕ)
parts_told s (Ok h) = part_of s h.version_at h.version_len ∷ part_of s h.name_at h.name_len ∷ []
parts_told s (Err r) = []

-- A text, the answer to it, and the version and name that it tells.
pub record Example : Type 0 where
  pub text : Literal
  pub answer : Answer
  pub told : List Literal

unfoldable pub bytes_of_each : List Literal → List (List ℕ)
bytes_of_each [] = []
bytes_of_each (w ∷ ws) = bytes_of w ∷ bytes_of_each ws

pub record Holds (e : Example) : Type 0 where
  pub answers : Heads (bytes_of e.text) e.answer
  pub tells : parts_told (bytes_of e.text) e.answer ≡ bytes_of_each e.told

abbrev pub Hold : List Example → Type 0
Hold [] = Unit {0}
Hold (e ∷ es) = Holds e × Hold es

abbrev answered : Literal → (p n q m : ℕ) → Literal → Literal → Example
answered t p n q m v i = record { text = t; answer = heading_at p n q m; told = v ∷ i ∷ [] }

abbrev not_answered : Literal → (n p : ℕ) → Example
not_answered t n p = record { text = t; answer = refusing n p; told = [] }

abbrev pub examples : List Example
examples =
    -- "the version string, without its quotes, and implementation name", "through the brace": nothing stands after it
    answered "OIL_VERSION = \"2.5\" : \"d\"; IMPLEMENTATION TASK {" 15 3 42 4 "2.5" "TASK"
    -- "For a text that derives from the grammar the answer equals its version and name.": also where it says nothing
    ∷ answered "OIL_VERSION=\"\";IMPLEMENTATION m{};CPU c{};" 13 0 30 1 "" "m"
    -- "if the full reading's refusal 3, 4 or 5 lies at or before that brace": 3 and 4 before it
    ∷ not_answered "OIL_VERSION = # \"2.5\"; IMPLEMENTATION m {" 3 14
    ∷ not_answered "OIL_VERSION = \"2.5\"; IMPLEMENTATION AUTO {" 4 36
    -- "or there is none": another token, and the text's end
    ∷ not_answered "OIL_VERSION = \"2.5\"; IMPLEMENTATION m }" 4 38
    ∷ not_answered "OIL_VERSION = \"2.5\"; IMPLEMENTATION m " 4 38
    -- "otherwise the answer": a refusal 3, and one 4, after it
    ∷ answered "OIL_VERSION = \"2.5\"; IMPLEMENTATION m {#" 15 3 36 1 "2.5" "m"
    ∷ answered "OIL_VERSION = \"2.5\"; IMPLEMENTATION m { CPU" 15 3 36 1 "2.5" "m"
    -- "It never gives 6."
    ∷ answered "OIL_VERSION = \"2.4\"; IMPLEMENTATION m {" 15 3 36 1 "2.4" "m"
    ∷ []

-- The statement: `examples_hold` in proofs/Examples.
abbrev pub ExamplesHold : Type 0
ExamplesHold = Hold examples

-- "Refusal 2 comes first.": a heading stands in front.
abbrev pub LongText : Type 0
LongText = (b : List ℕ) → 65535 < length b → Heads (bytes_of "OIL_VERSION = \"2.5\"; IMPLEMENTATION m {" ++ b) (refusing 2 0)
