-- The starred edges of document 01 over lent texts, each text lent alone with an empty name: document 02, Q-10, "so the edge `#` now gives 29"; the
-- others stay. Assumes nothing.
use Rattle.std.specs.Prelude.{List, [], ◌∷◌, ℕ}
use Prim.Native.String.{String as Literal}
use Rattle.token.specs.Words.{bytes_of}
use Rattle.meaning.specs.Answers.{Answer, accepted, refused}
use Rattle.meaning.specs.Edges.{worked_tables}
use Rattle.sources_reading.specs.Answering.{Answers, alone}

-- A text, and what the rules answer to it.
pub record LentEdge : Type 0 where
  pub text : Literal
  pub answer : Answer

abbrev refusing : Literal → (number place : ℕ) → LentEdge
refusing t n p = record { text = t; answer = refused n p }

abbrev pub lent_edges : List LentEdge
lent_edges =
    refusing "" 4 0
    ∷ refusing "}" 4 0
    ∷ refusing "007" 3 0
    ∷ refusing "#" 29 0
    ∷ refusing "/* x" 3 0
    ∷ refusing "OIL_VERSION = 2;" 4 14
    ∷ refusing "OIL_VERSION = \"2.5\"" 4 19
    ∷ refusing "OIL_VERSION = AUTO" 4 14
    ∷ refusing "18446744073709551615" 4 0
    ∷ refusing "18446744073709551616" 3 0
    ∷ record {
      text = "OIL_VERSION = \"2.5\";\nIMPLEMENTATION m { OS { BOOLEAN H = FALSE; }; TASK { UINT32 [1..0xff] STACKSIZE = 16; }; };\nCPU c { OS o; APPMODE a {}; TASK t { STACKSIZE = 0x20; }; };\n";
      answer = accepted worked_tables;
    }
    ∷ []

abbrev pub Hold : List LentEdge → Type 0
Hold [] = Unit {0}
Hold (e ∷ es) = Answers (bytes_of e.text) (alone (bytes_of e.text)) e.answer × Hold es

-- THE STATEMENT: each is answered so. proofs/LentEdges has it (`lent_edges_hold`).
abbrev pub LentEdgesHold : Type 0
LentEdgesHold = Hold lent_edges
