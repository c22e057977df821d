-- The starred edges of document 01 ("Edges to try"), "together as one table under one proved statement": `EdgesHold`, which proofs/Edges has
-- (`edges_hold`). Assumes nothing.
use Rattle.std.specs.Prelude.{◌≡◌, List, [], ◌∷◌, Bool, true, false, ℕ}
use Prim.Native.String.{String as Literal}
use Rattle.token.specs.Words.{bytes_of}
use Rattle.token.specs.Tokens.{step_at}
use Rattle.token.specs.declared.Sort.{Sort}
use Rattle.token.specs.declared.Sort.TheVariants.{Number, Punctuator, Word as WordToken}
use Rattle.token.specs.declared.Step.{Step}
use Rattle.token.specs.declared.Step.TheVariants.{Found, Refused, End}
use Rattle.grammar.specs.Grammar.{Kind, OS, APPMODE, TASK, UINT32}
use Rattle.meaning.specs.Syntax.{Span, AttributeType, integer, boolean}
use Rattle.meaning.specs.Defining.{DefinitionRow}
use Rattle.meaning.specs.Applying.{ObjectRow}
use Rattle.meaning.specs.Resolving.{Value, number, truth, Owner, of_object, ValueRow}
use Rattle.meaning.specs.Answers.{Tables, Answer, accepted, refused}
use Rattle.meaning.specs.Reading.{Answers, normal_text}

-- Short names of rows ------------------------------------------------------------------------------------------------------------------------

abbrev pub sp : ℕ → ℕ → Span
sp p n = record { place = p; length = n }

abbrev pub df : Span → Span → Span → Bool → Bool → Span → Span → AttributeType → DefinitionRow
df u n t l a r d y = record { under = u; name = n; type = t; list = l; auto = a; range = r; default = d; typed = y }

abbrev pub ob : Kind → Span → Span → Span → ObjectRow
ob k w n b = record { kind = k; word = w; name = n; block = b; parts = 1 }

abbrev pub va : ℕ → Owner → Value → Bool → Span → ValueRow
va d o v s w = record { definition = d; owner = o; value = v; stated = s; word = w }

-- The table ----------------------------------------------------------------------------------------------------------------------------------

-- A text; what the token reader finds at its start; what the rules answer to it; and its normal text where it is accepted.
pub record Edge : Type 0 where
  pub text : Literal
  pub first : Step
  pub answer : Answer
  pub normal : Literal

-- The token at 0 of n bytes, and the place after it.
abbrev pub a_token : Sort → ℕ → Step
a_token x n = Found (record { sort = x; at = 0; len = n }) (record { at = n })

-- A text that is refused.
abbrev pub refusing : Literal → Step → (number place : ℕ) → Edge
refusing t x n p = record { text = t; first = x; answer = refused n p; normal = "" }

-- The tables of "the text above", document 01's worked example.
abbrev pub worked_tables : Tables
worked_tables = record {
  definitions = (
      df (sp 40 2) (sp 53 1) (sp 45 7) false false (sp 0 0) (sp 57 5) boolean
      ∷ df (sp 67 4) (sp 91 9) (sp 74 6) false false (sp 81 9) (sp 103 2) (integer UINT32) ∷ []);
  enumerators = [];
  objects = (ob OS (sp 121 2) (sp 124 1) (sp 0 0) ∷ ob APPMODE (sp 127 7) (sp 135 1) (sp 137 2) ∷ ob TASK (sp 141 4) (sp 146 1) (sp 148 21) ∷ []);
  values = (
      va 0 (of_object 0) (truth false) false (sp 57 5)
      ∷ va 1 (of_object 2) (number (record { negative = false; amount = 32 })) true (sp 162 4) ∷ []);
  counts = (1 ∷ 1 ∷ 1 ∷ 0 ∷ 0 ∷ 0 ∷ 0 ∷ 0 ∷ 0 ∷ 0 ∷ 0 ∷ 0 ∷ 0 ∷ []);
}

-- `OIL_VERSION` is the known word 6, `}` the byte 125. "*18446744073709551615 is a token, *18446744073709551616 none": the first is the token of
-- that number, with which no text begins, so 4; at the second there is no token, so 3.
abbrev pub starred : List Edge
starred =
    refusing "" (End 0) 4 0
    ∷ refusing "}" (a_token (Punctuator 125) 1) 4 0
    ∷ refusing "007" (Refused 0) 3 0
    ∷ refusing "#" (Refused 0) 3 0
    ∷ refusing "/* x" (Refused 0) 3 0
    ∷ refusing "OIL_VERSION = 2;" (a_token (WordToken 6) 11) 4 14
    ∷ refusing "OIL_VERSION = \"2.5\"" (a_token (WordToken 6) 11) 4 19
    ∷ refusing "OIL_VERSION = AUTO" (a_token (WordToken 6) 11) 4 14
    ∷ refusing "18446744073709551615" (a_token (Number false 18446744073709551615) 20) 4 0
    ∷ refusing "18446744073709551616" (Refused 0) 3 0
    ∷ record {
      text = "OIL_VERSION = \"2.5\";\nIMPLEMENTATION m { OS { BOOLEAN H = FALSE; }; TASK { UINT32 [1..0xff] STACKSIZE = 16; }; };\nCPU c { OS o; APPMODE a {}; TASK t { STACKSIZE = 0x20; }; };\n";
      first = a_token (WordToken 6) 11;
      answer = accepted worked_tables;
      normal = "OIL_VERSION = \"2.5\";\nIMPLEMENTATION m { OS { BOOLEAN H = FALSE; }; TASK { UINT32 [1..0xff] STACKSIZE = 16; }; };\nCPU c {\nOS o {\nH = FALSE;\n};\nAPPMODE a {\n};\nTASK t {\nSTACKSIZE = 32;\n};\n};\n";
    }
    ∷ []

-- Each text of a table begins so, is answered so by the rules, and has that normal text.
pub record Holds (e : Edge) : Type 0 where
  pub first : step_at (bytes_of e.text) 0 ≡ e.first
  pub answer : Answers (bytes_of e.text) e.answer
  pub normal : normal_text (bytes_of e.text) ≡ bytes_of e.normal

abbrev pub Hold : List Edge → Type 0
Hold [] = Unit {0}
Hold (e ∷ es) = Holds e × Hold es

-- THE STATEMENT.
abbrev pub EdgesHold : Type 0
EdgesHold = Hold starred
