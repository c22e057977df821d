-- Document 01's starred edges, as far as the stage goes, and more: one table of texts with their answers. Assumes nothing.
use Prim.Native.String.{String}
use mathlib.Core.Path.{◌≡◌, refl, subst}
use mathlib.Core.List.{List, [], ◌∷◌}
use Rattle.token.specs.Find.{first_of, find}
use Rattle.token.specs.Bytes.{class_of, is_word_byte, word_end, find_byte, pair_at, find_close, is_dotted, find_mark, is_signed}
use Rattle.token.specs.Gaps.{comment_at, gap_of, gap_at, skip_n, skip}
use Rattle.token.specs.Words.{bytes_of, same, code_in, code_of}
use Rattle.token.specs.Numbers.{digit_of, value_after, at_most, digits_after, numeral}
use Rattle.token.specs.Floats.{some_digits, digits_behind, mantissa_of, power_of, power_at, scale_of}
use Rattle.token.specs.Tokens.{found, word_at, limit_of, is_negative, whole_at, float_by, float_at, number_by, number_at, string_at, dots_at, token_of, token_at, step_at}
use Rattle.token.specs.Lexing.{lex_n, lex_from}
use Rattle.grammar.specs.Terminals.{sign_of, class_of as classOfToken, token_of as tokenOfToken}
use Rattle.grammar.specs.Stage.{Answers}
use Rattle.grammar.specs.Machine.{run}
use Rattle.grammar.specs.Readers.{lex_at}
use Rattle.grammar.specs.Answered.{Answer}
use Rattle.std.specs.Prelude.{Ok, Err}
use Rattle.grammar.specs.declared.Refusal.TheVariants.{NoToken, NotAdmitted, TooDeep}
use Rattle.grammar.proofs.Answering.{answer_to, answer_to_lem}

pub record Edge : Type 0 where
  pub text : String
  pub result : Answer

abbrev pub edges : List Edge
edges =
    record { text = ""; result = Err (NotAdmitted 0) } ∷
    record { text = "}"; result = Err (NotAdmitted 0) } ∷
    record { text = "007"; result = Err (NoToken 0) } ∷
    record { text = "#"; result = Err (NoToken 0) } ∷
    record { text = "/* x"; result = Err (NoToken 0) } ∷
    record { text = "OIL_VERSION = 2;"; result = Err (NotAdmitted 14) } ∷
    record { text = "OIL_VERSION = \"2.5\""; result = Err (NotAdmitted 19) } ∷
    record { text = "OIL_VERSION = AUTO"; result = Err (NotAdmitted 14) } ∷
    record { text = "18446744073709551615"; result = Err (NotAdmitted 0) } ∷
    record { text = "18446744073709551616"; result = Err (NoToken 0) } ∷
    record { text = "OIL_VERSION = \"2.5\";\nIMPLEMENTATION m { OS { BOOLEAN H = FALSE; }; TASK { UINT32 [1..0xff] STACKSIZE = 16; }; };\nCPU c { OS o; APPMODE a {}; TASK t { STACKSIZE = 0x20; }; };\n"; result = Ok tt } ∷
    record { text = "OIL_VERSION=\"\";IMPLEMENTATION m{};CPU c{OS o{a=a{a=a{a=a{a=a{a=a{a=a{a=a{a=a{a=a{a=a{a=a{a=a{a=a{a=a{};};};};};};};};};};};};};};};};"; result = Ok tt } ∷
    record { text = "OIL_VERSION=\"\";IMPLEMENTATION m{};CPU c{OS o{a=a{a=a{a=a{a=a{a=a{a=a{a=a{a=a{a=a{a=a{a=a{a=a{a=a{a=a{a=a{"; result = Err (TooDeep 104) } ∷
    -- floats (document 02, Q-4)
    record { text = "OIL_VERSION=\"\";IMPLEMENTATION m{OS{FLOAT WITH_AUTO[0.5..1.5e1]F[]=1.0;};};CPU c{OS o{F=1.5;};};"; result = Ok tt } ∷
    record { text = "OIL_VERSION=\"\";IMPLEMENTATION m{OS{FLOAT FLOAT=AUTO;};};CPU c{OS o{FLOAT=1;};};"; result = Ok tt } ∷
    record { text = "OIL_VERSION=\"\";IMPLEMENTATION m{OS{FLOAT[1..2.5]F;};};CPU c{OS o{};};"; result = Err (NotAdmitted 41) } ∷
    record { text = "OIL_VERSION=\"\";IMPLEMENTATION m{OS{FLOAT[1.5,2.5]F;};};CPU c{OS o{};};"; result = Err (NotAdmitted 44) } ∷
    record { text = "OIL_VERSION=\"\";IMPLEMENTATION m{OS{FLOAT F=1;};};CPU c{OS o{};};"; result = Err (NotAdmitted 43) } ∷
    record { text = "OIL_VERSION=\"\";IMPLEMENTATION m{OS{UINT32 F=1.5;};};CPU c{OS o{};};"; result = Err (NotAdmitted 44) } ∷
    record { text = "OIL_VERSION=\"\";IMPLEMENTATION m{OS{UINT32[1..1.5]F;};};CPU c{OS o{};};"; result = Err (NotAdmitted 45) } ∷
    record { text = "OIL_VERSION=\"\";IMPLEMENTATION m{OS{FLOAT F;};};CPU c{OS o{F=1.5{};};};"; result = Err (NotAdmitted 63) } ∷
    []

abbrev Computed : List Edge → Type 0
Computed [] = Unit {0}
Computed (e ∷ es) = (answer_to (bytes_of e.text) ≡ e.result) × Computed es

computed : Computed edges
unfolding lex_at run classOfToken tokenOfToken sign_of lex_from lex_n step_at skip skip_n gap_at gap_of comment_at find_byte find_close pair_at find first_of class_of is_word_byte word_end code_of code_in same digit_of value_after at_most digits_after numeral found word_at limit_of is_negative whole_at is_dotted find_mark is_signed some_digits digits_behind mantissa_of power_of power_at scale_of float_by float_at number_by number_at string_at dots_at token_of token_at
computed = (refl, (refl, (refl, (refl, (refl, (refl, (refl, (refl, (refl, (refl, (refl, (refl, (refl, (refl, (refl, (refl, (refl, (refl, (refl, (refl, (refl, tt)))))))))))))))))))))

abbrev pub Hold : List Edge → Type 0
Hold [] = Unit {0}
Hold (e ∷ es) = Answers (bytes_of e.text) e.result × Hold es

hold : (es : List Edge) → Computed es → Hold es
hold [] c = tt
hold (e ∷ es) c = (subst (Answers (bytes_of e.text)) c.0 (answer_to_lem (bytes_of e.text)), hold es c.1)

-- Each text of the table has its answer.
pub edges_hold : Hold edges
edges_hold = hold edges computed
