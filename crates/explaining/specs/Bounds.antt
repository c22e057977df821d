-- Which fault refusal 21 is given for at a place (document 02, Q-1: "21 for a bound or listed number outside its type or a low above its
-- high"): the number at the place lies outside its type, or else it is a low above its high. Assumes nothing.
use Rattle.std.specs.Prelude.{ℕ, Bool, not, List, eqb, leb}
use Rattle.token.specs.Find.{pick, both}
use Rattle.token.specs.Bytes.{between}
use Rattle.token.specs.Tokens.{step_at}
use Rattle.token.specs.Lexing.{Lexed, more, ended, refused, lex_from}
use Rattle.token.specs.declared.Sort.{Sort}
use Rattle.token.specs.declared.Sort.TheVariants.{Word, Number, String, Punctuator, Float}
use Rattle.meaning.specs.Actions.{num_of_step}
use Rattle.meaning.specs.Words.{in_type}
use Rattle.scopes.specs.Items.{integer_coded}

-- A type's word, WITH_AUTO or nothing, and then `[` and its numbers: the word of a number's type is the last one before it, except WITH_AUTO (5).
-- The code of the last such word: c before a token, and this after it.
unfoldable pub code_after : ℕ → Sort → ℕ
code_after c (Word n) = pick (eqb n 5) c n
code_after c (Number b n) = c
code_after c String = c
code_after c (Punctuator b) = c
code_after c (Float b m k) = c

-- Of those of the tokens that stand before the place p; c is that of the tokens before them.
unfoldable pub code_before : ℕ → ℕ → Lexed → ℕ
code_before p c (more t l) = let r = code_before p (code_after c t.sort) l in pick (leb p t.at) c r
code_before p c (ended n) = c
code_before p c (refused q) = c

-- The code of the type's word before the place p of a text.
unfoldable pub type_before : List ℕ → ℕ → ℕ
type_before s p = code_before p 0 (lex_from s 0)

-- The type is one of integers (35 to 38; a FLOAT has no bound of its own), and the number at the place lies outside it.
unfoldable pub outside_type : List ℕ → ℕ → Bool
outside_type s p = both (between 35 38 (type_before s p)) (not (in_type (integer_coded (type_before s p)) (num_of_step (step_at s p))))
