-- What the layers above rest on besides the steps: where the tokens of a text end, and what codes words and punctuators have.
-- Assumes nothing.
use Prim.Native.Nat.{ℕ, zero, suc, ◌+◌, ◌-◌}
use mathlib.Core.Path.{◌≡◌, refl, subst}
use mathlib.Core.List.{List}
use mathlib.Core.Bool.{Bool, true, false}
use lib.Dec.{eqb, ltb}
use lib.ListN.{length, take, drop}
use Rattle.token.specs.Find.{pick, byte}
use Rattle.token.specs.declared.scan.Class.{Class}
use Rattle.token.specs.declared.scan.Class.TheVariants.{Letter as letter, Digit as digit, Blank as blank, Sign as plus_minus, Quote as quote, Punctuator as punctuator, Dot as dot, Slash as slash, Other as other}
use Rattle.token.specs.Bytes.{class_of, pair_at, find_byte, word_end, is_dotted}
use Rattle.token.specs.Gaps.{skip}
use Rattle.token.specs.Words.{code_of}
use Rattle.token.specs.Numbers.{numeral}
use Rattle.token.specs.Floats.{mantissa_of, power_at}
use Rattle.token.specs.Tokens.{bytes_between, found, word_at, limit_of, number_of, whole_at, float_of, float_by, float_at, number_by, number_at, string_at, dots_at, token_of, token_at, after_skip, step_at}
use Rattle.token.specs.declared.Cursor.{Cursor}
use Rattle.token.specs.declared.Token.{Token}
use Rattle.token.specs.declared.Sort.{Sort}
use Rattle.token.specs.declared.Sort.TheVariants.{Word, Number, String, Punctuator, Float}
use Rattle.std.specs.Prelude.{Option, Some, None, Result, Ok, Err}
use Rattle.token.specs.declared.Power.{Power}
use Rattle.token.specs.Lexing.{Lexed, more, ended, refused, after_step, lex_n, lex_from}
use Rattle.token.specs.declared.Step.{Step}
use Rattle.token.specs.declared.Step.TheVariants.{Found, Refused, End}
use Rattle.token.proofs.Steps.{end_fits}

-- where the tokens come to an end, it is m
abbrev pub Ends : ℕ → Lexed → Type 0
Ends m (more t l) = Ends m l
Ends m (ended n) = n ≡ m
Ends m (refused p) = Unit {0}

ends_by : (s : List ℕ) (p : ℕ) (k : ℕ → Lexed) → ((q : ℕ) → Ends (length s) (k q)) → (r : Step) → step_at s p ≡ r → Ends (length s) (after_step r k)
ends_by s p k f (Found t c) e = f c.at
ends_by s p k f (Refused q) e = tt
ends_by s p k f (End n) e = end_fits s p n e

ends : (n : ℕ) (s : List ℕ) (p : ℕ) → Ends (length s) (lex_n n s p)
unfolding lex_n
ends zero s p = refl
ends (suc n) s p = ends_by s p (λ q. lex_n n s q) (λ q. ends n s q) (step_at s p) refl

-- the end that the tokens of a text come to is its length
pub lex_ends : (s : List ℕ) (p : ℕ) → Ends (length s) (lex_from s p)
unfolding lex_from
lex_ends s p = ends (suc (length s - p)) s p

-- the code of a word token is that of its bytes

abbrev pub CodeOk : Sort → List ℕ → Type 0
CodeOk (Word k) b = k ≡ code_of b
CodeOk (Number n m) b = Unit {0}
CodeOk String b = Unit {0}
CodeOk (Punctuator c) b = Unit {0}
CodeOk (Float n m k) b = Unit {0}

abbrev StepCode : List ℕ → Step → Type 0
StepCode s (Found t c) = CodeOk t.sort (take t.len (drop t.at s))
StepCode s (Refused p) = Unit {0}
StepCode s (End n) = Unit {0}

by_pick : (s : List ℕ) (b : Bool) (x y : Step) → StepCode s x → StepCode s y → StepCode s (pick b x y)
by_pick s true x y h k = h
by_pick s false x y h k = k

number_code : (s : List ℕ) (m : Bool) (a : Option ℕ) (p e : ℕ) → StepCode s (number_of m a p e)
unfolding found
number_code s m (Some n) p e = tt
number_code s m None p e = tt

float_code : (s : List ℕ) (m : Bool) (a : Option ℕ) (w : Option Power) (n p : ℕ) → StepCode s (float_of m a w n p)
unfolding found
float_code s m (Some a) (Some x) n p = tt
float_code s m (Some a) None n p = tt
float_code s m None x n p = tt

number_by_code : (s : List ℕ) (p q : ℕ) (b : Bool) → StepCode s (number_by b s p q)
unfolding number_by whole_at float_at float_by
number_by_code s p q true = float_code s (eqb (byte s p) 45) (mantissa_of _ _) (power_at s _ _) _ p
number_by_code s p q false = number_code s (eqb (byte s p) 45) (numeral (ltb p q) (limit_of (eqb (byte s p) 45)) (bytes_between s q (word_end s q))) p (word_end s q)

class_code : (s : List ℕ) (p : ℕ) (c : Class) → StepCode s (token_of c s p)
unfolding token_of word_at found number_at string_at dots_at
class_code s p letter = refl
class_code s p digit = number_by_code s p p (is_dotted s (word_end s p))
class_code s p blank = tt
class_code s p plus_minus = number_by_code s p (p + 1) (is_dotted s (word_end s (p + 1)))
class_code s p quote = by_pick s (ltb (find_byte 34 s (p + 1)) (length s)) _ (Refused p) tt tt
class_code s p punctuator = tt
class_code s p dot = by_pick s (pair_at s p 46 46) _ (Refused p) tt tt
class_code s p slash = tt
class_code s p other = tt

skip_code : (s : List ℕ) (k : Result ℕ ℕ) → StepCode s (after_skip s k)
unfolding token_at
skip_code s (Ok p) = by_pick s (ltb p (length s)) _ (End (length s)) (class_code s p (class_of (byte s p))) tt
skip_code s (Err p) = tt

step_code : (s : List ℕ) (p : ℕ) → StepCode s (step_at s p)
unfolding step_at
step_code s p = skip_code s (skip s p)

pub found_code : (s : List ℕ) (p : ℕ) (t : Token) (c : Cursor) → step_at s p ≡ Found t c → CodeOk t.sort (take t.len (drop t.at s))
found_code s p t c e = subst (StepCode s) e (step_code s p)
