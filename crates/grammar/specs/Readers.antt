-- The contracts of the inner readers: looks, and what a reader of a form does. The rules do not name them. Assumes nothing.
use Rattle.std.specs.Prelude.{◌≡◌, List, [], ◌∷◌, ◌++◌, Bool, true, false, ℕ, suc, ◌+◌, ◌-◌, ◌≤◌, length, get_or, ltb, leb, eqb, Ok, Err}
use Rattle.token.specs.Find.{pick, both, either}
use Rattle.token.specs.Tokens.{step_at}
use Rattle.token.specs.Lexing.{lex_from, Lexed, more as found, ended as done, refused as none}
use Rattle.token.specs.declared.Sort.{Sort as TokenSort}
use Rattle.token.specs.declared.Sort.TheVariants.{Word, Number, String, Punctuator, Float}
use Rattle.token.specs.declared.Step.{Step}
use Rattle.token.specs.declared.Step.TheVariants.{Found, Refused, End}
use Rattle.grammar.specs.Grammar.{Form, Symbol, Class, Token, Trees, tokens, matches, name, numeral, quoted, floating, other, sign, lbrace, rbrace, lsquare, rsquare, equals, semicolon, colon, comma, dots, Sort, integers, strings, booleans, enums, floats}
use Rattle.grammar.specs.Terminals.{words, token_of}
use Rattle.grammar.specs.Factored.{Symbols, lift, ◌⟹◌}
use Rattle.grammar.specs.Machine.{Stream, ended, bad, ◌▹◌, prepend, run}
use Rattle.grammar.specs.declared.Look.{Look}
use Rattle.grammar.specs.declared.parts.Sort.{Sort as Of}
use Rattle.grammar.specs.declared.parts.Sort.TheVariants.{Integer, Text, Truth, Enumerator, Float as OfFloat}
use Rattle.grammar.specs.Answered.{Answer}
use Rattle.grammar.specs.declared.Refusal.TheVariants.{NoToken, NotAdmitted, TooDeep}

-- Codes ------------------------------------------------------------------------------------------------------------------------------

-- A token's code: a word's own, 43 for a number, 44 for a string, 45 to 53 for the punctuators, 54 for a float, 55 for any other token.
unfoldable pub punctuator_code : ℕ → ℕ
punctuator_code b =
    pick (eqb b 123) 45 (pick (eqb b 125) 46 (pick (eqb b 91) 47 (pick (eqb b 93) 48 (pick (eqb b 61) 49 (pick (eqb b 59) 50 (pick (eqb b 58) 51
    (pick (eqb b 44) 52 (pick (eqb b 46) 53 55))))))))

unfoldable pub code_of : TokenSort → ℕ
unfolding punctuator_code
code_of (Word c) = pick (ltb c 43) c 55
code_of (Number n m) = 43
code_of String = 44
code_of (Punctuator b) = punctuator_code b
code_of (Float n m k) = 54

-- The class of each code.
abbrev pub others : List Class
others =
    numeral ∷ quoted ∷ sign lbrace ∷ sign rbrace ∷ sign lsquare ∷ sign rsquare ∷ sign equals ∷ sign semicolon ∷ sign colon ∷ sign comma ∷ sign dots ∷ floating ∷ []

abbrev pub classes : List Class
classes = words ++ others

unfoldable pub class_at : ℕ → Class
class_at n = get_or classes n other

-- The text from a place on, as the machine takes it.
unfoldable pub stream_of : Lexed → Stream
stream_of (found t l) = token_of t ▹ stream_of l
stream_of (done n) = ended n
stream_of (none p) = bad p

unfoldable pub lex_at : List ℕ → ℕ → Stream
unfolding stream_of
lex_at s p = stream_of (lex_from s p)

-- Looks ------------------------------------------------------------------------------------------------------------------------------

-- What is seen at a place, with d braces open.
unfoldable pub look_of : Step → ℕ → Look
unfolding code_of
look_of (Found t c) d = record { code = code_of t.sort; at = t.at; next = c.at; depth = d }
look_of (Refused p) d = record { code = 59; at = p; next = p; depth = d }
look_of (End n) d = record { code = 56; at = n; next = n; depth = d }

unfoldable pub look_at : List ℕ → ℕ → ℕ → Look
unfolding look_of
look_at s p d = look_of (step_at s p) d

-- Refusal n at the place of a look.
abbrev pub stop : ℕ → Look → Look
stop n a = record { code = 56 + n; at = a.at; next = a.next; depth = a.depth }

unfoldable pub advanced : List ℕ → Look → Look
unfolding look_at
advanced s a =
    pick (eqb a.code 45)
    (pick (ltb a.depth 16) (look_at s a.next (a.depth + 1)) (stop 5 a))
    (pick (eqb a.code 46) (look_at s a.next (a.depth - 1)) (look_at s a.next a.depth))

unfoldable pub refusal : Look → Look
refusal a = pick (leb a.code 56) (stop 4 a) a

unfoldable pub expected : List ℕ → Look → ℕ → Look
unfolding advanced refusal
expected s a m = pick (eqb a.code m) (advanced s a) (refusal a)

unfoldable pub between : ℕ → ℕ → ℕ → Bool
between low n high = both (leb low n) (leb n high)

-- The sorts of attributes as the code names them, and whether a code is the own form of a default.
unfoldable pub sort_at : Of → Sort
sort_at Integer = integers
sort_at Text = strings
sort_at Truth = booleans
sort_at Enumerator = enums
sort_at OfFloat = floats

-- The sorts of attributes by number.
unfoldable pub sort_numbered : ℕ → Sort
sort_numbered n = pick (eqb n 0) integers (pick (eqb n 1) strings (pick (eqb n 2) booleans (pick (eqb n 4) floats enums)))

unfoldable pub fitting : Sort → ℕ → Bool
unfolding matches class_at
fitting integers n = eqb n 43
fitting strings n = eqb n 44
fitting booleans n = either (eqb n 1) (eqb n 2)
fitting enums n = matches name (class_at n)
fitting floats n = eqb n 54

-- A refusal by its code: 59, 60, 61 for 3, 4, 5.
unfoldable pub refusal_of : ℕ → ℕ → Answer
refusal_of n p = pick (eqb n 59) (Err (NoToken p)) (pick (eqb n 60) (Err (NotAdmitted p)) (Err (TooDeep p)))

-- The answer at the look after the file.
unfoldable pub answer_of : Look → Answer
unfolding refusal_of
answer_of a = pick (eqb a.code 56) (Ok tt) (pick (ltb a.code 56) (Err (NotAdmitted a.at)) (refusal_of a.code a.at))

-- The token that is seen.
unfoldable pub seen : Look → Token
unfolding class_at
seen a = record { class = class_at a.code; place = a.at; length = a.next - a.at }

-- The answer of a reading that has come to the look a, with the symbols k still to be read.
unfoldable pub on_by : Bool → Bool → List ℕ → Look → Symbols → Answer
unfolding seen lex_at run refusal_of
on_by true e s a k = run a.depth k (seen a ▹ lex_at s a.next)
on_by false true s a k = run a.depth k (ended a.at)
on_by false false s a k = refusal_of a.code a.at

unfoldable pub on : List ℕ → Look → Symbols → Answer
unfolding on_by
on s a k = on_by (ltb a.code 56) (eqb a.code 56) s a k

-- The bytes that are left, and one.
unfoldable pub left : List ℕ → Look → ℕ
left s a = pick (ltb a.code 56) (suc (length s - a.next)) 0

-- The tokens from a look on that is no refusal.
unfoldable pub rest_by : Bool → List ℕ → Look → Stream
unfolding seen lex_at
rest_by true s a = seen a ▹ lex_at s a.next
rest_by false s a = ended a.at

unfoldable pub rest : List ℕ → Look → Stream
unfolding rest_by
rest s a = rest_by (ltb a.code 56) s a

-- The tokens of u before v are those of trees of the form f.
pub record Took {N : Type 0} (G : N → List (Symbol N) → Type 0) (f : List (Symbol N)) (u v : Stream) : Type 0 where
  pub took : Trees G f
  pub split : u ≡ prepend (tokens took) v

-- THE CONTRACT of a reader of f, from the look a to the look b: whatever is to be read after f. It goes on by e tokens or more.
pub record Reads (e : ℕ) (f : Symbols) (s : List ℕ) (a b : Look) : Type 0 where
  pub reads : (k : Symbols) → on s a (f ++ k) ≡ on s b k
  pub falls : left s b ≤ left s a - e
  -- where it ends in no refusal it began in none, and what it took are trees of f
  pub took : b.code ≤ 56 → (a.code ≤ 56) × Took ◌⟹◌ f (rest s a) (rest s b)

-- of a form of document 01
abbrev pub Meets : ℕ → Form → List ℕ → Look → Look → Type 0
Meets e f s a b = Reads e (lift f) s a b
