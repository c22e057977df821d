-- How a token of the text becomes a token of the grammar: the one place where the two layers meet. Assumes nothing.
use Rattle.std.specs.Prelude.{ℕ, List, [], ◌∷◌, eqb, get_or}
use Rattle.token.specs.Find.{pick}
use Rattle.token.specs.Lexing.{lex_from, Lexed, more, ended, refused}
use Rattle.token.specs.declared.Sort.{Sort}
use Rattle.token.specs.declared.Sort.TheVariants.{Word, Number, String, Punctuator, Float}
use Rattle.token.specs.declared.Token.{Token as Lexeme}
use Rattle.grammar.specs.Grammar.{Class, Token, ordinary, numeral, quoted, floating, other, kind_word, type_word, integer_word, word, sign, OS, APPMODE, TASK, ISR, COUNTER, ALARM, RESOURCE, EVENT, COM, MESSAGE, NETWORKMESSAGE, IPDU, NM, UINT32, INT32, UINT64, INT64, OIL-VERSION, IMPLEMENTATION, CPU, STRING, BOOLEAN, ENUM, FLOAT, TRUE, FALSE, AUTO, NO-DEFAULT, WITH-AUTO, lbrace, rbrace, lsquare, rsquare, equals, semicolon, colon, comma, dots}

-- a word's class by its code: the known words in the order of their codes; the code 0 is any other word's
abbrev pub words : List Class
words =
    ordinary
    ∷ word TRUE ∷ word FALSE ∷ word AUTO ∷ word NO-DEFAULT ∷ word WITH-AUTO
    ∷ word OIL-VERSION ∷ word IMPLEMENTATION ∷ word CPU
    ∷ kind_word OS ∷ kind_word APPMODE ∷ kind_word TASK ∷ kind_word ISR ∷ kind_word COUNTER ∷ kind_word ALARM ∷ kind_word RESOURCE
    ∷ kind_word EVENT ∷ kind_word COM ∷ kind_word MESSAGE ∷ kind_word NETWORKMESSAGE ∷ kind_word IPDU ∷ kind_word NM
    ∷ type_word OS ∷ type_word APPMODE ∷ type_word TASK ∷ type_word ISR ∷ type_word COUNTER ∷ type_word ALARM ∷ type_word RESOURCE
    ∷ type_word EVENT ∷ type_word COM ∷ type_word MESSAGE ∷ type_word NETWORKMESSAGE ∷ type_word IPDU ∷ type_word NM
    ∷ integer_word UINT32 ∷ integer_word INT32 ∷ integer_word UINT64 ∷ integer_word INT64 ∷ word STRING ∷ word BOOLEAN ∷ word ENUM ∷ word FLOAT ∷ []

-- a punctuator's class by its byte; `..` has the byte of `.`
unfoldable pub sign_of : ℕ → Class
sign_of b =
    pick (eqb b 123) (sign lbrace) (pick (eqb b 125) (sign rbrace) (pick (eqb b 91) (sign lsquare) (pick (eqb b 93) (sign rsquare)
    (pick (eqb b 61) (sign equals) (pick (eqb b 59) (sign semicolon) (pick (eqb b 58) (sign colon) (pick (eqb b 44) (sign comma)
    (pick (eqb b 46) (sign dots) other))))))))

unfoldable pub class_of : Sort → Class
class_of (Word c) = get_or words c other
class_of (Number n m) = numeral
class_of String = quoted
class_of (Punctuator b) = sign_of b
class_of (Float n m k) = floating

unfoldable pub token_of : Lexeme → Token
token_of t = record { class = class_of t.sort; place = t.at; length = t.len }

unfoldable pub tokens_in : Lexed → List Token
tokens_in (more t l) = token_of t ∷ tokens_in l
tokens_in (ended n) = []
tokens_in (refused p) = []

-- the tokens of a text: all of them, or those before the place of refusal 3
unfoldable pub tokens : List ℕ → List Token
tokens s = tokens_in (lex_from s 0)
