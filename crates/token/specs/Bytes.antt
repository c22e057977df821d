-- The bytes that document 01, section "Tokens", names, and where runs of them end.
-- Assumes nothing.
use Rattle.std.specs.Prelude.{ℕ, ◌+◌, Bool, not, List, length, leb, ltb, eqb}
use Rattle.token.specs.Find.{pick, both, either, byte, find}
use Rattle.token.specs.declared.scan.Class.{Class}
use Rattle.token.specs.declared.scan.Class.TheVariants.{Letter as letter, Digit as digit, Blank as blank, Sign as plus_minus, Quote as quote, Punctuator as punctuator, Dot as dot, Slash as slash, Other as other}

abbrev pub between : ℕ → ℕ → ℕ → Bool
between lo hi b = both (leb lo b) (leb b hi)

-- "an ASCII letter or underscore"
abbrev pub is_letter : ℕ → Bool
is_letter b = either (between 65 90 b) (either (between 97 122 b) (eqb b 95))

-- "digits"
abbrev pub is_digit : ℕ → Bool
is_digit b = between 48 57 b

-- "Space, tab, CR, LF, VT, FF": tab, LF, VT, FF and CR are 9 to 13
abbrev pub is_blank : ℕ → Bool
is_blank b = either (between 9 13 b) (eqb b 32)

-- "an optional sign (`+` or `-`)"
abbrev pub is_plus_minus : ℕ → Bool
is_plus_minus b = either (eqb b 43) (eqb b 45)

-- Q-4: "e or E"
abbrev pub is_exponent_mark : ℕ → Bool
is_exponent_mark b = either (eqb b 69) (eqb b 101)

-- "`{ } [ ] = ; : ,`"
abbrev pub is_punctuator : ℕ → Bool
is_punctuator b =
    either (either (eqb b 123) (eqb b 125))
    (either (either (eqb b 91) (eqb b 93)) (either (either (eqb b 61) (eqb b 59)) (either (eqb b 58) (eqb b 44))))

-- what a byte can begin, by the rules of "Tokens"
unfoldable pub class_of : ℕ → Class
class_of b =
    pick (is_letter b) letter
    (pick (is_digit b) digit
    (pick (is_blank b) blank
    (pick (is_plus_minus b) plus_minus
    (pick (eqb b 34) quote (pick (is_punctuator b) punctuator (pick (eqb b 46) dot (pick (eqb b 47) slash other)))))))

-- "letters, digits, underscores"
unfoldable pub is_word_byte : ℕ → Bool
is_word_byte b = either (is_letter b) (is_digit b)

-- "the longest run of letters, digits, underscores": the place after the one that begins at p, which may be empty
unfoldable pub word_end : List ℕ → ℕ → ℕ
word_end s p = find (λ i. not (is_word_byte (byte s i))) (length s) p

-- the first place of a byte at or after p, or the length
unfoldable pub find_byte : ℕ → List ℕ → ℕ → ℕ
find_byte b s p = find (λ i. eqb (byte s i) b) (length s) p

-- the bytes a and b stand at p and p + 1
unfoldable pub pair_at : List ℕ → ℕ → ℕ → ℕ → Bool
pair_at s p a b = both (ltb (p + 1) (length s)) (both (eqb (byte s p) a) (eqb (byte s (p + 1)) b))

-- the first place of `*/` at or after p, or the length
unfoldable pub find_close : List ℕ → ℕ → ℕ
find_close s p = find (λ i. pair_at s i 42 47) (length s) p

-- Q-4: "followed by a dot and a digit"
unfoldable pub is_dotted : List ℕ → ℕ → Bool
is_dotted s p = both (eqb (byte s p) 46) (is_digit (byte s (p + 1)))

-- Q-4: "its first e or E": its place at or after p and before e, or e
unfoldable pub find_mark : List ℕ → ℕ → ℕ → ℕ
find_mark s e p = find (λ i. is_exponent_mark (byte s i)) e p

-- Q-4: "one sign right after its first e or E": the mark at x is the last byte of the run that ends at r, and a sign stands there
unfoldable pub is_signed : List ℕ → ℕ → ℕ → Bool
is_signed s x r = both (eqb (x + 1) r) (is_plus_minus (byte s r))
