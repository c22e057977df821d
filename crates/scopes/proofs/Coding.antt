-- The classes of tokens by what the form of a rule admits: the codes of type words, and the bytes of signs. Assumes nothing.
use mathlib.Core.Path.{◌≡◌, refl, sym, ◌∙◌, ap}
use mathlib.Core.List.{List, [], ◌∷◌}
use mathlib.Core.Bool.{Bool, true}
use Prim.Native.Nat.{ℕ, zero, suc, ◌+◌, ◌≤◌, ◌<◌}
use native.Mathlib.Omega.{arith}
use lib.ListN.{get_or}
use lib.Dec.{eqb, ltb}
use borrow.Author.Tests.{eqb-true, ltb-true}
use Rattle.meaning.specs.Cells.{integer_code}
use Rattle.token.specs.Find.{pick, both}
use Rattle.token.specs.declared.Sort.{Sort}
use Rattle.token.specs.declared.Sort.TheVariants.{Word as WordToken, Number, String, Punctuator, Float}
use Rattle.token.proofs.Find.{by_test}
use Rattle.token.proofs.Bytes.{both_true, both_second}
use Rattle.grammar.specs.Grammar.{Class, Given, Sign, Token, ordinary, numeral, quoted, floating, other, kind_word, type_word, integer_word, word, sign, OIL-VERSION, IMPLEMENTATION, CPU, STRING, BOOLEAN, ENUM, FLOAT, TRUE, FALSE, AUTO, NO-DEFAULT, WITH-AUTO, lbrace, rbrace, lsquare, rsquare, equals, semicolon, colon, comma, dots, matches, the, sg, integer, type, given_code, sign_code, code}
use Rattle.grammar.specs.Terminals.{words, sign_of, class_of, token_of}
use Rattle.meaning.specs.Kinds.{kind_number}
use Rattle.meaning.specs.Actions.{kind_of, integer_of}
use Rattle.layout.specs.Kept.{class_number, given_number}
use Rattle.scopes.specs.declared.Item.{Item}
use Rattle.scopes.specs.Items.{item_of}
use Rattle.scopes.specs.Ranges.{SignAt}
use Rattle.scopes.proofs.Chains.{StepTo, step_item, step_next}

given_low : (g : Given) → (10 ≤ given_code g) × (given_code g ≤ 21)
unfolding given_code
given_low OIL-VERSION = (omega arith, omega arith)
given_low IMPLEMENTATION = (omega arith, omega arith)
given_low CPU = (omega arith, omega arith)
given_low STRING = (omega arith, omega arith)
given_low BOOLEAN = (omega arith, omega arith)
given_low ENUM = (omega arith, omega arith)
given_low FLOAT = (omega arith, omega arith)
given_low TRUE = (omega arith, omega arith)
given_low FALSE = (omega arith, omega arith)
given_low AUTO = (omega arith, omega arith)
given_low NO-DEFAULT = (omega arith, omega arith)
given_low WITH-AUTO = (omega arith, omega arith)

sign_low : (x : Sign) → 30 ≤ sign_code x
unfolding sign_code
sign_low lbrace = omega arith
sign_low rbrace = omega arith
sign_low lsquare = omega arith
sign_low rsquare = omega arith
sign_low equals = omega arith
sign_low semicolon = omega arith
sign_low colon = omega arith
sign_low comma = omega arith
sign_low dots = omega arith

-- Words ------------------------------------------------------------------------------------------------------------------------------------

-- The words that forms name, by their codes from 10 on.
unfoldable numbers : List ℕ
numbers = 6 ∷ 7 ∷ 8 ∷ 39 ∷ 40 ∷ 41 ∷ 1 ∷ 2 ∷ 3 ∷ 4 ∷ 5 ∷ 42 ∷ []

given_by : (g : Given) → get_or (0 ∷ 0 ∷ 0 ∷ 0 ∷ 0 ∷ 0 ∷ 0 ∷ 0 ∷ 0 ∷ 0 ∷ numbers) (given_code g) 0 ≡ given_number g
unfolding given_code given_number numbers
given_by OIL-VERSION = refl
given_by IMPLEMENTATION = refl
given_by CPU = refl
given_by STRING = refl
given_by BOOLEAN = refl
given_by ENUM = refl
given_by FLOAT = refl
given_by TRUE = refl
given_by FALSE = refl
given_by AUTO = refl
given_by NO-DEFAULT = refl
given_by WITH-AUTO = refl

by_code : (g : Given) (c : Class) → given_code g ≡ code c → class_number c ≡ given_number g
unfolding code class_number
by_code g ordinary e = let a = given_low g in absurd (omega arith)
by_code g numeral e = let a = given_low g in absurd (omega arith)
by_code g quoted e = let a = given_low g in absurd (omega arith)
by_code g floating e = let a = given_low g in absurd (omega arith)
by_code g other e = let a = given_low g in absurd (omega arith)
by_code g (kind_word k) e = let a = given_low g in absurd (omega arith)
by_code g (type_word k) e = let a = given_low g in absurd (omega arith)
by_code g (integer_word i) e = let a = given_low g in absurd (omega arith)
by_code g (word h) e = sym (given_by h) ∙ ap (λ (n : ℕ). get_or (0 ∷ 0 ∷ 0 ∷ 0 ∷ 0 ∷ 0 ∷ 0 ∷ 0 ∷ 0 ∷ 0 ∷ numbers) n 0) (sym e) ∙ given_by g
by_code g (sign x) e = let a = given_low g in let b = sign_low x in absurd (omega arith)

pub given_is : (g : Given) (c : Class) → matches (the g) c ≡ true → class_number c ≡ given_number g
unfolding matches
given_is g c m = by_code g c (eqb-true (given_code g) (code c) m)

integer_by : (c : Class) → 5 ≡ code c → class_number c ≡ integer_code (integer_of c)
unfolding code class_number integer_of
integer_by ordinary e = absurd (omega arith)
integer_by numeral e = absurd (omega arith)
integer_by quoted e = absurd (omega arith)
integer_by floating e = absurd (omega arith)
integer_by other e = absurd (omega arith)
integer_by (kind_word k) e = absurd (omega arith)
integer_by (type_word k) e = absurd (omega arith)
integer_by (integer_word i) e = refl
integer_by (word h) e = let a = given_low h in absurd (omega arith)
integer_by (sign x) e = let b = sign_low x in absurd (omega arith)

pub integer_is : (c : Class) → matches integer c ≡ true → class_number c ≡ integer_code (integer_of c)
unfolding matches
integer_is c m = integer_by c (eqb-true 5 (code c) m)

type_by : (c : Class) → 4 ≡ code c → class_number c ≡ 22 + kind_number (kind_of c)
unfolding code class_number kind_of
type_by ordinary e = absurd (omega arith)
type_by numeral e = absurd (omega arith)
type_by quoted e = absurd (omega arith)
type_by floating e = absurd (omega arith)
type_by other e = absurd (omega arith)
type_by (kind_word k) e = absurd (omega arith)
type_by (type_word k) e = refl
type_by (integer_word i) e = absurd (omega arith)
type_by (word h) e = let a = given_low h in absurd (omega arith)
type_by (sign x) e = let b = sign_low x in absurd (omega arith)

pub type_is : (c : Class) → matches type c ≡ true → class_number c ≡ 22 + kind_number (kind_of c)
unfolding matches
type_is c m = type_by c (eqb-true 4 (code c) m)

-- Signs ------------------------------------------------------------------------------------------------------------------------------------

unfoldable byte : Sign → ℕ
byte lbrace = 123
byte rbrace = 125
byte lsquare = 91
byte rsquare = 93
byte equals = 61
byte semicolon = 59
byte colon = 58
byte comma = 44
byte dots = 46

-- The bytes of the signs, by their codes.
unfoldable byte_coded : ℕ → ℕ
byte_coded n =
    pick (eqb n 30) 123 (pick (eqb n 31) 125 (pick (eqb n 32) 91 (pick (eqb n 33) 93 (pick (eqb n 34) 61 (pick (eqb n 35) 59 (pick (eqb n 36) 58
    (pick (eqb n 37) 44 46)))))))

byte_by : (x : Sign) → byte_coded (sign_code x) ≡ byte x
unfolding sign_code byte byte_coded
byte_by lbrace = refl
byte_by rbrace = refl
byte_by lsquare = refl
byte_by rsquare = refl
byte_by equals = refl
byte_by semicolon = refl
byte_by colon = refl
byte_by comma = refl
byte_by dots = refl

same_sign : (x y : Sign) → matches (sg x) (sign y) ≡ true → byte y ≡ byte x
unfolding matches code
same_sign x y m = sym (byte_by y) ∙ ap byte_coded (sym (eqb-true (sign_code x) (sign_code y) m)) ∙ byte_by x

no_sign : (x : Sign) (c : Class) → code c < 30 → matches (sg x) c ≡ true → ⊥
unfolding matches
no_sign x c h m = let e = eqb-true (sign_code x) (code c) m in let b = sign_low x in omega arith

module _ (x : Sign) (b : ℕ) where
  unfoldable is_byte : Class → Type 0
  is_byte c = matches (sg x) c ≡ true → b ≡ byte x

  step_byte : (n : ℕ) (y : Sign) (c : Class) → n ≡ byte y → is_byte c → is_byte (pick (eqb b n) (sign y) c)
  unfolding is_byte
  step_byte n y c e h = by_test (λ (k : Class). matches (sg x) k ≡ true → b ≡ byte x) (eqb b n) (sign y) c (λ t m. eqb-true b n t ∙ e ∙ same_sign x y m) (λ t. h)

  sign_byte : is_byte (sign_of b)
  unfolding sign_of byte is_byte code
  sign_byte =
      step_byte 123 lbrace _ refl (step_byte 125 rbrace _ refl (step_byte 91 lsquare _ refl (step_byte 93 rsquare _ refl (step_byte 61 equals _ refl
      (step_byte 59 semicolon _ refl (step_byte 58 colon _ refl (step_byte 44 comma _ refl (step_byte 46 dots other refl (λ m. absurd (no_sign x other (omega arith) m))))))))))

-- No word is a sign.
unfoldable low : Class → Bool
low c = ltb (code c) 30

unfoldable all_low : List Class → Bool
all_low [] = true
all_low (c ∷ cs) = both (low c) (all_low cs)

low_at : (l : List Class) (n : ℕ) → all_low l ≡ true → low (get_or l n other) ≡ true
unfolding all_low low code
low_at [] n h = refl
low_at (c ∷ cs) zero h = both_true (ltb (code c) 30) (all_low cs) h
low_at (c ∷ cs) (suc n) h = low_at cs n (both_second (ltb (code c) 30) (all_low cs) h)

words_low : all_low words ≡ true
unfolding all_low low code given_code
words_low = refl

word_low : (c : ℕ) → code (get_or words c other) < 30
unfolding low
word_low c = ltb-true (code (get_or words c other)) 30 (low_at words c words_low)

sort_sign : (x : Sign) (k : Sort) (a n : ℕ) → matches (sg x) (class_of k) ≡ true → (item_of k a n).sign ≡ byte x
unfolding class_of item_of code is_byte
sort_sign x (WordToken c) a n m = absurd (no_sign x (get_or words c other) (word_low c) m)
sort_sign x (Number b p) a n m = absurd (no_sign x numeral (omega arith) m)
sort_sign x String a n m = absurd (no_sign x quoted (omega arith) m)
sort_sign x (Float b p e) a n m = absurd (no_sign x floating (omega arith) m)
sort_sign x (Punctuator b) a n m = sign_byte x b m

sign_found : (x : Sign) (s : List ℕ) (p : ℕ) (t : Token) → StepTo s p t → matches (sg x) t.class ≡ true → SignAt s p (byte x) (t.place + t.length)
unfolding token_of
sign_found x s p t h m =
    let l = h.lexeme in
    let c = h.cursor in
    let i = step_item s p l c h.finds in
    record {
      sign = ap (λ (z : Item). z.sign) i ∙ sort_sign x l.sort l.at c.at (ap (λ (y : Token). matches (sg x) y.class) h.is ∙ m);
      next = step_next s p t h;
    }

-- The four signs of a range.
module _ (s : List ℕ) (p : ℕ) (t : Token) (h : StepTo s p t) where
  pub lsquare_at : matches (sg lsquare) t.class ≡ true → SignAt s p 91 (t.place + t.length)
  unfolding byte
  lsquare_at m = sign_found lsquare s p t h m

  pub rsquare_at : matches (sg rsquare) t.class ≡ true → SignAt s p 93 (t.place + t.length)
  unfolding byte
  rsquare_at m = sign_found rsquare s p t h m

  pub dots_at : matches (sg dots) t.class ≡ true → SignAt s p 46 (t.place + t.length)
  unfolding byte
  dots_at m = sign_found dots s p t h m

  pub comma_at : matches (sg comma) t.class ≡ true → SignAt s p 44 (t.place + t.length)
  unfolding byte
  comma_at m = sign_found comma s p t h m
