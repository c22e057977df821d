-- The laws of bytes: which case of a test of a byte holds, what the number of its class says of it, and where runs and searches end.
-- Assumes nothing.
use Prim.Native.Nat.{ℕ, zero, suc, ◌+◌, ◌≤◌, ◌<◌}
use mathlib.Core.List.{List}
use lib.ListN.{length, get_or-eq_default}
use mathlib.Core.Path.{◌≡◌, refl, sym, ◌∙◌, ap}
use mathlib.Core.Bool.{Bool, true, false, not, false≢true}
use native.Mathlib.Decide.{ℕ_discrete}
use lib.Dec.{T, ltb, eqb}
use borrow.Author.Tests.{lt-ltb, le-ltb, eq-eqb, ne_eqb, ltb-true}
use Rattle.token.specs.Find.{pick, both, either, byte}
use Rattle.token.specs.declared.scan.Class.{Class}
use Rattle.token.specs.declared.scan.Class.TheVariants.{Letter as letter, Digit as digit, Blank as blank, Sign as plus_minus, Quote as quote, Punctuator as punctuator, Dot as dot, Slash as slash, Other as other}
use Rattle.token.specs.Bytes.{class_of, is_letter, is_digit, is_blank, is_plus_minus, is_punctuator, is_word_byte, pair_at, word_end, find_byte}
use Rattle.token.proofs.Find.{find_low, find_high}

-- ---- two tests together

pub both_false : (a : Bool) → both a false ≡ false
both_false true = refl
both_false false = refl

pub both_true : (a b : Bool) → both a b ≡ true → a ≡ true
both_true true b e = refl
both_true false b e = e

pub both_second : (a b : Bool) → both a b ≡ true → b ≡ true
both_second true b e = e
both_second false b e = absurd (false≢true e)

pub either_false : (a : Bool) → either a false ≡ a
either_false true = refl
either_false false = refl

pub either_true : (a : Bool) → either a true ≡ true
either_true true = refl
either_true false = refl

pub either_assoc : (a b c : Bool) → either a (either b c) ≡ either (either a b) c
either_assoc true b c = refl
either_assoc false b c = refl

pub neither_first : (a b : Bool) → either a b ≡ false → a ≡ false
neither_first true b e = e
neither_first false b e = refl

pub neither_second : (a b : Bool) → either a b ≡ false → b ≡ false
neither_second true b e = absurd (false≢true (sym e))
neither_second false b e = e

pub not_true : (b : Bool) → (b ≡ true → ⊥) → b ≡ false
not_true true f = absurd (f refl)
not_true false f = refl

pub T_true : {b : Bool} → T b → b ≡ true
T_true {b = true} t = refl
T_true {b = false} t = absurd t

pub eqb_sym : (a b : ℕ) → eqb a b ≡ eqb b a
eqb_sym a b = by (ℕ_discrete a b)
  where
    by : Dec (a ≡ b) → eqb a b ≡ eqb b a
    by (yes e) = eq-eqb a b e ∙ sym (eq-eqb b a (sym e))
    by (no f) = ne_eqb a b f ∙ sym (ne_eqb b a (λ e. f (sym e)))

-- the number of a class, by which a law of all bytes is computed
abbrev pub class_code : Class → ℕ
class_code letter = 0
class_code digit = 1
class_code blank = 2
class_code plus_minus = 3
class_code quote = 4
class_code punctuator = 5
class_code dot = 6
class_code slash = 7
class_code other = 8

low_two : (l d b p q m o s : Bool) →
    either l d
    ≡ ltb (class_code (pick l letter (pick d digit (pick b blank (pick p plus_minus (pick q quote (pick m punctuator (pick o dot (pick s slash other))))))))) 2
low_two true d b p q m o s = refl
low_two false true b p q m o s = refl
low_two false false true p q m o s = refl
low_two false false false true q m o s = refl
low_two false false false false true m o s = refl
low_two false false false false false true o s = refl
low_two false false false false false false true s = refl
low_two false false false false false false false true = refl
low_two false false false false false false false false = refl

-- the bytes of words are those of the first two classes
pub word_byte : (b : ℕ) → is_word_byte b ≡ ltb (class_code (class_of b)) 2
unfolding class_of is_word_byte
word_byte b = low_two (is_letter b) (is_digit b) (is_blank b) (is_plus_minus b) (eqb b 34) (is_punctuator b) (eqb b 46) (eqb b 47)

-- ---- two bytes

module _ (s : List ℕ) (p a b : ℕ) where
  pub pair_short : length s ≤ p + 1 → pair_at s p a b ≡ false
  unfolding pair_at
  pair_short h = rw (le-ltb (p + 1) (length s) h)

  pub pair_other : (byte s p ≡ a → ⊥) → pair_at s p a b ≡ false
  unfolding pair_at
  pair_other h = rw (ne_eqb (byte s p) a h) (both_false (ltb (p + 1) (length s)))

  pub pair_second : p + 1 < length s → byte s p ≡ a → pair_at s p a b ≡ eqb (byte s (p + 1)) b
  unfolding pair_at
  pair_second h e = rw (lt-ltb (p + 1) (length s) h, eq-eqb (byte s p) a e)

  pub pair_inside : pair_at s p a b ≡ true → p + 1 < length s
  unfolding pair_at
  pair_inside e = ltb-true (p + 1) (length s) (both_true (ltb (p + 1) (length s)) (both (eqb (byte s p) a) (eqb (byte s (p + 1)) b)) e)

-- the class that a number stands for
abbrev pub class_at : ℕ → Class
class_at zero = letter
class_at (suc zero) = digit
class_at (suc (suc zero)) = blank
class_at (suc (suc (suc zero))) = plus_minus
class_at (suc (suc (suc (suc zero)))) = quote
class_at (suc (suc (suc (suc (suc zero))))) = punctuator
class_at (suc (suc (suc (suc (suc (suc zero)))))) = dot
class_at (suc (suc (suc (suc (suc (suc (suc zero))))))) = slash
class_at (suc (suc (suc (suc (suc (suc (suc (suc n)))))))) = other

class_back : (c : Class) → c ≡ class_at (class_code c)
class_back letter = refl
class_back digit = refl
class_back blank = refl
class_back plus_minus = refl
class_back quote = refl
class_back punctuator = refl
class_back dot = refl
class_back slash = refl
class_back other = refl

pub class_is : (b k : ℕ) → k ≡ class_code (class_of b) → class_of b ≡ class_at k
class_is b k e = class_back (class_of b) ∙ ap class_at (sym e)

-- the byte past the end of a text begins nothing
pub class_past : (s : List ℕ) (p : ℕ) → length s ≤ p → class_of (byte s p) ≡ other
unfolding class_of
class_past s p h = ap class_of (get_or-eq_default s 0 h)

-- ---- where a run and a search end
module _ (s : List ℕ) (p : ℕ) where
  pub word_low : p ≤ word_end s p
  unfolding word_end
  word_low = find_low (λ i. not (is_word_byte (byte s i))) (length s) p

  pub word_high : p ≤ length s → word_end s p ≤ length s
  unfolding word_end
  word_high h = find_high (λ i. not (is_word_byte (byte s i))) (length s) p h

  pub byte_low : (b : ℕ) → p ≤ find_byte b s p
  unfolding find_byte
  byte_low b = find_low (λ i. eqb (byte s i) b) (length s) p
