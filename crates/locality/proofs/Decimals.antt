-- Numbers written in decimal, and the limits of a text's numbers. Assumes nothing.
use Prim.Native.Nat.{ℕ, zero, suc, ◌+◌, ◌-◌, ◌*◌, ◌/◌, ◌%◌, ◌≤◌, ◌<◌}
use mathlib.Core.Path.{◌≡◌, refl, sym, ◌∙◌, ap, subst}
use mathlib.Core.List.{List, [], ◌∷◌, ◌++◌}
use mathlib.Core.Bool.{Bool, true, false, not}
use native.Mathlib.Omega.{arith}
use native.Mathlib.Decide.{dec_lt}
use native.Mathlib.Nat.{zero-add, sub-zero}
use lib.ListN.{length, take, length-append, get_or-append}
use lib.Seq.{take-length}
use lib.Dec.{T, ltb, eqb}
use borrow.Author.Tests.{lt-ltb, ltb-true, ne_eqb, eqb-true}
use Rattle.token.specs.Find.{both, byte}
use Rattle.token.specs.Bytes.{class_of, is_word_byte, word_end, is_dotted, find_mark}
use Rattle.token.specs.declared.scan.Class.TheVariants.{Digit as digit, Sign as plus_minus}
use Rattle.token.proofs.Bytes.{class_code}
use Rattle.token.specs.Numbers.{digit_of, all_digits, value_after, digits_after, numeral}
use Rattle.token.specs.Floats.{mantissa_of, power_at}
use Rattle.std.specs.Prelude.{Option, Some, None}
use Rattle.token.specs.declared.Power.{Power}
use Rattle.token.proofs.Lexemes.{number_whole}
use Rattle.token.proofs.Decimals.{dotted_short}
use Rattle.token.specs.Tokens.{bytes_between, found, word_at, limit_of, is_negative, number_of, whole_at, float_of, float_by, float_at, number_by, number_at, token_of, step_at}
use Rattle.token.specs.declared.Cursor.{Cursor}
use Rattle.token.specs.declared.Token.{Token}
use Rattle.token.specs.declared.Sort.{Sort}
use Rattle.token.specs.declared.Sort.TheVariants.{Word, Number, String, Punctuator, Float}
use Rattle.token.specs.declared.Step.{Step}
use Rattle.token.specs.declared.Step.TheVariants.{Found, Refused, End}
use Rattle.token.proofs.Tables.{up_to, below}
use Rattle.token.proofs.Values.{num_at_most, numeral_decimal, numeral_zero}
use Rattle.token.proofs.Bytes.{both_true, word_byte, class_is, both_second, T_true}
use Rattle.locality.proofs.Skipping.{parting}
use Rattle.locality.proofs.Forms.{number_form, step_form}
use Rattle.locality.proofs.Front.{find_is}
use Rattle.locality.proofs.Join.{One, start, step_one}

-- ---- the limits of a text's numbers

-- the least and the greatest number; zero is not negative
abbrev pub WithinLimits : Bool → ℕ → Type 0
WithinLimits true m = (0 < m) × (m ≤ 9223372036854775808)
WithinLimits false m = m ≤ 18446744073709551615

abbrev NumberOk : Sort → Type 0
NumberOk (Word k) = Unit {0}
NumberOk (Number n m) = WithinLimits n m
NumberOk String = Unit {0}
NumberOk (Float n m k) = Unit {0}
NumberOk (Punctuator b) = Unit {0}

abbrev StepNumber : Step → Type 0
StepNumber (Found t c) = NumberOk t.sort
StepNumber (Refused q) = Unit {0}
StepNumber (End n) = Unit {0}

negative : (m : ℕ) (b : Bool) → ltb 0 m ≡ b → m ≤ 9223372036854775808 → WithinLimits b m
negative m true e h = (ltb-true 0 m e, h)
negative m false e h = omega arith

within : (minus : Bool) (m : ℕ) → m ≤ limit_of minus → WithinLimits (is_negative minus m) m
unfolding limit_of is_negative
within true m h = negative m (ltb 0 m) refl h
within false m h = h

whole_ok : (s : List ℕ) (p q : ℕ) → StepNumber (whole_at s p q)
unfolding whole_at found
whole_ok s p q =
    number_form (eqb (byte s p) 45) (ltb p q) (limit_of (eqb (byte s p) 45)) (λ (f : ℕ → ℕ → Step). StepNumber (f p (word_end s q)))
    (λ m h. within (eqb (byte s p) 45) m h) tt (bytes_between s q (word_end s q))

float_ok : (minus : Bool) (v : Option ℕ) (w : Option Power) (n p : ℕ) → StepNumber (float_of minus v w n p)
unfolding found
float_ok minus (Some m) (Some x) n p = tt
float_ok minus (Some m) None n p = tt
float_ok minus None w n p = tt

number_by_ok : (b : Bool) (s : List ℕ) (p q : ℕ) → StepNumber (number_by b s p q)
unfolding number_by float_at float_by
number_by_ok true s p q = float_ok (eqb (byte s p) 45) (mantissa_of _ _) (power_at s _ _) _ p
number_by_ok false s p q = whole_ok s p q

number_ok : (s : List ℕ) (p q : ℕ) → StepNumber (number_at s p q)
unfolding number_at
number_ok s p q = number_by_ok (is_dotted s (word_end s q)) s p q

-- the numbers of a text lie within the limits
pub found_number : (s : List ℕ) (p : ℕ) (t : Token) (c : Cursor) (n : Bool) (m : ℕ) → step_at s p ≡ Found t c → t.sort ≡ Number n m → WithinLimits n m
unfolding word_at found
found_number s p t c n m e k =
    subst NumberOk k
    (subst StepNumber e
    (step_form s StepNumber (λ q _. tt) (λ q _. number_ok s q q) (λ q _. number_ok s q (q + 1)) (λ q e. tt) (λ m q e. tt) (λ q. tt) tt p))

-- ---- digits

-- the bytes of digits
abbrev Digits : List ℕ → Type 0
Digits [] = Unit {0}
Digits (x ∷ w) = ((d : ℕ) × (x ≡ 48 + d) × (d < 10)) × Digits w

abbrev digit_test : ℕ → Bool
digit_test d = both (eqb (digit_of (48 + d)) d) (eqb (class_code (class_of (48 + d))) 1)

digit_tests : T (up_to digit_test 10)
unfolding digit_of class_of
digit_tests = tt

digit_test_lem : (d : ℕ) → d < 10 → digit_test d ≡ true
digit_test_lem d h = T_true (below digit_test 10 digit_tests d h)

digit_value : (d : ℕ) → d < 10 → digit_of (48 + d) ≡ d
digit_value d h = eqb-true (digit_of (48 + d)) d (both_true (eqb (digit_of (48 + d)) d) _ (digit_test_lem d h))

digit_class : (d : ℕ) → d < 10 → 1 ≡ class_code (class_of (48 + d))
digit_class d h = sym (eqb-true (class_code (class_of (48 + d))) 1 (both_second (eqb (digit_of (48 + d)) d) _ (digit_test_lem d h)))

digit_word : (d : ℕ) → d < 10 → is_word_byte (48 + d) ≡ true
digit_word d h = word_byte (48 + d) ∙ ap (λ (k : ℕ). ltb k 2) (sym (digit_class d h))

digits_word : (w : List ℕ) → Digits w → (i : ℕ) → i < length w → is_word_byte (byte w i) ≡ true
digits_word [] g i h = absurd (omega arith)
digits_word (x ∷ w) g zero h = ap is_word_byte g.0.1 ∙ digit_word g.0.0 g.0.2
digits_word (x ∷ w) g (suc i) h = digits_word w g.1 i (omega arith)

digits_all : (w : List ℕ) → Digits w → all_digits 10 w ≡ true
digits_all [] g = refl
digits_all (x ∷ w) g = rw (g.0.1, digit_value g.0.0 g.0.2, lt-ltb g.0.0 10 g.0.2) (digits_all w g.1)

digits_snoc : (w : List ℕ) (d : ℕ) → d < 10 → Digits w → Digits (w ++ (48 + d) ∷ [])
digits_snoc [] d h g = ((d, refl, h), tt)
digits_snoc (x ∷ w) d h g = (g.0, digits_snoc w d h g.1)

value_snoc : (w : List ℕ) (a y : ℕ) → value_after 10 a (w ++ y ∷ []) ≡ value_after 10 a w * 10 + digit_of y
unfolding value_after
value_snoc [] a y = refl
value_snoc (x ∷ w) a y = value_snoc w (a * 10 + digit_of x) y

-- ---- the digits of a number

-- w is the number n in decimal, with no leading zero
pub record Decimal (n : ℕ) (w : List ℕ) : Type 0 where
  pub digits : Digits w
  pub value : value_after 10 0 w ≡ n
  pub long : 0 < length w
  pub first : 0 < n → byte w 0 ≡ 48 → ⊥
  pub none : n ≡ 0 → (length w ≡ 1) × (byte w 0 ≡ 48)

-- a number below ten
pub one_digit : (n : ℕ) → n < 10 → Decimal n ((48 + n) ∷ [])
unfolding value_after
one_digit n h =
    record { digits = ((n, refl, h), tt); value = zero-add (digit_of (48 + n)) ∙ digit_value n h; long = omega arith; first = λ l e. omega arith; none = λ e. (refl, omega arith) }

-- a number from ten on: its tenth, and one more digit
pub one_more : (n : ℕ) (w : List ℕ) → 10 ≤ n → Decimal (n / 10) w → Decimal n (w ++ (48 + n % 10) ∷ [])
one_more n w h r =
    let d : n % 10 < 10 = omega arith in
    record {
      digits = digits_snoc w (n % 10) d r.digits;
      value = value_snoc w 0 (48 + n % 10) ∙ rw (r.value, digit_value (n % 10) d) (let z : n / 10 * 10 + n % 10 ≡ n = omega arith in z);
      long = omega (arith, length-append w ((48 + n % 10) ∷ []), r.long);
      first = λ l e. r.first (omega arith) (sym (get_or-append w ((48 + n % 10) ∷ []) 0 0 r.long) ∙ e);
      none = λ e. absurd (omega arith);
    }

-- ---- a number of its own

numeral_is : (minus signed : Bool) (max n : ℕ) (w : List ℕ) (p e : ℕ) → Decimal n w → n ≤ max → Dec (0 < n) →
    number_of minus (numeral signed max w) p e ≡ found (Number (is_negative minus n) n) p e
unfolding digits_after
numeral_is minus signed max n w p e r h (yes l) =
    ap (λ (f : ℕ → ℕ → Step). f p e) (ap (number_of minus) (numeral_decimal signed max w (λ e. omega (arith, r.long)) (r.first l)))
    ∙ rw (digits_all w r.digits, r.value) (ap (λ (f : ℕ → ℕ → Step). f p e) (ap (number_of minus) (num_at_most max n h)))
numeral_is minus signed max n w p e r h (no l) =
    let z : n ≡ 0 = omega arith in
    let o = r.none z in
    ap (λ (f : ℕ → ℕ → Step). f p e) (ap (number_of minus) (numeral_zero signed max w o.0 o.1))
    ∙ ap (λ (m : ℕ). found (Number (is_negative minus m) m) p e) (sym z)

-- a text of one run of letters, digits and `_` from q on
run_end : (w : List ℕ) (q : ℕ) → q ≤ length w → ((i : ℕ) → q ≤ i → i < length w → is_word_byte (byte w i) ≡ true) → word_end w q ≡ length w
unfolding word_end
run_end w q h f =
    find_is (λ i. not (is_word_byte (byte w i))) (length w) q (length w) h (omega arith) (λ i l m. ap not (f i l m)) (λ l. absurd (omega arith))

first_digit : (w : List ℕ) → Digits w → 0 < length w → (d : ℕ) × (byte w 0 ≡ 48 + d) × (d < 10)
first_digit [] g h = absurd (omega arith)
first_digit (x ∷ w) g h = g.0

whole_between : (w : List ℕ) → bytes_between w 0 (length w) ≡ w
whole_between w = ap (λ (n : ℕ). take n w) (sub-zero (length w)) ∙ take-length w

after_first : (x : ℕ) (w : List ℕ) → bytes_between (x ∷ w) 1 (suc (length w)) ≡ w
after_first x w = ap (λ (n : ℕ). take n w) (let z : suc (length w) - 1 ≡ length w = omega arith in z) ∙ take-length w

tail_word : (x : ℕ) (w : List ℕ) → Digits w → (i : ℕ) → 1 ≤ i → i < suc (length w) → is_word_byte (byte (x ∷ w) i) ≡ true
tail_word x w e zero h l = absurd (omega arith)
tail_word x w e (suc i) h l = digits_word w e i (omega arith)

-- the digits of a number
plus : (n : ℕ) (w : List ℕ) → Decimal n w → n ≤ 18446744073709551615 → One w (Number false n)
unfolding token_of limit_of is_negative parting whole_at
plus n w r h =
    let d = first_digit w r.digits r.long in
    let c : class_of (byte w 0) ≡ digit = ap class_of d.1 ∙ class_is (48 + d.0) 1 (digit_class d.0 d.2) in
    let minus : eqb (byte w 0) 45 ≡ false = ne_eqb (byte w 0) 45 (λ e. omega arith) in
    let run : word_end w 0 ≡ length w = run_end w 0 (omega arith) (λ i _ l. digits_word w r.digits i l) in
    step_one w (Number false n)
    (start w digit r.long c refl
    ∙ number_whole w 0 0 (length w) (sym run) (dotted_short w (length w) (omega arith))
    ∙ rw (run, whole_between w, minus) (numeral_is false (ltb 0 0) 18446744073709551615 n w 0 (length w) r h (dec_lt 0 n)))

-- and after a minus
minus : (n : ℕ) (w : List ℕ) → Decimal n w → 0 < n → n ≤ 9223372036854775808 → One (45 ∷ w) (Number true n)
unfolding token_of limit_of is_negative parting class_of whole_at
minus n w r l h =
    let run : word_end (45 ∷ w) 1 ≡ suc (length w) = run_end (45 ∷ w) 1 (omega arith) (tail_word 45 w r.digits) in
    step_one (45 ∷ w) (Number true n)
    (start (45 ∷ w) plus_minus (omega arith) refl refl
    ∙ number_whole (45 ∷ w) 0 1 (suc (length w)) (sym run) (dotted_short (45 ∷ w) (suc (length w)) (omega arith))
    ∙ rw (run, after_first 45 w) (numeral_is true (ltb 0 1) 9223372036854775808 n w 0 (suc (length w)) r h (dec_lt 0 n))
    ∙ ap (λ (b : Bool). found (Number b n) 0 (suc (length w))) (lt-ltb 0 n l))

-- a number's sign and digits
unfoldable pub signed : Bool → List ℕ → List ℕ
signed true w = 45 ∷ w
signed false w = w

-- a number within the limits, written in decimal, is that number
pub decimal_one : (b : Bool) (n : ℕ) (w : List ℕ) → WithinLimits b n → Decimal n w → One (signed b w) (Number b n)
unfolding signed
decimal_one true n w h r = minus n w r h.0 h.1
decimal_one false n w h r = plus n w r h
