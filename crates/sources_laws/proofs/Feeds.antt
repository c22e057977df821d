-- An LF ends every token, and no token ends with one. Assumes nothing.
use Prim.Native.Nat.{ℕ, ◌+◌, ◌-◌, ◌≤◌, ◌<◌}
use mathlib.Core.List.{List, [], ◌∷◌, ◌++◌}
use mathlib.Core.Bool.{Bool, true, false, not, false≢true}
use mathlib.Core.Path.{◌≡◌, refl, sym, ◌∙◌, ap, subst}
use native.Mathlib.Omega.{arith}
use lib.ListN.{length, take, drop, length-drop}
use lib.Seq.{get_or-drop, drop-append-le}
use lib.Dec.{ltb, eqb}
use borrow.Author.Tests.{lt-ltb, not-false}
use Rattle.token.specs.Find.{byte, either}
use Rattle.token.specs.Bytes.{class_of, is_word_byte, word_end, is_letter, is_digit, is_dotted, is_signed, find_mark, find_byte, pair_at}
use Rattle.token.specs.declared.scan.Class.{Class}
use Rattle.token.specs.declared.scan.Class.TheVariants.{Letter as letter, Digit as digit, Blank as blank, Sign as plus_minus, Quote as quote, Punctuator as punctuator, Dot as dot, Slash as slash, Other as other}
use Rattle.token.specs.Numbers.{numeral}
use Rattle.token.specs.Floats.{some_digits, mantissa_of, times, power_of, power_at}
use Rattle.token.specs.Tokens.{bytes_between, found, word_at, limit_of, number_of, whole_at, float_of, float_by, float_at, number_by, number_at, string_at, dots_at, token_of, token_at, step_at}
use Rattle.token.specs.declared.Cursor.{Cursor}
use Rattle.token.specs.declared.Token.{Token}
use Rattle.token.specs.declared.Sort.{Sort}
use Rattle.token.specs.declared.Sort.TheVariants.{Word, Number, String, Punctuator, Float}
use Rattle.token.specs.declared.Step.{Step}
use Rattle.token.specs.declared.Step.TheVariants.{Found, Refused, End}
use Rattle.token.specs.declared.Power.{Power}
use Rattle.std.specs.Prelude.{Option, Some, None}
use Rattle.token.proofs.Find.{by_test, find_before, find_next, find_low}
use Rattle.token.proofs.Bytes.{both_second, either_true}
use Rattle.token.proofs.Decimals.{dotted_inside}
use Rattle.token.proofs.Steps.{found_fits}
use Rattle.locality.proofs.Forms.{number_form, step_form}
use Rattle.locality.proofs.Front.{ends}
use Rattle.locality.proofs.Join.{ends_more, found_ends}
use Rattle.locality.proofs.Skipping.{Bare, plain, lone, unended, plain_step, lone_step, unended_step, Skips, here, on, gap_step, skips_step, stop}
use Rattle.sources.proofs.Singles.{split}

-- an LF ends every token
pub ends_feed : (k : Sort) (b : List ℕ) → ends k (10 ∷ b) ≡ true
unfolding ends is_word_byte is_dotted
ends_feed (Word c) b = refl
ends_feed (Number n m) b = refl
ends_feed (Float n m k) b = refl
ends_feed String b = refl
ends_feed (Punctuator m) b = refl

-- ---- no word and no number ends with an LF

word_last : (s : List ℕ) (q : ℕ) → q < word_end s q → byte s (word_end s q - 1) ≡ 10 → ⊥
unfolding word_end is_word_byte
word_last s q h e =
    let t : ℕ → Bool = λ i. not (is_word_byte (byte s i)) in
    let k = find_before t (length s) q (word_end s q - 1) (omega arith) (omega arith) in
    false≢true (ap is_word_byte (sym e) ∙ not-false (is_word_byte (byte s (word_end s q - 1))) k)

abbrev LastOk : List ℕ → Step → Type 0
LastOk s (Found t c) = t.at < c.at → byte s (c.at - 1) ≡ 10 → (b : List ℕ) → ends t.sort b ≡ true
LastOk s (Refused q) = Unit {0}
LastOk s (End n) = Unit {0}

word_ok : (s : List ℕ) (q : ℕ) → LastOk s (word_at s q)
unfolding word_at found
word_ok s q = λ h e b. absurd (word_last s q h e)

whole_long : (s : List ℕ) (p q : ℕ) → q < word_end s q → LastOk s (whole_at s p q)
unfolding whole_at found
whole_long s p q h =
    number_form (eqb (byte s p) 45) (ltb p q) (limit_of (eqb (byte s p) 45)) (λ (f : ℕ → ℕ → Step). LastOk s (f p (word_end s q)))
    (λ m _ k e b. absurd (word_last s q h e)) tt (bytes_between s q (word_end s q))

whole_none : (s : List ℕ) (p q : ℕ) → word_end s q ≤ q → LastOk s (whole_at s p q)
unfolding whole_at numeral
whole_none s p q h =
    let e : word_end s q - q ≡ 0 = omega arith in
    subst (λ (n : ℕ). LastOk s (number_of (eqb (byte s p) 45) (numeral (ltb p q) (limit_of (eqb (byte s p) 45)) (take n (drop q s))) p (word_end s q))) (sym e) tt

whole_ok : (s : List ℕ) (p q : ℕ) → LastOk s (whole_at s p q)
whole_ok s p q = split q (word_end s q) (λ h. whole_long s p q h) (λ h. whole_none s p q h)

-- ---- nor does a float

digit_on : (s : List ℕ) (p : ℕ) → p < length s → is_digit (byte s p) ≡ true → p < word_end s p
unfolding word_end is_word_byte
digit_on s p h e =
    let t : ℕ → Bool = λ i. not (is_word_byte (byte s i)) in
    let z : is_word_byte (byte s p) ≡ true = ap (either (is_letter (byte s p))) e ∙ either_true (is_letter (byte s p)) in
    let n = find_next t (length s) p h (ap not z) in
    let l = find_low t (length s) (p + 1) in
    omega arith

abbrev PowerLast : List ℕ → Option Power → Type 0
PowerLast s (Some x) = byte s (x.end - 1) ≡ 10 → ⊥
PowerLast s None = Unit {0}

power_of_last : (s : List ℕ) (b : Bool) (v : Option ℕ) (e : ℕ) → (byte s (e - 1) ≡ 10 → ⊥) → PowerLast s (power_of b v e)
unfolding power_of
power_of_last s b (Some m) e h = h
power_of_last s b None e h = tt

signed_last : (s : List ℕ) (b : Bool) (q : ℕ) → PowerLast s (power_of b (some_digits 64 0 (bytes_between s q (word_end s q))) (word_end s q))
unfolding power_of some_digits
signed_last s b q =
    split q (word_end s q)
    (λ h. power_of_last s b (some_digits 64 0 (bytes_between s q (word_end s q))) (word_end s q) (word_last s q h))
    (λ h.
    let e : word_end s q - q ≡ 0 = omega arith in
    subst (λ (n : ℕ). PowerLast s (power_of b (some_digits 64 0 (take n (drop q s))) (word_end s q))) (sym e) tt)

power_last : (s : List ℕ) (m r : ℕ) → (byte s (r - 1) ≡ 10 → ⊥) → PowerLast s (power_at s m r)
unfolding power_at
power_last s m r h =
    by_test (PowerLast s) (eqb m r) (times false 0 r) _ (λ _. h)
    (λ _.
    by_test (PowerLast s) (is_signed s m r) _ _
    (λ _. signed_last s (eqb (byte s r) 45) (r + 1))
    (λ _. power_of_last s false (some_digits 64 0 (bytes_between s (m + 1) r)) r h))

float_of_ok : (s : List ℕ) (minus : Bool) (v : Option ℕ) (w : Option Power) (n p : ℕ) → PowerLast s w → LastOk s (float_of minus v w n p)
unfolding found
float_of_ok s minus (Some m) (Some x) n p h = λ k f c. absurd (h f)
float_of_ok s minus (Some m) None n p h = tt
float_of_ok s minus None w n p h = tt

number_by_ok : (s : List ℕ) (p q : ℕ) (b : Bool) → is_dotted s (word_end s q) ≡ b → LastOk s (number_by b s p q)
unfolding number_by float_at float_by is_dotted
number_by_ok s p q true t =
    let d = word_end s q in
    let z = digit_on s (d + 1) (dotted_inside s d t) (both_second (eqb (byte s d) 46) (is_digit (byte s (d + 1))) t) in
    float_of_ok s (eqb (byte s p) 45) (mantissa_of _ _) (power_at s _ (word_end s (d + 1))) _ p
    (power_last s _ (word_end s (d + 1)) (word_last s (d + 1) (omega arith)))
number_by_ok s p q false t = whole_ok s p q

number_ok : (s : List ℕ) (p q : ℕ) → LastOk s (number_at s p q)
unfolding number_at
number_ok s p q = number_by_ok s p q (is_dotted s (word_end s q)) refl

-- a token that ends after an LF ends before anything
pub ends_any : (s : List ℕ) (p : ℕ) (t : Token) (c : Cursor) → step_at s p ≡ Found t c → byte s (c.at - 1) ≡ 10 → (b : List ℕ) → ends t.sort b ≡ true
unfolding found ends
ends_any s p t c e =
    let o = found_fits s p t c e in
    let l = o.long in
    let n = o.next in
    subst (LastOk s) e
    (step_form s (LastOk s) (λ q h. word_ok s q) (λ q h. number_ok s q q) (λ q h. number_ok s q (q + 1)) (λ q e h f b. refl) (λ m q e h f b. refl) (λ q. tt) tt p)
    (omega arith)

-- ---- a token of a text in a longer one, where an LF stands at the seam

one_feed : (k : Sort) (x : ℕ) (b : List ℕ) → ends k (x ∷ []) ≡ true → ends k (x ∷ 10 ∷ b) ≡ true
unfolding ends is_dotted
one_feed (Word c) x b e = e
one_feed (Number n m) x b e = e
one_feed (Float n m k) x b e = e
one_feed String x b e = refl
one_feed (Punctuator m) x b e = refl

before_feed : (k : Sort) (y b : List ℕ) → ends k y ≡ true → ends k (y ++ (10 ∷ b)) ≡ true
before_feed k [] b e = ends_feed k b
before_feed k (x ∷ []) b e = one_feed k x b e
before_feed k (x ∷ z ∷ y) b e = ends_more k (x ∷ z ∷ y) (10 ∷ b) (omega arith) (λ _. omega arith) ∙ e

behind_feed : (k : Sort) (y b : List ℕ) → ends k y ≡ true → (length y ≡ 0 → ends k b ≡ true) → (length y ≡ 1 → byte y 0 ≡ 10) → ends k (y ++ b) ≡ true
behind_feed k [] b e f g = f refl
behind_feed k (x ∷ []) b e f g = subst (λ (v : ℕ). ends k (v ∷ b) ≡ true) (sym (g refl)) (ends_feed k b)
behind_feed k (x ∷ z ∷ y) b e f g = ends_more k (x ∷ z ∷ y) b (omega arith) (λ _. omega arith) ∙ e

-- a text goes on with an LF
pub feed_next : (a b : List ℕ) (t : Token) (c : Cursor) (r : ℕ) → step_at a r ≡ Found t c → ends t.sort (drop c.at (a ++ (10 ∷ b))) ≡ true
feed_next a b t c r e =
    let o = found_fits a r t c e in
    ap (ends t.sort) (drop-append-le c.at a (10 ∷ b) o.inside) ∙ before_feed t.sort (drop c.at a) b (found_ends a r t c e)

-- a text is empty or ends with an LF
pub feed_last : (a b : List ℕ) → (0 < length a → byte a (length a - 1) ≡ 10) → (t : Token) (c : Cursor) (r : ℕ) → step_at a r ≡ Found t c →
    ends t.sort (drop c.at (a ++ b)) ≡ true
feed_last a b f t c r e =
    let o = found_fits a r t c e in
    let l = o.long in
    let n = o.next in
    let i = o.inside in
    let m = length-drop c.at a in
    ap (ends t.sort) (drop-append-le c.at a b o.inside)
    ∙ behind_feed t.sort (drop c.at a) b (found_ends a r t c e)
    (λ z.
    let y : c.at ≡ length a = omega arith in
    ends_any a r t c e (subst (λ (k : ℕ). byte a (k - 1) ≡ 10) (sym y) (f (omega arith))) b)
    (λ z.
    let y : c.at + 0 ≡ length a - 1 = omega arith in
    get_or-drop c.at a 0 0 ∙ ap (byte a) y ∙ f (omega arith))

-- ---- the end is found only at the end

abbrev NotEnd : Step → Type 0
NotEnd (Found t c) = Unit {0}
NotEnd (Refused q) = Unit {0}
NotEnd (End n) = ⊥

whole_not : (s : List ℕ) (p q : ℕ) → NotEnd (whole_at s p q)
unfolding whole_at found
whole_not s p q =
    number_form (eqb (byte s p) 45) (ltb p q) (limit_of (eqb (byte s p) 45)) (λ (f : ℕ → ℕ → Step). NotEnd (f p (word_end s q)))
    (λ m _. tt) tt (bytes_between s q (word_end s q))

float_not : (minus : Bool) (v : Option ℕ) (w : Option Power) (n p : ℕ) → NotEnd (float_of minus v w n p)
unfolding found
float_not minus (Some m) (Some x) n p = tt
float_not minus (Some m) None n p = tt
float_not minus None w n p = tt

number_by_not : (b : Bool) (s : List ℕ) (p q : ℕ) → NotEnd (number_by b s p q)
unfolding number_by float_at float_by
number_by_not true s p q = float_not (eqb (byte s p) 45) (mantissa_of _ _) (power_at s _ _) _ p
number_by_not false s p q = whole_not s p q

number_not : (s : List ℕ) (p q : ℕ) → NotEnd (number_at s p q)
unfolding number_at
number_not s p q = number_by_not (is_dotted s (word_end s q)) s p q

class_not : (s : List ℕ) (p : ℕ) (c : Class) → NotEnd (token_of c s p)
unfolding token_of word_at string_at dots_at found
class_not s p letter = tt
class_not s p digit = number_not s p p
class_not s p blank = tt
class_not s p plus_minus = number_not s p (p + 1)
class_not s p quote = by_test NotEnd (ltb (find_byte 34 s (p + 1)) (length s)) _ (Refused p) (λ _. tt) (λ _. tt)
class_not s p punctuator = tt
class_not s p dot = by_test NotEnd (pair_at s p 46 46) _ (Refused p) (λ _. tt) (λ _. tt)
class_not s p slash = tt
class_not s p other = tt

token_not : (s : List ℕ) (p : ℕ) → p < length s → NotEnd (token_at s p)
unfolding token_at
token_not s p h = rw (lt-ltb p (length s) h) (class_not s p (class_of (byte s p)))

bare_not : (s : List ℕ) (p : ℕ) → p < length s → Bare s p → NotEnd (step_at s p)
bare_not s p h (plain e) = subst NotEnd (sym (plain_step s p e)) (token_not s p h)
bare_not s p h (lone e f g) = subst NotEnd (sym (lone_step s p e f g)) (token_not s p h)
bare_not s p h (unended e f g k) = subst NotEnd (sym (unended_step s p e f g k)) tt

skips_high : (s : List ℕ) (m p : ℕ) → p ≤ length s → Skips s m p → m ≤ length s
skips_high s m p h (here _ e) = omega arith
skips_high s m p h (on _ q g k) = skips_high s m q (gap_step s p q g).2 k

-- where a step finds the end, only blanks and comments are left
pub end_skips : (s : List ℕ) (p n : ℕ) → p ≤ length s → step_at s p ≡ End n → Skips s (length s) p
end_skips s p n h e =
    let k = stop s p in
    let m = k.place in
    let f : step_at s m ≡ End n = sym (skips_step s m p k.skipped) ∙ e in
    let u = skips_high s m p h k.skipped in
    let v : length s ≤ m = split m (length s) (λ l. absurd (subst NotEnd f (bare_not s m l k.bare))) (λ l. l) in
    let z : m ≡ length s = omega arith in
    subst (λ (i : ℕ). Skips s i p) z k.skipped
