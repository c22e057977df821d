-- What those above rest on: a step goes on and stays in the text, a token is found again at its own place, and the list of all tokens
-- unfolds by steps.
-- Assumes nothing.
use Prim.Native.Nat.{ℕ, zero, suc, ◌+◌, ◌-◌, ◌≤◌, ◌<◌}
use mathlib.Core.Path.{◌≡◌, refl, sym, ◌∙◌, ap, subst}
use mathlib.Core.List.{List}
use mathlib.Core.Bool.{Bool, true, false, not}
use native.Mathlib.Omega.{arith}
use native.Mathlib.Nat.{le_trans}
use lib.ListN.{length}
use lib.Dec.{ltb, eqb}
use borrow.Author.Tests.{lt-ltb, ltb-true}
use Rattle.token.specs.Find.{byte}
use Rattle.token.specs.declared.scan.Class.{Class}
use Rattle.token.specs.declared.scan.Class.TheVariants.{Letter as letter, Digit as digit, Blank as blank, Sign as plus_minus, Quote as quote, Punctuator as punctuator, Dot as dot, Slash as slash, Other as other}
use Rattle.token.specs.Bytes.{class_of, is_word_byte, word_end, find_byte, pair_at, is_dotted, find_mark}
use Rattle.token.proofs.Bytes.{class_code}
use Rattle.token.specs.Gaps.{gap_at, after_gap, skip_n, skip}
use Rattle.token.specs.Numbers.{numeral}
use Rattle.token.specs.Floats.{mantissa_of, power_at, scale_of}
use Rattle.token.specs.Tokens.{bytes_between, found, word_at, limit_of, is_negative, number_of, whole_at, float_of, float_by, float_at, number_by, number_at, string_at, dots_at, token_of, token_at, after_skip, step_at}
use Rattle.token.specs.Lexing.{Lexed, more, ended, refused, after_step, lex_n, lex_from}
use Rattle.token.specs.declared.Cursor.{Cursor}
use Rattle.token.specs.declared.Token.{Token}
use Rattle.token.specs.declared.Sort.{Sort}
use Rattle.token.specs.declared.Sort.TheVariants.{Number, String, Punctuator, Float}
use Rattle.token.specs.declared.Step.{Step}
use Rattle.token.specs.declared.Step.TheVariants.{Found, Refused, End}
use Rattle.std.specs.Prelude.{Option, Some, None, Result, Ok, Err}
use Rattle.token.proofs.Find.{by_test, find_next, find_low}
use Rattle.token.proofs.Bytes.{word_byte, word_low, word_high, byte_low, pair_inside}
use Rattle.token.specs.declared.Power.{Power}
use Rattle.token.proofs.Decimals.{PowerOk, power_ok, dotted_inside}
use Rattle.token.proofs.Gaps.{GapOk, gap_ok, gap_past, skip_here, skip_open}
use Rattle.token.proofs.Lexemes.{token_end, step_token, step_open}

-- ---- skipping

-- where skipping from p can end
abbrev pub SkipOk : List ℕ → ℕ → Result ℕ ℕ → Type 0
SkipOk s p (Ok q) = (p ≤ q) × (gap_at s q ≡ Ok None)
SkipOk s p (Err q) = (p ≤ q) × (q < length s) × (gap_at s q ≡ Err q)

later : (s : List ℕ) (p q : ℕ) (k : Result ℕ ℕ) → p ≤ q → SkipOk s q k → SkipOk s p k
later s p q (Ok r) h o = (le_trans h o.0, o.1)
later s p q (Err r) h o = (le_trans h o.0, o.1, o.2)

by_gap : (s : List ℕ) (p : ℕ) (k : ℕ → Result ℕ ℕ) → ((q : ℕ) → p < q → q ≤ length s → SkipOk s q (k q)) → (g : Result (Option ℕ) ℕ) → gap_at s p ≡ g →
    GapOk p (length s) g → SkipOk s p (after_gap g p k)
by_gap s p k f (Ok None) e o = (omega arith, e)
by_gap s p k f (Ok (Some q)) e o = later s p q (k q) (omega arith) (f q o.0 o.1)
by_gap s p k f (Err q) e o = subst (λ (r : ℕ). SkipOk s p (Err r)) o.0 (omega arith, o.1, e ∙ ap Err (sym o.0))

skip_n_lem : (n : ℕ) (s : List ℕ) (p : ℕ) → length s ≤ p + n → SkipOk s p (skip_n n s p)
unfolding skip_n
skip_n_lem zero s p h = (omega arith, gap_past s p (omega arith))
skip_n_lem (suc n) s p h = by_gap s p (skip_n n s) (λ q l _. skip_n_lem n s q (omega arith)) (gap_at s p) refl (gap_ok s p)

pub skip_ok : (s : List ℕ) (p : ℕ) → SkipOk s p (skip s p)
unfolding skip
skip_ok s p = skip_n_lem (length s - p) s p (omega arith)

-- ---- a step

-- what stands at p, where no blank and no comment stands: a token that has bytes and lies inside the text, or none
abbrev pub TokenOk : List ℕ → ℕ → Step → Type 0
TokenOk s p (Found t c) = (t.at ≡ p) × (0 < t.len) × (t.at + t.len ≡ c.at) × (c.at ≤ length s)
TokenOk s p (Refused q) = (p ≡ q) × (q < length s)
TokenOk s p (End n) = n ≡ length s

found_ok : (s : List ℕ) (k : Sort) (p e : ℕ) → p < e → e ≤ length s → TokenOk s p (found k p e)
unfolding found
found_ok s k p e h l = (refl, omega arith, omega arith, l)

-- a word begins with a byte of a word
word_goes_on : (s : List ℕ) (p : ℕ) → p < length s → class_code (class_of (byte s p)) < 2 → p < word_end s p
unfolding word_end
word_goes_on s p h k =
    let t : ℕ → Bool = λ i. not (is_word_byte (byte s i)) in
    let n = find_next t (length s) p h (ap not (word_byte (byte s p) ∙ lt-ltb (class_code (class_of (byte s p))) 2 k)) in
    let l = find_low t (length s) (p + 1) in
    omega arith

number_ok : (s : List ℕ) (p e : ℕ) (m : Bool) (v : Option ℕ) → p < e → e ≤ length s → TokenOk s p (number_of m v p e)
number_ok s p e m (Some n) h l = found_ok s (Number (is_negative m n) n) p e h l
number_ok s p e m None h l = (refl, omega arith)

whole_ok : (s : List ℕ) (p q : ℕ) → p < word_end s q → word_end s q ≤ length s → TokenOk s p (whole_at s p q)
unfolding whole_at
whole_ok s p q =
    number_ok s p (word_end s q) (eqb (byte s p) 45)
    (numeral (ltb p q) (limit_of (eqb (byte s p) 45)) (bytes_between s q (word_end s q)))

float_of_ok : (s : List ℕ) (p r : ℕ) → p < r → r ≤ length s → (m : Bool) (n : ℕ) (v : Option ℕ) (w : Option Power) → PowerOk s r w → TokenOk s p (float_of m v w n p)
float_of_ok s p r h l m n (Some a) (Some x) o = found_ok s (Float (is_negative m a) a (scale_of x.below x.amount n)) p x.end (omega arith) o.2
float_of_ok s p r h l m n (Some a) None o = (refl, omega arith)
float_of_ok s p r h l m n None x o = (refl, omega arith)

float_ok : (s : List ℕ) (p q d : ℕ) → p < d → d + 1 < length s → TokenOk s p (float_at s p q d)
unfolding float_at float_by
float_ok s p q d h l =
    let i = word_low s (d + 1) in
    let k = word_high s (d + 1) (omega arith) in
    let x = find_mark s (word_end s (d + 1)) (d + 1) in
    float_of_ok s p (word_end s (d + 1)) (omega arith) k (eqb (byte s p) 45) (x - (d + 1)) (mantissa_of (bytes_between s q d) (bytes_between s (d + 1) x))
    (power_at s x (word_end s (d + 1))) (power_ok s x (word_end s (d + 1)) k)

number_by_ok : (s : List ℕ) (p q : ℕ) → p < word_end s q → word_end s q ≤ length s → (b : Bool) → is_dotted s (word_end s q) ≡ b → TokenOk s p (number_by b s p q)
unfolding number_by
number_by_ok s p q h l true e = float_ok s p q (word_end s q) h (dotted_inside s (word_end s q) e)
number_by_ok s p q h l false e = whole_ok s p q h l

number_at_ok : (s : List ℕ) (p q : ℕ) → p < word_end s q → word_end s q ≤ length s → TokenOk s p (number_at s p q)
unfolding number_at
number_at_ok s p q h l = number_by_ok s p q h l (is_dotted s (word_end s q)) refl

string_ok : (s : List ℕ) (p : ℕ) → p < length s → TokenOk s p (string_at s p)
unfolding string_at
string_ok s p h =
    let e = find_byte 34 s (p + 1) in
    by_test (TokenOk s p) (ltb e (length s)) _ (Refused p)
    (λ t.
    let l : e < length s = ltb-true e (length s) t in
    let k = byte_low s (p + 1) 34 in
    found_ok s String p (e + 1) (omega arith) (omega arith))
    (λ _. (refl, h))

dots_ok : (s : List ℕ) (p : ℕ) → p < length s → TokenOk s p (dots_at s p)
unfolding dots_at
dots_ok s p h =
    by_test (TokenOk s p) (pair_at s p 46 46) _ (Refused p)
    (λ t. let l = pair_inside s p 46 46 t in found_ok s (Punctuator 46) p (p + 2) (omega arith) (omega arith))
    (λ _. (refl, h))

class_ok : (s : List ℕ) (p : ℕ) → p < length s → (c : Class) → class_of (byte s p) ≡ c → TokenOk s p (token_of c s p)
unfolding token_of word_at
class_ok s p h letter e =
    found_ok s _ p (word_end s p) (word_goes_on s p h (rw e (omega arith))) (word_high s p (omega arith))
class_ok s p h digit e = number_at_ok s p p (word_goes_on s p h (rw e (omega arith))) (word_high s p (omega arith))
class_ok s p h blank e = (refl, h)
class_ok s p h plus_minus e =
    let l = word_low s (p + 1) in
    number_at_ok s p (p + 1) (omega arith) (word_high s (p + 1) (omega arith))
class_ok s p h quote e = string_ok s p h
class_ok s p h punctuator e = found_ok s _ p (p + 1) (omega arith) (omega arith)
class_ok s p h dot e = dots_ok s p h
class_ok s p h slash e = (refl, h)
class_ok s p h other e = (refl, h)

pub token_ok : (s : List ℕ) (p : ℕ) → TokenOk s p (token_at s p)
unfolding token_at
token_ok s p =
    by_test (TokenOk s p) (ltb p (length s)) _ (End (length s))
    (λ t. class_ok s p (ltb-true p (length s) t) (class_of (byte s p)) refl)
    (λ _. refl)

-- what a step from p finds: a token at or after p that has bytes and ends where the next step begins, inside the text; a refusal at or
-- after p and inside the text; or the end
pub record TokenFits (s : List ℕ) (p : ℕ) (t : Token) (c : Cursor) : Type 0 where
  pub after : p ≤ t.at
  pub long : 0 < t.len
  pub next : t.at + t.len ≡ c.at
  pub inside : c.at ≤ length s

abbrev pub StepOk : List ℕ → ℕ → Step → Type 0
StepOk s p (Found t c) = TokenFits s p t c
StepOk s p (Refused q) = (p ≤ q) × (q < length s)
StepOk s p (End n) = n ≡ length s

step_later : (s : List ℕ) (p q : ℕ) (r : Step) → p ≤ q → TokenOk s q r → StepOk s p r
step_later s p q (Found t c) h o = record { after = omega arith; long = o.1; next = o.2; inside = o.3 }
step_later s p q (Refused r) h o = (omega arith, o.1)
step_later s p q (End n) h o = o

by_skip : (s : List ℕ) (p : ℕ) (k : Result ℕ ℕ) → SkipOk s p k → StepOk s p (after_skip s k)
by_skip s p (Ok q) o = step_later s p q (token_at s q) o.0 (token_ok s q)
by_skip s p (Err q) o = (o.0, o.1)

pub step_ok : (s : List ℕ) (p : ℕ) → StepOk s p (step_at s p)
unfolding step_at
step_ok s p = by_skip s p (skip s p) (skip_ok s p)

-- what a step finds that finds a token, a refusal, the end
pub found_fits : (s : List ℕ) (p : ℕ) (t : Token) (c : Cursor) → step_at s p ≡ Found t c → TokenFits s p t c
found_fits s p t c e = subst (StepOk s p) e (step_ok s p)

pub bad_fits : (s : List ℕ) (p q : ℕ) → step_at s p ≡ Refused q → (p ≤ q) × (q < length s)
bad_fits s p q e = subst (StepOk s p) e (step_ok s p)

pub end_fits : (s : List ℕ) (p n : ℕ) → step_at s p ≡ End n → n ≡ length s
end_fits s p n e = subst (StepOk s p) e (step_ok s p)

again : (s : List ℕ) (p : ℕ) (t : Token) (c : Cursor) (k : Result ℕ ℕ) → SkipOk s p k → after_skip s k ≡ Found t c → step_at s t.at ≡ Found t c
again s p t c (Ok q) o e =
    let place : t.at ≡ q = (subst (TokenOk s q) e (token_ok s q)).0 in
    ap (step_at s) place ∙ step_token s q q (skip_here s q o.1) ∙ e
again s p t c (Err q) o e = absurd (let z : ◌≡◌ {A = ℕ} 0 1 = cc in omega arith)

-- a step from a token's own place finds the token again
pub step_again : (s : List ℕ) (p : ℕ) (t : Token) (c : Cursor) → step_at s p ≡ Found t c → step_at s t.at ≡ Found t c
unfolding step_at
step_again s p t c e = again s p t c (skip s p) (skip_ok s p) e

bad_place : (s : List ℕ) (p q : ℕ) (k : Result ℕ ℕ) → SkipOk s p k → after_skip s k ≡ Refused q → step_at s q ≡ Refused q
bad_place s p q (Ok r) o e =
    let place : r ≡ q = (subst (TokenOk s r) e (token_ok s r)).0 in
    ap (step_at s) (sym place) ∙ step_token s r r (skip_here s r o.1) ∙ e
bad_place s p q (Err r) o e =
    let place : r ≡ q = cc in
    ap (step_at s) (sym place) ∙ step_open s r r (skip_open s r o.2) ∙ e

-- a step from the place of a refusal is refused again
pub bad_again : (s : List ℕ) (p q : ℕ) → step_at s p ≡ Refused q → step_at s q ≡ Refused q
unfolding step_at
bad_again s p q e = bad_place s p q (skip s p) (skip_ok s p) e

-- at the end of the text and past it there is no token
pub step_past : (s : List ℕ) (p : ℕ) → length s ≤ p → step_at s p ≡ End (length s)
step_past s p h = step_token s p p (skip_here s p (gap_past s p h)) ∙ token_end s p h

-- ---- all steps

after_same : (f g : ℕ → Lexed) (r : Step) → ((t : Token) (c : Cursor) → r ≡ Found t c → f c.at ≡ g c.at) → after_step r f ≡ after_step r g
after_same f g (Found t c) e = ap (more t) (e t c refl)
after_same f g (Refused p) e = refl
after_same f g (End n) e = refl

none_left : (s : List ℕ) (p n : ℕ) → length s ≤ p → ended (length s) ≡ lex_n n s p
unfolding lex_n
none_left s p zero h = refl
none_left s p (suc n) h = rw (step_past s p h)

enough : (n m : ℕ) (s : List ℕ) (p : ℕ) → length s < p + n → length s < p + m → lex_n n s p ≡ lex_n m s p
unfolding lex_n
enough zero m s p h k = none_left s p m (omega arith)
enough (suc n) zero s p h k = sym (none_left s p (suc n) (omega arith))
enough (suc n) (suc m) s p h k =
    after_same (lex_n n s) (lex_n m s) (step_at s p)
    (λ t c e. let o = found_fits s p t c e in enough n m s c.at (omega arith) (omega arith))

-- the tokens from p on: the one that the step from p finds, and those from the next cursor on
pub lex_law : (s : List ℕ) (p : ℕ) → lex_from s p ≡ after_step (step_at s p) (lex_from s)
unfolding lex_from lex_n
lex_law s p =
    after_same (lex_n (length s - p) s) (lex_from s) (step_at s p)
    (λ t c e.
    let o = found_fits s p t c e in
    enough (length s - p) (suc (length s - c.at)) s c.at (omega arith) (omega arith))

module _ (s : List ℕ) (p : ℕ) where
  pub lex_found : (t : Token) (c : Cursor) → step_at s p ≡ Found t c → lex_from s p ≡ more t (lex_from s c.at)
  lex_found t c e = lex_law s p ∙ ap (λ (r : Step). after_step r (lex_from s)) e

  pub lex_bad : (q : ℕ) → step_at s p ≡ Refused q → lex_from s p ≡ refused q
  lex_bad q e = lex_law s p ∙ ap (λ (r : Step). after_step r (lex_from s)) e

  pub lex_end : (n : ℕ) → step_at s p ≡ End n → lex_from s p ≡ ended n
  lex_end n e = lex_law s p ∙ ap (λ (r : Step). after_step r (lex_from s)) e

-- the tokens from a token's own place on are those from where the step to it began
pub lex_again : (s : List ℕ) (p : ℕ) (t : Token) (c : Cursor) → step_at s p ≡ Found t c → lex_from s t.at ≡ lex_from s p
lex_again s p t c e = lex_found s t.at t c (step_again s p t c e) ∙ sym (lex_found s p t c e)
