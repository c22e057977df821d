-- The laws of floats: which case of their definitions holds, and how large their parts are.
-- Assumes nothing.
use Prim.Native.Nat.{ℕ, ◌+◌, ◌-◌, ◌≤◌, ◌<◌}
use mathlib.Core.Path.{◌≡◌, refl, sym, ◌∙◌, ap, subst}
use mathlib.Core.List.{List}
use mathlib.Core.Bool.{Bool, true, false, false≢true}
use native.Mathlib.Omega.{arith}
use native.Mathlib.Decide.{dec_lt}
use lib.ListN.{length, take, drop, length-drop, get_or-eq_default}
use lib.Seq.{length-take-le}
use lib.Dec.{leb, eqb}
use borrow.Author.Tests.{eq-eqb, ne_eqb, leb-true}
use Rattle.token.specs.Find.{both, byte}
use Rattle.token.specs.Bytes.{is_digit, is_plus_minus, is_exponent_mark, is_dotted, find_mark, is_signed, word_end}
use Rattle.token.specs.Numbers.{all_digits, value_after, digits_after}
use Rattle.token.specs.Floats.{some_digits, digits_behind, mantissa_of, times, power_of, power_at}
use Rattle.std.specs.Prelude.{Option, Some, None}
use Rattle.token.specs.declared.Power.{Power}
use Rattle.token.proofs.Find.{by_test, find_low, find_high}
use Rattle.token.proofs.Bytes.{both_false, word_low, word_high}
use Rattle.token.proofs.Values.{was_is}

-- ---- tests of bytes

module _ (s : List ℕ) (p : ℕ) where
  pub dotted_short : length s ≤ p + 1 → is_dotted s p ≡ false
  unfolding is_dotted
  dotted_short h = ap (λ (n : ℕ). both (eqb (byte s p) 46) (is_digit n)) (get_or-eq_default s 0 h) ∙ both_false (eqb (byte s p) 46)

  pub dotted_other : (byte s p ≡ 46 → ⊥) → is_dotted s p ≡ false
  unfolding is_dotted
  dotted_other f = rw (ne_eqb (byte s p) 46 f)

module _ (s : List ℕ) (x r : ℕ) where
  pub signed_past : length s ≤ r → is_signed s x r ≡ false
  unfolding is_signed
  signed_past h = ap (λ (n : ℕ). both (eqb (x + 1) r) (is_plus_minus n)) (get_or-eq_default s 0 h) ∙ both_false (eqb (x + 1) r)

  pub signed_other : (x + 1 ≡ r → ⊥) → is_signed s x r ≡ false
  unfolding is_signed
  signed_other f = rw (ne_eqb (x + 1) r f)

-- a sign stands inside the text
pub signed_inside : (s : List ℕ) (x r : ℕ) → is_signed s x r ≡ true → r < length s
signed_inside s x r e = by (dec_lt r (length s))
  where
    by : Dec (r < length s) → r < length s
    by (yes h) = h
    by (no f) = absurd (let z = signed_past s x r (omega arith) in false≢true (sym z ∙ e))

-- a dot and a digit stand inside the text
pub dotted_inside : (s : List ℕ) (p : ℕ) → is_dotted s p ≡ true → p + 1 < length s
dotted_inside s p e = by (dec_lt (p + 1) (length s))
  where
    by : Dec (p + 1 < length s) → p + 1 < length s
    by (yes h) = h
    by (no f) = absurd (let z = dotted_short s p (omega arith) in false≢true (sym z ∙ e))

-- ---- the first e or E

module _ (s : List ℕ) (e p : ℕ) where
  pub mark_low : p ≤ find_mark s e p
  unfolding find_mark
  mark_low = find_low (λ i. is_exponent_mark (byte s i)) e p

  pub mark_high : p ≤ e → find_mark s e p ≤ e
  unfolding find_mark
  mark_high h = find_high (λ i. is_exponent_mark (byte s i)) e p h

-- ---- digits

no_is : {A : Type 0} (n : ℕ) → ◌≡◌ {A = Option ℕ} None (Some n) → A
no_is n e = absurd (let z : ◌≡◌ {A = ℕ} 0 1 = cc in omega arith)

module _ (b max a : ℕ) (w : List ℕ) (n : ℕ) where
  digits_limit : digits_after b max a w ≡ Some n → n ≤ max
  unfolding digits_after
  digits_limit =
      by_test (λ (v : Option ℕ). v ≡ Some n → n ≤ max) (all_digits b w) _ None
      (λ _ e. let z = was_is max (value_after b a w) n e in omega arith)
      (λ _ e. no_is n e)

module _ (max a : ℕ) (w : List ℕ) where
  pub some_none : length w ≡ 0 → some_digits max a w ≡ None
  unfolding some_digits
  some_none e = rw (eq-eqb (length w) 0 e)

  pub some_limit : (n : ℕ) → some_digits max a w ≡ Some n → n ≤ max
  unfolding some_digits
  some_limit n =
      by_test (λ (v : Option ℕ). v ≡ Some n → n ≤ max) (eqb (length w) 0) None _
      (λ _ e. no_is n e)
      (λ _ e. digits_limit 10 max a w n e)

module _ (v w : List ℕ) where
  behind_limit : (x : Option ℕ) (m : ℕ) → digits_behind x w ≡ Some m → m ≤ 999999999999999999
  unfolding digits_behind
  behind_limit (Some a) m e = some_limit 999999999999999999 a w m e
  behind_limit None m e = no_is m e

  -- a mantissa has at most eighteen digits
  pub mantissa_fits : (m : ℕ) → mantissa_of v w ≡ Some m → (length v + length w ≤ 18) × (m ≤ 999999999999999999)
  unfolding mantissa_of
  mantissa_fits m =
      by_test (λ (x : Option ℕ). x ≡ Some m → (length v + length w ≤ 18) × (m ≤ 999999999999999999)) (leb (length v + length w) 18) _ None
      (λ t e. (leb-true (length v + length w) 18 t, behind_limit (some_digits 999999999999999999 0 v) m e))
      (λ _ e. no_is m e)

-- the digits behind the dot are at most eighteen
pub fraction_short : (s v : List ℕ) (d x m : ℕ) → d ≤ x → x ≤ length s → mantissa_of v (take (x - d) (drop d s)) ≡ Some m → x - d ≤ 18
fraction_short s v d x m h l e =
    let z = mantissa_fits v (take (x - d) (drop d s)) m e in
    let n : length (take (x - d) (drop d s)) ≡ x - d = length-take-le (x - d) (drop d s) (rw (length-drop d s) (omega arith)) in
    omega arith

-- ---- the exponent

module _ (s : List ℕ) (x r : ℕ) where
  pub power_none : x ≡ r → power_at s x r ≡ times false 0 r
  unfolding power_at
  power_none e = rw (eq-eqb x r e)

  pub power_signed : (x ≡ r → ⊥) → is_signed s x r ≡ true → (e : ℕ) → e ≡ word_end s (r + 1)
      → power_at s x r ≡ power_of (eqb (byte s r) 45) (some_digits 64 0 (take (e - (r + 1)) (drop (r + 1) s))) e
  unfolding power_at
  power_signed f t e h = rw (ne_eqb x r f, t, h)

  pub power_unsigned : (x ≡ r → ⊥) → is_signed s x r ≡ false → power_at s x r ≡ power_of false (some_digits 64 0 (take (r - (x + 1)) (drop (x + 1) s))) r
  unfolding power_at
  power_unsigned f t = rw (ne_eqb x r f, t)

-- an exponent is at most 64, and the float ends at or behind r and inside the text
abbrev pub PowerOk : List ℕ → ℕ → Option Power → Type 0
PowerOk s r (Some x) = (x.amount ≤ 64) × (r ≤ x.end) × (x.end ≤ length s)
PowerOk s r None = Unit {0}

power_of_ok : (s : List ℕ) (r : ℕ) (b : Bool) (w : List ℕ) (e : ℕ) → r ≤ e → e ≤ length s → (v : Option ℕ) → some_digits 64 0 w ≡ v → PowerOk s r (power_of b v e)
unfolding power_of
power_of_ok s r b w e h l (Some m) q = (some_limit 64 0 w m q, h, l)
power_of_ok s r b w e h l None q = tt

pub power_ok : (s : List ℕ) (x r : ℕ) → r ≤ length s → PowerOk s r (power_at s x r)
unfolding power_at
power_ok s x r l =
    by_test (PowerOk s r) (eqb x r) (times false 0 r) _ (λ _. (omega arith, omega arith, l))
    (λ _. by_test (PowerOk s r) (is_signed s x r) _ _
    (λ t.
    let i = signed_inside s x r t in
    let h = word_low s (r + 1) in
    power_of_ok s r (eqb (byte s r) 45) (take (word_end s (r + 1) - (r + 1)) (drop (r + 1) s)) (word_end s (r + 1)) (omega arith)
    (word_high s (r + 1) (omega arith)) (some_digits 64 0 (take (word_end s (r + 1) - (r + 1)) (drop (r + 1) s))) refl)
    (λ _. power_of_ok s r false (take (r - (x + 1)) (drop (x + 1) s)) r (omega arith) l (some_digits 64 0 (take (r - (x + 1)) (drop (x + 1) s))) refl))

pub power_fits : (s : List ℕ) (x r : ℕ) → r ≤ length s → (y : Power) → power_at s x r ≡ Some y → (y.amount ≤ 64) × (r ≤ y.end) × (y.end ≤ length s)
power_fits s x r l y q = subst (PowerOk s r) q (power_ok s x r l)
