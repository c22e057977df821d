-- A token is found by its own bytes: a text that has them at the same places, and goes on so that they end there, has it too. Assumes nothing.
use Prim.Native.Nat.{ℕ, zero, suc, ◌+◌, ◌-◌, min, ◌≤◌, ◌<◌}
use mathlib.Core.Path.{◌≡◌, refl, sym, ◌∙◌, ap, ap₂, subst}
use mathlib.Core.List.{List}
use mathlib.Core.Bool.{Bool, true, false, not, false≢true}
use mathlib.Core.Logic.{⊎_elim}
use native.Mathlib.Omega.{arith}
use native.Mathlib.Decide.{ℕ_discrete}
use native.Mathlib.Nat.{eq-or-lt_of_le, add-zero, zero-min}
use lib.ListN.{length, take, get_or-eq_default, drop, length-take, length-drop}
use lib.Seq.{ext_get_or, get_or-take, get_or-drop}
use lib.Dec.{ltb, eqb}
use borrow.Author.Tests.{lt-ltb, ltb-true, eqb-true}
use Rattle.token.specs.Find.{byte, find, both, either}
use Rattle.token.specs.Bytes.{class_of, is_word_byte, word_end, find_byte, pair_at, find_close, is_digit, is_letter, is_plus_minus, is_exponent_mark, is_dotted, find_mark, is_signed}
use Rattle.token.specs.declared.scan.Class.{Class}
use Rattle.token.specs.declared.scan.Class.TheVariants.{Letter as letter, Digit as digit, Blank as blank, Sign as plus_minus, Quote as quote, Punctuator as punctuator, Dot as dot, Slash as slash, Other as other}
use Rattle.token.specs.Floats.{some_digits, mantissa_of, times, power_of, power_at}
use Rattle.std.specs.Prelude.{Option, Some, None}
use Rattle.token.specs.declared.Power.{Power}
use Rattle.token.proofs.Lexemes.{number_float, number_whole}
use Rattle.token.proofs.Decimals.{mark_low, mark_high, dotted_inside, signed_inside, signed_past, signed_other, power_none, power_signed, power_unsigned, some_none, power_fits}
use Rattle.token.specs.Tokens.{bytes_between, found, word_at, limit_of, whole_at, float_of, float_by, float_at, number_by, number_at, string_at, dots_at, token_of, token_at, step_at}
use Rattle.token.specs.declared.Cursor.{Cursor}
use Rattle.token.specs.declared.Token.{Token}
use Rattle.token.specs.declared.Sort.{Sort}
use Rattle.token.specs.declared.Sort.TheVariants.{Word, Number, String, Punctuator, Float}
use Rattle.token.specs.declared.Step.{Step}
use Rattle.token.specs.declared.Step.TheVariants.{Found, Refused, End}
use Rattle.token.proofs.Find.{by_test, find_here, find_next, find_past, find_low, find_high, find_holds, find_before}
use Rattle.token.proofs.Bytes.{pair_inside, either_true, byte_low, word_high, word_low, both_true, both_second}
use Rattle.token.proofs.Steps.{TokenOk, token_ok}
use Rattle.locality.proofs.Skipping.{Gap, a_blank, a_line, a_block, parting, Bare, plain, lone, unended, gap_step, plain_step, lone_step, unended_step, Skips, here, on, skips_step, skips_low, stop}
use Rattle.locality.proofs.Forms.{number_form}

-- two texts have the same bytes from p up to e
abbrev pub Same : List ℕ → List ℕ → ℕ → ℕ → Type 0
Same s u p e = (i : ℕ) → p ≤ i → i < e → byte u i ≡ byte s i

-- a token of a sort ends where a text goes on: a word, a number or a float before a byte of no word and before nothing, and a number not before a dot
-- and a digit; a string or a sign before any
unfoldable pub ends : Sort → List ℕ → Bool
ends (Word k) b = not (is_word_byte (byte b 0))
ends (Number n m) b = both (not (is_word_byte (byte b 0))) (not (is_dotted b 0))
ends (Float n m k) b = not (is_word_byte (byte b 0))
ends String b = true
ends (Punctuator m) b = true

-- ---- searches

module _ (t : ℕ → Bool) where
  reach : (e q n p : ℕ) → p + n ≡ q → q ≤ e → ((i : ℕ) → p ≤ i → i < q → t i ≡ false) → (q < e → t q ≡ true) → find t e p ≡ q
  reach e q zero p h k f g =
      let same : p ≡ q = omega arith in
      ap (find t e) same
      ∙ ⊎_elim (λ z. find_past t e q (omega arith)) (λ l. find_here t e q l (g l)) (eq-or-lt_of_le k)
  reach e q (suc n) p h k f g =
      find_next t e p (omega arith) (f p (omega arith) (omega arith))
      ∙ reach e q n (p + 1) (omega arith) k (λ i l m. f i (omega arith) m) g

  -- the place that is found is the one before which the test never holds, and at which it holds or all ends
  pub find_is : (e p q : ℕ) → p ≤ q → q ≤ e → ((i : ℕ) → p ≤ i → i < q → t i ≡ false) → (q < e → t q ≡ true) → find t e p ≡ q
  find_is e p q h k f g = reach e q (q - p) p (omega arith) k f g

-- the first byte of what goes on at e
pub first_rest : (s : List ℕ) (e : ℕ) → byte (drop e s) 0 ≡ byte s e
first_rest s e = get_or-drop e s 0 0 ∙ ap (byte s) (add-zero e)

module _ (s u : List ℕ) where
  -- the same bytes from p up to e are the same list
  between_same : (p e : ℕ) → e ≤ length s → e ≤ length u → Same s u p e → bytes_between u p e ≡ bytes_between s p e
  between_same p e h k f =
      ext_get_or 0 (bytes_between u p e) (bytes_between s p e) (simp (length-take, length-drop) (omega arith))
      (λ i l.
      let m : i < e - p = omega (arith, length-take (e - p) (drop p u)) in
      rw (get_or-take (e - p) (drop p u) i 0 m, get_or-take (e - p) (drop p s) i 0 m, get_or-drop p u i 0, get_or-drop p s i 0) (f (p + i) (omega arith) (omega arith)))

  pair_same : (p a b : ℕ) → p + 1 < length s → p + 1 < length u → byte u p ≡ byte s p → byte u (p + 1) ≡ byte s (p + 1) → pair_at u p a b ≡ pair_at s p a b
  unfolding pair_at
  pair_same p a b h k e f = rw (lt-ltb (p + 1) (length s) h, lt-ltb (p + 1) (length u) k, e, f)

  word_same : (p : ℕ) → p ≤ length s → word_end s p ≤ length u → Same s u p (word_end s p) → not (is_word_byte (byte (drop (word_end s p) u) 0)) ≡ true →
      word_end u p ≡ word_end s p
  unfolding word_end
  word_same p l h f e =
      let t : ℕ → Bool = λ i. not (is_word_byte (byte s i)) in
      find_is (λ i. not (is_word_byte (byte u i))) (length u) p (find t (length s) p) (find_low t (length s) p) h
      (λ i k m. ap (λ (b : ℕ). not (is_word_byte b)) (f i k m) ∙ find_before t (length s) p i k m)
      (λ _. ap (λ (b : ℕ). not (is_word_byte b)) (sym (first_rest u (find t (length s) p))) ∙ e)

-- the byte after a run is no word's
pub word_ends : (s : List ℕ) (p : ℕ) → p ≤ length s → not (is_word_byte (byte (drop (word_end s p) s) 0)) ≡ true
unfolding word_end is_word_byte
word_ends s p h =
    let t : ℕ → Bool = λ i. not (is_word_byte (byte s i)) in
    ap (λ (b : ℕ). not (is_word_byte b)) (first_rest s (find t (length s) p))
    ∙ ⊎_elim (λ e. past (find t (length s) p) (omega arith)) (λ l. find_holds t (length s) p h l) (eq-or-lt_of_le (find_high t (length s) p h))
  where
    past : (n : ℕ) → length s ≤ n → not (is_word_byte (byte s n)) ≡ true
    past n l = ap (λ (b : ℕ). not (is_word_byte b)) (get_or-eq_default s 0 l)

-- a digit is in a run
digit_on : (s : List ℕ) (p : ℕ) → p < length s → is_digit (byte s p) ≡ true → p < word_end s p
unfolding word_end is_word_byte
digit_on s p h e =
    let t : ℕ → Bool = λ i. not (is_word_byte (byte s i)) in
    let z : is_word_byte (byte s p) ≡ true = ap (either (is_letter (byte s p))) e ∙ either_true (is_letter (byte s p)) in
    let n = find_next t (length s) p h (ap not z) in
    let l = find_low t (length s) (p + 1) in
    omega arith

-- a dot and a digit, seen from where a text goes on
pub dotted_rest : (s : List ℕ) (e : ℕ) → is_dotted (drop e s) 0 ≡ is_dotted s e
unfolding is_dotted
dotted_rest s e = ap₂ (λ (a b : ℕ). both (eqb a 46) (is_digit b)) (first_rest s e) (get_or-drop e s 1 0)

not_both : (a b : Bool) → both a (not b) ≡ true → (a ≡ true) × (b ≡ false)
not_both true true e = absurd (false≢true e)
not_both true false e = (refl, refl)
not_both false b e = absurd (false≢true e)

-- the end of a comment is not before the place it is looked for from
pub close_low : (s : List ℕ) (p : ℕ) → p ≤ find_close s p
unfolding find_close
close_low s p = find_low (λ i. pair_at s i 42 47) (length s) p

-- ---- blanks and comments

-- u has the bytes of s from z up to e, which lies inside both; what is skipped ends before e
module _ (s u : List ℕ) (z e : ℕ) (es : e ≤ length s) (eu : e ≤ length u) (same : Same s u z e) where
  -- pairs of bytes, classes of bytes, ends of comments and whole gaps are the same in both
  pub pair_front : (r a b : ℕ) → z ≤ r → r + 1 < e → pair_at u r a b ≡ pair_at s r a b
  pair_front r a b h k = pair_same s u r a b (omega arith) (omega arith) (same r h (omega arith)) (same (r + 1) (omega arith) k)

  pub class_front : (r : ℕ) → z ≤ r → r < e → class_of (byte u r) ≡ class_of (byte s r)
  class_front r h k = ap class_of (same r h k)

  pub line_front : (r : ℕ) → z ≤ r → pair_at s r 47 47 ≡ true → find_byte 10 s (r + 2) < e → find_byte 10 u (r + 2) ≡ find_byte 10 s (r + 2)
  unfolding find_byte
  line_front r h t k =
      let i = pair_inside s r 47 47 t in
      let feed : ℕ → Bool = λ i. eqb (byte s i) 10 in
      let q = find feed (length s) (r + 2) in
      let low = find_low feed (length s) (r + 2) in
      find_is (λ i. eqb (byte u i) 10) (length u) (r + 2) q low (omega arith)
      (λ i l n. ap (λ (b : ℕ). eqb b 10) (same i (omega arith) (omega arith)) ∙ find_before feed (length s) (r + 2) i l n)
      (λ l. ap (λ (b : ℕ). eqb b 10) (same q (omega arith) (omega arith)) ∙ find_holds feed (length s) (r + 2) (omega arith) (omega arith))

  pub close_front : (r : ℕ) → z ≤ r → r + 2 ≤ length s → find_close s (r + 2) < length s → find_close s (r + 2) + 1 < e →
      find_close u (r + 2) ≡ find_close s (r + 2)
  unfolding find_close
  close_front r h i l k =
      let t : ℕ → Bool = λ i. pair_at s i 42 47 in
      let c = find t (length s) (r + 2) in
      let low = find_low t (length s) (r + 2) in
      find_is (λ i. pair_at u i 42 47) (length u) (r + 2) c low (omega arith)
      (λ i a n. pair_front i 42 47 (omega arith) (omega arith) ∙ find_before t (length s) (r + 2) i a n)
      (λ _. pair_front c 42 47 (omega arith) (omega arith) ∙ find_holds t (length s) (r + 2) i l)

  pub gap_front : (r q : ℕ) → z ≤ r → q < e → Gap s r q → Gap u r q
  gap_front r q h k (a_blank c n) = a_blank (class_front r h (omega arith) ∙ c) n
  gap_front r q h k (a_line c t n) =
      let low = byte_low s (r + 2) 10 in
      a_line (class_front r h (omega arith) ∙ c) (pair_front r 47 47 h (omega arith) ∙ t) (n ∙ sym (line_front r h t (omega arith)))
  gap_front r q h k (a_block c f t l n) =
      let low = close_low s (r + 2) in
      let i = pair_inside s r 47 42 t in
      let w : find_close u (r + 2) ≡ find_close s (r + 2) = close_front r h (omega arith) l (omega arith) in
      a_block (class_front r h (omega arith) ∙ c) (pair_front r 47 47 h (omega arith) ∙ f) (pair_front r 47 42 h (omega arith) ∙ t) (omega arith) (omega arith)

  -- what is skipped in s is skipped in u
  skips_front : (m p : ℕ) → z ≤ p → m < e → Skips s m p → Skips u m p
  skips_front m p h k (here _ i) = here p i
  skips_front m p h k (on _ q g r) =
      let l = skips_low s m q r in
      let f = (gap_step s p q g).1 in
      on p q (gap_front p q h (omega arith) g) (skips_front m q (omega arith) k r)

-- ---- floats

power_end : (b : Bool) (v : Option ℕ) (E : ℕ) (c : Bool) (x e : ℕ) → power_of b v E ≡ times c x e → e ≡ E
unfolding power_of
power_end b (Some m) E c x e q =
    let z : ◌≡◌ {A = Power} (record { below = b; amount = m; end = E }) (record { below = c; amount = x; end = e }) = cc in
    sym (ap (λ (y : Power). y.end) z)
power_end b None E c x e q = absurd (let y : ◌≡◌ {A = ℕ} 0 1 = cc in omega arith)

no_power : (b : Bool) (v : Option ℕ) (E : ℕ) (c : Bool) (x e : ℕ) → v ≡ None → power_of b v E ≡ times c x e → ⊥
unfolding power_of
no_power b v E c x e n q = let z : None ≡ times c x e = sym (ap (λ (w : Option ℕ). power_of b w E) n) ∙ q in let y : ◌≡◌ {A = ℕ} 0 1 = cc in omega arith

-- a float of s that ends at e is one of u, if u has its bytes and its run ends there too
module _ (s u : List ℕ) (p q d r m : ℕ) (dd : d ≡ word_end s q) (rr : r ≡ word_end s (d + 1)) (mm : m ≡ find_mark s r (d + 1)) (pq : p ≤ q) (ql : q ≤ length s)
    (dot_at : is_dotted s d ≡ true) (low : Bool) (x e : ℕ) (pw : power_at s m r ≡ times low x e) (eu : e ≤ length u) (same : Same s u p e)
    (stops : not (is_word_byte (byte (drop e u) 0)) ≡ true) where
  digit_at : is_digit (byte s (d + 1)) ≡ true
  unfolding is_dotted
  digit_at = both_second (eqb (byte s d) 46) (is_digit (byte s (d + 1))) dot_at

  di : d + 1 < length s
  di = dotted_inside s d dot_at

  qd : q ≤ d
  qd = let z = word_low s q in omega arith

  dr : d + 1 < r
  dr = let z = digit_on s (d + 1) di digit_at in omega arith

  rl : r ≤ length s
  rl = let i = di in let z = word_high s (d + 1) (omega arith) in omega arith

  re : r ≤ e
  re = (power_fits s m r rl _ pw).1

  el : e ≤ length s
  el = (power_fits s m r rl _ pw).2

  md : d + 1 ≤ m
  md = let z = mark_low s r (d + 1) in omega arith

  mr : m ≤ r
  mr = let i = dr in let z = mark_high s r (d + 1) (omega arith) in omega arith

  -- a run that ends before e, and one that ends at e
  run_kept : (a : ℕ) → p ≤ a → a ≤ length s → word_end s a < e → word_end u a ≡ word_end s a
  run_kept a h l k =
      let w = word_end s a in
      let lo = word_low s a in
      word_same s u a l (omega arith) (λ i f g. same i (omega arith) (omega arith))
      (ap (λ (b : ℕ). not (is_word_byte b)) (first_rest u w ∙ same w (omega arith) k ∙ sym (first_rest s w)) ∙ word_ends s a l)

  last_kept : (a : ℕ) → p ≤ a → a ≤ length s → word_end s a ≡ e → word_end u a ≡ word_end s a
  last_kept a h l k =
      word_same s u a l (omega arith) (λ i f g. same i (omega arith) (omega arith))
      (ap (λ (n : ℕ). not (is_word_byte (byte (drop n u) 0))) k ∙ stops)

  either_kept : (a : ℕ) → p ≤ a → a ≤ length s → word_end s a ≤ e → word_end u a ≡ word_end s a
  either_kept a h l k = ⊎_elim (λ z. last_kept a h l z) (λ z. run_kept a h l z) (eq-or-lt_of_le k)

  dot_kept : is_dotted u d ≡ true
  unfolding is_dotted
  dot_kept =
      let i = dr in
      let j = re in
      let k = qd in
      ap₂ (λ (a b : ℕ). both (eqb a 46) (is_digit b)) (same d (omega arith) (omega arith)) (same (d + 1) (omega arith) (omega arith)) ∙ dot_at

  first_kept : word_end u q ≡ d
  first_kept = let i = dr in let j = re in run_kept q pq ql (omega arith) ∙ sym dd

  second_kept : word_end u (d + 1) ≡ r
  second_kept = let i = di in let j = qd in let k = re in either_kept (d + 1) (omega arith) (omega arith) (omega arith) ∙ sym rr

  mark_kept : find_mark u r (d + 1) ≡ m
  unfolding find_mark
  mark_kept =
      let t : ℕ → Bool = λ i. is_exponent_mark (byte s i) in
      let j = qd in
      let k = re in
      let n = dr in
      find_is (λ i. is_exponent_mark (byte u i)) r (d + 1) (find t r (d + 1)) (find_low t r (d + 1)) (find_high t r (d + 1) (omega arith))
      (λ i a b. ap is_exponent_mark (same i (omega arith) (let z = find_high t r (d + 1) (omega arith) in omega arith)) ∙ find_before t r (d + 1) i a b)
      (λ b. ap is_exponent_mark (same (find t r (d + 1)) (let z = find_low t r (d + 1) in omega arith) (omega arith)) ∙ find_holds t r (d + 1) (omega arith) b)
      ∙ sym mm

  unsigned_kept : (m ≡ r → ⊥) → is_signed s m r ≡ false → power_at u m r ≡ power_at s m r
  unsigned_kept n t =
      let j = qd in
      let k = md in
      let l = re in
      let o = el in
      let i = mr in
      let w : List ℕ = bytes_between s (m + 1) r in
      let long : m + 1 ≡ r → ⊥ = λ z.
      no_power false (some_digits 64 0 w) r low x e
      (some_none 64 0 w (length-take (r - (m + 1)) (drop (m + 1) s) ∙ (let y : r - (m + 1) ≡ 0 = omega arith in ap (λ (n : ℕ). min n (length (drop (m + 1) s))) y ∙ zero-min (length (drop (m + 1) s)))))
      (sym (power_unsigned s m r n t) ∙ pw) in
      power_unsigned u m r n (signed_other u m r long)
      ∙ ap (λ (v : List ℕ). power_of false (some_digits 64 0 v) r) (between_same s u (m + 1) r (omega arith) (omega arith) (λ i a b. same i (omega arith) (omega arith)))
      ∙ sym (power_unsigned s m r n t)

  signed_kept : (m ≡ r → ⊥) → is_signed s m r ≡ true → power_at u m r ≡ power_at s m r
  unfolding is_signed
  signed_kept n t =
      let j = qd in
      let k = md in
      let mh = mr in
      let g = signed_inside s m r t in
      let E = word_end s (r + 1) in
      let ee : e ≡ E = power_end (eqb (byte s r) 45) (some_digits 64 0 (take (E - (r + 1)) (drop (r + 1) s))) E low x e (sym (power_signed s m r n t E refl) ∙ pw) in
      let lo = word_low s (r + 1) in
      let o = el in
      let b : byte u r ≡ byte s r = same r (omega arith) (omega arith) in
      power_signed u m r n (ap (λ (c : ℕ). both (eqb (m + 1) r) (is_plus_minus c)) b ∙ t) E (sym (last_kept (r + 1) (omega arith) (omega arith) (sym ee)))
      ∙ ap₂ (λ (c : ℕ) (v : List ℕ). power_of (eqb c 45) (some_digits 64 0 v) E) b (between_same s u (r + 1) E (omega arith) (omega arith) (λ n' a f. same n' (omega arith) (omega arith)))
      ∙ sym (power_signed s m r n t E refl)

  power_kept : power_at u m r ≡ power_at s m r
  power_kept = by (ℕ_discrete m r) (is_signed s m r) refl
    where
      by : Dec (m ≡ r) → (b : Bool) → is_signed s m r ≡ b → power_at u m r ≡ power_at s m r
      by (yes z) b t = power_none u m r z ∙ sym (power_none s m r z)
      by (no n) true t = signed_kept n t
      by (no n) false t = unsigned_kept n t

  pub float_same : number_at u p q ≡ float_by s p q d r m
  unfolding float_at float_by
  float_same =
      let i = dr in
      let j = qd in
      let k = re in
      let l = el in
      let a = md in
      let b = mr in
      number_float u p q d (sym first_kept) dot_kept
      ∙ rw (
        second_kept,
        mark_kept,
        same p (omega arith) (omega arith),
        between_same s u q d (omega arith) (omega arith) (λ i f g. same i (omega arith) (omega arith)),
        between_same s u (d + 1) m (omega arith) (omega arith) (λ i f g. same i (omega arith) (omega arith)),
        power_kept,
      )

-- ---- tokens

-- r is what s has at p; if it is a token, and u has its bytes and goes on so that it ends there, then x, what u has at p, is r
abbrev Kept : List ℕ → List ℕ → ℕ → Step → Step → Type 0
Kept s u p x (Found t c) = p < c.at → c.at ≤ length u → Same s u p c.at → ends t.sort (drop c.at u) ≡ true → x ≡ Found t c
Kept s u p x (Refused q) = Unit {0}
Kept s u p x (End n) = Unit {0}

quote_front : (s u : List ℕ) (p : ℕ) → p < length s → find_byte 34 s (p + 1) + 1 ≤ length u → Same s u p (find_byte 34 s (p + 1) + 1) →
    find_byte 34 s (p + 1) < length s → find_byte 34 u (p + 1) ≡ find_byte 34 s (p + 1)
unfolding find_byte
quote_front s u p h k f l =
    let t : ℕ → Bool = λ i. eqb (byte s i) 34 in
    let e = find t (length s) (p + 1) in
    let low = find_low t (length s) (p + 1) in
    find_is (λ i. eqb (byte u i) 34) (length u) (p + 1) e low (omega arith)
    (λ i a b. ap (λ (b : ℕ). eqb b 34) (f i (omega arith) (omega arith)) ∙ find_before t (length s) (p + 1) i a b)
    (λ _. ap (λ (b : ℕ). eqb b 34) (f e (omega arith) (omega arith)) ∙ find_holds t (length s) (p + 1) (omega arith) l)

module _ (s u : List ℕ) (p : ℕ) (inside : p < length s) where
  word_kept : Kept s u p (word_at u p) (word_at s p)
  unfolding word_at found ends
  word_kept =
      λ _ k f e.
      rw (word_same s u p (omega arith) k f e, between_same s u p (word_end s p) (word_high s p (omega arith)) k f)

  whole_kept : (q : ℕ) → p ≤ q → q ≤ length s → Kept s u p (number_at u p q) (whole_at s p q)
  unfolding whole_at found ends
  whole_kept q h l =
      number_form (eqb (byte s p) 45) (ltb p q) (limit_of (eqb (byte s p) 45))
      (λ (f : ℕ → ℕ → Step).
      (p < word_end s q → word_end s q ≤ length u → Same s u p (word_end s q) → both (not (is_word_byte (byte (drop (word_end s q) u) 0))) (not (is_dotted (drop (word_end s q) u) 0)) ≡ true →
      number_at u p q ≡ f p (word_end s q)) → Kept s u p (number_at u p q) (f p (word_end s q)))
      (λ m _ g. g) (λ _. tt) (bytes_between s q (word_end s q))
      (λ n k f e.
      let g : Same s u q (word_end s q) = λ i a b. f i (omega arith) b in
      let x = not_both (not (is_word_byte (byte (drop (word_end s q) u) 0))) (is_dotted (drop (word_end s q) u) 0) e in
      let w : word_end u q ≡ word_end s q = word_same s u q l k g x.0 in
      number_whole u p q (word_end s q) (sym w) (sym (dotted_rest u (word_end s q)) ∙ x.1)
      ∙ rw (w, between_same s u q (word_end s q) (word_high s q l) k g, f p (omega arith) n))

  float_kept : (q : ℕ) → p ≤ q → q ≤ length s → is_dotted s (word_end s q) ≡ true → Kept s u p (number_at u p q) (float_at s p q (word_end s q))
  unfolding float_at float_by found ends
  float_kept q h l t = by (mantissa_of (bytes_between s q (word_end s q)) (bytes_between s (word_end s q + 1) m)) (power_at s m r) refl refl
    where
      r : ℕ
      r = word_end s (word_end s q + 1)

      m : ℕ
      m = find_mark s (word_end s (word_end s q + 1)) (word_end s q + 1)

      by : (v : Option ℕ) (w : Option Power)
          → mantissa_of (bytes_between s q (word_end s q)) (bytes_between s (word_end s q + 1) (find_mark s (word_end s (word_end s q + 1)) (word_end s q + 1))) ≡ v
          → power_at s (find_mark s (word_end s (word_end s q + 1)) (word_end s q + 1)) (word_end s (word_end s q + 1)) ≡ w
          → Kept s u p (number_at u p q) (float_of (eqb (byte s p) 45) v w (find_mark s (word_end s (word_end s q + 1)) (word_end s q + 1) - (word_end s q + 1)) p)
      by (Some a) (Some x) f g = λ _ k sm st.
          float_same s u p q (word_end s q) (word_end s (word_end s q + 1)) (find_mark s (word_end s (word_end s q + 1)) (word_end s q + 1)) refl refl refl h l t x.below x.amount x.end g k sm st
          ∙ ap₂ (λ (v : Option ℕ) (w : Option Power). float_of (eqb (byte s p) 45) v w (find_mark s (word_end s (word_end s q + 1)) (word_end s q + 1) - (word_end s q + 1)) p) f g
      by (Some a) None f g = tt
      by None w f g = tt

  number_by_kept : (q : ℕ) → p ≤ q → q ≤ length s → (b : Bool) → is_dotted s (word_end s q) ≡ b → Kept s u p (number_at u p q) (number_by b s p q)
  unfolding number_by
  number_by_kept q h l true t = float_kept q h l t
  number_by_kept q h l false t = whole_kept q h l

  number_kept : (q : ℕ) → p ≤ q → q ≤ length s → Kept s u p (number_at u p q) (number_at s p q)
  unfolding number_at
  number_kept q h l = number_by_kept q h l (is_dotted s (word_end s q)) refl

  string_kept : Kept s u p (string_at u p) (string_at s p)
  unfolding string_at found
  string_kept =
      let e = find_byte 34 s (p + 1) in
      by_test (Kept s u p (string_at u p)) (ltb e (length s)) (found String p (e + 1)) (Refused p)
      (λ b _ k f _.
      let l : e < length s = ltb-true e (length s) b in
      let n : find_byte 34 u (p + 1) ≡ e = quote_front s u p inside k f l in
      rw (n, lt-ltb e (length u) (omega arith)))
      (λ _. tt)

  dots_kept : Kept s u p (dots_at u p) (dots_at s p)
  unfolding dots_at found
  dots_kept =
      by_test (Kept s u p (dots_at u p)) (pair_at s p 46 46) (found (Punctuator 46) p (p + 2)) (Refused p)
      (λ t _ k f _.
      let l = pair_inside s p 46 46 t in
      rw (pair_same s u p 46 46 l (omega arith) (f p (omega arith) (omega arith)) (f (p + 1) (omega arith) (omega arith)), t))
      (λ _. tt)

  class_kept : (c : Class) → Kept s u p (token_of c u p) (token_of c s p)
  unfolding token_of found
  class_kept letter = word_kept
  class_kept digit = number_kept p (omega arith) (omega arith)
  class_kept blank = tt
  class_kept plus_minus = number_kept (p + 1) (omega arith) (omega arith)
  class_kept quote = string_kept
  class_kept punctuator = λ n k f _. rw (f p (omega arith) n)
  class_kept dot = dots_kept
  class_kept slash = tt
  class_kept other = tt

  -- a byte that begins a token begins neither a blank nor a comment
  begins : (c : Class) (t : Token) (k : Cursor) → token_of c s p ≡ Found t k → parting c ≡ false
  unfolding token_of parting
  begins letter t k e = refl
  begins digit t k e = refl
  begins blank t k e = absurd (let y : ◌≡◌ {A = ℕ} 0 1 = cc in omega arith)
  begins plus_minus t k e = refl
  begins quote t k e = refl
  begins punctuator t k e = refl
  begins dot t k e = refl
  begins slash t k e = absurd (let y : ◌≡◌ {A = ℕ} 0 1 = cc in omega arith)
  begins other t k e = refl

  token_in : token_at s p ≡ token_of (class_of (byte s p)) s p
  unfolding token_at
  token_in = rw (lt-ltb p (length s) inside)

-- a token that begins at p and is found in s is found in u, by a step from p
token_front : (s u : List ℕ) (p : ℕ) (t : Token) (c : Cursor) → token_at s p ≡ Found t c →
    c.at ≤ length u → Same s u p c.at → ends t.sort (drop c.at u) ≡ true → step_at u p ≡ Found t c
token_front s u p t c e k f h =
    let o : TokenOk s p (Found t c) = subst (TokenOk s p) e (token_ok s p) in
    let is = token_in s u p (omega arith) in
    let iu = token_in u u p (omega arith) in
    let b : byte u p ≡ byte s p = f p (omega arith) (omega arith) in
    plain_step u p (ap (λ (x : ℕ). parting (class_of x)) b ∙ begins s u p (omega arith) (class_of (byte s p)) t c (sym is ∙ e))
    ∙ iu ∙ ap (λ (x : ℕ). token_of (class_of x) u p) b
    ∙ subst (Kept s u p (token_of (class_of (byte s p)) u p)) (sym is ∙ e) (class_kept s u p (omega arith) (class_of (byte s p))) (omega arith) k f h

-- a token that is found where neither a blank nor a comment stands begins there
pub by_bare : (s : List ℕ) (m : ℕ) (t : Token) (c : Cursor) → Bare s m → step_at s m ≡ Found t c → token_at s m ≡ Found t c
by_bare s m t c (plain f) e = sym (plain_step s m f) ∙ e
by_bare s m t c (lone f g h) e = sym (lone_step s m f g h) ∙ e
by_bare s m t c (unended f g h k) e = absurd (let r = unended_step s m f g h k in let y : ◌≡◌ {A = ℕ} 0 1 = cc in omega arith)

-- a step from p that finds a token finds it in every text that has the same bytes from p up to its end, and goes on so that it ends there
pub step_front : (s u : List ℕ) (p : ℕ) (t : Token) (c : Cursor) → step_at s p ≡ Found t c →
    c.at ≤ length u → Same s u p c.at → ends t.sort (drop c.at u) ≡ true → step_at u p ≡ Found t c
step_front s u p t c e k f h =
    let w = stop s p in
    let m = w.place in
    let r : token_at s m ≡ Found t c = by_bare s m t c w.bare (sym (skips_step s m p w.skipped) ∙ e) in
    let o : TokenOk s m (Found t c) = subst (TokenOk s m) r (token_ok s m) in
    let low = skips_low s m p w.skipped in
    skips_step u m p (skips_front s u p c.at o.3 k f m p (omega arith) (omega arith) w.skipped)
    ∙ token_front s u m t c r k (λ i a b. f i (omega arith) b) h
