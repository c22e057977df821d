-- Reading further on: in a text with more in front, all is found as far further on. First one byte more, where bytes and lengths compute. Assumes nothing.
use Prim.Native.Nat.{ℕ, zero, suc, ◌+◌, ◌-◌}
use mathlib.Core.Path.{◌≡◌, refl, sym, ◌∙◌, ap, ap₂, fun_ext}
use mathlib.Core.List.{List, [], ◌∷◌, ◌++◌}
use mathlib.Core.Bool.{Bool, true, false, not}
use native.Mathlib.Omega.{arith}
use native.Mathlib.Nat.{suc-add, zero-add, add-zero, suc-sub-suc}
use lib.ListN.{length, take, drop}
use lib.Dec.{ltb, eqb, leb-suc-suc, eqb-suc-suc}
use Rattle.token.specs.Find.{pick, both, byte, first_of, find}
use Rattle.token.specs.Bytes.{class_of, is_word_byte, word_end, find_byte, pair_at, find_close, is_digit, is_plus_minus, is_exponent_mark, is_dotted, find_mark, is_signed}
use Rattle.token.specs.declared.scan.Class.{Class}
use Rattle.token.specs.declared.scan.Class.TheVariants.{Letter as letter, Digit as digit, Blank as blank, Sign as plus_minus, Quote as quote, Punctuator as punctuator, Dot as dot, Slash as slash, Other as other}
use Rattle.token.specs.Words.{code_of}
use Rattle.token.specs.Numbers.{numeral}
use Rattle.token.specs.Floats.{some_digits, mantissa_of, times, power_of, power_at, scale_of}
use Rattle.std.specs.Prelude.{Option, Some, None}
use Rattle.token.specs.declared.Power.{Power}
use Rattle.token.specs.Tokens.{bytes_between, found, word_at, limit_of, is_negative, number_of, whole_at, float_of, float_by, float_at, number_by, number_at, string_at, dots_at, token_of, token_at, step_at}
use Rattle.token.specs.Lexing.{Lexed, more, ended, refused, lex_from}
use Rattle.token.specs.declared.Sort.{Sort}
use Rattle.token.specs.declared.Sort.TheVariants.{Word, Number, String, Punctuator, Float}
use Rattle.token.specs.declared.Token.{Token}
use Rattle.token.specs.declared.Step.{Step}
use Rattle.token.specs.declared.Step.TheVariants.{Found, Refused, End}
use Rattle.token.proofs.Steps.{lex_found, lex_bad, lex_end}
use Rattle.locality.proofs.Onward.{reading}
use Rattle.locality.proofs.Skipping.{Gap, a_blank, a_line, a_block, Bare, plain, lone, unended, plain_step, lone_step, unended_step, Skips, here, on, skips_step, stop}
use Rattle.locality.proofs.Forms.{number_form}

-- a token, d places further on
unfoldable pub moved : ℕ → Token → Token
moved d t = record { sort = t.sort; at = d + t.at; len = t.len }

-- a step
unfoldable pub moved_step : ℕ → Step → Step
moved_step d (Found t c) = Found (moved d t) (record { at = d + c.at })
moved_step d (Refused p) = Refused (d + p)
moved_step d (End n) = End (d + n)

-- all tokens
unfoldable pub moved_all : ℕ → Lexed → Lexed
moved_all d (more t l) = more (moved d t) (moved_all d l)
moved_all d (ended n) = ended (d + n)
moved_all d (refused p) = refused (d + p)

-- one place further on
abbrev up : Step → Step
up (Found t c) = Found (record { sort = t.sort; at = suc t.at; len = t.len }) (record { at = suc c.at })
up (Refused p) = Refused (suc p)
up (End n) = End (suc n)

push : {A B : Type 0} (f : A → B) (b : Bool) (x y : A) → pick b (f x) (f y) ≡ f (pick b x y)
push f true x y = refl
push f false x y = refl

-- ---- searches

pick_up : (b : Bool) (p q r : ℕ) → r ≡ suc q → pick b (suc p) r ≡ suc (pick b p q)
pick_up true p q r e = refl
pick_up false p q r e = e

first_up : (t : ℕ → Bool) (n p : ℕ) → first_of t n (suc p) ≡ suc (first_of (λ i. t (suc i)) n p)
unfolding first_of
first_up t zero p = refl
first_up t (suc n) p = pick_up (t (suc p)) p (first_of (λ i. t (suc i)) n (suc p)) (first_of t n (suc (suc p))) (first_up t n (suc p))

find_up : (t : ℕ → Bool) (e p : ℕ) → find t (suc e) (suc p) ≡ suc (find (λ i. t (suc i)) e p)
unfolding find
find_up t e p = ap (λ (n : ℕ). first_of t n (suc p)) (suc-sub-suc e p) ∙ first_up t (e - p) p

module _ (x : ℕ) (b : List ℕ) where
  word_up : (p : ℕ) → word_end (x ∷ b) (suc p) ≡ suc (word_end b p)
  unfolding word_end
  word_up p = find_up (λ i. not (is_word_byte (byte (x ∷ b) i))) (length b) p

  byte_up : (c p : ℕ) → find_byte c (x ∷ b) (suc p) ≡ suc (find_byte c b p)
  unfolding find_byte
  byte_up c p = find_up (λ i. eqb (byte (x ∷ b) i) c) (length b) p

  pair_up : (p c d : ℕ) → pair_at (x ∷ b) (suc p) c d ≡ pair_at b p c d
  unfolding pair_at
  pair_up p c d =
      ap (λ (n : ℕ). both (ltb n (suc (length b))) (both (eqb (byte b p) c) (eqb (byte (x ∷ b) n) d))) (suc-add p 1)
      ∙ ap (λ (t : Bool). both t (both (eqb (byte b p) c) (eqb (byte b (p + 1)) d))) (leb-suc-suc (suc (p + 1)) (length b))

  close_up : (p : ℕ) → find_close (x ∷ b) (suc p) ≡ suc (find_close b p)
  unfolding find_close
  close_up p =
      find_up (λ i. pair_at (x ∷ b) i 42 47) (length b) p
      ∙ ap (λ (t : ℕ → Bool). suc (find t (length b) p)) (fun_ext (λ i. pair_up i 42 47))

  between_up : (p e : ℕ) → bytes_between (x ∷ b) (suc p) (suc e) ≡ bytes_between b p e
  between_up p e = ap (λ (n : ℕ). take n (drop p b)) (suc-sub-suc e p)

  dotted_up : (e : ℕ) → is_dotted (x ∷ b) (suc e) ≡ is_dotted b e
  unfolding is_dotted
  dotted_up e = ap (λ (n : ℕ). both (eqb (byte b e) 46) (is_digit (byte (x ∷ b) n))) (suc-add e 1)

  mark_up : (e p : ℕ) → find_mark (x ∷ b) (suc e) (suc p) ≡ suc (find_mark b e p)
  unfolding find_mark
  mark_up e p = find_up (λ i. is_exponent_mark (byte (x ∷ b) i)) e p

  signed_up : (m r : ℕ) → is_signed (x ∷ b) (suc m) (suc r) ≡ is_signed b m r
  unfolding is_signed
  signed_up m r = ap (λ (t : Bool). both t (is_plus_minus (byte b r))) (ap (λ (n : ℕ). eqb n (suc r)) (suc-add m 1) ∙ eqb-suc-suc (m + 1) r)

-- ---- blanks and comments

module _ (x : ℕ) (b : List ℕ) where
  gap_up : (p q : ℕ) → Gap b p q → Gap (x ∷ b) (suc p) (suc q)
  gap_up p q (a_blank e z) = a_blank e (ap suc z ∙ sym (suc-add p 1))
  gap_up p q (a_line e t z) =
      a_line e (pair_up x b p 47 47 ∙ t) (ap suc z ∙ sym (byte_up x b 10 (p + 2)) ∙ ap (find_byte 10 (x ∷ b)) (sym (suc-add p 2)))
  gap_up p q (a_block e f t l z) =
      let n : find_close (x ∷ b) (suc p + 2) ≡ suc (find_close b (p + 2)) = ap (find_close (x ∷ b)) (suc-add p 2) ∙ close_up x b (p + 2) in
      a_block e (pair_up x b p 47 47 ∙ f) (pair_up x b p 47 42 ∙ t) (omega arith) (omega arith)

  skips_up : (m p : ℕ) → Skips b m p → Skips (x ∷ b) (suc m) (suc p)
  skips_up m p (here _ e) = here (suc p) (ap suc e)
  skips_up m p (on _ q g k) = on (suc p) (suc q) (gap_up p q g) (skips_up m q k)

-- ---- tokens

found_up : (k : Sort) (p e : ℕ) → found k (suc p) (suc e) ≡ up (found k p e)
unfolding found
found_up k p e = ap (λ (n : ℕ). Found (record { sort = k; at = suc p; len = n }) (record { at = suc e })) (suc-sub-suc e p)

number_up : (minus signed : Bool) (max : ℕ) (w : List ℕ) (p e : ℕ) → number_of minus (numeral signed max w) (suc p) (suc e) ≡ up (number_of minus (numeral signed max w) p e)
number_up minus signed max w p e =
    number_form minus signed max (λ (f : ℕ → ℕ → Step). f (suc p) (suc e) ≡ up (f p e)) (λ m _. found_up (Number (is_negative minus m) m) p e) refl w

-- the end of an exponent, one place further on
abbrev later : Option Power → Option Power
later (Some x) = times x.below x.amount (suc x.end)
later None = None

power_of_up : (t : Bool) (v : Option ℕ) (e : ℕ) → power_of t v (suc e) ≡ later (power_of t v e)
unfolding power_of
power_of_up t (Some m) e = refl
power_of_up t None e = refl

two_up : (t v : Bool) (x y z : Option Power) → pick t (later x) (pick v (later y) (later z)) ≡ later (pick t x (pick v y z))
two_up true v x y z = refl
two_up false true x y z = refl
two_up false false x y z = refl

float_of_up : (minus : Bool) (v : Option ℕ) (w : Option Power) (n p : ℕ) → float_of minus v (later w) n (suc p) ≡ up (float_of minus v w n p)
float_of_up minus (Some m) (Some x) n p = found_up (Float (is_negative minus m) m (scale_of x.below x.amount n)) p x.end
float_of_up minus (Some m) None n p = refl
float_of_up minus None w n p = refl

module _ (x : ℕ) (b : List ℕ) where
  word_at_up : (p : ℕ) → word_at (x ∷ b) (suc p) ≡ up (word_at b p)
  unfolding word_at
  word_at_up p =
      rw (word_up x b p, between_up x b p (word_end b p)) (found_up (Word (code_of (bytes_between b p (word_end b p)))) p (word_end b p))

  whole_up : (p q : ℕ) → whole_at (x ∷ b) (suc p) (suc q) ≡ up (whole_at b p q)
  unfolding whole_at
  whole_up p q =
      rw (word_up x b q, between_up x b q (word_end b q), leb-suc-suc (suc p) q)
      (number_up (eqb (byte b p) 45) (ltb p q) (limit_of (eqb (byte b p) 45)) (bytes_between b q (word_end b q)) p (word_end b q))

  power_up : (m r : ℕ) → power_at (x ∷ b) (suc m) (suc r) ≡ later (power_at b m r)
  unfolding power_at
  power_up m r =
      rw (
        eqb-suc-suc m r,
        signed_up x b m r,
        suc-add r 1,
        suc-add m 1,
        word_up x b (r + 1),
        suc-sub-suc (word_end b (r + 1)) (r + 1),
        suc-sub-suc r (m + 1),
        power_of_up (eqb (byte b r) 45) (some_digits 64 0 (bytes_between b (r + 1) (word_end b (r + 1)))) (word_end b (r + 1)),
        power_of_up false (some_digits 64 0 (bytes_between b (m + 1) r)) r,
      )
      (two_up (eqb m r) (is_signed b m r) (times false 0 r)
      (power_of (eqb (byte b r) 45) (some_digits 64 0 (bytes_between b (r + 1) (word_end b (r + 1)))) (word_end b (r + 1)))
      (power_of false (some_digits 64 0 (bytes_between b (m + 1) r)) r))

  float_by_up : (p q d r m : ℕ) → float_by (x ∷ b) (suc p) (suc q) (suc d) (suc r) (suc m) ≡ up (float_by b p q d r m)
  unfolding float_by
  float_by_up p q d r m =
      rw (suc-add d 1, between_up x b q d, between_up x b (d + 1) m, suc-sub-suc m (d + 1), power_up m r)
      (float_of_up (eqb (byte b p) 45) (mantissa_of (bytes_between b q d) (bytes_between b (d + 1) m)) (power_at b m r) (m - (d + 1)) p)

  float_up : (p q d : ℕ) → float_at (x ∷ b) (suc p) (suc q) (suc d) ≡ up (float_at b p q d)
  unfolding float_at
  float_up p q d =
      let r = word_end b (d + 1) in
      let e : word_end (x ∷ b) (suc d + 1) ≡ suc r = ap (word_end (x ∷ b)) (suc-add d 1) ∙ word_up x b (d + 1) in
      let m : find_mark (x ∷ b) (suc r) (suc d + 1) ≡ suc (find_mark b r (d + 1)) = ap (find_mark (x ∷ b) (suc r)) (suc-add d 1) ∙ mark_up x b r (d + 1) in
      rw (e, m) (float_by_up p q d r (find_mark b r (d + 1)))

  number_by_up : (t : Bool) (p q : ℕ) → number_by t (x ∷ b) (suc p) (suc q) ≡ up (number_by t b p q)
  unfolding number_by
  number_by_up true p q = ap (float_at (x ∷ b) (suc p) (suc q)) (word_up x b q) ∙ float_up p q (word_end b q)
  number_by_up false p q = whole_up p q

  number_at_up : (p q : ℕ) → number_at (x ∷ b) (suc p) (suc q) ≡ up (number_at b p q)
  unfolding number_at
  number_at_up p q =
      ap (λ (t : Bool). number_by t (x ∷ b) (suc p) (suc q)) (ap (is_dotted (x ∷ b)) (word_up x b q) ∙ dotted_up x b (word_end b q))
      ∙ number_by_up (is_dotted b (word_end b q)) p q

  string_up : (p : ℕ) → string_at (x ∷ b) (suc p) ≡ up (string_at b p)
  unfolding string_at
  string_up p =
      let e = find_byte 34 b (p + 1) in
      rw (suc-add p 1, byte_up x b 34 (p + 1), suc-add e 1, leb-suc-suc (suc e) (length b), found_up String p (e + 1))
      (push up (ltb e (length b)) (found String p (e + 1)) (Refused p))

  dots_up : (p : ℕ) → dots_at (x ∷ b) (suc p) ≡ up (dots_at b p)
  unfolding dots_at
  dots_up p =
      rw (pair_up x b p 46 46, suc-add p 2, found_up (Punctuator 46) p (p + 2)) (push up (pair_at b p 46 46) (found (Punctuator 46) p (p + 2)) (Refused p))

  token_of_up : (c : Class) (p : ℕ) → token_of c (x ∷ b) (suc p) ≡ up (token_of c b p)
  unfolding token_of
  token_of_up letter p = word_at_up p
  token_of_up digit p = number_at_up p p
  token_of_up blank p = refl
  token_of_up plus_minus p = ap (number_at (x ∷ b) (suc p)) (suc-add p 1) ∙ number_at_up p (p + 1)
  token_of_up quote p = string_up p
  token_of_up punctuator p = ap (found (Punctuator (byte b p)) (suc p)) (suc-add p 1) ∙ found_up (Punctuator (byte b p)) p (p + 1)
  token_of_up dot p = dots_up p
  token_of_up slash p = refl
  token_of_up other p = refl

  token_up : (p : ℕ) → token_at (x ∷ b) (suc p) ≡ up (token_at b p)
  unfolding token_at
  token_up p =
      rw (leb-suc-suc (suc p) (length b), token_of_up (class_of (byte b p)) p)
      (push up (ltb p (length b)) (token_of (class_of (byte b p)) b p) (End (length b)))

  bare_up : (m : ℕ) → Bare b m → step_at (x ∷ b) (suc m) ≡ up (step_at b m)
  bare_up m (plain e) = plain_step (x ∷ b) (suc m) e ∙ token_up m ∙ ap up (sym (plain_step b m e))
  bare_up m (lone e f g) =
      lone_step (x ∷ b) (suc m) e (pair_up x b m 47 47 ∙ f) (pair_up x b m 47 42 ∙ g) ∙ token_up m ∙ ap up (sym (lone_step b m e f g))
  bare_up m (unended e f g h) =
      let n : find_close (x ∷ b) (suc m + 2) ≡ suc (find_close b (m + 2)) = ap (find_close (x ∷ b)) (suc-add m 2) ∙ close_up x b (m + 2) in
      unended_step (x ∷ b) (suc m) e (pair_up x b m 47 47 ∙ f) (pair_up x b m 47 42 ∙ g) (omega arith) ∙ ap up (sym (unended_step b m e f g h))

  step_up : (p : ℕ) → step_at (x ∷ b) (suc p) ≡ up (step_at b p)
  step_up p =
      let k = stop b p in
      skips_step (x ∷ b) (suc k.place) (suc p) (skips_up x b k.place p k.skipped)
      ∙ bare_up k.place k.bare ∙ ap up (sym (skips_step b k.place p k.skipped))

-- ---- any text in front

move_none : (r : Step) → r ≡ moved_step 0 r
unfolding moved_step moved
move_none (Found t c) =
    ap₂ (λ (i j : ℕ). Found (record { sort = t.sort; at = i; len = t.len }) (record { at = j })) (sym (zero-add t.at)) (sym (zero-add c.at))
move_none (Refused p) = ap Refused (sym (zero-add p))
move_none (End n) = ap End (sym (zero-add n))

move_more : (d : ℕ) (r : Step) → up (moved_step d r) ≡ moved_step (suc d) r
unfolding moved_step moved
move_more d (Found t c) =
    ap₂ (λ (i j : ℕ). Found (record { sort = t.sort; at = i; len = t.len }) (record { at = j })) (sym (suc-add d t.at)) (sym (suc-add d c.at))
move_more d (Refused p) = ap Refused (sym (suc-add d p))
move_more d (End n) = ap End (sym (suc-add d n))

-- a step from p in b, with a in front
pub step_shift : (a b : List ℕ) (p : ℕ) → step_at (a ++ b) (length a + p) ≡ moved_step (length a) (step_at b p)
step_shift [] b p = ap (step_at b) (zero-add p) ∙ move_none (step_at b p)
step_shift (x ∷ a) b p =
    ap (step_at (x ∷ (a ++ b))) (suc-add (length a) p)
    ∙ step_up x (a ++ b) (length a + p) ∙ ap up (step_shift a b p) ∙ move_more (length a) (step_at b p)

-- all tokens from p on in b, with a in front
lex_shift : (a b : List ℕ) (p : ℕ) → lex_from (a ++ b) (length a + p) ≡ moved_all (length a) (lex_from b p)
unfolding moved_all moved_step
lex_shift a b =
    let step : (p : ℕ) (r : Step) → step_at b p ≡ r → step_at (a ++ b) (length a + p) ≡ moved_step (length a) r =
    λ p r e. step_shift a b p ∙ ap (moved_step (length a)) e in
    reading b (λ (p : ℕ) (l : Lexed). lex_from (a ++ b) (length a + p) ≡ moved_all (length a) l)
    (λ p t c e o f.
    lex_found (a ++ b) (length a + p) (moved (length a) t) (record { at = length a + c.at }) (step p (Found t c) e) ∙ ap (more (moved (length a) t)) f)
    (λ p q e. lex_bad (a ++ b) (length a + p) (length a + q) (step p (Refused q) e))
    (λ p n e. lex_end (a ++ b) (length a + p) (length a + n) (step p (End n) e))

-- all tokens of b, with a in front
pub lex_rest : (a b : List ℕ) → lex_from (a ++ b) (length a) ≡ moved_all (length a) (lex_from b 0)
lex_rest a b = ap (lex_from (a ++ b)) (sym (add-zero (length a))) ∙ lex_shift a b 0
