-- A token of a text in a longer and in a shorter one, and a token's own bytes as a text. Assumes nothing.
use Prim.Native.Nat.{ℕ, ◌+◌, ◌-◌, ◌≤◌, ◌<◌}
use mathlib.Core.Path.{◌≡◌, refl, sym, ◌∙◌, ap, ap₂, subst}
use mathlib.Core.List.{List, [], ◌∷◌, ◌++◌}
use mathlib.Core.Bool.{Bool, true, false, not}
use mathlib.Core.Logic.{⊎_elim}
use native.Mathlib.Omega.{arith}
use native.Mathlib.Decide.{ℕ_discrete, dec_lt}
use native.Mathlib.Nat.{eq-or-lt_of_le, add-zero, sub-zero}
use lib.ListN.{length, length-append, get_or-append, get_or-eq_default, take, drop, take-append-drop, drop_of_length-le, length-drop}
use lib.Seq.{length-take-le, drop-append-le, drop-append_seam, drop-drop}
use lib.Dec.{ltb, eqb}
use borrow.Author.Tests.{lt-ltb}
use Rattle.token.specs.Find.{byte, both}
use Rattle.token.specs.Bytes.{class_of, is_word_byte, word_end, is_digit, is_dotted, find_mark, is_signed}
use Rattle.token.specs.declared.scan.Class.{Class}
use Rattle.token.specs.declared.scan.Class.TheVariants.{Punctuator as punctuator}
use Rattle.token.specs.Floats.{some_digits, mantissa_of, times, power_of, power_at}
use Rattle.std.specs.Prelude.{Option, Some, None}
use Rattle.token.specs.declared.Power.{Power}
use Rattle.token.proofs.Decimals.{dotted_inside, signed_inside, dotted_other, dotted_short}
use Rattle.token.specs.Tokens.{bytes_between, found, word_at, limit_of, whole_at, float_of, float_by, float_at, number_by, number_at, token_of, token_at, step_at}
use Rattle.token.specs.Lexing.{Lexed, more, ended, lex_from}
use Rattle.token.specs.declared.Cursor.{Cursor}
use Rattle.token.specs.declared.Token.{Token}
use Rattle.token.specs.declared.Sort.{Sort}
use Rattle.token.specs.declared.Sort.TheVariants.{Word, Number, String, Punctuator, Float}
use Rattle.token.specs.declared.Step.{Step}
use Rattle.token.specs.declared.Step.TheVariants.{Found, Refused, End}
use Rattle.token.proofs.Find.{by_test}
use Rattle.token.proofs.Bytes.{both_true, both_false}
use Rattle.token.proofs.Steps.{found_fits, step_past, step_again, lex_found, lex_end}
use Rattle.locality.proofs.Skipping.{parting, plain_step}
use Rattle.locality.proofs.Shift.{moved, moved_step, moved_all, step_shift, lex_rest}
use Rattle.locality.proofs.Front.{ends, first_rest, word_ends, dotted_rest, step_front}
use Rattle.locality.proofs.Forms.{number_form, step_form}

-- ---- a token ends before the byte after it

ends_last : (k : Sort) → ends k [] ≡ true
unfolding ends is_word_byte is_dotted
ends_last (Word c) = refl
ends_last (Number n m) = refl
ends_last String = refl
ends_last (Float n m e) = refl
ends_last (Punctuator m) = refl

-- it is told by the first byte, and the second where the first is a dot
dotted_more : (x : ℕ) (y b : List ℕ) → (x ≡ 46 → 0 < length y) → is_dotted (x ∷ (y ++ b)) 0 ≡ is_dotted (x ∷ y) 0
unfolding is_dotted
dotted_more x y b h = by (ℕ_discrete x 46)
  where
    by : Dec (x ≡ 46) → is_dotted (x ∷ (y ++ b)) 0 ≡ is_dotted (x ∷ y) 0
    by (yes e) = ap (λ (n : ℕ). both (eqb x 46) (is_digit n)) (get_or-append y b 0 0 (h e))
    by (no g) = dotted_other (x ∷ (y ++ b)) 0 g ∙ sym (dotted_other (x ∷ y) 0 g)

pub ends_more : (k : Sort) (y b : List ℕ) → 0 < length y → (byte y 0 ≡ 46 → 1 < length y) → ends k (y ++ b) ≡ ends k y
unfolding ends
ends_more k [] b h g = absurd (omega arith)
ends_more (Word c) (x ∷ y) b h g = refl
ends_more (Number n m) (x ∷ y) b h g = ap (λ (t : Bool). both (not (is_word_byte x)) (not t)) (dotted_more x y b (λ e. let z = g e in omega arith))
ends_more (Float n m e) (x ∷ y) b h g = refl
ends_more String (x ∷ y) b h g = refl
ends_more (Punctuator m) (x ∷ y) b h g = refl

-- where the text goes on for less, it ends too
ends_less : (k : Sort) (y b : List ℕ) → 0 < length y → ends k (y ++ b) ≡ true → ends k y ≡ true
unfolding ends
ends_less k [] b h e = absurd (omega arith)
ends_less (Word c) (x ∷ y) b h e = e
ends_less (Number n m) (x ∷ []) b h e =
    ap (λ (t : Bool). both (not (is_word_byte x)) (not t)) (dotted_short (x ∷ []) 0 (omega arith)) ∙ one (not (is_word_byte x)) (both_true (not (is_word_byte x)) (not (is_dotted (x ∷ b) 0)) e)
  where
    one : (a : Bool) → a ≡ true → both a true ≡ true
    one a z = ap (λ (t : Bool). both t true) z
ends_less (Number n m) (x ∷ z ∷ y) b h e = sym (ap (λ (t : Bool). both (not (is_word_byte x)) (not t)) (dotted_more x (z ∷ y) b (λ _. omega arith))) ∙ e
ends_less (Float n m k) (x ∷ y) b h e = e
ends_less String (x ∷ y) b h e = refl
ends_less (Punctuator m) (x ∷ y) b h e = refl

abbrev EndsOk : List ℕ → Step → Type 0
EndsOk s (Found t c) = ends t.sort (drop c.at s) ≡ true
EndsOk s (Refused q) = Unit {0}
EndsOk s (End n) = Unit {0}

module _ (s : List ℕ) where
  whole_ends : (p q : ℕ) → q ≤ length s → is_dotted s (word_end s q) ≡ false → EndsOk s (whole_at s p q)
  unfolding whole_at found ends
  whole_ends p q h f =
      number_form (eqb (byte s p) 45) (ltb p q) (limit_of (eqb (byte s p) 45)) (λ (f : ℕ → ℕ → Step). EndsOk s (f p (word_end s q)))
      (λ m _. rw (word_ends s q h, dotted_rest s (word_end s q), f)) tt (bytes_between s q (word_end s q))

  abbrev PowerEnds : Option Power → Type 0
  PowerEnds (Some x) = not (is_word_byte (byte (drop x.end s) 0)) ≡ true
  PowerEnds None = Unit {0}

  power_of_ends : (b : Bool) (v : Option ℕ) (e : ℕ) → not (is_word_byte (byte (drop e s) 0)) ≡ true → PowerEnds (power_of b v e)
  unfolding power_of
  power_of_ends b (Some m) e h = h
  power_of_ends b None e h = tt

  power_ends : (m r : ℕ) → not (is_word_byte (byte (drop r s) 0)) ≡ true → PowerEnds (power_at s m r)
  unfolding power_at
  power_ends m r h =
      by_test PowerEnds (eqb m r) (times false 0 r) _ (λ _. h)
      (λ _.
      by_test PowerEnds (is_signed s m r) _ _
      (λ t.
      let i = signed_inside s m r t in
      power_of_ends (eqb (byte s r) 45) (some_digits 64 0 (bytes_between s (r + 1) (word_end s (r + 1)))) (word_end s (r + 1)) (word_ends s (r + 1) (omega arith)))
      (λ _. power_of_ends false (some_digits 64 0 (bytes_between s (m + 1) r)) r h))

  float_of_ends : (minus : Bool) (v : Option ℕ) (w : Option Power) (n p : ℕ) → PowerEnds w → EndsOk s (float_of minus v w n p)
  unfolding found ends
  float_of_ends minus (Some m) (Some x) n p h = h
  float_of_ends minus (Some m) None n p h = tt
  float_of_ends minus None w n p h = tt

  number_by_ends : (p q : ℕ) → q ≤ length s → (b : Bool) → is_dotted s (word_end s q) ≡ b → EndsOk s (number_by b s p q)
  unfolding number_by float_at float_by
  number_by_ends p q h true t =
      let d = word_end s q in
      let i = dotted_inside s d t in
      let m = find_mark s (word_end s (d + 1)) (d + 1) in
      float_of_ends (eqb (byte s p) 45) (mantissa_of (bytes_between s q d) (bytes_between s (d + 1) m)) (power_at s m (word_end s (d + 1))) (m - (d + 1)) p
      (power_ends m (word_end s (d + 1)) (word_ends s (d + 1) (omega arith)))
  number_by_ends p q h false t = whole_ends p q h t

  number_ends : (p q : ℕ) → q ≤ length s → EndsOk s (number_at s p q)
  unfolding number_at
  number_ends p q h = number_by_ends p q h (is_dotted s (word_end s q)) refl

  pub found_ends : (p : ℕ) (t : Token) (c : Cursor) → step_at s p ≡ Found t c → ends t.sort (drop c.at s) ≡ true
  unfolding word_at found ends
  found_ends p t c e =
      subst (EndsOk s) e
      (step_form s (EndsOk s) (λ q h. word_ends s q (omega arith)) (λ q h. number_ends q q (omega arith)) (λ q h. number_ends q (q + 1) (omega arith))
      (λ q e. refl) (λ m q e. refl) (λ q. tt) tt p)

-- ---- a token of one text in a longer and in a shorter one

module _ (a b : List ℕ) where
  kept_byte : (i : ℕ) → i < length a → byte (a ++ b) i ≡ byte a i
  kept_byte i h = get_or-append a b 0 i h

  pub rest_ends : (k : Sort) (e : ℕ) → e < length a → (byte a e ≡ 46 → e + 1 < length a) → ends k (drop e (a ++ b)) ≡ ends k (drop e a)
  rest_ends k e h g =
      let n = length-drop e a in
      ap (ends k) (drop-append-le e a b (omega arith)) ∙ ends_more k (drop e a) b (omega arith) (λ z. let y = g (sym (first_rest a e) ∙ z) in omega arith)

  -- a token of a, where what goes on behind it in a and b does not go on with it
  pub step_longer : (p : ℕ) (t : Token) (c : Cursor) → step_at a p ≡ Found t c → ends t.sort (drop c.at (a ++ b)) ≡ true → step_at (a ++ b) p ≡ Found t c
  step_longer p t c e f =
      let o = found_fits a p t c e in
      step_front a (a ++ b) p t c e (omega (arith, length-append a b)) (λ i _ h. kept_byte i (omega arith)) f

  -- a token of a and b that ends inside a, or where a ends
  pub step_shorter : (p : ℕ) (t : Token) (c : Cursor) → step_at (a ++ b) p ≡ Found t c → c.at ≤ length a → step_at a p ≡ Found t c
  step_shorter p t c e h =
      step_front (a ++ b) a p t c e h (λ i _ l. sym (kept_byte i (omega arith)))
      (⊎_elim
      (λ z. ap (ends t.sort) (drop_of_length-le a {i = c.at} (omega arith)) ∙ ends_last t.sort)
      (λ l. ends_less t.sort (drop c.at a) b (omega (arith, length-drop c.at a)) (sym (ap (ends t.sort) (drop-append-le c.at a b (omega arith))) ∙ found_ends (a ++ b) p t c e))
      (eq-or-lt_of_le h))

-- ---- the text from a place on

-- what holds of a text in two parts, and the length of the first, holds of the text and the place
module _ (s : List ℕ) (p : ℕ) (h : p ≤ length s) where
  pub by_parts : (P : List ℕ → ℕ → Type 0) → P (take p s ++ drop p s) (length (take p s)) → P s p
  by_parts P x =
      subst (P s) (length-take-le p s h) (subst (λ (u : List ℕ). P u (length (take p s))) (take-append-drop p s) x)

  step_drop : (q : ℕ) → step_at s (p + q) ≡ moved_step p (step_at (drop p s) q)
  step_drop q =
      by_parts (λ (u : List ℕ) (n : ℕ). step_at u (n + q) ≡ moved_step n (step_at (drop p s) q)) (step_shift (take p s) (drop p s) q)

  -- all tokens from p on
  pub lex_drop : lex_from s p ≡ moved_all p (lex_from (drop p s) 0)
  lex_drop = by_parts (λ (u : List ℕ) (n : ℕ). lex_from u n ≡ moved_all n (lex_from (drop p s) 0)) (lex_rest (take p s) (drop p s))

module _ (s : List ℕ) (p q : ℕ) (pq : p ≤ q) (inside : q ≤ length s) where
  -- the text from p on: its part up to q, and the text from q on
  pub halves : drop p s ≡ bytes_between s p q ++ drop q s
  halves =
      let z : p + (q - p) ≡ q = omega arith in
      sym (take-append-drop (q - p) (drop p s)) ∙ ap (λ (y : List ℕ). bytes_between s p q ++ y) (drop-drop (q - p) p s ∙ ap (λ (n : ℕ). drop n s) z)

  -- the length of that part
  pub part_long : length (bytes_between s p q) ≡ q - p
  part_long = length-take-le (q - p) (drop p s) (simp length-drop (omega arith))

-- ---- a token cut out of a text

-- the text is one token of a sort and nothing else
abbrev pub One : List ℕ → Sort → Type 0
One w k = lex_from w 0 ≡ more (record { sort = k; at = 0; len = length w }) (ended (length w))

-- what begins a text
pub start : (w : List ℕ) (c : Class) → 0 < length w → class_of (byte w 0) ≡ c → parting c ≡ false → step_at w 0 ≡ token_of c w 0
unfolding token_at
start w c h e f =
    plain_step w 0 (ap parting e ∙ f) ∙ rw (lt-ltb 0 (length w) h, e)

-- a step that finds a token that is the whole text
pub step_one : (w : List ℕ) (k : Sort) → step_at w 0 ≡ found k 0 (length w) → One w k
unfolding found
step_one w k e =
    lex_found w 0 (record { sort = k; at = 0; len = length w - 0 }) (record { at = length w }) e
    ∙ ap₂ (λ (n : ℕ) (l : Lexed). more (record { sort = k; at = 0; len = n }) l) (sub-zero (length w)) (lex_end w (length w) (length w) (step_past w (length w) (omega arith)))

-- a punctuator of one byte
pub sign_one : (b : ℕ) → class_of b ≡ punctuator → One (b ∷ []) (Punctuator b)
unfolding token_of parting
sign_one b e = step_one (b ∷ []) (Punctuator b) (start (b ∷ []) punctuator (omega arith) e refl)

cut_token : (m y : List ℕ) (d : ℕ) (t : Token) (c : Cursor) (r : Step) → step_at (m ++ y) 0 ≡ r → moved_step d r ≡ Found t c → t.at ≡ d → t.at + t.len ≡ c.at →
    length m ≡ t.len → One m t.sort
unfolding moved_step moved
cut_token m y d t c (Found u k) e f z n l =
    let v : record { sort = u.sort; at = d + u.at; len = u.len } ≡ t = cc in
    let i : d + k.at ≡ c.at = cc in
    let sort : u.sort ≡ t.sort = ap (λ (x : Token). x.sort) v in
    let place : d + u.at ≡ t.at = ap (λ (x : Token). x.at) v in
    let len : u.len ≡ t.len = ap (λ (x : Token). x.len) v in
    let start : u.at ≡ 0 = omega arith in
    let long : u.len ≡ length m = len ∙ sym l in
    let whole : u ≡ record { sort = t.sort; at = 0; len = length m } = λ j. record { sort = sort j; at = start j; len = long j } in
    lex_found m 0 u k (step_shorter m y 0 u k e (omega arith))
    ∙ ap (more u) (lex_end m k.at (length m) (step_past m k.at (omega arith))) ∙ ap (λ (x : Token). more x (ended (length m))) whole
cut_token m y d t c (Refused q) e f z n l = absurd (let x : ◌≡◌ {A = ℕ} 0 1 = cc in omega arith)
cut_token m y d t c (End q) e f z n l = absurd (let x : ◌≡◌ {A = ℕ} 0 1 = cc in omega arith)

-- a token's own bytes are a text of that token alone
pub token_one : (s : List ℕ) (p : ℕ) (t : Token) (c : Cursor) → step_at s p ≡ Found t c → One (bytes_between s t.at c.at) t.sort
token_one s p t c e =
    let o = found_fits s p t c e in
    let h : t.at ≤ c.at = omega arith in
    let z = part_long s t.at c.at h o.inside in
    let b = bytes_between s t.at c.at in
    cut_token b (drop c.at s) t.at t c (step_at (b ++ drop c.at s) 0) refl
    (ap (λ (u : List ℕ). moved_step t.at (step_at u 0)) (sym (halves s t.at c.at h o.inside))
    ∙ sym (step_drop s t.at (omega arith) 0) ∙ ap (step_at s) (add-zero t.at) ∙ step_again s p t c e)
    refl o.next (omega arith)
