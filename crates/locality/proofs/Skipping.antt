-- What stands at a place of a text: a blank or a comment, a comment that is not ended, or neither. Assumes nothing.
use Prim.Native.Nat.{ℕ, ◌+◌, ◌≤◌, ◌<◌}
use mathlib.Core.Path.{◌≡◌, refl, sym, ◌∙◌, ap, subst}
use mathlib.Core.List.{List}
use mathlib.Core.Bool.{Bool, true, false}
use native.Mathlib.Omega.{arith}
use lib.ListN.{length}
use lib.Dec.{ltb}
use borrow.Author.Tests.{ltb-true, ltb-false}
use Rattle.token.specs.Find.{byte}
use Rattle.token.specs.Bytes.{class_of, find_byte, pair_at, find_close}
use Rattle.token.specs.declared.scan.Class.{Class}
use Rattle.token.specs.declared.scan.Class.TheVariants.{Letter as letter, Digit as digit, Blank as blank, Sign as plus_minus, Quote as quote, Punctuator as punctuator, Dot as dot, Slash as slash, Other as other}
use Rattle.token.specs.Gaps.{gap_of, gap_at}
use Rattle.token.specs.Tokens.{token_at, after_skip, step_at}
use Rattle.token.specs.declared.Step.TheVariants.{Refused}
use Rattle.token.proofs.Gaps.{comment_line, comment_block, comment_open, comment_none, past_ok, skip_past, skip_here, skip_open}
use Rattle.token.proofs.Lexemes.{step_token, step_open}
use Rattle.locality.proofs.Onward.{onward}

-- a blank or a comment stands from p up to q
pub data Gap (s : List ℕ) (p q : ℕ) : Type 0 where
  a_blank : class_of (byte s p) ≡ blank → q ≡ p + 1 → Gap s p q
  a_line : class_of (byte s p) ≡ slash → pair_at s p 47 47 ≡ true → q ≡ find_byte 10 s (p + 2) → Gap s p q
  a_block : class_of (byte s p) ≡ slash → pair_at s p 47 47 ≡ false → pair_at s p 47 42 ≡ true → find_close s (p + 2) < length s →
      q ≡ find_close s (p + 2) + 2 → Gap s p q

-- bytes of these classes may begin a blank or a comment
unfoldable pub parting : Class → Bool
parting letter = false
parting digit = false
parting blank = true
parting plus_minus = false
parting quote = false
parting punctuator = false
parting dot = false
parting slash = true
parting other = false

-- neither a blank nor a whole comment stands at p
pub data Bare (s : List ℕ) (p : ℕ) : Type 0 where
  plain : parting (class_of (byte s p)) ≡ false → Bare s p
  lone : class_of (byte s p) ≡ slash → pair_at s p 47 47 ≡ false → pair_at s p 47 42 ≡ false → Bare s p
  unended : class_of (byte s p) ≡ slash → pair_at s p 47 47 ≡ false → pair_at s p 47 42 ≡ true → length s ≤ find_close s (p + 2) → Bare s p

-- what a step does there
module _ (s : List ℕ) (p : ℕ) where
  -- past a blank or a comment
  pub gap_step : (q : ℕ) → Gap s p q → (step_at s p ≡ step_at s q) × (p < q) × (q ≤ length s)
  unfolding gap_at gap_of step_at
  gap_step q (a_blank e z) =
      let h = ap (λ (c : Class). gap_of c s p) e in
      subst (λ (n : ℕ). (step_at s p ≡ step_at s n) × (p < n) × (n ≤ length s)) (sym z) (ap (after_skip s) (skip_past s p (p + 1) h), (past_ok s p (p + 1) h).0, (past_ok s p (p + 1) h).1)
  gap_step q (a_line e t z) =
      let n = find_byte 10 s (p + 2) in
      let h = ap (λ (c : Class). gap_of c s p) e ∙ comment_line s p t in
      subst (λ (n : ℕ). (step_at s p ≡ step_at s n) × (p < n) × (n ≤ length s)) (sym z) (ap (after_skip s) (skip_past s p n h), (past_ok s p n h).0, (past_ok s p n h).1)
  gap_step q (a_block e f t l z) =
      let n = find_close s (p + 2) + 2 in
      let h = ap (λ (c : Class). gap_of c s p) e ∙ comment_block s p f t l in
      subst (λ (n : ℕ). (step_at s p ≡ step_at s n) × (p < n) × (n ≤ length s)) (sym z) (ap (after_skip s) (skip_past s p n h), (past_ok s p n h).0, (past_ok s p n h).1)

  by_class : (c : Class) → class_of (byte s p) ≡ c → parting c ≡ false → step_at s p ≡ token_at s p
  unfolding gap_at gap_of parting
  by_class letter e f = step_token s p p (skip_here s p (ap (λ (c : Class). gap_of c s p) e))
  by_class digit e f = step_token s p p (skip_here s p (ap (λ (c : Class). gap_of c s p) e))
  by_class blank e f = absurd (let z : ◌≡◌ {A = ℕ} 0 1 = cc in omega arith)
  by_class plus_minus e f = step_token s p p (skip_here s p (ap (λ (c : Class). gap_of c s p) e))
  by_class quote e f = step_token s p p (skip_here s p (ap (λ (c : Class). gap_of c s p) e))
  by_class punctuator e f = step_token s p p (skip_here s p (ap (λ (c : Class). gap_of c s p) e))
  by_class dot e f = step_token s p p (skip_here s p (ap (λ (c : Class). gap_of c s p) e))
  by_class slash e f = absurd (let z : ◌≡◌ {A = ℕ} 0 1 = cc in omega arith)
  by_class other e f = step_token s p p (skip_here s p (ap (λ (c : Class). gap_of c s p) e))

  -- at a byte that begins neither
  pub plain_step : parting (class_of (byte s p)) ≡ false → step_at s p ≡ token_at s p
  plain_step e = by_class (class_of (byte s p)) refl e

  -- at a slash that begins no comment
  pub lone_step : class_of (byte s p) ≡ slash → pair_at s p 47 47 ≡ false → pair_at s p 47 42 ≡ false → step_at s p ≡ token_at s p
  unfolding gap_at gap_of
  lone_step e f g = step_token s p p (skip_here s p (ap (λ (c : Class). gap_of c s p) e ∙ comment_none s p f g))

  -- at a comment that is not ended
  pub unended_step : class_of (byte s p) ≡ slash → pair_at s p 47 47 ≡ false → pair_at s p 47 42 ≡ true → length s ≤ find_close s (p + 2) →
      step_at s p ≡ Refused p
  unfolding gap_at gap_of
  unended_step e f g h = step_open s p p (skip_open s p (ap (λ (c : Class). gap_of c s p) e ∙ comment_open s p f g h))

-- ---- from a place up to where a token or a refusal stands

-- blanks and comments stand from p up to m
pub data Skips (s : List ℕ) (m : ℕ) : ℕ → Type 0 where
  here : (p : ℕ) → p ≡ m → Skips s m p
  on : (p q : ℕ) → Gap s p q → Skips s m q → Skips s m p

-- a step from p is one from m
pub skips_step : (s : List ℕ) (m p : ℕ) → Skips s m p → step_at s p ≡ step_at s m
skips_step s m p (here _ e) = ap (step_at s) e
skips_step s m p (on _ q g k) = (gap_step s p q g).0 ∙ skips_step s m q k

-- m is not before p
pub skips_low : (s : List ℕ) (m p : ℕ) → Skips s m p → p ≤ m
skips_low s m p (here _ e) = omega arith
skips_low s m p (on _ q g k) = let h = (gap_step s p q g).1 in let l = skips_low s m q k in omega arith

-- skipping from p stops at a place where neither a blank nor a whole comment stands
pub record Stop (s : List ℕ) (p : ℕ) : Type 0 where
  pub place : ℕ
  pub skipped : Skips s place p
  pub bare : Bare s place

by_bool : {C : Type 0} (b : Bool) → (b ≡ true → C) → (b ≡ false → C) → C
by_bool true f g = f refl
by_bool false f g = g refl

module _ (s : List ℕ) (p : ℕ) (f : (q : ℕ) → p < q → q ≤ length s → Stop s q) where
  after : (q : ℕ) → Gap s p q → Stop s p
  after q g =
      let h = gap_step s p q g in
      let k = f q h.1 h.2 in
      record { place = k.place; skipped = on p q g k.skipped; bare = k.bare }

  at_once : Bare s p → Stop s p
  at_once b = record { place = p; skipped = here p refl; bare = b }

  by_byte : (c : Class) → class_of (byte s p) ≡ c → Stop s p
  unfolding parting
  by_byte letter e = at_once (plain (ap parting e))
  by_byte digit e = at_once (plain (ap parting e))
  by_byte blank e = after (p + 1) (a_blank e refl)
  by_byte plus_minus e = at_once (plain (ap parting e))
  by_byte quote e = at_once (plain (ap parting e))
  by_byte punctuator e = at_once (plain (ap parting e))
  by_byte dot e = at_once (plain (ap parting e))
  by_byte slash e =
      by_bool (pair_at s p 47 47) (λ t. after (find_byte 10 s (p + 2)) (a_line e t refl))
      (λ t.
      by_bool (pair_at s p 47 42)
      (λ u.
      by_bool (ltb (find_close s (p + 2)) (length s))
      (λ b. after (find_close s (p + 2) + 2) (a_block e t u (ltb-true (find_close s (p + 2)) (length s) b) refl))
      (λ b. at_once (unended e t u (ltb-false (find_close s (p + 2)) (length s) b))))
      (λ u. at_once (lone e t u)))
  by_byte other e = at_once (plain (ap parting e))

-- where skipping from p stops
pub stop : (s : List ℕ) (p : ℕ) → Stop s p
stop s = onward (length s) (Stop s) (λ p f. by_byte s p f (class_of (byte s p)) refl)
