-- Laws of where a statement ends. Assumes nothing.
use mathlib.Core.Path.{◌≡◌, refl, sym, ◌∙◌, ap, subst}
use mathlib.Core.List.{List}
use mathlib.Core.Bool.{Bool, true, false}
use Prim.Native.Nat.{ℕ, zero, suc, ◌+◌, ◌-◌, ◌≤◌, ◌<◌}
use native.Mathlib.Omega.{arith}
use native.Mathlib.Decide.{dec_lt}
use native.Mathlib.Decide.{dec_le}
use lib.ListN.{length}
use lib.Dec.{eqb}
use borrow.Author.Tests.{eq-eqb, ne_eqb}
use Rattle.token.specs.Find.{pick, both}
use Rattle.token.specs.Tokens.{step_at}
use Rattle.token.specs.declared.Token.{Token}
use Rattle.token.specs.declared.Cursor.{Cursor}
use Rattle.token.specs.declared.Sort.{Sort}
use Rattle.token.specs.declared.Sort.TheVariants.{Word, Number, String, Punctuator, Float}
use Rattle.token.specs.declared.Step.{Step}
use Rattle.token.specs.declared.Step.TheVariants.{Found, Refused, End}
use Rattle.token.proofs.Steps.{StepOk, step_ok, found_fits, step_past}
use Rattle.meaning.specs.Words.{choose}
use Rattle.mending.specs.Ends.{punctuator_of, open_after, is_last, end_by, end_in, end_from, end_of}

-- The tests ----------------------------------------------------------------------------------------------------------------------------------

pub opens : (d b : ℕ) → b ≡ 123 → d + 1 ≡ open_after d b
unfolding open_after
opens d b e = sym (ap (λ (t : Bool). pick t (d + 1) (pick (eqb b 125) (d - 1) d)) (eq-eqb b 123 e))

closing : (d b : ℕ) → (b ≡ 123 → ⊥) → b ≡ 125 → d - 1 ≡ open_after d b
unfolding open_after
closing d b n e =
    sym (ap (λ (t : Bool). pick t (d + 1) (pick (eqb b 125) (d - 1) d)) (ne_eqb b 123 n) ∙ ap (λ (t : Bool). pick t (d - 1) d) (eq-eqb b 125 e))

pub closes_one : (d b : ℕ) → (b ≡ 123 → ⊥) → b ≡ 125 → d - 1 ≡ open_after d b
closes_one d b n e = closing d b n e

pub stays_open : (d b : ℕ) → (b ≡ 123 → ⊥) → (b ≡ 125 → ⊥) → d ≡ open_after d b
unfolding open_after
stays_open d b n m =
    sym (ap (λ (t : Bool). pick t (d + 1) (pick (eqb b 125) (d - 1) d)) (ne_eqb b 123 n) ∙ ap (λ (t : Bool). pick t (d - 1) d) (ne_eqb b 125 m))

pub not_semicolon : (d b : ℕ) → (b ≡ 59 → ⊥) → eqb b 59 ≡ is_last d b
unfolding is_last
not_semicolon d b n = ne_eqb b 59 n ∙ sym (ap (λ (t : Bool). both t (eqb d 0)) (ne_eqb b 59 n))

pub semicolon : (d b : ℕ) (r : Bool) → b ≡ 59 → r ≡ eqb d 0 → r ≡ is_last d b
unfolding is_last
semicolon d b r e q = q ∙ sym (ap (λ (t : Bool). both t (eqb d 0)) (eq-eqb b 59 e))

pub no_punctuator : (t : Sort) → ((b : ℕ) → t ≡ Punctuator b → ⊥) → 0 ≡ punctuator_of t
unfolding punctuator_of
no_punctuator (Word k) n = refl
no_punctuator (Number k m) n = refl
no_punctuator String n = refl
no_punctuator (Punctuator b) n = absurd (n b refl)
no_punctuator (Float k m e) n = refl

-- Steps --------------------------------------------------------------------------------------------------------------------------------------

end_same : (f g : ℕ → ℕ → ℕ) (d n : ℕ) (r : Step) → ((t : Token) (c : Cursor) → r ≡ Found t c → (e : ℕ) → f e c.at ≡ g e c.at) → end_by r d n f ≡ end_by r d n g
unfolding end_by
end_same f g d n (Found t c) h =
    ap (λ (y : ℕ). choose (is_last d (punctuator_of t.sort)) (λ _. c.at) (λ _. y)) (h t c refl (open_after d (punctuator_of t.sort)))
end_same f g d n (Refused q) h = refl
end_same f g d n (End m) h = refl

none_left : (n : ℕ) (s : List ℕ) (d p : ℕ) → length s ≤ p → end_in n s d p ≡ length s
unfolding end_in end_by
none_left zero s d p h = refl
none_left (suc n) s d p h = ap (λ (r : Step). end_by r d (length s) (λ e q. end_in n s e q)) (step_past s p h)

enough : (n m : ℕ) (s : List ℕ) (d p : ℕ) → length s ≤ p + n → length s ≤ p + m → end_in n s d p ≡ end_in m s d p
unfolding end_in
enough zero m s d p h k = sym (none_left m s d p (omega arith))
enough (suc n) zero s d p h k = none_left (suc n) s d p (omega arith)
enough (suc n) (suc m) s d p h k =
    end_same (λ e q. end_in n s e q) (λ e q. end_in m s e q) d (length s) (step_at s p)
    (λ t c i e. let o = found_fits s p t c i in enough n m s e c.at (omega arith) (omega arith))

-- One step, and then on.
end_law : (s : List ℕ) (d p : ℕ) → p < length s → end_from s d p ≡ end_by (step_at s p) d (length s) (end_from s)
unfolding end_from end_in
end_law s d p h =
    enough (length s - p) (suc (length s - p)) s d p (omega arith) (omega arith)
    ∙ end_same (λ e q. end_in (length s - p) s e q) (end_from s) d (length s) (step_at s p)
    (λ t c i e. let o = found_fits s p t c i in enough (length s - p) (length s - c.at) s e c.at (omega arith) (omega arith))

pub end_past : (s : List ℕ) (d p : ℕ) → length s ≤ p → end_from s d p ≡ length s
unfolding end_from
end_past s d p h = none_left (length s - p) s d p h

module _ (s : List ℕ) (d p : ℕ) (h : p < length s) where
  pub end_bad : (q : ℕ) → step_at s p ≡ Refused q → end_from s d p ≡ length s
  unfolding end_by
  end_bad q e = end_law s d p h ∙ ap (λ (r : Step). end_by r d (length s) (end_from s)) e

  pub end_none : (q : ℕ) → step_at s p ≡ End q → end_from s d p ≡ length s
  unfolding end_by
  end_none q e = end_law s d p h ∙ ap (λ (r : Step). end_by r d (length s) (end_from s)) e

  module _ (t : Token) (c : Cursor) (e : step_at s p ≡ Found t c) (b : ℕ) (i : b ≡ punctuator_of t.sort) where
    found_law : end_from s d p ≡ choose (is_last d b) (λ _. c.at) (λ _. end_from s (open_after d b) c.at)
    unfolding end_by
    found_law =
        end_law s d p h
        ∙ ap (λ (r : Step). end_by r d (length s) (end_from s)) e
        ∙ ap (λ (k : ℕ). choose (is_last d k) (λ _. c.at) (λ _. end_from s (open_after d k) c.at)) (sym i)

    pub end_found : is_last d b ≡ true → end_from s d p ≡ c.at
    unfolding choose
    end_found q = found_law ∙ ap (λ (v : Bool). choose v (λ _. c.at) (λ _. end_from s (open_after d b) c.at)) q

    pub end_on : is_last d b ≡ false → end_from s d p ≡ end_from s (open_after d b) c.at
    unfolding choose
    end_on q = found_law ∙ ap (λ (v : Bool). choose v (λ _. c.at) (λ _. end_from s (open_after d b) c.at)) q

-- Bounds -------------------------------------------------------------------------------------------------------------------------------------

-- An end that comes after p and lies in a text of n bytes.
abbrev Between : ℕ → ℕ → ℕ → Type 0
Between n p e = (p < e) × (e ≤ n)

abbrev Onward : ℕ → (ℕ → ℕ → ℕ) → Type 0
Onward n k = (d p : ℕ) → p ≤ n → (p ≤ k d p) × (k d p ≤ n)

between_by : (s : List ℕ) (p d : ℕ) (k : ℕ → ℕ → ℕ) → Onward (length s) k → p < length s → (r : Step) → StepOk s p r → Between (length s) p (end_by r d (length s) k)
unfolding end_by choose
between_by s p d k f h (Found t c) o = by_last (is_last d (punctuator_of t.sort))
  where
    by_last : (v : Bool) → Between (length s) p (choose v (λ _. c.at) (λ _. k (open_after d (punctuator_of t.sort)) c.at))
    by_last true = let a = o.after in let b = o.long in let e = o.next in let i = o.inside in (omega arith, i)
    by_last false =
        let a = o.after in
        let b = o.long in
        let e = o.next in
        let i = o.inside in
        let g = f (open_after d (punctuator_of t.sort)) c.at i in
        let g₀ = g.0 in
        (omega arith, g.1)
between_by s p d k f h (Refused q) o = (h, omega arith)
between_by s p d k f h (End m) o = (h, omega arith)

onward_step : (n : ℕ) (s : List ℕ) → Onward (length s) (end_in n s) → Onward (length s) (end_in (suc n) s)
unfolding end_in
onward_step n s f d p h = by_place (dec_le (length s) p)
  where
    by_place : Dec (length s ≤ p) → (p ≤ end_in (suc n) s d p) × (end_in (suc n) s d p ≤ length s)
    by_place (yes l) = let e = none_left (suc n) s d p l in (omega arith, omega arith)
    by_place (no l) = let b = between_by s p d (λ e q. end_in n s e q) f (omega arith) (step_at s p) (step_ok s p) in let b₀ = b.0 in (omega arith, b.1)

onward : (n : ℕ) (s : List ℕ) → Onward (length s) (end_in n s)
unfolding end_in
onward zero s d p h = (h, omega arith)
onward (suc n) s d p h = onward_step n s (onward n s) d p h

module _ (s : List ℕ) (p : ℕ) (h : p < length s) where
  bounds : Between (length s) p (end_of s p)
  unfolding end_of end_from
  bounds = subst (Between (length s) p) (sym (end_law s 0 p h)) (between_by s p 0 (end_from s) (λ d q l. onward (length s - q) s d q l) h (step_at s p) (step_ok s p))

  -- A statement has bytes and lies in the text.
  pub end_after : p < end_of s p
  end_after = bounds.0

  pub end_inside : end_of s p ≤ length s
  end_inside = bounds.1

-- The loop of `statement_end` ----------------------------------------------------------------------------------------------------------------

-- What is left to read decides the end as from `at` on, and no more braces are open than bytes were read.
pub record Ending (s : List ℕ) (at d p : ℕ) : Type 0 where
  pub left : end_from s d p ≡ end_of s at
  pub low : d ≤ p

pub ending_start : (s : List ℕ) (at : ℕ) → Ending s at 0 at
unfolding end_of
ending_start s at = record { left = refl; low = omega arith }

open_low : (d b : ℕ) → open_after d b ≤ d + 1
unfolding open_after
open_low d b = by_tests (eqb b 123) (eqb b 125)
  where
    by_tests : (x y : Bool) → pick x (d + 1) (pick y (d - 1) d) ≤ d + 1
    by_tests true y = omega arith
    by_tests false true = omega arith
    by_tests false false = omega arith

module _ {s : List ℕ} {at d p : ℕ} (u : Ending s at d p) where
  pub ending_past : length s ≤ p → length s ≡ end_of s at
  ending_past h = sym (end_past s d p h) ∙ u.left

  module _ (h : p < length s) where
    pub ending_bad : (q : ℕ) → step_at s p ≡ Refused q → length s ≡ end_of s at
    ending_bad q e = sym (end_bad s d p h q e) ∙ u.left

    pub ending_none : (q : ℕ) → step_at s p ≡ End q → length s ≡ end_of s at
    ending_none q e = sym (end_none s d p h q e) ∙ u.left

  -- No token is found from p on.
  pub ending_rest : ((t : Token) (c : Cursor) → step_at s p ≡ Found t c → ⊥) → length s ≡ end_of s at
  ending_rest n = by (dec_lt p (length s)) (step_at s p) refl
    where
      by : Dec (p < length s) → (r : Step) → step_at s p ≡ r → length s ≡ end_of s at
      by (no h) r e = ending_past (omega (arith, h))
      by (yes h) (Found t c) e = absurd (n t c e)
      by (yes h) (Refused q) e = ending_bad h q e
      by (yes h) (End q) e = ending_none h q e

  module _ (t : Token) (c : Cursor) (b : ℕ) (e : step_at s p ≡ Found t c) (i : b ≡ punctuator_of t.sort) (r : Bool) (k : r ≡ is_last d b) where
    inside : p < length s
    inside =
        let o = found_fits s p t c e in
        let a = o.after in
        let l = o.long in
        let n = o.next in
        let m = o.inside in
        omega arith

    pub ending-found : r ≡ true → c.at ≡ end_of s at
    ending-found q = sym (end_found s d p inside t c e b i (sym k ∙ q)) ∙ u.left

    pub ending-on : r ≡ false → (d' : ℕ) → d' ≡ open_after d b → Ending s at d' c.at
    ending-on q d' z =
        let o = found_fits s p t c e in
        let a = o.after in
        let l = o.long in
        let n = o.next in
        let w = u.low in
        let y = open_low d b in
        record { left = ap (λ (x : ℕ). end_from s x c.at) z ∙ sym (end_on s d p inside t c e b i (sym k ∙ q)) ∙ u.left; low = omega arith }
