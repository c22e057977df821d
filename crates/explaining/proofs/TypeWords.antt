-- The laws of the type's word before a place: the tokens left decide it, with the code so far. Assumes nothing.
use Prim.Native.Nat.{ℕ, ◌<◌, ◌≤◌}
use mathlib.Core.Path.{◌≡◌, refl, sym, ◌∙◌, ap, ap₂}
use mathlib.Core.Bool.{Bool, false, not}
use mathlib.Core.List.{List}
use native.Mathlib.Omega.{arith}
use borrow.Author.Tests.{eq-eqb, ne_eqb, le-leb, lt-leb}
use lib.Dec.{leb}
use Rattle.token.specs.Find.{pick, both}
use Rattle.token.specs.Bytes.{between}
use Rattle.token.specs.Tokens.{step_at}
use Rattle.token.specs.Lexing.{lex_from}
use Rattle.token.specs.declared.Token.{Token}
use Rattle.token.specs.declared.Cursor.{Cursor}
use Rattle.token.specs.declared.Step.{Step}
use Rattle.token.specs.declared.Step.TheVariants.{Found, Refused, End}
use Rattle.token.specs.declared.Sort.{Sort}
use Rattle.token.specs.declared.Sort.TheVariants.{Word}
use Rattle.token.proofs.Steps.{found_fits, lex_found, lex_bad, lex_end}
use Rattle.meaning.specs.Syntax.{Num}
use Rattle.meaning.specs.Actions.{num_of_step}
use Rattle.meaning.specs.Words.{in_type}
use Rattle.scopes.specs.Items.{integer_coded}
use Rattle.explaining.specs.Bounds.{code_after, code_before, type_before, outside_type}

pub word_auto : (c : ℕ) (o : Sort) (n : ℕ) → o ≡ Word n → n ≡ 5 → c ≡ code_after c o
unfolding code_after
word_auto c o n e h = sym (ap (code_after c) e ∙ ap (λ b. pick b c n) (eq-eqb n 5 h))

pub word_other : (c : ℕ) (o : Sort) (n : ℕ) → o ≡ Word n → (n ≡ 5 → ⊥) → n ≡ code_after c o
unfolding code_after
word_other c o n e h = sym (ap (code_after c) e ∙ ap (λ b. pick b c n) (ne_eqb n 5 h))

module _ (s : List ℕ) (p : ℕ) where
  -- From the place a on, with the code c so far, the code is that of the whole text.
  abbrev pub Left : ℕ → ℕ → Type 0
  Left c a = code_before p c (lex_from s a) ≡ type_before s p

  pub left_start : Left 0 0
  unfolding type_before
  left_start = refl

  module _ (c a : ℕ) where
    -- A token at the place or behind it: nothing is left.
    late : (t : Token) (k : Cursor) → step_at s a ≡ Found t k → p ≤ t.at → code_before p c (lex_from s a) ≡ c
    unfolding code_before
    late t k e h =
        ap (code_before p c) (lex_found s a t k e) ∙ ap (λ b. pick b c (code_before p (code_after c t.sort) (lex_from s k.at))) (le-leb p t.at h)

    pub left_late : (t : Token) (k : Cursor) → step_at s a ≡ Found t k → p ≤ t.at → Left c a → c ≡ type_before s p
    left_late t k e h l = sym (late t k e h) ∙ l

    pub left_bad : (q : ℕ) → step_at s a ≡ Refused q → Left c a → c ≡ type_before s p
    unfolding code_before
    left_bad q e l = sym (ap (code_before p c) (lex_bad s a q e)) ∙ l

    pub left_end : (n : ℕ) → step_at s a ≡ End n → Left c a → c ≡ type_before s p
    unfolding code_before
    left_end n e l = sym (ap (code_before p c) (lex_end s a n e)) ∙ l

    -- A token before the place.
    pub left_on : (d : ℕ) (t : Token) (k : Cursor) → step_at s a ≡ Found t k → t.at < p → d ≡ code_after c t.sort → Left c a → Left d k.at
    unfolding code_before
    left_on d t k e h z l =
        ap (λ n. code_before p n (lex_from s k.at)) z
        ∙ sym (ap (code_before p c) (lex_found s a t k e) ∙ ap (λ b. pick b c (code_before p (code_after c t.sort) (lex_from s k.at))) (lt-leb p t.at h)) ∙ l

    -- No token from the place on stands before it.
    pub left_past : p ≤ a → Left c a → c ≡ type_before s p
    left_past h l = by (step_at s a) refl
      where
        by : (r : Step) → step_at s a ≡ r → c ≡ type_before s p
        by (Found t k) e = let f = (found_fits s a t k e).after in left_late t k e (omega (arith, f, h)) l
        by (Refused q) e = left_bad q e l
        by (End n) e = left_end n e l

-- The cases of the type's code.
module _ (s : List ℕ) (p c : ℕ) (e : c ≡ type_before s p) where
  by_code : both (between 35 38 c) (not (in_type (integer_coded c) (num_of_step (step_at s p)))) ≡ outside_type s p
  unfolding outside_type
  by_code = ap (λ n. both (between 35 38 n) (not (in_type (integer_coded n) (num_of_step (step_at s p))))) e

  pub type_below : c < 35 → false ≡ outside_type s p
  type_below h = sym (ap (λ a. both (both a (leb c 38)) (not (in_type (integer_coded c) (num_of_step (step_at s p))))) (lt-leb 35 c h)) ∙ by_code

  pub type_above : 38 < c → false ≡ outside_type s p
  type_above h =
      sym (ap₂ (λ a b. both (both a b) (not (in_type (integer_coded c) (num_of_step (step_at s p))))) (le-leb 35 c (omega arith)) (lt-leb c 38 h)) ∙ by_code

  pub type_inside : (n : Num) (b : Bool) → 35 ≤ c → c ≤ 38 → n ≡ num_of_step (step_at s p) → b ≡ in_type (integer_coded c) n → not b ≡ outside_type s p
  type_inside n b h k i j =
      ap not (j ∙ ap (in_type (integer_coded c)) i)
      ∙ sym (ap₂ (λ a d. both (both a d) (not (in_type (integer_coded c) (num_of_step (step_at s p))))) (le-leb 35 c h) (le-leb c 38 k))
      ∙ by_code
