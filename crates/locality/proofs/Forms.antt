-- What holds of each form of a token, of a refusal and of the end holds of what a step finds. Assumes nothing.
use Prim.Native.Nat.{ℕ, ◌+◌, ◌≤◌, ◌<◌}
use mathlib.Core.Path.{sym, subst}
use mathlib.Core.List.{List}
use mathlib.Core.Bool.{Bool, not}
use native.Mathlib.Omega.{arith}
use lib.ListN.{length, drop}
use lib.Dec.{ltb, eqb, leb}
use borrow.Author.Tests.{ltb-true, leb-true}
use Rattle.token.specs.Find.{byte, both}
use Rattle.token.specs.Bytes.{class_of, find_byte, pair_at}
use Rattle.token.specs.declared.scan.Class.{Class}
use Rattle.token.specs.declared.scan.Class.TheVariants.{Letter as letter, Digit as digit, Blank as blank, Sign as plus_minus, Quote as quote, Punctuator as punctuator, Dot as dot, Slash as slash, Other as other}
use Rattle.token.specs.Numbers.{all_digits, value_after, at_most, digits_after, numeral}
use Rattle.token.specs.Tokens.{found, word_at, number_of, is_negative, number_at, string_at, dots_at, token_of, token_at, step_at}
use Rattle.token.specs.declared.Sort.TheVariants.{Number, String, Punctuator}
use Rattle.token.specs.declared.Step.{Step}
use Rattle.token.specs.declared.Step.TheVariants.{Refused, End}
use Rattle.token.proofs.Find.{by_test}
use Rattle.locality.proofs.Skipping.{Bare, plain, lone, unended, plain_step, lone_step, unended_step, skips_step, stop}

-- a number, by its amount: none, or one within the limit
module _ (minus signed : Bool) (max : ℕ) (P : (ℕ → ℕ → Step) → Type 0)
    (is : (m : ℕ) → m ≤ max → P (λ p e. found (Number (is_negative minus m) m) p e)) (isn't : P (λ p e. Refused p)) where
  by_digits : (base a : ℕ) (w : List ℕ) → P (number_of minus (digits_after base max a w))
  unfolding digits_after at_most
  by_digits base a w =
      by_test (λ v. P (number_of minus v)) (all_digits base w) _ _
      (λ _. by_test (λ v. P (number_of minus v)) (leb (value_after base a w) max) _ _ (λ t. is (value_after base a w) (leb-true (value_after base a w) max t)) (λ _. isn't))
      (λ _. isn't)

  pub number_form : (w : List ℕ) → P (number_of minus (numeral signed max w))
  unfolding numeral
  number_form w =
      by_test (λ v. P (number_of minus v)) (eqb (length w) 0) _ _ (λ _. isn't)
      (λ _.
      by_test (λ v. P (number_of minus v)) (eqb (byte w 0) 48) _ _
      (λ _.
      by_test (λ v. P (number_of minus v)) (eqb (length w) 1) _ _ (λ _. is 0 (omega arith))
      (λ _.
      by_test (λ v. P (number_of minus v)) (both (not signed) (both (eqb (byte w 1) 120) (ltb 2 (length w)))) _ _ (λ _. by_digits 16 0 (drop 2 w)) (λ _. isn't)))
      (λ _. by_digits 10 0 w))

-- P r: of r, what stands at a place
module _ (s : List ℕ) (P : Step → Type 0)
    (word : (q : ℕ) → q < length s → P (word_at s q))
    (number : (q : ℕ) → q < length s → P (number_at s q q))
    (signed : (q : ℕ) → q < length s → P (number_at s q (q + 1)))
    (string : (q e : ℕ) → P (found String q e))
    (sign : (m q e : ℕ) → P (found (Punctuator m) q e))
    (bad : (q : ℕ) → P (Refused q))
    (end : P (End (length s))) where
  by_class : (c : Class) (q : ℕ) → q < length s → P (token_of c s q)
  unfolding token_of string_at dots_at
  by_class letter q h = word q h
  by_class digit q h = number q h
  by_class blank q h = bad q
  by_class plus_minus q h = signed q h
  by_class quote q h =
      by_test P (ltb (find_byte 34 s (q + 1)) (length s)) (found String q (find_byte 34 s (q + 1) + 1)) (Refused q) (λ _. string q (find_byte 34 s (q + 1) + 1)) (λ _. bad q)
  by_class punctuator q h = sign (byte s q) q (q + 1)
  by_class dot q h = by_test P (pair_at s q 46 46) (found (Punctuator 46) q (q + 2)) (Refused q) (λ _. sign 46 q (q + 2)) (λ _. bad q)
  by_class slash q h = bad q
  by_class other q h = bad q

  token_form : (q : ℕ) → P (token_at s q)
  unfolding token_at
  token_form q =
      by_test P (ltb q (length s)) (token_of (class_of (byte s q)) s q) (End (length s))
      (λ t. by_class (class_of (byte s q)) q (ltb-true q (length s) t)) (λ _. end)

  by_bare : (p : ℕ) → Bare s p → P (step_at s p)
  by_bare p (plain e) = subst P (sym (plain_step s p e)) (token_form p)
  by_bare p (lone e f g) = subst P (sym (lone_step s p e f g)) (token_form p)
  by_bare p (unended e f g h) = subst P (sym (unended_step s p e f g h)) (bad p)

  -- what a step from p finds
  pub step_form : (p : ℕ) → P (step_at s p)
  step_form p = let k = stop s p in subst P (sym (skips_step s k.place p k.skipped)) (by_bare k.place k.bare)
