-- The tokens of a text, each alone, and its numbers in decimal. Assumes nothing.
use Prim.Native.Nat.{ℕ, zero, suc, ◌-◌, ◌/◌, ◌^◌, ◌≤◌, ◌<◌}
use mathlib.Core.Path.{◌≡◌, refl, sym, ◌∙◌, ap, subst}
use mathlib.Core.List.{List, [], ◌∷◌, ◌++◌}
use mathlib.Core.Bool.{Bool, true, false, not}
use native.Mathlib.Omega.{arith}
use lib.ListN.{take, drop, get_or}
use lib.Dec.{ltb, eqb}
use borrow.Author.Tests.{ltb-true, ltb-false, not-true}
use Rattle.token.specs.Find.{pick}
use Rattle.token.specs.Tokens.{step_at}
use Rattle.token.specs.Lexing.{Lexed}
use Rattle.token.proofs.Sequences.{tokens_of}
use Rattle.token.specs.declared.Cursor.{Cursor}
use Rattle.token.specs.declared.Token.{Token as Lexeme}
use Rattle.token.specs.declared.Sort.{Sort as TokenSort}
use Rattle.token.specs.declared.Sort.TheVariants.{Word as WordToken, Number, String, Punctuator, Float}
use Rattle.token.specs.declared.Step.TheVariants.{Found}
use Rattle.token.proofs.Steps.{found_fits, step_again}
use Rattle.locality.proofs.Onward.{reading}
use Rattle.locality.proofs.Join.{One, token_one}
use Rattle.locality.proofs.Pieces.{first}
use Rattle.locality.proofs.Decimals.{WithinLimits, found_number, Decimal, one_digit, one_more, signed, decimal_one}
use Rattle.grammar.specs.Grammar.{Class, other, numeral, matches, number as a_number}
use Rattle.grammar.specs.Terminals.{words, sign_of, class_of, token_of, tokens_in, tokens}
use Rattle.meaning.specs.Syntax.{Num, Word}
use Rattle.meaning.specs.Actions.{num_of_sort, float_of_sort, num_of_step, float_of_step, word_of}
use Rattle.meaning.specs.Resolving.{number}
use Rattle.meaning.specs.Normal.{digits_in, minus, decimal}
use Rattle.meaning.specs.Places.{each}
use Rattle.meaning.proofs.Unplaced.{unplaced_word}
use Rattle.reads_back.proofs.SameWords.{by_choose}
use Rattle.reads_back.proofs.Restated.{restated_word, Alone, plain_word, AllAlone}

-- ---- each token alone

found_alone : (s : List ℕ) (p : ℕ) (t : Lexeme) (c : Cursor) → step_at s p ≡ Found t c → Alone (plain_word s (token_of t))
unfolding plain_word unplaced_word word_of token_of num_of_step float_of_step
found_alone s p t c e =
    let o = found_fits s p t c e in
    let n : c.at - t.at ≡ t.len = omega arith in
    record {
      sort = t.sort;
      one = subst (λ (i : ℕ). One (take i (drop t.at s)) t.sort) n (token_one s p t c e);
      class_is = refl;
      number_is = ap num_of_step (step_again s p t c e);
      float_is = ap float_of_step (step_again s p t c e);
    }

-- each token's bytes, taken alone, are that one token
pub tokens_alone : (s : List ℕ) → AllAlone (each (plain_word s) (tokens s))
unfolding tokens tokens_in each
tokens_alone s =
    reading s (λ (p : ℕ) (l : Lexed). AllAlone (each (plain_word s) (tokens_in l))) (λ p t c e o f. (found_alone s p t c e, f)) (λ p q e. tt) (λ p n e. tt) 0

-- ---- numbers in decimal

-- a test fails on all classes of a list, and past it
abbrev fails : (Class → Bool) → List Class → Bool
fails f [] = not (f other)
fails f (c ∷ l) = pick (f c) false (fails f l)

first_fails : (b x : Bool) → pick b false x ≡ true → (b ≡ false) × (x ≡ true)
first_fails true x e = absurd (let z : ◌≡◌ {A = ℕ} 0 1 = cc in omega arith)
first_fails false x e = (refl, e)

-- so it fails on whichever class stands there
pub fails_at : (f : Class → Bool) (l : List Class) → fails f l ≡ true → (k : ℕ) → f (get_or l k other) ≡ false
fails_at f [] h k = not-true (f other) h
fails_at f (c ∷ l) h zero = (first_fails (f c) (fails f l) h).0
fails_at f (c ∷ l) h (suc k) = fails_at f l (first_fails (f c) (fails f l) h).1 k

-- the digits of a number that has no more than so many
digits_decimal : (k n : ℕ) → n < 10 ^ suc k → Decimal n (digits_in (suc k) n)
unfolding digits_in
digits_decimal zero n h =
    by_choose (Decimal n) (ltb n 10) _ _ (λ t. one_digit n (ltb-true n 10 t)) (λ t. absurd (let l = ltb-false n 10 t in omega arith))
digits_decimal (suc k) n h =
    by_choose (Decimal n) (ltb n 10) _ _ (λ t. one_digit n (ltb-true n 10 t))
    (λ t. let l : 10 ≤ n = ltb-false n 10 t in one_more n (digits_in (suc k) (n / 10)) l (digits_decimal k (n / 10) (omega arith)))

most : (b : Bool) (n : ℕ) → WithinLimits b n → n < 10 ^ 20
most true n h = let l = h.1 in omega arith
most false n h = omega arith

with_sign : (b : Bool) (w : List ℕ) → signed b w ≡ minus b ++ w
unfolding signed minus
with_sign true w = refl
with_sign false w = refl

-- a number within the limits, written in decimal, is that number
decimal_alone : (b : Bool) (n : ℕ) (w : Word) → WithinLimits b n → Alone (restated_word (number (record { negative = b; amount = n })) w)
unfolding restated_word decimal num_of_sort float_of_sort class_of
decimal_alone b n w h =
    record {
      sort = Number b n;
      one =
          subst (λ (v : List ℕ). One v (Number b n)) (with_sign b (digits_in 20 n))
          (decimal_one b n (digits_in 20 n) h (digits_decimal 19 n (most b n h)));
      class_is = refl;
      number_is = refl;
      float_is = refl;
    }

no_numeral : (c : Class) → matches a_number c ≡ false → c ≡ numeral → ⊥
unfolding matches
no_numeral c f e = let g = ap (matches a_number) e in let z : ◌≡◌ {A = ℕ} 0 1 = cc in omega arith

pick_fails : (f : Class → Bool) (b : Bool) (x y : Class) → f x ≡ false → f y ≡ false → f (pick b x y) ≡ false
pick_fails f true x y h k = h
pick_fails f false x y h k = k

no_sign : (b : ℕ) → matches a_number (sign_of b) ≡ false
unfolding sign_of matches
no_sign b =
    let f = matches a_number in
    pick_fails f (eqb b 123) _ _ refl
    (pick_fails f (eqb b 125) _ _ refl
    (pick_fails f (eqb b 91) _ _ refl
    (pick_fails f (eqb b 93) _ _ refl
    (pick_fails f (eqb b 61) _ _ refl
    (pick_fails f (eqb b 59) _ _ refl (pick_fails f (eqb b 58) _ _ refl (pick_fails f (eqb b 44) _ _ refl (pick_fails f (eqb b 46) _ _ refl refl))))))))

no_word : (k : ℕ) → matches a_number (get_or words k other) ≡ false
unfolding matches
no_word = fails_at (matches a_number) words refl

module _ (w : Word) where
  by_sort : (k : TokenSort) → One w.bytes k → w.class ≡ class_of k → w.number ≡ num_of_sort k → w.class ≡ numeral →
      Alone (restated_word (number w.number) w)
  unfolding class_of num_of_sort tokens_of
  by_sort (WordToken k) o c n e = absurd (no_numeral (get_or words k other) (no_word k) (sym c ∙ e))
  by_sort (Number b m) o c n e =
      let f = first w.bytes 0 _ [] (ap tokens_of o) in
      subst (λ (v : Num). Alone (restated_word (number v) w)) (sym n) (decimal_alone b m w (found_number w.bytes 0 _ f.next b m f.step refl))
  by_sort String o c n e = absurd (let z = sym c ∙ e in let y : ◌≡◌ {A = ℕ} 0 1 = cc in omega arith)
  by_sort (Float b m k) o c n e = absurd (let z = sym c ∙ e in let y : ◌≡◌ {A = ℕ} 0 1 = cc in omega arith)
  by_sort (Punctuator b) o c n e = absurd (no_numeral (sign_of b) (no_sign b) (sym c ∙ e))

-- a number written in decimal is a token with the same number
pub number_alone : (w : Word) → Alone w → w.class ≡ numeral → Alone (restated_word (number w.number) w)
number_alone w a e = by_sort w a.sort a.one a.class_is a.number_is e
