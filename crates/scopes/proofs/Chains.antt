-- The tokens of a derivation as steps of the token reader find them, one after the other; and what a number, a sign or a range is there.
-- Assumes nothing.
use mathlib.Core.Path.{◌≡◌, refl, sym, ◌∙◌, ap, subst}
use mathlib.Core.List.{List, [], ◌∷◌, ◌++◌}
use Prim.Native.Nat.{ℕ, zero, suc, ◌+◌, ◌-◌, ◌≤◌, ◌<◌}
use native.Mathlib.Omega.{arith}
use lib.ListN.{length}
use borrow.Author.Tests.{le-leb}
use Rattle.token.specs.Tokens.{step_at, part_of}
use Rattle.token.specs.Lexing.{lex_n, lex_from, after_step, Lexed}
use Rattle.token.specs.declared.Cursor.{Cursor}
use Rattle.token.specs.declared.Token.{Token as Lexeme}
use Rattle.token.specs.declared.Sort.{Sort}
use Rattle.token.specs.declared.Sort.TheVariants.{Word as WordToken, Number, String, Punctuator, Float}
use Rattle.token.specs.declared.Step.{Step}
use Rattle.token.specs.declared.Step.TheVariants.{Found, Refused, End}
use Rattle.token.proofs.Steps.{found_fits, step_again}
use Rattle.grammar.specs.Grammar.{Token}
use Rattle.grammar.specs.Terminals.{token_of, tokens_in, tokens as tokens-of}
use Rattle.meaning.specs.Actions.{word_of, num_of_step, float_of_step, num_of_sort, zero_num}
use Rattle.scopes.specs.declared.Item.{Item}
use Rattle.scopes.specs.Items.{num, item_of, item_of_step, item_at}
use Rattle.scopes.specs.Situations.{ReadAt}
use Rattle.scopes.specs.Ranges.{NumberAt, FloatAt}

-- A step from p finds the token t.
pub record StepTo (s : List ℕ) (p : ℕ) (t : Token) : Type 0 where
  pub lexeme : Lexeme
  pub cursor : Cursor
  pub finds : step_at s p ≡ Found lexeme cursor
  pub is : token_of lexeme ≡ t

-- The steps from p on find the tokens l.
abbrev pub Chain : List ℕ → ℕ → List Token → Type 0
Chain s p [] = Unit {0}
Chain s p (t ∷ l) = StepTo s p t × Chain s (t.place + t.length) l

by_step : (s : List ℕ) (q : ℕ) (g : ℕ → Lexed) (r : Step) → step_at s q ≡ r → ((p : ℕ) → Chain s p (tokens_in (g p))) → Chain s q (tokens_in (after_step r g))
unfolding tokens_in token_of
by_step s q g (Found t c) e h =
    let n = (found_fits s q t c e).next in
    (record { lexeme = t; cursor = c; finds = e; is = refl }, subst (λ (k : ℕ). Chain s k (tokens_in (g c.at))) (sym n) (h c.at))
by_step s q g (Refused p) e h = tt
by_step s q g (End n) e h = tt

lex_chain : (k : ℕ) (s : List ℕ) (q : ℕ) → Chain s q (tokens_in (lex_n k s q))
unfolding lex_n tokens_in
lex_chain zero s q = tt
lex_chain (suc k) s q = by_step s q (λ r. lex_n k s r) (step_at s q) refl (λ p. lex_chain k s p)

-- So they find the tokens of the text.
pub text_chain : (s : List ℕ) → Chain s 0 (tokens-of s)
unfolding tokens-of lex_from
text_chain s = lex_chain (suc (length s - 0)) s 0

pub chain_front : (s : List ℕ) (p : ℕ) (a b : List Token) → Chain s p (a ++ b) → Chain s p a
chain_front s p [] b c = tt
chain_front s p (t ∷ a) b c = (c.0, chain_front s (t.place + t.length) a b c.1)

-- A token begins at or after the place of the step, and ends after it.
pub step_on : (s : List ℕ) (p : ℕ) (t : Token) → StepTo s p t → (p ≤ t.place) × (0 < t.length)
unfolding token_of
step_on s p t h =
    let o = found_fits s p h.lexeme h.cursor h.finds in
    let a : h.lexeme.at ≡ t.place = ap (λ (x : Token). x.place) h.is in
    let b : h.lexeme.len ≡ t.length = ap (λ (x : Token). x.length) h.is in
    let x = o.after in
    let y = o.long in
    (omega (arith, a, b, x, y), omega (arith, a, b, x, y))

-- A step from the token's own place finds it again.
pub step_self : (s : List ℕ) (p : ℕ) (t : Token) → StepTo s p t → StepTo s t.place t
unfolding token_of
step_self s p t h =
    let a : h.lexeme.at ≡ t.place = ap (λ (x : Token). x.place) h.is in
    record { lexeme = h.lexeme; cursor = h.cursor; finds = ap (step_at s) (sym a) ∙ step_again s p h.lexeme h.cursor h.finds; is = h.is }

-- The second part, from some place on.
pub record ChainFrom (s : List ℕ) (p : ℕ) (l : List Token) : Type 0 where
  pub from : ℕ
  pub low : p ≤ from
  pub chain : Chain s from l

pub chain_back : (s : List ℕ) (p : ℕ) (a b : List Token) → Chain s p (a ++ b) → ChainFrom s p b
chain_back s p [] b c = record { from = p; low = omega arith; chain = c }
chain_back s p (t ∷ a) b c =
    let r = chain_back s (t.place + t.length) a b c.1 in
    let x = r.low in
    let y = step_on s p t c.0 in
    record { from = r.from; low = omega arith; chain = r.chain }

-- A token's word is what stands at its place.
pub step_read : (s : List ℕ) (p : ℕ) (t : Token) → StepTo s p t → ReadAt s (word_of s t) t.place t.length
unfolding word_of part_of token_of
step_read s p t h =
    let o = found_fits s p h.lexeme h.cursor h.finds in
    let i = h.is in
    let a : h.lexeme.at ≡ t.place = ap (λ (x : Token). x.place) h.is in
    let b : h.lexeme.len ≡ t.length = ap (λ (x : Token). x.length) h.is in
    let x = o.next in
    let y = o.inside in
    let u : t.place ≤ length s = omega (arith, a, b, x, y) in
    let v : t.length ≤ length s - t.place = omega (arith, a, b, x, y) in
    record { bytes = sym (rw (le-leb t.place (length s) u, le-leb t.length (length s - t.place) v)); number = refl; float = refl }

-- What is found at a token ------------------------------------------------------------------------------------------------------------------

item_number : (k : Sort) (a n : ℕ) → num (item_of k a n).number ≡ num_of_sort k
unfolding item_of num_of_sort zero_num
item_number (WordToken c) a n = refl
item_number (Number b m) a n = refl
item_number String a n = refl
item_number (Float b m e) a n = refl
item_number (Punctuator b) a n = refl

pub item_at_lem : (k : Sort) (a n : ℕ) → (item_of k a n).at ≡ a
unfolding item_of
item_at_lem (WordToken c) a n = refl
item_at_lem (Number b m) a n = refl
item_at_lem String a n = refl
item_at_lem (Float b m e) a n = refl
item_at_lem (Punctuator b) a n = refl

pub item_next : (k : Sort) (a n : ℕ) → (item_of k a n).next ≡ n
unfolding item_of
item_next (WordToken c) a n = refl
item_next (Number b m) a n = refl
item_next String a n = refl
item_next (Float b m e) a n = refl
item_next (Punctuator b) a n = refl

pub step_item : (s : List ℕ) (p : ℕ) (t : Lexeme) (c : Cursor) → step_at s p ≡ Found t c → item_at s p ≡ item_of t.sort t.at c.at
unfolding item_at item_of_step
step_item s p t c e = ap item_of_step e

-- The place after a token.
pub step_next : (s : List ℕ) (p : ℕ) (t : Token) → StepTo s p t → (item_at s p).next ≡ t.place + t.length
unfolding token_of
step_next s p t h =
    let x = h.lexeme in
    let c = h.cursor in
    let a : x.at ≡ t.place = ap (λ (y : Token). y.place) h.is in
    let b : x.len ≡ t.length = ap (λ (y : Token). y.length) h.is in
    let n = (found_fits s p x c h.finds).next in
    let m : c.at ≡ t.place + t.length = omega (arith, a, b, n) in
    ap (λ (z : Item). z.next) (step_item s p x c h.finds) ∙ item_next x.sort x.at c.at ∙ m

-- The number of any step.
pub number_of_step : (r : Step) → num (item_of_step r).number ≡ num_of_step r
unfolding item_of_step num_of_step zero_num
number_of_step (Found t c) = item_number t.sort t.at c.at
number_of_step (Refused p) = refl
number_of_step (End n) = refl

pub step_number : (s : List ℕ) (p : ℕ) (t : Token) → StepTo s p t → NumberAt s p (word_of s t) (t.place + t.length)
unfolding word_of num_of_step token_of
step_number s p t h =
    let x = h.lexeme in
    let c = h.cursor in
    let i = step_item s p x c h.finds in
    let y = step_on s p t h in
    let a : x.at ≡ t.place = ap (λ (y : Token). y.place) h.is in
    record {
      number = ap (λ (z : Item). num z.number) i ∙ item_number x.sort x.at c.at ∙ sym (ap num_of_step (ap (step_at s) (sym a) ∙ step_again s p x c h.finds));
      place = ap (λ (z : Item). z.at) i ∙ item_at_lem x.sort x.at c.at ∙ a;
      next = step_next s p t h;
      long = omega arith;
    }

pub step_float : (s : List ℕ) (p : ℕ) (t : Token) → StepTo s p t → FloatAt s p (word_of s t) (t.place + t.length)
unfolding word_of token_of
step_float s p t h =
    let x = h.lexeme in
    let c = h.cursor in
    let i = step_item s p x c h.finds in
    let a : x.at ≡ t.place = ap (λ (y : Token). y.place) h.is in
    record {
      float = ap float_of_step h.finds ∙ sym (ap float_of_step (ap (step_at s) (sym a) ∙ step_again s p x c h.finds));
      place = ap (λ (z : Item). z.at) i ∙ item_at_lem x.sort x.at c.at ∙ a;
      next = step_next s p t h;
    }
