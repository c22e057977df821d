-- A part of a text from a token through a later one, as a text. Assumes nothing.
use Prim.Native.Nat.{ℕ, ◌+◌, ◌-◌, ◌≤◌}
use mathlib.Core.Path.{◌≡◌, refl, sym, ◌∙◌, ap, subst}
use mathlib.Core.List.{List, [], ◌∷◌, ◌++◌, map}
use native.Mathlib.Omega.{arith}
use native.Mathlib.Nat.{add_assoc}
use lib.ListN.{length, drop, length-drop}
use Rattle.token.specs.Tokens.{bytes_between}
use Rattle.token.specs.Lexing.{lex_from}
use Rattle.token.proofs.Sequences.{tokens_of}
use Rattle.token.specs.declared.Token.{Token}
use Rattle.locality.proofs.Shift.{moved}
use Rattle.locality.proofs.Join.{lex_drop, halves, part_long}
use Rattle.locality.proofs.Pieces.{tokens_moved, Run, run_high, last_end, run_last, leading}

-- l in two lists, whose values under f are xs and ys
pub record Split {A B : Type 0} (f : A → B) (l : List A) (xs ys : List B) : Type 0 where
  pub front : List A
  pub back : List A
  pub whole : l ≡ front ++ back
  pub front_is : map f front ≡ xs
  pub back_is : map f back ≡ ys

-- where the values of l are xs and then ys, l is such two lists
pub split : {A B : Type 0} (f : A → B) (l : List A) (xs ys : List B) → map f l ≡ xs ++ ys → Split f l xs ys
split f l [] ys e = record { front = []; back = l; whole = refl; front_is = refl; back_is = e }
split f [] (x ∷ xs) ys e = absurd (let z : ◌≡◌ {A = ℕ} 0 1 = cc in omega arith)
split {A} f (a ∷ l) (x ∷ xs) ys e =
    let same : f a ≡ x = cc in
    let k = split f l xs ys cc in
    record {
      front = a ∷ k.front;
      back = k.back;
      whole = ap (λ (m : List A). a ∷ m) k.whole;
      front_is = cc;
      back_is = k.back_is;
    }

-- where the last of moved tokens ends
pub last_moved : (d e : ℕ) (ts : List Token) → last_end (d + e) (map (moved d) ts) ≡ d + last_end e ts
unfolding last_end moved
last_moved d e [] = refl
last_moved d e (t ∷ ts) = ap (λ (i : ℕ). last_end i (map (moved d) ts)) (add_assoc d t.at t.len) ∙ last_moved d (t.at + t.len) ts

-- the part of s from p on that has the tokens ts, which in the part itself are `tokens`
pub record Slice (s : List ℕ) (p : ℕ) (ts : List Token) : Type 0 where
  pub end : ℕ
  pub low : p ≤ end
  pub high : end ≤ length s
  pub last : last_end p ts ≡ end
  pub tokens : List Token
  pub moved_are : map (moved p) tokens ≡ ts
  pub run : Run (bytes_between s p end ++ drop end s) (length (bytes_between s p end)) 0 tokens

-- where they are the first of the tokens from p on, there is such a part
pub slice : (s : List ℕ) (p : ℕ) (ts us : List Token) → p ≤ length s → tokens_of (lex_from s p) ≡ ts ++ us → Slice s p ts
slice s p ts us h k =
    let b = drop p s in
    let m = split (moved p) (tokens_of (lex_from b 0)) ts us (sym (tokens_moved p (lex_from b 0)) ∙ ap tokens_of (sym (lex_drop s p h)) ∙ k) in
    let f = leading b 0 m.front m.back m.whole in
    let e = f.end in
    let i = run_high b e 0 m.front f.run (omega arith) in
    let l = length-drop p s in
    let z : p + e - p ≡ e = omega arith in
    let low : p ≤ p + e = omega arith in
    let high : p + e ≤ length s = omega arith in
    record {
      end = p + e;
      low = low;
      high = high;
      last =
          ap (last_end p) (sym m.front_is) ∙ ap (λ (i : ℕ). last_end i (map (moved p) m.front)) (let y : p ≡ p + 0 = omega arith in y)
          ∙ last_moved p 0 m.front ∙ ap (λ (i : ℕ). p + i) (run_last b e 0 m.front f.run);
      tokens = m.front;
      moved_are = m.front_is;
      run =
          subst (λ (u : List ℕ). Run u (length (bytes_between s p (p + e))) 0 m.front) (halves s p (p + e) low high)
          (subst (λ (n : ℕ). Run b n 0 m.front) (sym (part_long s p (p + e) low high ∙ z)) f.run);
    }
