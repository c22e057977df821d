-- From the tokens of a text to its places: where a front ends, and that it stays in another text that goes on there. Assumes nothing.
use mathlib.Core.Path.{◌≡◌, refl, sym, ◌∙◌, ap, ap₂, subst}
use mathlib.Core.List.{List, [], ◌∷◌, ◌++◌, map, append_assoc}
use mathlib.Core.Bool.{Bool, true, false, false≢true}
use Prim.Native.Nat.{ℕ, ◌<◌, ◌+◌}
use native.Mathlib.Omega.{arith}
use lib.Dec.{ltb}
use lib.ListN.{length}
use borrow.Author.Tests.{ltb-true, ne_eqb}
use Rattle.token.specs.Lexing.{Lexed, more, ended as done, refused as none_at, lex_from}
use Rattle.token.proofs.Sequences.{tokens_of, after_all}
use Rattle.token.specs.declared.Sort.{Sort}
use Rattle.token.specs.declared.Sort.TheVariants.{Word, Number, String, Punctuator, Float}
use Rattle.token.specs.declared.Token.{Token as Lexeme}
use Rattle.token.proofs.Steps.{found_fits}
use Rattle.locality.proofs.Front.{ends}
use Rattle.locality.proofs.Pieces.{Run, stay, go, run_lex, run_high, run_other, LastEnds, leading}
use Rattle.grammar.specs.Grammar.{Token, Trees, nil, leaf, node, tokens, ◌⟶◌, matches, code, sg, lbrace, version_is}
use Rattle.grammar.specs.Terminals.{token_of, class_of, tokens_in, tokens as tokens-of}
use Rattle.grammar.specs.Machine.{◌▹◌, prepend}
use Rattle.grammar.specs.Readers.{code_of, class_at, stream_of, lex_at}
use Rattle.grammar.proofs.Codes.{brace_open, class_code}
use Rattle.heading.specs.Headings.{front_form, Front, brace_in}
use Rattle.heading.proofs.Fronts.{front_of, Follows}

-- Lists ----------------------------------------------------------------------------------------------------------------------------------------

record Halves (ls : List Lexeme) (ts vs : List Token) : Type 0 where
  front : List Lexeme
  back : List Lexeme
  both_are : ls ≡ front ++ back
  front_is : map token_of front ≡ ts
  back_is : map token_of back ≡ vs

halves : (ls : List Lexeme) (ts vs : List Token) → map token_of ls ≡ ts ++ vs → Halves ls ts vs
halves ls [] vs e = record { front = []; back = ls; both_are = refl; front_is = refl; back_is = e }
halves [] (t ∷ ts) vs e = absurd (let z : ◌≡◌ {A = ℕ} 0 1 = cc in omega arith)
halves (x ∷ ls) (t ∷ ts) vs e =
    let p : token_of x ≡ t = cc in
    let h = halves ls ts vs (let q : map token_of ls ≡ ts ++ vs = cc in q) in
    record { front = x ∷ h.front; back = h.back; both_are = ap (x ∷◌) h.both_are; front_is = ap₂ ◌∷◌ p h.front_is; back_is = h.back_is }

-- the last of a list
record Last (ls : List Lexeme) (ts : List Token) (b : Token) : Type 0 where
  before : List Lexeme
  last : Lexeme
  all_are : ls ≡ before ++ (last ∷ [])
  last_is : token_of last ≡ b

last_of : (ls : List Lexeme) (ts : List Token) (b : Token) → map token_of ls ≡ ts ++ (b ∷ []) → Last ls ts b
last_of ls ts b e = by h.back h.both_are h.back_is
  where
    h : Halves ls ts (b ∷ [])
    h = halves ls ts (b ∷ []) e

    by : (back : List Lexeme) → ls ≡ h.front ++ back → map token_of back ≡ b ∷ [] → Last ls ts b
    by [] p q = absurd (let z : ◌≡◌ {A = ℕ} 0 1 = cc in omega arith)
    by (x ∷ []) p q = record { before = h.front; last = x; all_are = p; last_is = cc }
    by (x ∷ y ∷ ys) p q = absurd (let z : map token_of (y ∷ ys) ≡ [] = cc in let w : ◌≡◌ {A = ℕ} 0 1 = cc in omega arith)

lexed_map : (l : Lexed) → tokens_in l ≡ map token_of (tokens_of l)
unfolding tokens_in tokens_of
lexed_map (more t l) = ap (token_of t ∷◌) (lexed_map l)
lexed_map (done n) = refl
lexed_map (none_at p) = refl

streamed : (ls : List Lexeme) (l : Lexed) → stream_of (after_all ls l) ≡ prepend (map token_of ls) (stream_of l)
unfolding after_all stream_of prepend
streamed [] l = refl
streamed (x ∷ ls) l = ap (token_of x ▹◌) (streamed ls l)

-- Places ---------------------------------------------------------------------------------------------------------------------------------------

-- The tokens ts are found by the steps from 0 up to a place.
pub record Found (s : List ℕ) (ts : List Token) : Type 0 where
  pub upto : ℕ
  pub lexemes : List Lexeme
  pub steps : Run s upto 0 lexemes
  pub are : map token_of lexemes ≡ ts

pub found_of : (s : List ℕ) (ts vs : List Token) → tokens-of s ≡ ts ++ vs → Found s ts
unfolding tokens-of
found_of s ts vs e =
    let h = halves (tokens_of (lex_from s 0)) ts vs (sym (lexed_map (lex_from s 0)) ∙ e) in
    let l = leading s 0 h.front h.back h.both_are in
    record { upto = l.end; lexemes = h.front; steps = l.run; are = h.front_is }

pub found_stream : {s : List ℕ} {ts : List Token} (f : Found s ts) → lex_at s 0 ≡ prepend ts (lex_at s f.upto)
unfolding lex_at
found_stream {s} f =
    ap stream_of (run_lex s f.upto 0 f.lexemes f.steps) ∙ streamed f.lexemes (lex_from s f.upto) ∙ ap (λ ts. prepend ts (stream_of (lex_from s f.upto))) f.are

last_step : (s : List ℕ) (q p : ℕ) (ls : List Lexeme) (x : Lexeme) → Run s q p (ls ++ (x ∷ [])) → (x.at < q) × (x.at + x.len ≡ q)
last_step s q p [] x (go _ _ c _ e (stay _ h)) = let o = found_fits s p x c e in (omega (arith, o.long, o.next), omega (arith, o.next))
last_step s q p (y ∷ ls) x (go _ _ c _ e r) = last_step s q c.at ls x r

-- A front: all tokens but the last, and the brace.
front_tokens : (t : Trees ◌⟶◌ front_form) → (ts : List Token) × (tokens t ≡ ts ++ (brace_in t ∷ [])) × (matches (sg lbrace) (brace_in t).class ≡ true)
unfolding tokens brace_in
front_tokens (node version_is us (leaf i m₁ (leaf n m₂ (leaf b m₃ nil)))) =
    (tokens us ++ (i ∷ n ∷ []), sym (append_assoc (tokens us) (i ∷ n ∷ []) (b ∷ [])), m₃)

pub follows : (s : List ℕ) (f : Front (tokens-of s)) → Follows s f.tree
unfolding token_of
follows s f =
    let w = found_of s (tokens f.tree) f.behind f.split in
    let t = front_tokens f.tree in
    let l = last_of w.lexemes t.0 (brace_in f.tree) (w.are ∙ t.1) in
    let r : Run s w.upto 0 (l.before ++ (l.last ∷ [])) = subst (λ ls. Run s w.upto 0 ls) l.all_are w.steps in
    let p : l.last.at ≡ (brace_in f.tree).place = ap (λ (x : Token). x.place) l.last_is in
    let q = last_step s w.upto 0 l.before l.last r in
    record {
      from_here = w.upto;
      inside = run_high s w.upto 0 w.lexemes w.steps (omega arith);
      later = omega (arith, q.0, p);
      stream = found_stream w;
    }

-- Another text that goes on behind the brace -----------------------------------------------------------------------------------------------------

brace_ends : (k : Sort) → matches (sg lbrace) (class_of k) ≡ true → (b : List ℕ) → ends k b ≡ true
unfolding ends class_of matches code code_of
brace_ends (Word c) h b = absurd (false≢true (sym (word_no (ltb c 43) refl) ∙ ap (matches (sg lbrace)) (class_code (Word c)) ∙ h))
  where
    word_no : (t : Bool) → ltb c 43 ≡ t → matches (sg lbrace) (class_at (code_of (Word c))) ≡ false
    word_no true e = rw e (let l = ltb-true c 43 e in brace_open c (omega arith) ∙ ne_eqb c 45 (λ z. omega arith))
    word_no false e = rw e (brace_open 55 (omega arith))
brace_ends (Number n m) h b = absurd (false≢true h)
brace_ends (Float n m k) h b = absurd (false≢true h)
brace_ends String h b = refl
brace_ends (Punctuator m) h b = refl

last_ends : (ls : List Lexeme) (x : Lexeme) (b : List ℕ) → ends x.sort b ≡ true → LastEnds b (ls ++ (x ∷ []))
last_ends [] x b h = h
last_ends (y ∷ []) x b h = h
last_ends (y ∷ z ∷ ls) x b h = last_ends (z ∷ ls) x b h

pub other_front : (a b c : List ℕ) (f : Front (tokens-of (a ++ b))) → (brace_in f.tree).place + (brace_in f.tree).length ≡ length a
    → (g : Front (tokens-of (a ++ c))) × (g.tree ≡ f.tree)
unfolding token_of front_of
other_front a b c f h =
    let w = found_of (a ++ b) (tokens f.tree) f.behind f.split in
    let t = front_tokens f.tree in
    let l = last_of w.lexemes t.0 (brace_in f.tree) (w.are ∙ t.1) in
    let r : Run (a ++ b) w.upto 0 (l.before ++ (l.last ∷ [])) = subst (λ ls. Run (a ++ b) w.upto 0 ls) l.all_are w.steps in
    let p : l.last.at ≡ (brace_in f.tree).place = ap (λ (x : Token). x.place) l.last_is in
    let o : l.last.len ≡ (brace_in f.tree).length = ap (λ (x : Token). x.length) l.last_is in
    let q = last_step (a ++ b) w.upto 0 l.before l.last r in
    let e : w.upto ≡ length a = omega (arith, q.1, p, o) in
    let u : Run (a ++ b) (length a) 0 (l.before ++ (l.last ∷ [])) = subst (λ (n : ℕ). Run (a ++ b) n 0 (l.before ++ (l.last ∷ []))) e r in
    let m : matches (sg lbrace) (class_of l.last.sort) ≡ true = ap (λ (x : Token). matches (sg lbrace) x.class) l.last_is ∙ t.2 in
    let v = run_other a c b 0 (l.before ++ (l.last ∷ [])) u (last_ends l.before l.last c (brace_ends l.last.sort m c)) in
    let x : Found (a ++ c) (tokens f.tree) =
    record { upto = length a; lexemes = l.before ++ (l.last ∷ []); steps = v; are = ap (map token_of) (sym l.all_are) ∙ w.are } in
    (front_of (a ++ c) f.tree (lex_at (a ++ c) (length a)) (found_stream x), refl)
