-- At a refusal 4: where the tokens before its place are found, and that only blanks and comments stand between them and the place.
-- Assumes nothing.
use Prim.Native.Nat.{ℕ, ◌+◌, ◌-◌, ◌≤◌}
use mathlib.Core.Path.{◌≡◌, refl, sym, ◌∙◌, ap, subst}
use mathlib.Core.List.{List, [], ◌∷◌, ◌++◌, map, append-nil}
use mathlib.Core.Bool.{Bool, true, false}
use native.Mathlib.Omega.{arith}
use lib.ListN.{length}
use lib.Dec.{ltb, eqb}
use borrow.Author.Tests.{ltb-false}
use Rattle.token.specs.Bytes.{class_of, word_end, is_dotted, find_byte, find_mark, pair_at}
use Rattle.token.specs.declared.scan.Class.{Class}
use Rattle.token.specs.declared.scan.Class.TheVariants.{Letter as letter, Digit as digit, Blank as blank, Sign as plus_minus, Quote as quote, Punctuator as punctuator, Dot as dot, Slash as slash, Other as other}
use Rattle.token.specs.Find.{byte}
use Rattle.token.specs.Numbers.{numeral}
use Rattle.token.specs.Floats.{mantissa_of, power_at}
use Rattle.token.specs.Tokens.{bytes_between, limit_of, found, word_at, number_of, whole_at, float_of, float_by, float_at, number_by, number_at, string_at, dots_at, token_of as tokenOfClass, token_at, step_at}
use Rattle.token.specs.Lexing.{Lexed, more, ended, refused, lex_from, Divides as Wholly}
use Rattle.std.specs.Prelude.{Option, Some, None}
use Rattle.token.specs.declared.Power.{Power}
use Rattle.token.specs.declared.Sort.TheVariants.{String, Punctuator}
use Rattle.token.specs.declared.Cursor.{Cursor}
use Rattle.token.specs.declared.Token.{Token as Lexeme}
use Rattle.token.specs.declared.Step.{Step}
use Rattle.token.specs.declared.Step.TheVariants.{Found, Refused, End}
use Rattle.token.proofs.Find.{by_test}
use Rattle.token.proofs.Sequences.{tokens_of, after_all}
use Rattle.token.proofs.Steps.{TokenOk, token_ok, found_fits, lex_found, lex_bad}
use Rattle.locality.proofs.Skipping.{Bare, plain, lone, unended, plain_step, lone_step, unended_step, gap_step, Skips, here, on, skips_step, stop}
use Rattle.locality.proofs.Pieces.{Run, run_lex, run_high, Leading, leading, first}
use Rattle.locality.proofs.Slices.{Split, split}
use Rattle.grammar.specs.Grammar.{Token, Begins}
use Rattle.grammar.specs.Terminals.{token_of, tokens_in, tokens}
use Rattle.grammar.specs.Stage.{Shallow, Answers, passes, no_token, not_admitted, ends_early, too_deep}
use Rattle.grammar.specs.Answered.{Answer}
use Rattle.std.specs.Prelude.{Err}
use Rattle.grammar.specs.declared.Refusal.TheVariants.{NotAdmitted}
use Rattle.expecting.specs.Expected.{until}
use Rattle.expecting.proofs.Refusals.{until_token, until_end}

-- ---- where a step finds the end, the text is at its end

abbrev Stays : Step → Type 0
Stays (Found t c) = Unit {0}
Stays (Refused q) = Unit {0}
Stays (End n) = ⊥

number_stays : (m : Bool) (v : Option ℕ) (p e : ℕ) → Stays (number_of m v p e)
unfolding found
number_stays m (Some n) p e = tt
number_stays m None p e = tt

float_stays : (m : Bool) (v : Option ℕ) (w : Option Power) (n p : ℕ) → Stays (float_of m v w n p)
unfolding found
float_stays m (Some a) (Some x) n p = tt
float_stays m (Some a) None n p = tt
float_stays m None w n p = tt

number_by_stays : (b : Bool) (s : List ℕ) (p q : ℕ) → Stays (number_by b s p q)
unfolding number_by whole_at float_at float_by
number_by_stays true s p q =
    let d = word_end s q in
    let x = find_mark s (word_end s (d + 1)) (d + 1) in
    float_stays (eqb (byte s p) 45) (mantissa_of (bytes_between s q d) (bytes_between s (d + 1) x)) (power_at s x (word_end s (d + 1))) (x - (d + 1)) p
number_by_stays false s p q =
    number_stays (eqb (byte s p) 45) (numeral (ltb p q) (limit_of (eqb (byte s p) 45)) (bytes_between s q (word_end s q))) p (word_end s q)

class_stays : (c : Class) (s : List ℕ) (p : ℕ) → Stays (tokenOfClass c s p)
unfolding tokenOfClass word_at found number_at string_at dots_at
class_stays letter s p = tt
class_stays digit s p = number_by_stays (is_dotted s (word_end s p)) s p p
class_stays blank s p = tt
class_stays plus_minus s p = number_by_stays (is_dotted s (word_end s (p + 1))) s p (p + 1)
class_stays quote s p = by_test Stays (ltb (find_byte 34 s (p + 1)) (length s)) (found String p (find_byte 34 s (p + 1) + 1)) (Refused p) (λ _. tt) (λ _. tt)
class_stays punctuator s p = tt
class_stays dot s p = by_test Stays (pair_at s p 46 46) (found (Punctuator 46) p (p + 2)) (Refused p) (λ _. tt) (λ _. tt)
class_stays slash s p = tt
class_stays other s p = tt

token_end : (s : List ℕ) (m n : ℕ) → token_at s m ≡ End n → length s ≤ m
unfolding token_at
token_end s m n e =
    by_test (λ (r : Step). r ≡ End n → length s ≤ m) (ltb m (length s)) (tokenOfClass (class_of (byte s m)) s m) (End (length s))
    (λ _ f. absurd (subst Stays f (class_stays (class_of (byte s m)) s m)))
    (λ t _. ltb-false m (length s) t) e

bare_end : (s : List ℕ) (m n : ℕ) → Bare s m → step_at s m ≡ End n → length s ≤ m
bare_end s m n (plain f) e = token_end s m n (sym (plain_step s m f) ∙ e)
bare_end s m n (lone f g h) e = token_end s m n (sym (lone_step s m f g h) ∙ e)
bare_end s m n (unended f g h k) e = absurd (let r = unended_step s m f g h k in let y : ◌≡◌ {A = ℕ} 0 1 = cc in omega arith)

-- and where it finds a token, the token stands there
bare_found : (s : List ℕ) (m : ℕ) (t : Lexeme) (c : Cursor) → Bare s m → step_at s m ≡ Found t c → t.at ≡ m
bare_found s m t c (plain f) e = let o : TokenOk s m (Found t c) = subst (TokenOk s m) (sym (plain_step s m f) ∙ e) (token_ok s m) in o.0
bare_found s m t c (lone f g h) e = let o : TokenOk s m (Found t c) = subst (TokenOk s m) (sym (lone_step s m f g h) ∙ e) (token_ok s m) in o.0
bare_found s m t c (unended f g h k) e = absurd (let r = unended_step s m f g h k in let y : ◌≡◌ {A = ℕ} 0 1 = cc in omega arith)

skips_high : (s : List ℕ) (m p : ℕ) → p ≤ length s → Skips s m p → m ≤ length s
skips_high s m p h (here _ e) = omega arith
skips_high s m p h (on _ q g k) = skips_high s m q (gap_step s p q g).2 k

-- ---- the tokens before a refusal 4

pub record Before (s : List ℕ) (p : ℕ) : Type 0 where
  pub inside : p ≤ length s
  pub from_here : ℕ
  pub lexemes : List Lexeme
  pub run : Run s from_here 0 lexemes
  pub gap : Skips s p from_here
  pub are : map token_of lexemes ≡ until p (tokens s)
  pub shallow : Shallow (until p (tokens s))
  pub begins : Begins (until p (tokens s))

lexed_map : (l : Lexed) → tokens_in l ≡ map token_of (tokens_of l)
unfolding tokens_in tokens_of
lexed_map (more t l) = ap (token_of t ∷◌) (lexed_map l)
lexed_map (ended n) = refl
lexed_map (refused p) = refl

-- before a token
module _ (s : List ℕ) (l : List Token) (t : Token) (r : List Token) (e : tokens s ≡ l ++ (t ∷ r)) (h : Shallow l) (b : Begins l) where
  parted : Split token_of (tokens_of (lex_from s 0)) l (t ∷ r)
  unfolding tokens
  parted = split token_of (tokens_of (lex_from s 0)) l (t ∷ r) (sym (lexed_map (lex_from s 0)) ∙ e)

  by_back : (k : List Lexeme) → tokens_of (lex_from s 0) ≡ parted.front ++ k → map token_of k ≡ t ∷ r → Before s t.place
  unfolding token_of
  by_back [] w z = absurd (let y : ◌≡◌ {A = ℕ} 0 1 = cc in omega arith)
  by_back (x ∷ xs) w z =
      let g = leading s 0 parted.front (x ∷ xs) w in
      let f = first s g.end x xs g.rest in
      let o = found_fits s g.end x f.next f.step in
      let v = stop s g.end in
      let at_place : x.at ≡ v.place = bare_found s v.place x f.next v.bare (sym (skips_step s v.place g.end v.skipped) ∙ f.step) in
      let same : token_of x ≡ t = cc in
      let q : x.at ≡ t.place = ap (λ (y : Token). y.place) same in
      let y : until t.place (tokens s) ≡ l = until_token s l t r e in
      record {
        inside = omega (arith, q, o.next, o.inside);
        from_here = g.end;
        lexemes = parted.front;
        run = g.run;
        gap = subst (λ (i : ℕ). Skips s i g.end) (sym at_place ∙ q) v.skipped;
        are = parted.front_is ∙ sym y;
        shallow = subst Shallow (sym y) h;
        begins = subst Begins (sym y) b;
      }

  before_token : Before s t.place
  before_token = by_back parted.back parted.whole parted.back_is

-- at the end
wholly_after : (ls : List Lexeme) (l : Lexed) → Wholly (after_all ls l) → Wholly l
unfolding after_all
wholly_after [] l d = d
wholly_after (t ∷ ls) l d = wholly_after ls l d

module _ (s : List ℕ) (d : Wholly (lex_from s 0)) (h : Shallow (tokens s)) (b : Begins (tokens s)) where
  all_found : Leading s 0 (tokens_of (lex_from s 0)) []
  all_found = leading s 0 (tokens_of (lex_from s 0)) [] (sym (append-nil (tokens_of (lex_from s 0))))

  by_step : (r : Step) → step_at s all_found.end ≡ r → Before s (length s)
  unfolding tokens tokens_of
  by_step (Found x c) e =
      absurd (let z : x ∷ tokens_of (lex_from s c.at) ≡ [] = sym (ap tokens_of (lex_found s all_found.end x c e)) ∙ all_found.rest in let y : ◌≡◌ {A = ℕ} 0 1 = cc in omega arith)
  by_step (Refused q) e =
      absurd (subst Wholly (lex_bad s all_found.end q e) (wholly_after (tokens_of (lex_from s 0)) (lex_from s all_found.end) (subst Wholly (run_lex s all_found.end 0 (tokens_of (lex_from s 0)) all_found.run) d)))
  by_step (End n) e =
      let v = stop s all_found.end in
      let low = bare_end s v.place n v.bare (sym (skips_step s v.place all_found.end v.skipped) ∙ e) in
      let high = skips_high s v.place all_found.end (run_high s all_found.end 0 (tokens_of (lex_from s 0)) all_found.run (omega arith)) v.skipped in
      let q : v.place ≡ length s = omega arith in
      let y = until_end s in
      record {
        inside = omega arith;
        from_here = all_found.end;
        lexemes = tokens_of (lex_from s 0);
        run = all_found.run;
        gap = subst (λ (i : ℕ). Skips s i all_found.end) q v.skipped;
        are = sym (lexed_map (lex_from s 0)) ∙ sym y;
        shallow = subst Shallow (sym y) h;
        begins = subst Begins (sym y) b;
      }

  before_end : Before s (length s)
  before_end = by_step (step_at s all_found.end) refl

before_of : {s : List ℕ} {a : Answer} (p : ℕ) → a ≡ Err (NotAdmitted p) → Answers s a → Before s p
before_of {s} p q (not_admitted l t r e h b n) = subst (Before s) (let x : t.place ≡ p = cc in x) (before_token s l t r e h b)
before_of {s} p q (ends_early w h b n) = subst (Before s) (let x : length s ≡ p = cc in x) (before_end s w h b)
before_of p q (passes w h d) = absurd (let z : ◌≡◌ {A = ℕ} 0 1 = cc in omega arith)
before_of p q (no_token n w h b) = absurd (let z : ◌≡◌ {A = ℕ} 0 1 = cc in omega arith)
before_of p q (too_deep l t r e h b m o) = absurd (let z : ◌≡◌ {A = ℕ} 0 1 = cc in omega arith)

pub before : (s : List ℕ) (p : ℕ) → Answers s (Err (NotAdmitted p)) → Before s p
before s p a = before_of p refl a
