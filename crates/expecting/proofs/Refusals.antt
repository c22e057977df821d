-- At a refusal 4 the tokens before its place are those that the grammar admits. Assumes nothing.
use mathlib.Core.Path.{◌≡◌, refl, sym, ◌∙◌, ap, ap₂, subst}
use mathlib.Core.List.{List, [], ◌∷◌, ◌++◌}
use Prim.Native.Nat.{ℕ, ◌≤◌, ◌<◌}
use native.Mathlib.Omega.{arith}
use lib.ListN.{length}
use borrow.Author.Tests.{lt-ltb, le-ltb}
use Rattle.token.specs.Find.{pick}
use Rattle.token.specs.Lexing.{Lexed, lex_from}
use Rattle.locality.proofs.Onward.{reading}
use Rattle.grammar.specs.Grammar.{Token, Begins}
use Rattle.grammar.specs.Terminals.{token_of, tokens_in, tokens}
use Rattle.grammar.specs.Stage.{Answers, passes, no_token, not_admitted, ends_early, too_deep}
use Rattle.grammar.specs.Answered.{Answer}
use Rattle.std.specs.Prelude.{Err}
use Rattle.grammar.specs.declared.Refusal.TheVariants.{NotAdmitted}
use Rattle.expecting.specs.Expected.{until}

until_on : (t : Token) (p : ℕ) (l : List Token) → t.place < p → until p (t ∷ l) ≡ t ∷ until p l
unfolding until
until_on t p l h = ap (λ b. pick b (t ∷ until p l) []) (lt-ltb t.place p h)

until_off : (t : Token) (p : ℕ) (l : List Token) → p ≤ t.place → until p (t ∷ l) ≡ []
unfolding until
until_off t p l h = ap (λ b. pick b (t ∷ until p l) []) (le-ltb t.place p h)

-- Tokens stand in the order of their places.
ordered : (s : List ℕ) (q : ℕ) (l : List Token) (t : Token) (r : List Token) → tokens_in (lex_from s q) ≡ l ++ (t ∷ r)
    → (until t.place (tokens_in (lex_from s q)) ≡ l) × (q ≤ t.place)
unfolding tokens_in token_of
ordered s q =
    reading s (λ (p : ℕ) (x : Lexed). (l : List Token) (t : Token) (r : List Token) → tokens_in x ≡ l ++ (t ∷ r) → (until t.place (tokens_in x) ≡ l) × (p ≤ t.place))
    (λ p u c w o f l t r e. step p (token_of u) (tokens_in (lex_from s c.at)) c.at o.after (omega (arith, o.long, o.next)) f l t r e)
    (λ p n w l t r e. absurd (nothing l t r e))
    (λ p n w l t r e. absurd (nothing l t r e))
    q
  where
    nothing : (l : List Token) (t : Token) (r : List Token) → [] ≡ l ++ (t ∷ r) → ⊥
    nothing [] t r e = let z : ◌≡◌ {A = ℕ} 0 1 = cc in omega arith
    nothing (x ∷ l) t r e = let z : ◌≡◌ {A = ℕ} 0 1 = cc in omega arith

    step : (p : ℕ) (u : Token) (us : List Token) (c : ℕ) → p ≤ u.place → u.place < c
        → ((l : List Token) (t : Token) (r : List Token) → us ≡ l ++ (t ∷ r) → (until t.place us ≡ l) × (c ≤ t.place))
        → (l : List Token) (t : Token) (r : List Token) → u ∷ us ≡ l ++ (t ∷ r) → (until t.place (u ∷ us) ≡ l) × (p ≤ t.place)
    step p u us c h k f [] t r e =
        let x : u ≡ t = cc in
        let y : u.place ≡ t.place = ap (λ (w : Token). w.place) x in
        (until_off u t.place us (omega arith), omega arith)
    step p u us c h k f (v ∷ l) t r e =
        let x : u ≡ v = cc in
        let y : us ≡ l ++ (t ∷ r) = cc in
        let z = f l t r y in
        let n = z.1 in
        (until_on u t.place us (omega arith) ∙ ap₂ ◌∷◌ x z.0, omega arith)

pub until_token : (s : List ℕ) (l : List Token) (t : Token) (r : List Token) → tokens s ≡ l ++ (t ∷ r) → until t.place (tokens s) ≡ l
unfolding tokens
until_token s l t r e = (ordered s 0 l t r e).0

pub until_end : (s : List ℕ) → until (length s) (tokens s) ≡ tokens s
unfolding tokens tokens_in token_of until
until_end s =
    reading s (λ (p : ℕ) (x : Lexed). until (length s) (tokens_in x) ≡ tokens_in x)
    (λ p u c w o f. until_on (token_of u) (length s) (tokens_in (lex_from s c.at)) (omega (arith, o.long, o.next, o.inside)) ∙ ap (token_of u ∷◌) f)
    (λ p n w. refl) (λ p n w. refl) 0

-- At a refusal 4 the tokens before its place begin a list that the grammar derives, and its own token does not go on with it.
pub record Refused-here (s : List ℕ) (p : ℕ) : Type 0 where
  pub viable : Begins (until p (tokens s))
  pub not_viable : (t : Token) (r : List Token) → tokens s ≡ until p (tokens s) ++ (t ∷ r) → Begins (until p (tokens s) ++ (t ∷ [])) → ⊥

pub same_head : (l : List Token) (t u : Token) (r v : List Token) → l ++ (t ∷ r) ≡ l ++ (u ∷ v) → t ≡ u
same_head [] t u r v e = cc
same_head (x ∷ l) t u r v e = same_head l t u r v (let q : l ++ (t ∷ r) ≡ l ++ (u ∷ v) = cc in q)

pub none_behind : (l m : List Token) (t : Token) → l ≡ l ++ (t ∷ m) → ⊥
none_behind [] m t e = let z : ◌≡◌ {A = ℕ} 0 1 = cc in omega arith
none_behind (x ∷ l) m t e = none_behind l m t (let q : l ≡ l ++ (t ∷ m) = cc in q)

here_of : {s : List ℕ} {a : Answer} (p : ℕ) → a ≡ Err (NotAdmitted p) → Answers s a → Refused-here s p
here_of {s} p q (not_admitted l t r e h b n) =
    let x : t.place ≡ p = cc in
    let y : until p (tokens s) ≡ l = ap (λ (i : ℕ). until i (tokens s)) (sym x) ∙ until_token s l t r e in
    record {
      viable = subst Begins (sym y) b;
      not_viable = λ u v w c.
          let z : u ≡ t = same_head l u t v r (ap (◌++ (u ∷ v)) (sym y) ∙ sym w ∙ e) in
          n (subst (λ (k : List Token). Begins (k ++ (t ∷ []))) y (subst (λ (k : Token). Begins (until p (tokens s) ++ (k ∷ []))) z c));
    }
here_of {s} p q (ends_early w h b n) =
    let x : length s ≡ p = cc in
    let y : until p (tokens s) ≡ tokens s = ap (λ (i : ℕ). until i (tokens s)) (sym x) ∙ until_end s in
    record { viable = subst Begins (sym y) b; not_viable = λ u v k c. none_behind (tokens s) v u (k ∙ ap (◌++ (u ∷ v)) y) }
here_of p q (passes w h d) = absurd (let z : ◌≡◌ {A = ℕ} 0 1 = cc in omega arith)
here_of p q (no_token n w h b) = absurd (let z : ◌≡◌ {A = ℕ} 0 1 = cc in omega arith)
here_of p q (too_deep l t r e h b m o) = absurd (let z : ◌≡◌ {A = ℕ} 0 1 = cc in omega arith)

pub refused_here : (s : List ℕ) (p : ℕ) → Answers s (Err (NotAdmitted p)) → Refused-here s p
refused_here s p a = here_of p refl a
