-- The machine over the front of a text, and where its refusals stand. Assumes nothing.
use mathlib.Core.Path.{◌≡◌, refl, sym, ◌∙◌, ap, ap₂}
use mathlib.Core.List.{[], ◌∷◌, ◌++◌}
use mathlib.Core.Bool.{Bool, true, false, ◌||◌}
use mathlib.Core.Option.{Option, none, some}
use Prim.Native.Nat.{ℕ, ◌≤◌}
use lib.Dec.{eqb, eqb→eq}
use Rattle.grammar.specs.Grammar.{Terminal, Token, Class, Trees, nil, leaf, node, tokens, ◌·◌, ◌▸◌, ∎, ◌⟶◌, matches, code, sign_code, sg, colon, semicolon, lbrace, rbrace, equals, the, OIL-VERSION, IMPLEMENTATION, string, name, file, version, implementation, application, specs, D, no_D, a_D, file_is, version_is, implementation_is}
use Rattle.grammar.specs.Factored.{Nonterminal, paper, Symbols, lift, ◌⟹◌, keep, kept, choices, by}
use Rattle.grammar.proofs.Checks.{takes}
use Rattle.grammar.specs.Machine.{nullable, nullable_form, starts, feed, Stream, ended, bad, ◌▹◌, prepend, opened, deeper, deeper_by, at_end, next, run}
use Rattle.grammar.specs.Answered.{Answer}
use Rattle.std.specs.Prelude.{Ok, Err}
use Rattle.grammar.specs.declared.Refusal.TheVariants.{NoToken, NotAdmitted, TooDeep}
use Rattle.grammar.proofs.Uniqueness.{takes_tok}
use Rattle.grammar.proofs.Braces.{terminal_code, opening, closing, agree, true_T}
use Rattle.grammar.proofs.Steps.{when, feed_tok, feed_enter, feed_only, run_pass, starts_any, any_takes}

-- Steps ---------------------------------------------------------------------------------------------------------------------------------------

run_take : (d : ℕ) (a : Terminal) (k : Symbols) (t : Token) (u : Stream) → matches a t.class ≡ true → opening a ≡ false → closing a ≡ false
    → run d (a · k) (t ▹ u) ≡ run d k u
unfolding run when next deeper deeper_by
run_take d a k t u m o c =
    ap₂ (λ q e. next q e t.place (λ j i. run i j u)) (feed_tok a k t.class ∙ ap (λ q. when q (some k)) m)
    (ap₂ (λ p q. deeper_by p q d) ((agree a t.class m).0 ∙ o) ((agree a t.class m).1 ∙ c))

pub run_open : (k : Symbols) (t : Token) (u : Stream) → matches (sg lbrace) t.class ≡ true → run 0 (sg lbrace · k) (t ▹ u) ≡ run 1 k u
unfolding run when next deeper deeper_by opened terminal_code
run_open k t u m =
    ap₂ (λ q e. next q e t.place (λ j i. run i j u)) (feed_tok (sg lbrace) k t.class ∙ ap (λ q. when q (some k)) m)
    (ap₂ (λ p q. deeper_by p q 0) (agree (sg lbrace) t.class m).0 (agree (sg lbrace) t.class m).1)

run_only : {x : Nonterminal} {g : Symbols} (p : x ⟹ g) (d : ℕ) (k : Symbols) (t : Token) (u : Stream) → choices x ≡ by p ∷ [] → nullable x ≡ false → nullable_form g ≡ false
    → run d (x ▸ k) (t ▹ u) ≡ run d (g ++ k) (t ▹ u)
unfolding run
run_only p d k t u c n h = ap (λ o. next o (deeper d t.class) t.place (λ j i. run i j u)) (feed_only p k t.class c n h)

run_enter : {x : Nonterminal} {g : Symbols} (p : x ⟹ g) (d : ℕ) (k : Symbols) (t : Token) (u : Stream) → takes g t.class ≡ true
    → run d (x ▸ k) (t ▹ u) ≡ run d (g ++ k) (t ▹ u)
unfolding run
run_enter p d k t u h = ap (λ o. next o (deeper d t.class) t.place (λ j i. run i j u)) (feed_enter p k t.class h)

pub no_colon : (c : Class) → matches (sg semicolon) c ≡ true → matches (sg colon) c ≡ false
unfolding matches sign_code
no_colon c h = let e = eqb→eq 35 (code c) (true_T h) in ap (eqb 36) (sym e)

D-starts : (c : Class) → starts (paper D) c ≡ matches (sg colon) c
unfolding choices any_takes takes
D-starts c = starts_any (paper D) c ∙ ap (◌|| false) (takes_tok (sg colon) (string · ∎) c) ∙ or_nothing (matches (sg colon) c)
  where
    or_nothing : (b : Bool) → (b || false) ≡ b
    or_nothing true = refl
    or_nothing false = refl

-- The front of a text -------------------------------------------------------------------------------------------------------------------------

abbrev version_form : Symbols
version_form = the OIL-VERSION · sg equals · string · paper D ▸ sg semicolon · ∎

pub version_run : (us : Trees ◌⟶◌ (the OIL-VERSION · sg equals · string · D ▸ sg semicolon · ∎)) (d : ℕ) (k : Symbols) (u : Stream)
    → run d (paper version ▸ k) (prepend (tokens us) u) ≡ run d k u
unfolding tokens prepend kept choices nullable nullable_form terminal_code
version_run (leaf o m₁ (leaf e m₂ (leaf v m₃ (node no_D nil (leaf c m₄ nil))))) d k u =
    run_only (keep version_is refl) d k o _ refl refl refl
    ∙ run_take d (the OIL-VERSION) _ o _ m₁ refl refl ∙ run_take d (sg equals) _ e _ m₂ refl refl ∙ run_take d string _ v _ m₃ refl refl
    ∙ run_pass d (paper D) _ c _ refl (D-starts c.class ∙ no_colon c.class m₄)
    ∙ run_take d (sg semicolon) _ c _ m₄ refl refl
version_run (leaf o m₁ (leaf e m₂ (leaf v m₃ (node a_D (leaf q m₅ (leaf w m₆ nil)) (leaf c m₄ nil))))) d k u =
    run_only (keep version_is refl) d k o _ refl refl refl
    ∙ run_take d (the OIL-VERSION) _ o _ m₁ refl refl ∙ run_take d (sg equals) _ e _ m₂ refl refl ∙ run_take d string _ v _ m₃ refl refl
    ∙ run_enter (keep a_D refl) d _ q _ (takes_tok (sg colon) (string · ∎) q.class ∙ m₅)
    ∙ run_take d (sg colon) _ q _ m₅ refl refl ∙ run_take d string _ w _ m₆ refl refl
    ∙ run_take d (sg semicolon) _ c _ m₄ refl refl

-- up to the brace, whatever is to be read behind the name
pub name_run : (us : Trees ◌⟶◌ (the OIL-VERSION · sg equals · string · D ▸ sg semicolon · ∎)) (i n : Token) (k : Symbols) (u : Stream)
    → matches (the IMPLEMENTATION) i.class ≡ true → matches name n.class ≡ true
    → run 0 (paper version ▸ the IMPLEMENTATION · name · k) (prepend (tokens us) (i ▹ n ▹ u)) ≡ run 0 k u
unfolding terminal_code
name_run us i n k u m₁ m₂ =
    version_run us 0 (the IMPLEMENTATION · name · k) (i ▹ n ▹ u) ∙ run_take 0 (the IMPLEMENTATION) _ i _ m₁ refl refl ∙ run_take 0 name _ n _ m₂ refl refl

-- The whole file, from behind the brace on.
pub file_run : (us : Trees ◌⟶◌ (the OIL-VERSION · sg equals · string · D ▸ sg semicolon · ∎)) (i n b : Token) (u : Stream)
    → matches (the IMPLEMENTATION) i.class ≡ true → matches name n.class ≡ true → matches (sg lbrace) b.class ≡ true
    → run 0 (paper file ▸ ∎) (prepend (tokens us) (i ▹ n ▹ b ▹ u))
    ≡ run 1 (lift (specs ▸ sg rbrace · D ▸ sg semicolon · application ▸ ∎)) u
unfolding terminal_code kept choices nullable nullable_form prepend tokens
file_run us i n b u m₁ m₂ m₃ =
    first us
    ∙ version_run us 0 (lift (implementation ▸ application ▸ ∎)) (i ▹ n ▹ b ▹ u)
    ∙ run_only (keep implementation_is refl) 0 (lift (application ▸ ∎)) i _ refl refl refl
    ∙ run_take 0 (the IMPLEMENTATION) _ i _ m₁ refl refl ∙ run_take 0 name _ n _ m₂ refl refl ∙ run_open _ b u m₃
  where
    first : (us : Trees ◌⟶◌ (the OIL-VERSION · sg equals · string · D ▸ sg semicolon · ∎)) → run 0 (paper file ▸ ∎) (prepend (tokens us) (i ▹ n ▹ b ▹ u))
        ≡ run 0 (lift (version ▸ implementation ▸ application ▸ ∎)) (prepend (tokens us) (i ▹ n ▹ b ▹ u))
    first (leaf o m ts) = run_only (keep file_is refl) 0 ∎ o _ refl refl refl

-- Where refusals stand ------------------------------------------------------------------------------------------------------------------------

-- Nothing of a stream stands before e.
abbrev pub Late : ℕ → Stream → Type 0
Late e (ended n) = e ≤ n
Late e (bad p) = e ≤ p
Late e (t ▹ u) = (e ≤ t.place) × Late e u

-- Nor does what is answered.
abbrev pub Behind : ℕ → Answer → Type 0
Behind e (Ok _) = Unit {0}
Behind e (Err (NoToken p)) = e ≤ p
Behind e (Err (NotAdmitted p)) = e ≤ p
Behind e (Err (TooDeep p)) = e ≤ p

pub run_late : (e : ℕ) (u : Stream) → Late e u → (d : ℕ) (k : Symbols) → Behind e (run d k u)
unfolding run at_end next
run_late e (ended n) h d k = go (nullable_form k)
  where
    go : (b : Bool) → Behind e (at_end b n)
    go true = tt
    go false = h
run_late e (bad p) h d k = h
run_late e (t ▹ u) h d k = go (feed k t.class) (deeper d t.class) (λ i j. run_late e u h.1 i j)
  where
    go : (o : Option Symbols) (p : Option ℕ) → ((i : ℕ) (j : Symbols) → Behind e (run i j u)) → Behind e (next o p t.place (λ j i. run i j u))
    go none p f = h.0
    go (some j) none f = h.0
    go (some j) (some i) f = f i j
