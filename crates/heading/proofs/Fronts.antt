-- Fronts of a text: the tokens through the brace, by looks, by the machine and by places. Assumes nothing.
use mathlib.Core.Path.{◌≡◌, refl, sym, ◌∙◌, ap, subst}
use mathlib.Core.List.{List, [], ◌∷◌, ◌++◌}
use mathlib.Core.Bool.{Bool, true, false, false≢true}
use Prim.Native.Nat.{ℕ, suc, ◌≤◌, ◌<◌}
use native.Mathlib.Omega.{arith}
use lib.Dec.{ltb, eqb}
use lib.ListN.{length}
use Rattle.token.specs.Lexing.{Lexed, more, ended as done, refused as none_at, lex_from}
use Rattle.token.proofs.Steps.{bad_fits, end_fits}
use Rattle.locality.proofs.Onward.{reading}
use Rattle.grammar.specs.Grammar.{Terminal, Token, Trees, nil, leaf, node, tokens, ◌·◌, ◌▸◌, ∎, ◌⟶◌, matches, sg, colon, semicolon, lbrace, equals, the, OIL-VERSION, IMPLEMENTATION, string, name, version, D, no_D, a_D, version_is}
use Rattle.grammar.specs.Terminals.{token_of, tokens_in, tokens as tokens-of}
use Rattle.grammar.specs.Factored.{Symbols, paper, ◌⟹◌}
use Rattle.grammar.specs.Machine.{feed, Stream, ended, bad, ◌▹◌, prepend, next, run}
use Rattle.grammar.specs.Readers.{class_at, stream_of, lex_at, look_at, seen, on, rest_by, rest, refusal_of, Took, Meets}
use Rattle.grammar.specs.declared.Look.{Look}
use Rattle.grammar.specs.Answered.{Answer}
use Rattle.std.specs.Prelude.{Ok, Err}
use Rattle.grammar.specs.declared.Refusal.TheVariants.{NotAdmitted}
use Rattle.grammar.proofs.Literal.{from, lifted, tokens_from}
use Rattle.grammar.proofs.Codes.{not_code, brace_open}
use Rattle.grammar.proofs.Steps.{run_tok_no, prepend_append}
use Rattle.grammar.proofs.Meeting.{by_look, on_look, rest_token, rest_look}
use Rattle.heading.specs.Headings.{front_form, Front, string_in, name_in, brace_in}
use Rattle.heading.proofs.Runs.{name_run, run_open, no_colon, Late, Behind, run_late}

-- Two fronts of one list of tokens are the same ------------------------------------------------------------------------------------------------

pub front_same : (a b : Trees ◌⟶◌ front_form) (r q : List Token) → tokens a ++ r ≡ tokens b ++ q
    → (string_in a ≡ string_in b) × (name_in a ≡ name_in b) × (brace_in a ≡ brace_in b)
unfolding tokens string_in name_in brace_in
front_same (node version_is (leaf o m₁ (leaf e m₂ (leaf v m₃ (node no_D nil (leaf c m₄ nil))))) (leaf i m₅ (leaf n m₆ (leaf b m₇ nil))))
    (node version_is (leaf o' m₁' (leaf e' m₂' (leaf v' m₃' (node no_D nil (leaf c' m₄' nil))))) (leaf i' m₅' (leaf n' m₆' (leaf b' m₇' nil)))) r q h =
    let x : v ≡ v' = cc in let y : n ≡ n' = cc in let z : b ≡ b' = cc in (x, y, z)
front_same (node version_is (leaf o m₁ (leaf e m₂ (leaf v m₃ (node (a_D) (leaf k m₈ (leaf w m₉ nil)) (leaf c m₄ nil))))) (leaf i m₅ (leaf n m₆ (leaf b m₇ nil))))
    (node version_is (leaf o' m₁' (leaf e' m₂' (leaf v' m₃' (node a_D (leaf k' m₈' (leaf w' m₉' nil)) (leaf c' m₄' nil))))) (leaf i' m₅' (leaf n' m₆' (leaf b' m₇' nil)))) r q h =
    let x : v ≡ v' = cc in let y : n ≡ n' = cc in let z : b ≡ b' = cc in (x, y, z)
front_same (node version_is (leaf o m₁ (leaf e m₂ (leaf v m₃ (node no_D nil (leaf c m₄ nil))))) (leaf i m₅ (leaf n m₆ (leaf b m₇ nil))))
    (node version_is (leaf o' m₁' (leaf e' m₂' (leaf v' m₃' (node a_D (leaf k' m₈' (leaf w' m₉' nil)) (leaf c' m₄' nil))))) (leaf i' m₅' (leaf n' m₆' (leaf b' m₇' nil)))) r q h =
    let x : c ≡ k' = cc in
    absurd (false≢true (sym (no_colon c.class m₄) ∙ ap (λ (t : Token). matches (sg colon) t.class) x ∙ m₈'))
front_same (node version_is (leaf o m₁ (leaf e m₂ (leaf v m₃ (node (a_D) (leaf k m₈ (leaf w m₉ nil)) (leaf c m₄ nil))))) (leaf i m₅ (leaf n m₆ (leaf b m₇ nil))))
    (node version_is (leaf o' m₁' (leaf e' m₂' (leaf v' m₃' (node no_D nil (leaf c' m₄' nil))))) (leaf i' m₅' (leaf n' m₆' (leaf b' m₇' nil)))) r q h =
    let x : c' ≡ k = cc in
    absurd (false≢true (sym (no_colon c'.class m₄') ∙ ap (λ (t : Token). matches (sg colon) t.class) x ∙ m₈))

-- A front by looks ------------------------------------------------------------------------------------------------------------------------------

one_took : {x : Terminal} (s : List ℕ) (a : Look) {u : Stream} → Took ◌⟹◌ (x · ∎) (rest s a) u → (matches x (seen a).class ≡ true) × (rest s a ≡ seen a ▹ u)
unfolding rest rest_by prepend tokens
one_took {x} s a {u} k = cut k.took k.split (ltb a.code 56) refl
  where
    cut : (ts : Trees ◌⟹◌ (x · ∎)) → rest s a ≡ prepend (tokens ts) u → (b : Bool) → ltb a.code 56 ≡ b → (matches x (seen a).class ≡ true) × (rest s a ≡ seen a ▹ u)
    cut (leaf t m nil) e true h =
        let r : seen a ▹ lex_at s a.next ≡ t ▹ u = sym (ap (λ b. rest_by b s a) h) ∙ e in
        let q : seen a ≡ t = cc in
        (ap (λ (w : Token). matches x w.class) q ∙ m, e ∙ ap (λ (w : Token). w ▹ u) (sym q))
    cut (leaf t m nil) e false h =
        let r : ended a.at ≡ t ▹ u = sym (ap (λ b. rest_by b s a) h) ∙ e in
        absurd (let z : ◌≡◌ {A = ℕ} 0 1 = cc in omega arith)

pub stream_tokens : Stream → List Token
stream_tokens (ended n) = []
stream_tokens (bad p) = []
stream_tokens (t ▹ u) = t ∷ stream_tokens u

pub lexed_tokens : (l : Lexed) → tokens_in l ≡ stream_tokens (stream_of l)
unfolding tokens_in stream_tokens stream_of
lexed_tokens (more t l) = ap (token_of t ∷◌) (lexed_tokens l)
lexed_tokens (done n) = refl
lexed_tokens (none_at p) = refl

pub prepended : (ts : List Token) (u : Stream) → stream_tokens (prepend ts u) ≡ ts ++ stream_tokens u
unfolding stream_tokens prepend
prepended [] u = refl
prepended (t ∷ ts) u = ap (t ∷◌) (prepended ts u)

-- A text whose stream goes on behind a front.
unfoldable pub front_of : (s : List ℕ) (t : Trees ◌⟶◌ front_form) (u : Stream) → lex_at s 0 ≡ prepend (tokens t) u → Front (tokens-of s)
unfolding tokens-of lex_at
front_of s t u e =
    record { tree = t; behind = stream_tokens u; split = lexed_tokens (lex_from s 0) ∙ ap stream_tokens e ∙ prepended (tokens t) u }

pub record Built (ts₁ : List Token) (v : Token) (ts₃ ts₄ : List Token) (n b : Token) : Type 0 where
  pub whole : Trees ◌⟶◌ front_form
  pub string_is : string_in whole ≡ v
  pub name_is : name_in whole ≡ n
  pub tokens_are : tokens whole ≡ ts₁ ++ (v ∷ (ts₃ ++ (ts₄ ++ (n ∷ b ∷ []))))

build : (t₁ : Trees ◌⟹◌ (the OIL-VERSION · sg equals · ∎)) (v : Token) → matches string v.class ≡ true → (t₃ : Trees ◌⟶◌ (D ▸ sg semicolon · ∎))
    (t₄ : Trees ◌⟹◌ (the IMPLEMENTATION · ∎)) (n : Token) → matches name n.class ≡ true → (b : Token) → matches (sg lbrace) b.class ≡ true
    → Built (tokens t₁) v (tokens t₃) (tokens t₄) n b
unfolding tokens string_in name_in
build (leaf o m₁ (leaf e m₂ nil)) v mv t₃ (leaf i mi nil) n mn b mb =
    record { whole = node version_is (leaf o m₁ (leaf e m₂ (leaf v mv t₃))) (leaf i mi (leaf n mn (leaf b mb nil))); string_is = refl; name_is = refl; tokens_are = refl }

pub record Shown (s : List ℕ) (v n : Token) : Type 0 where
  pub front : Front (tokens-of s)
  pub its_string : string_in front.tree ≡ v
  pub its_name : name_in front.tree ≡ n

pub looked : (s : List ℕ) (a c d e f g : Look) → a ≡ look_at s 0 0 → Meets 1 (the OIL-VERSION · sg equals · ∎) s a c → Meets 1 (string · ∎) s c d
    → Meets 0 (D ▸ sg semicolon · ∎) s d e → Meets 1 (the IMPLEMENTATION · ∎) s e f → Meets 1 (name · ∎) s f g → g.code ≡ 45 → Shown s (seen c) (seen f)
unfolding front_of prepend seen class_at
looked s a c d e f g at m₁ m₂ m₃ m₄ m₅ h =
    let k₅ = m₅.took (omega arith) in
    let k₄ = m₄.took k₅.0 in
    let k₃ = m₃.took k₄.0 in
    let k₂ = m₂.took k₃.0 in
    let k₁ = m₁.took k₂.0 in
    let o₂ = one_took s c k₂.1 in
    let o₅ = one_took s f k₅.1 in
    let low : g.code < 56 = omega arith in
    let brace : matches (sg lbrace) (class_at g.code) ≡ true = brace_open g.code low ∙ ap (λ (i : ℕ). eqb i 45) h in
    let t₃ = from k₃.1.took (lifted (D ▸ sg semicolon · ∎)) in
    let w = build k₁.1.took (seen c) o₂.0 t₃ k₄.1.took (seen f) o₅.0 (seen g) brace in
    let begins : rest s a ≡ lex_at s 0 = ap (rest s) at ∙ rest_look s 0 0 (subst (λ (l : Look). l.code ≤ 56) at k₁.0) in
    let x₅ : rest s f ≡ seen f ▹ seen g ▹ lex_at s g.next = o₅.1 ∙ ap (seen f ▹◌) (rest_token s g low) in
    let x₃ : rest s d ≡ prepend (tokens t₃) (rest s e) = k₃.1.split ∙ ap (λ l. prepend l (rest s e)) (sym (tokens_from k₃.1.took (lifted (D ▸ sg semicolon · ∎)))) in
    let u = lex_at s g.next in
    let tail₄ = tokens k₄.1.took ++ (seen f ∷ seen g ∷ []) in
    let y₄ : rest s e ≡ prepend tail₄ u = k₄.1.split ∙ ap (prepend (tokens k₄.1.took)) x₅ ∙ sym (prepend_append (tokens k₄.1.took) (seen f ∷ seen g ∷ []) u) in
    let y₃ : rest s d ≡ prepend (tokens t₃ ++ tail₄) u = x₃ ∙ ap (prepend (tokens t₃)) y₄ ∙ sym (prepend_append (tokens t₃) tail₄ u) in
    let y₂ : rest s c ≡ prepend (seen c ∷ (tokens t₃ ++ tail₄)) u = o₂.1 ∙ ap (seen c ▹◌) y₃ in
    let y₁ : rest s a ≡ prepend (tokens k₁.1.took ++ (seen c ∷ (tokens t₃ ++ tail₄))) u =
    k₁.1.split ∙ ap (prepend (tokens k₁.1.took)) y₂ ∙ sym (prepend_append (tokens k₁.1.took) (seen c ∷ (tokens t₃ ++ tail₄)) u) in
    record {
      front = front_of s w.whole u (sym begins ∙ y₁ ∙ ap (λ l. prepend l u) (sym w.tokens_are));
      its_string = w.string_is;
      its_name = w.name_is;
    }

-- No front where the look behind the name is no brace -------------------------------------------------------------------------------------------

-- A text's stream behind a front, with the brace before everything that follows.
pub record Follows (s : List ℕ) (t : Trees ◌⟶◌ front_form) : Type 0 where
  pub from_here : ℕ
  pub inside : from_here ≤ length s
  pub later : (brace_in t).place < from_here
  pub stream : lex_at s 0 ≡ prepend (tokens t) (lex_at s from_here)

pub late_from : (s : List ℕ) (e : ℕ) → e ≤ length s → (p : ℕ) → e ≤ p → Late e (lex_at s p)
unfolding lex_at stream_of token_of
late_from s e i p h =
    reading s (λ (q : ℕ) (l : Lexed). e ≤ q → Late e (stream_of l))
    (λ q t c w o f g. let k = f (omega (arith, o.after, o.long, o.next)) in (omega (arith, o.after), k))
    (λ q r w g. let o = bad_fits s q r w in omega arith)
    (λ q n w g. let o = end_fits s q n w in omega arith)
    p h

behind_not : (e p : ℕ) (r : Answer) → r ≡ Err (NotAdmitted p) → p < e → Behind e r → ⊥
behind_not e p r q h b = let z : Behind e (Err (NotAdmitted p)) = subst (Behind e) q b in omega arith

pub no_front : (s : List ℕ) (a g : Look) → a ≡ look_at s 0 0 → Meets 1 (version ▸ the IMPLEMENTATION · name · ∎) s a g → (g.code ≡ 45 → ⊥)
    → (t : Trees ◌⟶◌ front_form) → Follows s t → ⊥
unfolding run next feed brace_in tokens prepend class_at matches seen
no_front s a g at m h (node version_is us (leaf i m₁ (leaf n m₂ (leaf b m₃ nil)))) w =
    by_look s g (λ o. ((k : Symbols) → o k ≡ run 0 k (b ▹ u)) → ⊥) token end refused same
  where
    u : Stream
    u = lex_at s w.from_here

    ahead : lex_at s 0 ≡ prepend (tokens us) (i ▹ n ▹ b ▹ u)
    ahead = w.stream ∙ prepend_append (tokens us) (i ∷ n ∷ b ∷ []) u

    same : (k : Symbols) → on s g k ≡ run 0 k (b ▹ u)
    same k =
        sym (m.reads k) ∙ ap (λ (l : Look). on s l (paper version ▸ the IMPLEMENTATION · name · k)) at
        ∙ on_look s 0 0 (paper version ▸ the IMPLEMENTATION · name · k)
        ∙ ap (run 0 (paper version ▸ the IMPLEMENTATION · name · k)) ahead ∙ name_run us i n k (b ▹ u) m₁ m₂

    past : Behind (suc b.place) (run 0 (sg lbrace · ∎) (b ▹ u))
    past = subst (Behind (suc b.place)) (sym (run_open ∎ b u m₃)) (run_late (suc b.place) u (late_from s (suc b.place) (omega (arith, w.later, w.inside)) w.from_here (omega (arith, w.later))) 1 ∎)

    token : g.code < 56 → ((k : Symbols) → run g.depth k (seen g ▹ lex_at s g.next) ≡ run 0 k (b ▹ u)) → ⊥
    token l f =
        let x : Err (NotAdmitted g.at) ≡ Err (NotAdmitted b.place) = f ∎ in
        let y : g.at ≡ b.place = cc in
        let z : Err (NotAdmitted g.at) ≡ run 0 (sg lbrace · ∎) (b ▹ u) =
        sym (run_tok_no g.depth (sg lbrace) ∎ (seen g) (lex_at s g.next) (not_code (matches (sg lbrace)) 45 tt h l)) ∙ f (sg lbrace · ∎) in
        behind_not (suc b.place) g.at _ (sym z) (omega arith) past

    end : g.code ≡ 56 → ((k : Symbols) → run g.depth k (ended g.at) ≡ run 0 k (b ▹ u)) → ⊥
    end l f = let x : Ok tt ≡ Err (NotAdmitted b.place) = f ∎ in let z : ◌≡◌ {A = ℕ} 0 1 = cc in omega arith

    refused : 56 < g.code → ((k : Symbols) → refusal_of g.code g.at ≡ run 0 k (b ▹ u)) → ⊥
    refused l f = behind_not (suc b.place) b.place _ (sym (f (sg lbrace · ∎)) ∙ f ∎) (omega arith) past
