-- What the whole stage answers. Assumes nothing.
use mathlib.Core.Path.{◌≡◌, refl, sym, ◌∙◌, ap, ap₂, subst}
use mathlib.Core.List.{List, [], ◌∷◌, ◌++◌}
use Prim.Native.Nat.{ℕ}
use native.Mathlib.Omega.{arith}
use lib.ListN.{length}
use borrow.Author.Tests.{eq-eqb, ne_eqb, lt-ltb, le-ltb}
use Rattle.token.specs.Lexing.{lex_from, Lexed, Divides as Wholly, more as found, ended as done, refused as none}
use Rattle.token.proofs.Promises.{Ends, lex_ends}
use Rattle.grammar.specs.Grammar.{Token, file, ◌▸◌, ∎, Derivation, Begins}
use Rattle.grammar.specs.Terminals.{token_of, tokens_in, tokens}
use Rattle.grammar.specs.Stage.{StopsAt, Shallow, Answers, passes, no_token, not_admitted, ends_early, too_deep}
use Rattle.grammar.specs.Factored.{paper}
use Rattle.grammar.specs.Machine.{nullable_form, feed, Stream, ended, bad, ◌▹◌, prepend, next, at_end, run}
use Rattle.grammar.specs.Readers.{stream_of, lex_at, look_at, refusal_of, answer_of, seen, on, Meets}
use Rattle.grammar.specs.declared.Look.{Look}
use Rattle.grammar.specs.Answered.{Answer}
use Rattle.std.specs.Prelude.{Err}
use Rattle.grammar.specs.declared.Refusal.TheVariants.{NotAdmitted}
use Rattle.grammar.proofs.Meeting.{by_look, on_look}
use Rattle.grammar.proofs.Runs.{Outcome, well, no_token_at, not_taken, unfinished, seventeenth, run_is}

-- With nothing to be read behind it, a look is what it answers.
answer_is : (s : List ℕ) (a : Look) → on s a ∎ ≡ answer_of a
unfolding answer_of refusal_of run next at_end nullable_form feed seen
answer_is s a =
    by_look s a (λ o. o ∎ ≡ answer_of a)
    (λ h. rw (ne_eqb a.code 56 (λ e. omega arith), lt-ltb a.code 56 h) refl)
    (λ e. rw (eq-eqb a.code 56 e) refl)
    (λ h. rw (ne_eqb a.code 56 (λ e. omega arith), le-ltb a.code 56 (omega arith)) refl)

-- The stage is the run of the whole text.
pub stage_runs : (s : List ℕ) (a b : Look) (r : Answer) → a ≡ look_at s 0 0 → Meets 1 (file ▸ ∎) s a b → r ≡ answer_of b
    → r ≡ run 0 (paper file ▸ ∎) (lex_at s 0)
stage_runs s a b r e m v =
    v ∙ sym (answer_is s b) ∙ sym (m.reads ∎) ∙ ap (λ l. on s l (paper file ▸ ∎)) e ∙ on_look s 0 0 (paper file ▸ ∎)

-- From the stream of a text to its tokens.
pub ended_is : (m : ℕ) (l : Lexed) (ts : List Token) (n : ℕ) → Ends m l → stream_of l ≡ prepend ts (ended n) → Wholly l × (tokens_in l ≡ ts) × (n ≡ m)
unfolding stream_of prepend tokens_in
ended_is m (found t l) [] n h e = absurd (let z : ◌≡◌ {A = ℕ} 0 1 = cc in omega arith)
ended_is m (found t l) (u ∷ ts) n h e =
    let r = ended_is m l ts n h (let q : stream_of l ≡ prepend ts (ended n) = cc in q) in
    let p : token_of t ≡ u = cc in
    (r.0, ap₂ ◌∷◌ p r.1, r.2)
ended_is m (done k) [] n h e = (tt, refl, let q : k ≡ n = cc in sym q ∙ h)
ended_is m (done k) (u ∷ ts) n h e = absurd (let z : ◌≡◌ {A = ℕ} 0 1 = cc in omega arith)
ended_is m (none p) [] n h e = absurd (let z : ◌≡◌ {A = ℕ} 0 1 = cc in omega arith)
ended_is m (none p) (u ∷ ts) n h e = absurd (let z : ◌≡◌ {A = ℕ} 0 1 = cc in omega arith)

bad_is : (l : Lexed) (ts : List Token) (p : ℕ) → stream_of l ≡ prepend ts (bad p) → StopsAt l p × (tokens_in l ≡ ts)
unfolding stream_of prepend tokens_in StopsAt
bad_is (found t l) [] p e = absurd (let z : ◌≡◌ {A = ℕ} 0 1 = cc in omega arith)
bad_is (found t l) (u ∷ ts) p e =
    let r = bad_is l ts p (let q : stream_of l ≡ prepend ts (bad p) = cc in q) in
    let q : token_of t ≡ u = cc in
    (r.0, ap₂ ◌∷◌ q r.1)
bad_is (done k) [] p e = absurd (let z : ◌≡◌ {A = ℕ} 0 1 = cc in omega arith)
bad_is (done k) (u ∷ ts) p e = absurd (let z : ◌≡◌ {A = ℕ} 0 1 = cc in omega arith)
bad_is (none q) [] p e = ((let r : q ≡ p = cc in r), refl)
bad_is (none q) (u ∷ ts) p e = absurd (let z : ◌≡◌ {A = ℕ} 0 1 = cc in omega arith)

token_is : (l : Lexed) (ts : List Token) (v : Token) (s : Stream) → stream_of l ≡ prepend ts (v ▹ s) → (vs : List Token) × (tokens_in l ≡ ts ++ (v ∷ vs))
unfolding stream_of prepend tokens_in
token_is (found t l) [] v s e = let q : token_of t ≡ v = cc in (tokens_in l, ap (λ w. w ∷ tokens_in l) q)
token_is (found t l) (u ∷ ts) v s e =
    let r = token_is l ts v s (let q : stream_of l ≡ prepend ts (v ▹ s) = cc in q) in
    let q : token_of t ≡ u = cc in
    (r.0, ap₂ ◌∷◌ q r.1)
token_is (done k) [] v s e = absurd (let z : ◌≡◌ {A = ℕ} 0 1 = cc in omega arith)
token_is (done k) (u ∷ ts) v s e = absurd (let z : ◌≡◌ {A = ℕ} 0 1 = cc in omega arith)
token_is (none p) [] v s e = absurd (let z : ◌≡◌ {A = ℕ} 0 1 = cc in omega arith)
token_is (none p) (u ∷ ts) v s e = absurd (let z : ◌≡◌ {A = ℕ} 0 1 = cc in omega arith)

-- What the run of the whole text comes to, it answers.
answered : (s : List ℕ) {r : Answer} → Outcome (lex_at s 0) r → Answers s r
unfolding lex_at tokens
answered s (well l n e h d) =
    let w = ended_is (length s) (lex_from s 0) l n (lex_ends s 0) e in
    passes w.0 (subst Shallow (sym w.1) h) (subst Derivation (sym w.1) d)
answered s (no_token_at l p e h b) =
    let w = bad_is (lex_from s 0) l p e in
    no_token p w.0 (subst Shallow (sym w.1) h) (subst Begins (sym w.1) b)
answered s (not_taken l t u e h b n) =
    let w = token_is (lex_from s 0) l t u e in
    not_admitted l t w.0 w.1 h b n
answered s (unfinished l n e h b d) =
    let w = ended_is (length s) (lex_from s 0) l n (lex_ends s 0) e in
    subst (λ m. Answers s (Err (NotAdmitted m))) (sym w.2)
    (ends_early w.0 (subst Shallow (sym w.1) h) (subst Begins (sym w.1) b) (λ q. d (subst Derivation w.1 q)))
answered s (seventeenth l t u e h b m o) =
    let w = token_is (lex_from s 0) l t u e in
    too_deep l t w.0 w.1 h b m o

-- An answer to every text, found by the machine.
abbrev pub answer_to : List ℕ → Answer
answer_to s = run 0 (paper file ▸ ∎) (lex_at s 0)

pub answer_to_lem : (s : List ℕ) → Answers s (answer_to s)
answer_to_lem s = answered s (run_is (lex_at s 0))

pub stage_answers : (s : List ℕ) (a b : Look) (r : Answer) → a ≡ look_at s 0 0 → Meets 1 (file ▸ ∎) s a b → r ≡ answer_of b → Answers s r
stage_answers s a b r e m v = subst (Answers s) (sym (stage_runs s a b r e m v)) (answer_to_lem s)
