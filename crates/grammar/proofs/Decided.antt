-- The definition of the stage's answer decides it: a text has one answer. Assumes nothing.
use mathlib.Core.Path.{◌≡◌, refl, sym, ◌∙◌, ap, ap₂, subst}
use mathlib.Core.List.{List, [], ◌∷◌, ◌++◌}
use mathlib.Core.Logic.{◌⊎◌, inl, inr}
use Prim.Native.Nat.{ℕ}
use lib.ListN.{length}
use Rattle.token.specs.Lexing.{lex_from, Lexed, more, ended, refused}
use Rattle.grammar.specs.Grammar.{Token, Derivation, Begins}
use Rattle.grammar.specs.Terminals.{tokens}
use Rattle.grammar.specs.Stage.{Divides, StopsAt, Shallow, Answers, AnswersDecided, passes, no_token, not_admitted, ends_early, too_deep}
use Rattle.grammar.specs.Answered.{Answer}
use Rattle.std.specs.Prelude.{Ok, Err}
use Rattle.grammar.specs.declared.Refusal.TheVariants.{NoToken, NotAdmitted, TooDeep}
use Rattle.grammar.proofs.Fronts.{one_more, begins_front, shallow_front, derived_begins, not_shallow, stops_not}

-- Of two front parts of a list, each with the token behind it, they are the same or one goes on past the other's token.
abbrev Past : List Token → Token → List Token → Type 0
Past l t m = (r : List Token) × (m ≡ (l ++ (t ∷ [])) ++ r)

compare : (l : List Token) (t : Token) (r : List Token) (m : List Token) (u : Token) (v : List Token) → l ++ (t ∷ r) ≡ m ++ (u ∷ v)
    → ((l ≡ m) × (t ≡ u)) ⊎ (Past l t m ⊎ Past m u l)
compare [] t r [] u v e = let q : t ≡ u = cc in inl (refl, q)
compare [] t r (y ∷ m) u v e = let q : y ≡ t = cc in inr (inl (m, ap (◌∷ m) q))
compare (x ∷ l) t r [] u v e = let q : x ≡ u = cc in inr (inr (l, ap (◌∷ l) q))
compare (x ∷ l) t r (y ∷ m) u v e = go (compare l t r m u v (let q : l ++ (t ∷ r) ≡ m ++ (u ∷ v) = cc in q)) (let q : x ≡ y = cc in q)
  where
    go : ((l ≡ m) × (t ≡ u)) ⊎ (Past l t m ⊎ Past m u l) → x ≡ y → ((x ∷ l ≡ y ∷ m) × (t ≡ u)) ⊎ (Past (x ∷ l) t (y ∷ m) ⊎ Past (y ∷ m) u (x ∷ l))
    go (inl p) q = inl (ap₂ ◌∷◌ q p.0, p.1)
    go (inr (inl p)) q = inr (inl (p.0, ap₂ ◌∷◌ (sym q) p.1))
    go (inr (inr p)) q = inr (inr (p.0, ap₂ ◌∷◌ q p.1))

-- The text is refused at the token t, the tokens l before it not.
record Stopped (s : List ℕ) (l : List Token) (t : Token) : Type 0 where
  rest : List Token
  split : tokens s ≡ l ++ (t ∷ rest)
  shallow : Shallow l
  viable : Begins l
  no_further : Shallow (l ++ (t ∷ [])) → Begins (l ++ (t ∷ [])) → ⊥

past_not : {s : List ℕ} {l : List Token} {t : Token} (m : List Token) → Stopped s l t → Past l t m → Shallow m → Begins m → ⊥
past_not {s} {l} {t} m a p h b =
    a.no_further (shallow_front (l ++ (t ∷ [])) p.0 (subst Shallow p.1 h)) (begins_front (l ++ (t ∷ [])) p.0 (subst Begins p.1 b))

one_stop : {s : List ℕ} {l m : List Token} {t u : Token} → Stopped s l t → Stopped s m u → (l ≡ m) × (t ≡ u)
one_stop {s} {l} {m} {t} {u} a b = go (compare l t a.rest m u b.rest (sym a.split ∙ b.split))
  where
    go : ((l ≡ m) × (t ≡ u)) ⊎ (Past l t m ⊎ Past m u l) → (l ≡ m) × (t ≡ u)
    go (inl p) = p
    go (inr (inl p)) = absurd (past_not m a p b.shallow b.viable)
    go (inr (inr p)) = absurd (past_not l b p a.shallow a.viable)

no_stop : {s : List ℕ} {l : List Token} {t : Token} → Shallow (tokens s) → Begins (tokens s) → Stopped s l t → ⊥
no_stop {s} {l} {t} h b a = past_not (tokens s) a (a.rest, a.split ∙ one_more l t a.rest) h b

-- The answers at a token, and those at the end of the tokens.
data Cut (l : List Token) (t : Token) : Answer → Type 0 where
  cut_token : (Begins (l ++ (t ∷ [])) → ⊥) → Cut l t (Err (NotAdmitted t.place))
  cut_deep : Begins (l ++ (t ∷ [])) → Cut l t (Err (TooDeep t.place))

data Full (s : List ℕ) : Answer → Type 0 where
  full_pass : Divides s → Derivation (tokens s) → Full s (Ok tt)
  full_stop : (p : ℕ) → StopsAt (lex_from s 0) p → Full s (Err (NoToken p))
  full_early : Divides s → (Derivation (tokens s) → ⊥) → Full s (Err (NotAdmitted (length s)))

cut_same : {l : List Token} {t : Token} {r q : Answer} → Cut l t r → Cut l t q → r ≡ q
cut_same (cut_token n) (cut_token n') = refl
cut_same (cut_token n) (cut_deep b) = absurd (n b)
cut_same (cut_deep b) (cut_token n) = absurd (n b)
cut_same (cut_deep b) (cut_deep b') = refl

one_place : (l : Lexed) (p q : ℕ) → StopsAt l p → StopsAt l q → p ≡ q
unfolding StopsAt
one_place (more t l) p q a b = one_place l p q a b
one_place (ended n) p q a b = absurd a
one_place (refused n) p q a b = sym a ∙ b

full_same : {s : List ℕ} {r q : Answer} → Full s r → Full s q → r ≡ q
full_same (full_pass w d) (full_pass w' d') = refl
full_same {s} (full_pass w d) (full_stop p h) = absurd (stops_not (lex_from s 0) p h w)
full_same (full_pass w d) (full_early w' n) = absurd (n d)
full_same {s} (full_stop p h) (full_pass w d) = absurd (stops_not (lex_from s 0) p h w)
full_same {s} (full_stop p h) (full_stop q h') = ap (λ (i : ℕ). Err (NoToken i)) (one_place (lex_from s 0) p q h h')
full_same {s} (full_stop p h) (full_early w n) = absurd (stops_not (lex_from s 0) p h w)
full_same (full_early w n) (full_pass w' d) = absurd (n d)
full_same {s} (full_early w n) (full_stop p h) = absurd (stops_not (lex_from s 0) p h w)
full_same (full_early w n) (full_early w' n') = refl

data Case (s : List ℕ) (r : Answer) : Type 0 where
  at_end : Shallow (tokens s) → Begins (tokens s) → Full s r → Case s r
  at_token : (l : List Token) (t : Token) → Stopped s l t → Cut l t r → Case s r

case_of : {s : List ℕ} {r : Answer} → Answers s r → Case s r
case_of (passes w h d) = at_end h (derived_begins d) (full_pass w d)
case_of (no_token p w h b) = at_end h b (full_stop p w)
case_of (not_admitted l t r e h b n) =
    at_token l t (record { rest = r; split = e; shallow = h; viable = b; no_further = λ _. n }) (cut_token n)
case_of (ends_early w h b n) = at_end h b (full_early w n)
case_of (too_deep l t r e h b m o) =
    at_token l t
    (record { rest = r; split = e; shallow = h; viable = begins_front l (t ∷ []) b; no_further = λ g _. not_shallow l t m o g })
    (cut_deep b)

both_cases : {s : List ℕ} {r q : Answer} → Case s r → Case s q → r ≡ q
both_cases (at_end h b f) (at_end h' b' f') = full_same f f'
both_cases (at_end h b f) (at_token l t a c) = absurd (no_stop h b a)
both_cases (at_token l t a c) (at_end h b f) = absurd (no_stop h b a)
both_cases {q} (at_token l t a c) (at_token m u a' c') =
    let e = one_stop a a' in
    cut_same c (subst (λ k. Cut k t q) (sym e.0) (subst (λ w. Cut m w q) (sym e.1) c'))

-- A text has one answer.
pub decided : {s : List ℕ} {r q : Answer} → Answers s r → Answers s q → r ≡ q
decided a b = both_cases (case_of a) (case_of b)

pub answers_decided : AnswersDecided
answers_decided s r q a b = decided a b
