-- The answer as it is computed is the answer. Assumes nothing.
use mathlib.Core.Path.{◌≡◌, refl, sym, ◌∙◌, ap, subst}
use mathlib.Core.List.{List, [], ◌∷◌, ◌++◌}
use mathlib.Core.Bool.{Bool, true, false, false≢true}
use mathlib.Core.Logic.{◌⊎◌, inl, inr}
use Prim.Native.Nat.{ℕ}
use native.Mathlib.Omega.{arith}
use lib.ListN.{length}
use lib.Dec.{ltb}
use borrow.Author.Tests.{ltb-true, ltb-false}
use Rattle.token.proofs.Bytes.{both_true, both_second}
use Rattle.grammar.specs.Grammar.{Terminal, Token, Form, tok, Trees, nil, leaf, node, tokens, ◌⟶◌, matches, Derivation, version_is, no_D, a_D}
use Rattle.grammar.specs.Terminals.{tokens as tokens-of}
use Rattle.grammar.specs.Stage.{Answers, passes, no_token, not_admitted, ends_early, too_deep}
use Rattle.grammar.specs.Readers.{lex_at}
use Rattle.grammar.specs.Answered.{Answer as StageAnswer}
use Rattle.std.specs.Prelude.{Ok}
use Rattle.grammar.proofs.Answering.{answer_to, answer_to_lem}
use Rattle.meaning.specs.Words.{choose}
use Rattle.heading.specs.Headings.{front_form, Front, string_in, name_in, version_and_name, answer_in, Heads, too_long, headed, refused, plain, described, begins_with, nth, answer_by, computed}
use Rattle.heading.specs.Answered.{Answer}
use Rattle.rows.specs.Refusing.{refusing}

-- Tokens that begin with terminals are trees of them.
abbrev form_of : List Terminal → Form
form_of [] = []
form_of (a ∷ ks) = tok a ∷ form_of ks

record Begun (ks : List Terminal) (l : List Token) : Type 0 where
  leaves : Trees ◌⟶◌ (form_of ks)
  behind : List Token
  split : l ≡ tokens leaves ++ behind

begun : (ks : List Terminal) (l : List Token) → begins_with ks l ≡ true → Begun ks l
unfolding begins_with tokens
begun [] l h = record { leaves = nil; behind = l; split = refl }
begun (a ∷ ks) [] h = absurd (false≢true h)
begun (a ∷ ks) (t ∷ l) h =
    let r = begun ks l (both_second (matches a t.class) (begins_with ks l) h) in
    record { leaves = leaf t (both_true (matches a t.class) (begins_with ks l) h) r.leaves; behind = r.behind; split = ap (t ∷◌) r.split }

-- So they are a front, whose answer is by their third token and their sixth or eighth.
record Answered (l : List Token) (a : Answer) : Type 0 where
  front : Front l
  says : answer_in front.tree ≡ a

plain_front : (l : List Token) → begins_with plain l ≡ true → Answered l (version_and_name (nth l 2) (nth l 5))
unfolding tokens string_in name_in version_and_name
plain_front l h = cut w.leaves w.split
  where
    w : Begun plain l
    w = begun plain l h

    cut : (ts : Trees ◌⟶◌ (form_of plain)) → l ≡ tokens ts ++ w.behind → Answered l (version_and_name (nth l 2) (nth l 5))
    cut (leaf o m₁ (leaf e m₂ (leaf v m₃ (leaf c m₄ (leaf i m₅ (leaf n m₆ (leaf b m₇ nil))))))) q =
        subst (λ (z : List Token). Answered z (version_and_name (nth z 2) (nth z 5))) (sym q)
        (record {
          front = record { tree = node version_is (leaf o m₁ (leaf e m₂ (leaf v m₃ (node no_D nil (leaf c m₄ nil))))) (leaf i m₅ (leaf n m₆ (leaf b m₇ nil))); behind = w.behind; split = refl };
          says = refl;
        })

described_front : (l : List Token) → begins_with described l ≡ true → Answered l (version_and_name (nth l 2) (nth l 7))
unfolding tokens string_in name_in version_and_name
described_front l h = cut w.leaves w.split
  where
    w : Begun described l
    w = begun described l h

    cut : (ts : Trees ◌⟶◌ (form_of described)) → l ≡ tokens ts ++ w.behind → Answered l (version_and_name (nth l 2) (nth l 7))
    cut (leaf o m₁ (leaf e m₂ (leaf v m₃ (leaf k m₈ (leaf d m₉ (leaf c m₄ (leaf i m₅ (leaf n m₆ (leaf b m₇ nil))))))))) q =
        subst (λ (z : List Token). Answered z (version_and_name (nth z 2) (nth z 7))) (sym q)
        (record {
          front = record { tree = node version_is (leaf o m₁ (leaf e m₂ (leaf v m₃ (node a_D (leaf k m₈ (leaf d m₉ nil)) (leaf c m₄ nil))))) (leaf i m₅ (leaf n m₆ (leaf b m₇ nil))); behind = w.behind; split = refl };
          says = refl;
        })

-- A front begins with one of the two.
front_begins : (l : List Token) → Front l → (begins_with plain l ≡ true) ⊎ (begins_with described l ≡ true)
unfolding tokens begins_with
front_begins l f = go f.tree f.split
  where
    go : (t : Trees ◌⟶◌ front_form) → l ≡ tokens t ++ f.behind → (begins_with plain l ≡ true) ⊎ (begins_with described l ≡ true)
    go (node version_is (leaf o m₁ (leaf e m₂ (leaf v m₃ (node no_D nil (leaf c m₄ nil))))) (leaf i m₅ (leaf n m₆ (leaf b m₇ nil)))) q =
        inl (ap (begins_with plain) q ∙ rw (m₁, m₂, m₃, m₄, m₅, m₆, m₇) refl)
    go (node version_is (leaf o m₁ (leaf e m₂ (leaf v m₃ (node a_D (leaf k m₈ (leaf d m₉ nil)) (leaf c m₄ nil))))) (leaf i m₅ (leaf n m₆ (leaf b m₇ nil)))) q =
        inr (ap (begins_with described) q ∙ rw (m₁, m₂, m₃, m₈, m₉, m₄, m₅, m₆, m₇) refl)

-- What passes is derived.
pub derived : {s : List ℕ} {a : StageAnswer} → Answers s a → a ≡ Ok tt → Derivation (tokens-of s)
derived (passes w h d) e = d
derived (no_token p w h b) e = absurd (let z : ◌≡◌ {A = ℕ} 0 1 = cc in omega arith)
derived (not_admitted l t r q h b n) e = absurd (let z : ◌≡◌ {A = ℕ} 0 1 = cc in omega arith)
derived (ends_early w h b n) e = absurd (let z : ◌≡◌ {A = ℕ} 0 1 = cc in omega arith)
derived (too_deep l t r q h b m o) e = absurd (let z : ◌≡◌ {A = ℕ} 0 1 = cc in omega arith)

-- where what is derived has a front
pub computes : ((s : List ℕ) → Derivation (tokens-of s) → Front (tokens-of s)) → (s : List ℕ) → Heads s (computed s)
unfolding computed choose answer_by tokens-of lex_at
computes has-front s = by_length (ltb 65535 (length s)) refl
  where
    by_front : (p d : Bool) → begins_with plain (tokens-of s) ≡ p → begins_with described (tokens-of s) ≡ d → ltb 65535 (length s) ≡ false
        → Heads s (answer_by p d (tokens-of s) (λ _. answer_to s))
    by_front true d e g h = let w = plain_front (tokens-of s) e in subst (Heads s) w.says (headed (ltb-false 65535 (length s) h) w.front)
    by_front false true e g h = let w = described_front (tokens-of s) g in subst (Heads s) w.says (headed (ltb-false 65535 (length s) h) w.front)
    by_front false false e g h = refused (ltb-false 65535 (length s) h) none (answer_to s) (λ z. none (has-front s (derived (answer_to_lem s) z))) (answer_to_lem s)
      where
        none : Front (tokens-of s) → ⊥
        none f = either (front_begins (tokens-of s) f)
          where
            either : (begins_with plain (tokens-of s) ≡ true) ⊎ (begins_with described (tokens-of s) ≡ true) → ⊥
            either (inl q) = false≢true (sym e ∙ q)
            either (inr q) = false≢true (sym g ∙ q)

    by_length : (b : Bool) → ltb 65535 (length s) ≡ b
        → Heads s (choose b (λ _. refusing 2 0) (λ _. answer_by (begins_with plain (tokens-of s)) (begins_with described (tokens-of s)) (tokens-of s) (λ _. answer_to s)))
    by_length true e = too_long (ltb-true 65535 (length s) e)
    by_length false e = by_front (begins_with plain (tokens-of s)) (begins_with described (tokens-of s)) refl refl e
