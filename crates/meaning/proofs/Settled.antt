-- A text's tokens are in order; so the stage of 6 to 10 is answered by its first fault. Assumes nothing.
use mathlib.Core.Path.{◌≡◌, refl, sym, ◌∙◌, subst}
use mathlib.Core.List.{List, [], ◌∷◌}
use Prim.Native.Nat.{ℕ, zero, suc, ◌-◌, ◌≤◌}
use native.Mathlib.Omega.{arith}
use lib.ListN.{length}
use Rattle.token.specs.Tokens.{step_at}
use Rattle.token.specs.Lexing.{lex_n, lex_from, after_step, Lexed}
use Rattle.token.specs.declared.Step.{Step}
use Rattle.token.specs.declared.Step.TheVariants.{Found, Refused, End}
use Rattle.token.proofs.Steps.{StepOk, step_ok}
use Rattle.grammar.specs.Grammar.{Token, file, ◌▸◌, ∎, ◌⟶◌, Trees, tokens, Derivation}
use Rattle.grammar.specs.Terminals.{token_of, tokens_in, tokens as tokens-of}
use Rattle.grammar.specs.Demand.{Covered}
use Rattle.meaning.specs.Syntax.{File}
use Rattle.meaning.specs.Faults.{first}
use Rattle.meaning.specs.Actions.{syntax}
use Rattle.meaning.specs.Defining.{definition_faults}
use Rattle.meaning.specs.Applying.{object_faults}
use Rattle.meaning.specs.Judging.{statement_stage}
use Rattle.meaning.specs.Resolving.{all_values, how_many_in_all, too_many}
use Rattle.meaning.specs.Answers.{Answer, accepted, unless, tables, answer}
use Rattle.meaning.specs.Reading.{reading}
use Rattle.meaning.proofs.Found.{reading_derived}
use Rattle.meaning.proofs.Order.{Ordered, foremost}
use Rattle.meaning.proofs.Leaves.{definition_order}

tokens_later : (l : List Token) {p q : ℕ} → p ≤ q → Ordered q l → Ordered p l
tokens_later [] h o = tt
tokens_later (t ∷ l) h o = let i = o.0 in (omega arith, o.1)

step_ordered : (s : List ℕ) (q : ℕ) (g : ℕ → Lexed) (r : Step) → StepOk s q r
    → ((p : ℕ) → Ordered p (tokens_in (g p))) → Ordered q (tokens_in (after_step r g))
unfolding tokens_in token_of
step_ordered s q g (Found t c) ok h =
    let a = ok.after in
    let l = ok.long in
    let n = ok.next in
    (a, tokens_later (tokens_in (g c.at)) (omega arith) (h c.at))
step_ordered s q g (Refused p) ok h = tt
step_ordered s q g (End n) ok h = tt

lex_ordered : (k : ℕ) (s : List ℕ) (q : ℕ) → Ordered q (tokens_in (lex_n k s q))
unfolding lex_n tokens_in
lex_ordered zero s q = tt
lex_ordered (suc k) s q = step_ordered s q (λ r. lex_n k s r) (step_at s q) (step_ok s q) (λ p. lex_ordered k s p)

pub text_ordered : (s : List ℕ) → Ordered 0 (tokens-of s)
unfolding tokens-of lex_from
text_ordered s = lex_ordered (suc (length s - 0)) s 0

-- The answer where the stage of 6 to 10 is answered by the first fault of its list: what a reader of the implementation that stops at its first
-- fault gives.
unfoldable pub answer_in_order : File → Answer
answer_in_order f =
    unless (foremost (definition_faults f)) (λ _.
    unless (first (object_faults f)) (λ _.
    unless (first (statement_stage f)) (λ _.
    let rs = all_values f f.objects in
    unless (first (too_many (how_many_in_all rs))) (λ _. accepted (tables f rs)))))

pub in_order : (s : List ℕ) (t : Trees ◌⟶◌ (file ▸ ∎)) → Ordered 0 (tokens t) → answer (syntax s t) ≡ answer_in_order (syntax s t)
unfolding answer answer_in_order
in_order s t o = simp (definition_order s t o)

-- All together: a text of at most 65,535 bytes that divides into the tokens of a derivation, with never more than sixteen braces open.
pub reading_in_order : (s : List ℕ) → Covered s → (d : Derivation (tokens-of s)) → reading s ≡ answer_in_order (syntax s d.tree)
reading_in_order s w d =
    reading_derived s w d ∙ in_order s d.tree (subst (λ x. Ordered 0 x) (sym d.leaves) (text_ordered s))
