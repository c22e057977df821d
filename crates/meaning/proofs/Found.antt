-- The machine finds each derivation: so `reading` answers by the derivation, whichever one has it. Assumes nothing.
use mathlib.Core.Path.{◌≡◌, refl, sym, ◌∙◌, ap}
use mathlib.Core.List.{List, [], ◌∷◌}
use mathlib.Core.Option.{Option, none, some}
use Prim.Native.Nat.{ℕ, ◌≤◌, ◌<◌}
use lib.ListN.{length}
use borrow.Author.Tests.{le-ltb, lt-ltb}
use Rattle.token.specs.Lexing.{lex_from}
use Rattle.grammar.specs.Grammar.{Token, file, ◌▸◌, ∎, Trees, tokens, Derivation}
use Rattle.grammar.specs.Terminals.{tokens_in, tokens as tokens-of}
use Rattle.grammar.specs.Stage.{Answers, number_of, place_of}
use Rattle.grammar.specs.Demand.{Covered}
use Rattle.grammar.specs.Factored.{Symbols, paper, ◌⟹◌}
use Rattle.grammar.specs.Machine.{Move, move, after, run}
use Rattle.grammar.specs.Readers.{stream_of, lex_at}
use Rattle.grammar.specs.Answered.{Answer as GrammarAnswer}
use Rattle.std.specs.Prelude.{Ok, Err}
use Rattle.grammar.specs.declared.Refusal.TheVariants.{NoToken, NotAdmitted, TooDeep}
use Rattle.grammar.proofs.Uniqueness.{back, empty, tokens_empty, empty_unique, nullable_of, Good, one_good, left_good, complete, forth, test_is}
use Rattle.grammar.proofs.Literal.{from, lifted, to, tokens_to, back as there_and_back}
use Rattle.grammar.proofs.Answering.{answer_to_lem}
use Rattle.grammar.proofs.Demand.{demand_3}
use Rattle.meaning.specs.Words.{choose}
use Rattle.meaning.specs.Actions.{syntax}
use Rattle.meaning.specs.Tree.{empty_trees, trees_from, trees_of, tree}
use Rattle.meaning.specs.Normal.{normal}
use Rattle.meaning.specs.Answers.{refused, answer}
use Rattle.meaning.specs.Reading.{parsed, not_parsed, by_tree, after_grammar, parse, answer_of_parsed, reading, normal_of, normal_text}

found_by : (t : Token) {k : Symbols} (o : Option (Move t.class k)) (v : Move t.class k) (f : (j : Symbols) → Option (Trees ◌⟹◌ j)) (us : Trees ◌⟹◌ (after v))
    → o ≡ some v → f (after v) ≡ some us → trees_from t o f ≡ some (back t v us)
unfolding trees_from
found_by t o v f us e h = ap (λ p. trees_from t p f) e ∙ ap (λ q. elim q [ none ↦ none | some ts ↦ some (back t v ts) ]) h

pub trees_find : (l : List Token) {k : Symbols} → Good k → (ts : Trees ◌⟹◌ k) → tokens ts ≡ l → trees_of l k ≡ some ts
unfolding trees_of empty_trees
trees_find [] {k} g ts e =
    let h = nullable_of ts e in
    ap (empty_trees k) (test_is h) ∙ ap some (empty_unique (empty k h) ts (tokens_empty k h) e)
trees_find (t ∷ l) {k} g ts e =
    let f = forth ts t l e in
    found_by t (move t.class k) f.by_move (λ j. trees_of l j) f.rest (complete g f.by_move)
    (trees_find l (left_good g f.by_move) f.rest f.rest_tokens)
    ∙ ap some (sym f.same)

-- The tree of a derivation is found.
pub tree_finds : (l : List Token) (d : Derivation l) → tree l ≡ some d.tree
unfolding tree
tree_finds l d =
    ap (λ q. elim q [ none ↦ none | some ts ↦ some (from ts (lifted (file ▸ ∎))) ]) (trees_find l (one_good (paper file)) (to d.tree) (tokens_to d.tree ∙ d.leaves))
    ∙ ap some (there_and_back d.tree)

-- What the grammar stage answers to any text.
pub run_answers : (s : List ℕ) → Answers s (run 0 (paper file ▸ ∎) (stream_of (lex_from s 0)))
unfolding lex_at
run_answers s = answer_to_lem s

-- The executable answer and the grammar's theorem meet here: a text that divides into the tokens of a derivation, with never more than sixteen
-- braces open, has the derivation's syntax.
pub parse_derived : (s : List ℕ) → Covered s → (d : Derivation (tokens-of s)) → parse s ≡ parsed (syntax s d.tree)
unfolding parse choose after_grammar by_tree tokens-of
parse_derived s w d =
    ap (λ b. choose b (λ _. not_parsed 2 0) (λ _. after_grammar s (run 0 (paper file ▸ ∎) (stream_of (lex_from s 0))) (λ _. tree (tokens_in (lex_from s 0))))) (le-ltb 65535 (length s) w.short)
    ∙ ap (λ o. after_grammar s o (λ _. tree (tokens_in (lex_from s 0)))) (((demand_3 s _ (run_answers s)).passes_exactly w).1 d)
    ∙ ap (by_tree s) (tree_finds (tokens-of s) d)

pub reading_derived : (s : List ℕ) → Covered s → (d : Derivation (tokens-of s)) → reading s ≡ answer (syntax s d.tree)
unfolding reading answer_of_parsed
reading_derived s w d = ap answer_of_parsed (parse_derived s w d)

pub normal_derived : (s : List ℕ) → Covered s → (d : Derivation (tokens-of s)) → normal_text s ≡ normal s (syntax s d.tree)
unfolding normal_text normal_of
normal_derived s w d = ap (normal_of s) (parse_derived s w d)

pub reading_long : (s : List ℕ) → 65535 < length s → reading s ≡ refused 2 0
unfolding reading answer_of_parsed parse choose
reading_long s h =
    ap (λ b. answer_of_parsed (choose b (λ _. not_parsed 2 0) (λ _. after_grammar s (run 0 (paper file ▸ ∎) (stream_of (lex_from s 0))) (λ _. tree (tokens_in (lex_from s 0)))))) (lt-ltb 65535 (length s) h)

-- A text that the grammar stage refuses is refused so.
refused_by : (s : List ℕ) (a : GrammarAnswer) (t : Unit {0} → _) → (a ≡ Ok tt → ⊥) → answer_of_parsed (after_grammar s a t) ≡ refused (number_of a) (place_of a)
unfolding answer_of_parsed after_grammar number_of place_of
refused_by s (Ok _) t n = absurd (n refl)
refused_by s (Err (NoToken p)) t n = refl
refused_by s (Err (NotAdmitted p)) t n = refl
refused_by s (Err (TooDeep p)) t n = refl

pub reading_refused : (s : List ℕ) (a : GrammarAnswer) → length s ≤ 65535 → run 0 (paper file ▸ ∎) (stream_of (lex_from s 0)) ≡ a → (a ≡ Ok tt → ⊥)
    → reading s ≡ refused (number_of a) (place_of a)
unfolding reading parse choose
reading_refused s a h e n =
    ap (λ b. answer_of_parsed (choose b (λ _. not_parsed 2 0) (λ _. after_grammar s (run 0 (paper file ▸ ∎) (stream_of (lex_from s 0))) (λ _. tree (tokens_in (lex_from s 0)))))) (le-ltb 65535 (length s) h)
    ∙ ap (λ o. answer_of_parsed (after_grammar s o (λ _. tree (tokens_in (lex_from s 0))))) e
    ∙ refused_by s a (λ _. tree (tokens_in (lex_from s 0))) n
