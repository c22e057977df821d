-- `sources_answer` gives the answer to all lent texts. Assumes nothing.
use mathlib.Core.Path.{◌≡◌, refl, sym, ◌∙◌, ap, subst}
use mathlib.Core.Bool.{Bool, true, false}
use mathlib.Core.List.{List}
use Prim.Native.Nat.{ℕ, ◌+◌, ◌≤◌}
use native.Mathlib.Omega.{arith}
use lib.ListN.{length}
use lib.Dec.{eqb}
use borrow.Author.Tests.{le-ltb, eq-eqb, ne_eqb, eqb-true, eqb-false}
use Rattle.token.specs.Find.{pick}
use Rattle.token.specs.Lexing.{Lexed, more, ended, refused as stopped, Divides as Wholly, lex_from}
use Rattle.grammar.specs.Grammar.{file, ◌▸◌, ∎, Derivation}
use Rattle.grammar.specs.Terminals.{tokens_in}
use Rattle.grammar.specs.Stage.{number_of, place_of, StopsAt, passes, no_token, Answers as StageAnswers}
use Rattle.grammar.specs.Stage as Stage
use Rattle.grammar.specs.Demand.{Covered}
use Rattle.grammar.proofs.Decided.{decided}
use Rattle.grammar.specs.Factored.{paper}
use Rattle.grammar.specs.Machine.{run}
use Rattle.grammar.specs.Readers.{stream_of}
use Rattle.grammar.specs.Answered.{Answer as GrammarAnswer}
use Rattle.std.specs.Prelude.{Ok, Err}
use Rattle.grammar.specs.declared.Refusal.TheVariants.{NoToken, NotAdmitted, TooDeep}
use Rattle.meaning.specs.Words.{choose}
use Rattle.meaning.specs.Tree.{tree}
use Rattle.meaning.specs.Actions.{syntax}
use Rattle.meaning.specs.Answers.{Answer, refused, answer}
use Rattle.meaning.specs.Reading.{Parsed, not_parsed, after_grammar, parse, answer_of_parsed}
use Rattle.meaning.proofs.Found.{run_answers, parse_derived}
use Rattle.sources.specs.Texts.{told_well}
use Rattle.sources.specs.Expanding.{expanded, expansion_if, expansion_within, expansion_of, fill_of, is_too_long}
use Rattle.sources.proofs.Singles.{split, fill_long}
use Rattle.sources_laws.specs.Lexings.{EndsAs, Lexes}
use Rattle.sources_laws.proofs.Expanded.{expanded_lexes}
use Rattle.sources_reading.specs.Answering.{Answers, too_long, at_fault, not_admitted, ends_early, too_deep, meant, text, found, numbered, parse_if, sources_parse, sources_answer, LentTextsAnswered}

-- ---- texts that are not refused by 30

pub record Within (b l : List ℕ) : Type 0 where
  pub told : told_well b l ≡ true
  pub short : length (text b l) ≤ 65535

by_told : (b l : List ℕ) (t : Bool) → told_well b l ≡ t → ((expansion_if t 65535 b l).number ≡ 30 → ⊥) → Within b l
unfolding fill_of is_too_long
by_told b l false e n = absurd (n refl)
by_told b l true e n =
    let x = expanded b l in
    split 65535 (0 + length x.bytes + x.rest)
    (λ h. absurd (n (sym (ap (λ u. u.number) (fill_long 65535 x.number (0 + x.place) (0 + length x.bytes) (0 + length x.bytes + x.rest) h)))))
    (λ h. record { told = e; short = omega arith })

pub within : (b l : List ℕ) → ((expansion_of b l).number ≡ 30 → ⊥) → Within b l
unfolding expansion_within
within b l n = by_told b l (told_well b l) refl n

-- ---- the token reader

ends_wholly : (n q : ℕ) (l : Lexed) → EndsAs n q l → Wholly l → n ≡ 0
ends_wholly n q (more t l) e d = ends_wholly n q l e d
ends_wholly n q (ended m) e d = e
ends_wholly n q (stopped p) e d = absurd d

ends_stops : (n q p : ℕ) (l : Lexed) → EndsAs n q l → StopsAt l p → (n ≡ 0 → ⊥) × (p ≡ q)
unfolding StopsAt
ends_stops n q p (more t l) e d = ends_stops n q p l e d
ends_stops n q p (ended m) e d = absurd d
ends_stops n q p (stopped r) e d = (e.0, sym d ∙ e.1)

-- ---- the grammar's answer

refused_by : (s : List ℕ) (a : GrammarAnswer) (t : Unit {0} → _) → (a ≡ Ok tt → ⊥) → after_grammar s a t ≡ not_parsed (number_of a) (place_of a)
unfolding after_grammar number_of place_of
refused_by s (Ok _) t n = absurd (n refl)
refused_by s (Err (NoToken p)) t n = refl
refused_by s (Err (NotAdmitted p)) t n = refl
refused_by s (Err (TooDeep p)) t n = refl

parse_refused : (s : List ℕ) (a : GrammarAnswer) → length s ≤ 65535 → run 0 (paper file ▸ ∎) (stream_of (lex_from s 0)) ≡ a → (a ≡ Ok tt → ⊥) →
    parse s ≡ not_parsed (number_of a) (place_of a)
unfolding parse choose
parse_refused s a h e n =
    ap (λ b. choose b (λ _. not_parsed 2 0) (λ _. after_grammar s (run 0 (paper file ▸ ∎) (stream_of (lex_from s 0))) (λ _. tree (tokens_in (lex_from s 0))))) (le-ltb 65535 (length s) h)
    ∙ ap (λ o. after_grammar s o (λ _. tree (tokens_in (lex_from s 0)))) e
    ∙ refused_by s a (λ _. tree (tokens_in (lex_from s 0))) n

-- the answer of the expanded text, its refusal 3 renumbered
abbrev pub given : List ℕ → List ℕ → Answer
given b l = answer_of_parsed (numbered (expanded b l).number (parse (text b l)))

given_refused : (b l : List ℕ) (a : GrammarAnswer) → length (text b l) ≤ 65535 → run 0 (paper file ▸ ∎) (stream_of (lex_from (text b l) 0)) ≡ a → (a ≡ Ok tt → ⊥) →
    given b l ≡ refused (pick (eqb (number_of a) 3) (expanded b l).number (number_of a)) (place_of a)
unfolding answer_of_parsed numbered
given_refused b l a h e n = ap (λ (x : Parsed). answer_of_parsed (numbered (expanded b l).number x)) (parse_refused (text b l) a h e n)

given_derived : (b l : List ℕ) → Covered (text b l) → (d : Derivation (found b l)) → given b l ≡ answer (syntax (text b l) d.tree)
unfolding answer_of_parsed numbered
given_derived b l w d = ap (λ (x : Parsed). answer_of_parsed (numbered (expanded b l).number x)) (parse_derived (text b l) w d)

by_stage : (b l : List ℕ) → ((expansion_of b l).number ≡ 30 → ⊥) → Within b l → EndsAs (expanded b l).number (expanded b l).place (lex_from (text b l) 0) →
    {a : GrammarAnswer} → run 0 (paper file ▸ ∎) (stream_of (lex_from (text b l) 0)) ≡ a → StageAnswers (text b l) a → Answers b l (given b l)
unfolding number_of place_of
by_stage b l n w x e (passes v q d) =
    let c : Covered (text b l) = record { short = w.short; divides = v; shallow = q } in
    subst (Answers b l) (sym (given_derived b l c d)) (meant n (ends_wholly _ _ (lex_from (text b l) 0) x v) q d)
by_stage b l n w x e (no_token p t q g) =
    let u = ends_stops _ _ p (lex_from (text b l) 0) x t in
    subst (Answers b l) (sym (given_refused b l (Err (NoToken p)) w.short e (λ z. absurd (let y : ◌≡◌ {A = ℕ} 0 1 = cc in omega arith))))
    (subst (λ (i : ℕ). Answers b l (refused (expanded b l).number i)) (sym u.1) (at_fault n u.0 q g))
by_stage b l n w x e (Stage.not_admitted f t r i q g h) =
    subst (Answers b l) (sym (given_refused b l (Err (NotAdmitted t.place)) w.short e (λ z. absurd (let y : ◌≡◌ {A = ℕ} 0 1 = cc in omega arith))))
    (not_admitted n f t r i q g h)
by_stage b l n w x e (Stage.ends_early v q g h) =
    subst (Answers b l) (sym (given_refused b l (Err (NotAdmitted (length (text b l)))) w.short e (λ z. absurd (let y : ◌≡◌ {A = ℕ} 0 1 = cc in omega arith))))
    (ends_early n (ends_wholly _ _ (lex_from (text b l) 0) x v) q g h)
by_stage b l n w x e (Stage.too_deep f t r i q g h j) =
    subst (Answers b l) (sym (given_refused b l (Err (TooDeep t.place)) w.short e (λ z. absurd (let y : ◌≡◌ {A = ℕ} 0 1 = cc in omega arith))))
    (too_deep n f t r i q g h j)

pub lexed : (b l : List ℕ) → told_well b l ≡ true → EndsAs (expanded b l).number (expanded b l).place (lex_from (text b l) 0)
unfolding Lexes
lexed b l t = expanded_lexes b l t

by_room : (b l : List ℕ) (t : Bool) → eqb (expansion_of b l).number 30 ≡ t → Answers b l (answer_of_parsed (parse_if t b l))
unfolding answer_of_parsed
by_room b l true e = too_long (eqb-true (expansion_of b l).number 30 e)
by_room b l false e =
    let n = eqb-false (expansion_of b l).number 30 e in
    let w = within b l n in
    by_stage b l n w (lexed b l w.told) refl (run_answers (text b l))

-- All lent texts have their answer, and `sources_answer` gives it.
pub answers : (b l : List ℕ) → Answers b l (sources_answer b l)
unfolding sources_answer sources_parse
answers b l = by_room b l (eqb (expansion_of b l).number 30) refl

-- ---- one answer

pub to_wholly : (n q : ℕ) (l : Lexed) → EndsAs n q l → n ≡ 0 → Wholly l
to_wholly n q (more t l) e z = to_wholly n q l e z
to_wholly n q (ended m) e z = tt
to_wholly n q (stopped p) e z = absurd (e.0 z)

to_stops : (n q : ℕ) (l : Lexed) → EndsAs n q l → (n ≡ 0 → ⊥) → StopsAt l q
unfolding StopsAt
to_stops n q (more t l) e z = to_stops n q l e z
to_stops n q (ended m) e z = absurd (z e)
to_stops n q (stopped p) e z = e.1

pub is_given : (b l : List ℕ) → ((expansion_of b l).number ≡ 30 → ⊥) → sources_answer b l ≡ given b l
unfolding sources_answer sources_parse
is_given b l n = ap (λ (t : Bool). answer_of_parsed (parse_if t b l)) (ne_eqb (expansion_of b l).number 30 n)

by_answer : (b l : List ℕ) (a : GrammarAnswer) → ((expansion_of b l).number ≡ 30 → ⊥) → StageAnswers (text b l) a → (a ≡ Ok tt → ⊥) →
    sources_answer b l ≡ refused (pick (eqb (number_of a) 3) (expanded b l).number (number_of a)) (place_of a)
by_answer b l a n t z = is_given b l n ∙ given_refused b l a (within b l n).short (decided (run_answers (text b l)) t) z

-- Lent texts have one answer: what `Answers` allows is what `sources_answer` gives.
pub one_answer : {b l : List ℕ} {a : Answer} → Answers b l a → sources_answer b l ≡ a
unfolding number_of place_of answer_of_parsed sources_answer sources_parse
one_answer {b} {l} (too_long h) = ap (λ (t : Bool). answer_of_parsed (parse_if t b l)) (eq-eqb (expansion_of b l).number 30 h)
one_answer {b} {l} (at_fault n z q g) =
    by_answer b l (Err (NoToken (expanded b l).place)) n
    (no_token (expanded b l).place (to_stops _ _ (lex_from (text b l) 0) (lexed b l (within b l n).told) z) q g) (λ z. absurd (let y : ◌≡◌ {A = ℕ} 0 1 = cc in omega arith))
one_answer {b} {l} (not_admitted n f t r i q g h) =
    by_answer b l (Err (NotAdmitted t.place)) n (Stage.not_admitted f t r i q g h) (λ z. absurd (let y : ◌≡◌ {A = ℕ} 0 1 = cc in omega arith))
one_answer {b} {l} (ends_early n z q g h) =
    by_answer b l (Err (NotAdmitted (length (text b l)))) n (Stage.ends_early (to_wholly _ _ (lex_from (text b l) 0) (lexed b l (within b l n).told) z) q g h)
    (λ z. absurd (let y : ◌≡◌ {A = ℕ} 0 1 = cc in omega arith))
one_answer {b} {l} (too_deep n f t r i q g h j) =
    by_answer b l (Err (TooDeep t.place)) n (Stage.too_deep f t r i q g h j) (λ z. absurd (let y : ◌≡◌ {A = ℕ} 0 1 = cc in omega arith))
one_answer {b} {l} (meant n z q d) =
    is_given b l n
    ∙ given_derived b l (record { short = (within b l n).short; divides = to_wholly _ _ (lex_from (text b l) 0) (lexed b l (within b l n).told) z; shallow = q }) d

pub lent_texts_answered : LentTextsAnswered
lent_texts_answered b l = record { given = answers b l; no_other = λ a h. sym (one_answer h) }
