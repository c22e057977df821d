-- A text alone, with an empty name, that divides wholly into tokens: its expansion is the text itself, and its answer that of its reading. So all
-- that is proved of the reading of one text, as of normal text read back, holds of the texts. Assumes nothing.
use mathlib.Core.Path.{◌≡◌, refl, sym, ◌∙◌, ap, subst}
use mathlib.Core.Bool.{Bool, true}
use mathlib.Core.List.{List, [], ◌∷◌}
use Prim.Native.Nat.{ℕ, ◌+◌, ◌-◌, ◌≤◌}
use native.Mathlib.Omega.{arith}
use lib.ListN.{length, take}
use lib.Seq.{take_all}
use borrow.Author.Tests.{le-leb, le-ltb, ne_eqb}
use Rattle.token.specs.Tokens.{bytes_between}
use Rattle.token.specs.Lexing.{Lexed, more, ended, refused as stopped-at, Divides as Wholly, lex_from}
use Rattle.token.proofs.Steps.{lex_found, lex_bad}
use Rattle.grammar.specs.Grammar.{file, ◌▸◌, ∎, ◌⟶◌, Trees}
use Rattle.grammar.specs.Terminals.{tokens_in}
use Rattle.grammar.specs.Stage.{Divides, StopsAt, passes, no_token, Answers as StageAnswers}
use Rattle.grammar.specs.Stage as Stage
use Rattle.grammar.specs.Answered.{Answer as GrammarAnswer}
use mathlib.Core.Option.{Option, none, some}
use Rattle.meaning.specs.Words.{choose}
use Rattle.meaning.specs.Tree.{tree}
use Rattle.meaning.specs.Reading.{by_tree, after_grammar, parse, answer_of_parsed, reading}
use Rattle.meaning.proofs.Found.{run_answers}
use Rattle.sources.specs.Lines.{stop_at}
use Rattle.sources.specs.Texts.{fitting, told_well}
use Rattle.sources.specs.Expanding.{Piece, up_from, origin, stopped, after_event, walk, expand_n, inner, main_open, main_text, expanded, fill_of, expansion_if, expansion_within, expansion_of}
use Rattle.sources.specs.declared.Stop.TheVariants.{At}
use Rattle.sources.proofs.Singles.{fill_short}
use Rattle.sources.proofs.Events.{event_stop}
use Rattle.sources.proofs.Pieces.{walk_law, expand_law}
use Rattle.sources_laws.proofs.Ends.{Run, stay, go}
use Rattle.sources_laws.proofs.Outcomes.{Outcome, at_end, at_bad, outcome}
use Rattle.sources_reading.specs.Answering.{text, alone, numbered, parse_if, sources_parse, sources_answer}

-- ---- nothing stops it but its end

run_wholly : (s : List ℕ) (q p : ℕ) → Run s q p → Wholly (lex_from s p) → Wholly (lex_from s q)
run_wholly s q p (stay _ e) d = subst (λ (i : ℕ). Wholly (lex_from s i)) e d
run_wholly s q p (go _ t c e r) d = run_wholly s q c.at r (subst Wholly (lex_found s p t c e) d)

stops : (s : List ℕ) → Wholly (lex_from s 0) → stop_at s 0 ≡ At 0 (length s)
stops s d = by (outcome s 0)
  where
    by : Outcome s 0 (stop_at s 0) → stop_at s 0 ≡ At 0 (length s)
    by (at_end last n r e g) = g
    by (at_bad last q r e g) = absurd (subst Wholly (lex_bad s last q e) (run_wholly s last 0 r d))

pub told_alone : (s : List ℕ) → length s ≤ 65535 → told_well s (alone s) ≡ true
unfolding told_well fitting
told_alone s h =
    rw (le-leb 0 (length s - 0) (omega arith), le-leb (length s) (length s - (0 + 0)) (omega arith), le-leb (length s) 65535 h)

pub main_alone : (s : List ℕ) → main_text s (alone s) ≡ s
unfolding main_text
main_alone s =
    let e : 0 + length s - 0 ≡ length s = omega arith in
    ap (λ (n : ℕ). take n s) e ∙ take_all (length s) s (omega arith)

pub whole_alone : (s : List ℕ) → bytes_between s 0 (length s) ≡ s
whole_alone s =
    let e : length s - 0 ≡ length s = omega arith in
    ap (λ (n : ℕ). take n s) e ∙ take_all (length s) s (omega arith)

-- its expansion
alone_piece : (s : List ℕ) → length s ≤ 65535 → Wholly (lex_from s 0) → expanded s (alone s) ≡ stopped 0 s 0 0 (length s)
unfolding expanded
alone_piece s h d =
    let t = told_alone s h in
    ap (λ (x : List ℕ). expand_n 8 s (alone s) 0 x main_open) (main_alone s)
    ∙ expand_law 8 s (alone s) 0 s main_open (λ (z : 8 ≡ 0). absurd (omega arith))
    ∙ walk_law s (alone s) 0 s main_open (inner (8 - 1) s (alone s) main_open) 0 t (omega arith)
    ∙ ap (after_event 0 s 0 (inner (8 - 1) s (alone s) main_open) (walk s (alone s) 0 s main_open (inner (8 - 1) s (alone s) main_open)))
    (sym (event_stop s (alone s) s main_open 0 0 (length s) (stops s d)))

pub alone_bytes : (s : List ℕ) → length s ≤ 65535 → Divides s → (expanded s (alone s)).bytes ≡ s
unfolding stopped
alone_bytes s h d = ap (λ (x : Piece). x.bytes) (alone_piece s h d) ∙ whole_alone s

pub alone_origins : (s : List ℕ) → length s ≤ 65535 → Divides s → (expanded s (alone s)).origins ≡ up_from 0 (length s)
unfolding stopped origin
alone_origins s h d =
    let e : length s - 0 ≡ length s = omega arith in
    ap (λ (x : Piece). x.origins) (alone_piece s h d) ∙ ap (up_from 0) e

pub alone_number : (s : List ℕ) → length s ≤ 65535 → Divides s → (expanded s (alone s)).number ≡ 0
unfolding stopped
alone_number s h d = ap (λ (x : Piece). x.number) (alone_piece s h d)

alone_rest : (s : List ℕ) → length s ≤ 65535 → Divides s → (expanded s (alone s)).rest ≡ 0
unfolding stopped
alone_rest s h d = ap (λ (x : Piece). x.rest) (alone_piece s h d)

pub alone_fits : (s : List ℕ) → length s ≤ 65535 → Divides s → (expansion_of s (alone s)).number ≡ 0
unfolding expansion_within fill_of
alone_fits s h d =
    let x = expanded s (alone s) in
    let n : length x.bytes ≡ length s = ap length (alone_bytes s h d) in
    let r = alone_rest s h d in
    ap (λ (t : Bool). (expansion_if t 65535 s (alone s)).number) (told_alone s h)
    ∙ ap (λ u. u.number) (sym (fill_short 65535 x.number (0 + x.place) (0 + length x.bytes) (0 + length x.bytes + x.rest) (omega arith)))
    ∙ alone_number s h d

-- ---- its answer

wholly_stops : (p : ℕ) (l : Lexed) → Wholly l → StopsAt l p → ⊥
unfolding StopsAt
wholly_stops p (more t l) d e = wholly_stops p l d e
wholly_stops p (ended n) d e = e
wholly_stops p (stopped-at q) d e = d

numbered_tree : (s : List ℕ) (o : Option (Trees ◌⟶◌ (file ▸ ∎))) → numbered 0 (by_tree s o) ≡ by_tree s o
unfolding numbered by_tree
numbered_tree s none = refl
numbered_tree s (some t) = refl

numbered_grammar : (s : List ℕ) → Divides s → {a : GrammarAnswer} (t : Unit {0} → Option (Trees ◌⟶◌ (file ▸ ∎))) → StageAnswers s a →
    numbered 0 (after_grammar s a t) ≡ after_grammar s a t
unfolding numbered after_grammar
numbered_grammar s d t (passes v q g) = numbered_tree s (t tt)
numbered_grammar s d t (no_token p e q g) = absurd (wholly_stops p (lex_from s 0) d e)
numbered_grammar s d t (Stage.not_admitted f u r i q g h) = refl
numbered_grammar s d t (Stage.ends_early v q g h) = refl
numbered_grammar s d t (Stage.too_deep f u r i q g h j) = refl

pub numbered_none : (s : List ℕ) → length s ≤ 65535 → Divides s → numbered 0 (parse s) ≡ parse s
unfolding parse choose
numbered_none s h d =
    let e = le-ltb 65535 (length s) h in
    rw e (numbered_grammar s d (λ _. tree (tokens_in (lex_from s 0))) (run_answers s))

pub alone_answer : (s : List ℕ) → length s ≤ 65535 → Divides s → sources_answer s (alone s) ≡ reading s
unfolding sources_answer sources_parse reading
alone_answer s h d =
    ap (λ (t : Bool). answer_of_parsed (parse_if t s (alone s)))
    (ne_eqb (expansion_of s (alone s)).number 30 (λ z. let y = alone_fits s h d in absurd (omega arith)))
    ∙ ap (λ (n : ℕ). answer_of_parsed (numbered n (parse (text s (alone s))))) (alone_number s h d)
    ∙ ap (λ (x : List ℕ). answer_of_parsed (numbered 0 (parse x))) (alone_bytes s h d)
    ∙ ap answer_of_parsed (numbered_none s h d)
