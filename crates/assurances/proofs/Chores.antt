-- Where a text goes wrong, and any bytes: the statements `HopeEndsThere` and `EveryTextAnswered` of specs/Own. Assumes nothing.
use mathlib.Core.Path.{◌≡◌, refl, subst}
use mathlib.Core.List.{List, [], ◌∷◌}
use mathlib.Core.Bool.{Bool, true, false}
use mathlib.Core.Option.{Option, none, some}
use Prim.Native.Nat.{ℕ, ◌<◌}
use native.Mathlib.Omega.{arith}
use lib.Dec.{ltb}
use Rattle.grammar.specs.Stage.{number_of, place_of, Answers as StageAnswers, passes, no_token, not_admitted, ends_early, too_deep}
use Rattle.grammar.specs.Demand.{Place, at_token, at_end}
use Rattle.grammar.specs.Answered.{Answer as GrammarAnswer}
use Rattle.std.specs.Prelude.{Ok}
use Rattle.meaning.specs.Syntax.{File}
use Rattle.meaning.specs.Words.{choose}
use Rattle.meaning.specs.Faults.{Fault, first}
use Rattle.meaning.specs.Defining.{definition_faults}
use Rattle.meaning.specs.Applying.{object_faults}
use Rattle.meaning.specs.Judging.{statement_stage}
use Rattle.meaning.specs.Resolving.{all_values, how_many_in_all, too_many}
use Rattle.meaning.specs.Answers.{Answer, accepted, refused, unless, answer}
use Rattle.meaning.specs.Reading.{Answers, too_long, not_grammar, meant, reading}
use Rattle.meaning.proofs.Numbered.{Numbered, no_fault, a_fault, NumberedOne, of_definitions, of_objects, of_stage, of_first}
use Rattle.meaning.proofs.Whole.{the_answer}
use Rattle.assurances.specs.Own.{HopeEndsThere, EveryTextAnswered}

-- The place of refusal 4 --------------------------------------------------------------------------------------------------------------------------

-- A refusal of a stage behind the grammar's has a number above 5.
abbrev High : Answer → Type 0
High (accepted t) = Unit {0}
High (refused n p) = 5 < n

high_unless : (o : Option Fault) (next : Unit {0} → Answer) → NumberedOne o → High (next tt) → High (unless o next)
unfolding unless
high_unless none next h k = k
high_unless (some f) next h k = h

of_many : (n : ℕ) → Numbered (too_many n)
unfolding too_many choose
of_many n = by_choice (ltb 2048 n)
  where
    by_choice : (b : Bool) → Numbered (choose b (λ _. record { place = 0; number = 19 } ∷ []) (λ _. []))
    by_choice true = a_fault {f = record { place = 0; number = 19 }} (omega arith) no_fault
    by_choice false = no_fault

answer_high : (f : File) → High (answer f)
unfolding answer
answer_high f =
    high_unless (first (definition_faults f)) _ (of_first _ (of_definitions f))
    (high_unless (first (object_faults f)) _ (of_first _ (of_objects f))
    (high_unless (first (statement_stage f)) _ (of_first _ (of_stage f))
    (high_unless (first (too_many (how_many_in_all (all_values f f.objects)))) _ (of_first _ (of_many (how_many_in_all (all_values f f.objects)))) tt)))

stage_place : {s : List ℕ} {a : GrammarAnswer} → StageAnswers s a → (a ≡ Ok tt → ⊥) → number_of a ≡ 4 → Place s (place_of a)
unfolding number_of place_of
stage_place (passes v h d) m e = absurd (m refl)
stage_place (no_token p v h b) m e = absurd (omega arith)
stage_place (not_admitted l t r q h b n) m e = at_token t (record { before = l; after = r; whole = q; viable = b; not_viable = n })
stage_place (ends_early v h b n) m e = at_end b
stage_place (too_deep l t r q h b k o) m e = absurd (omega arith)

ends_there : {s : List ℕ} {a : Answer} (p : ℕ) → Answers s a → a ≡ refused 4 p → Place s p
ends_there p (too_long k) e = absurd (let z : ◌≡◌ {A = ℕ} 2 4 = cc in omega arith)
ends_there {s} p (not_grammar a k m q) e =
    let n : number_of a ≡ 4 = cc in
    let l : place_of a ≡ p = cc in
    subst (Place s) l (stage_place q m n)
ends_there p (meant w d) e = absurd (let h : High (refused 4 p) = subst High e (answer_high _) in omega (arith, h))

pub hope_ends_there : HopeEndsThere
hope_ends_there s p a = ends_there p a refl

-- Any bytes ------------------------------------------------------------------------------------------------------------------------------------------

pub every_text_answered : EveryTextAnswered
every_text_answered s = record { answer = reading s; the_answer = the_answer s }
