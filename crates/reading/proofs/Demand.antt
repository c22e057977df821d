-- Demand 3 of `read`, from the answer that its contract gives. Assumes nothing.
use mathlib.Core.Path.{◌≡◌, sym, ◌∙◌, ap, subst}
use mathlib.Core.List.{List, [], ◌∷◌}
use mathlib.Core.Bool.{Bool, true, false}
use mathlib.Core.Logic.{◌↔◌}
use mathlib.Core.Option.{Option, none, some}
use Prim.Native.Nat.{ℕ}
use native.Mathlib.Omega.{arith}
use lib.Dec.{ltb}
use Rattle.grammar.specs.Grammar.{Derivation}
use Rattle.grammar.specs.Terminals.{tokens}
use Rattle.grammar.specs.Stage.{number_of, place_of}
use Rattle.grammar.specs.Demand.{Covered}
use Rattle.grammar.proofs.Viable.{one_derivation}
use Rattle.grammar.proofs.Demand.{demand_3 as stage-demand-3}
use Rattle.meaning.specs.Syntax.{File}
use Rattle.meaning.specs.Words.{choose}
use Rattle.meaning.specs.Faults.{Fault, first}
use Rattle.meaning.specs.Defining.{definition_faults}
use Rattle.meaning.specs.Applying.{object_faults}
use Rattle.meaning.specs.Judging.{statement_stage}
use Rattle.meaning.specs.Resolving.{all_values, how_many_in_all, too_many}
use Rattle.meaning.specs.Answers.{Answer as Meant, unless, answer}
use Rattle.meaning.specs.Reading.{Answers, too_long, not_grammar, meant, reading}
use Rattle.meaning.specs.Calls.{enough}
use Rattle.meaning.proofs.Whole.{answers}
use Rattle.reading.specs.Results.{reading_of, rooms_of, Reads}
use Rattle.reading.specs.Demand.{PassesGrammar, RefusedByGrammar, refused_at, Demand-3}
use Rattle.reading.specs.declared.Answer.{Answer}
use Rattle.reading.specs.declared.Answer.TheVariants.{Refused}
use Rattle.reading.specs.declared.Reading.{Reading}
use Rattle.meaning.proofs.Numbered.{Numbered, no_fault, a_fault, NumberedOne, of_definitions, of_objects, of_stage, of_first}
use Rattle.reading.proofs.Lending.{call_enough}

-- The answer as `read` gives it.
abbrev given : Meant → Answer
given a = (reading_of a).answer

-- The stages from 6 on --------------------------------------------------------------------------------------------------------------------

passes_unless : (o : Option Fault) (next : Unit {0} → Meant) → NumberedOne o → PassesGrammar (given (next tt)) → PassesGrammar (given (unless o next))
unfolding unless reading_of
passes_unless none next h k = k
passes_unless (some f) next h k = h

of_many : (n : ℕ) → Numbered (too_many n)
unfolding too_many choose
of_many n = by_choice (ltb 2048 n)
  where
    by_choice : (b : Bool) → Numbered (choose b (λ _. record { place = 0; number = 19 } ∷ []) (λ _. []))
    by_choice true = a_fault {f = record { place = 0; number = 19 }} (omega arith) no_fault
    by_choice false = no_fault

-- What the grammar derives passes.
derived_passes : (f : File) → PassesGrammar (given (answer f))
unfolding answer reading_of
derived_passes f =
    passes_unless (first (definition_faults f)) _ (of_first _ (of_definitions f))
    (passes_unless (first (object_faults f)) _ (of_first _ (of_objects f))
    (passes_unless (first (statement_stage f)) _ (of_first _ (of_stage f))
    (passes_unless (first (too_many (how_many_in_all (all_values f f.objects)))) _ (of_first _ (of_many (how_many_in_all (all_values f f.objects)))) tt)))

-- The whole ---------------------------------------------------------------------------------------------------------------------------------

module _ (s : List ℕ) (w : Covered s) where
  four : (n p : ℕ) → n ≡ 4 → PassesGrammar (Refused n p) → ⊥
  four n p e h = omega arith

  passing : {a : Meant} → Answers s a → PassesGrammar (given a) ↔ Derivation (tokens s)
  unfolding reading_of
  passing (too_long h) = let k = w.short in absurd (omega arith)
  passing (not_grammar a h n t) =
      let q = stage-demand-3 s a t in
      ((λ h. absurd (four (number_of a) (place_of a) (q.refusal w n).0 h)), (λ d. absurd (n ((q.passes_exactly w).1 d))))
  passing (meant c d) = ((λ _. d), (λ _. derived_passes _))

  refusing : {a : Meant} → Answers s a → (PassesGrammar (given a) → ⊥) → RefusedByGrammar s (given a)
  unfolding reading_of
  refusing (too_long h) k = let k = w.short in absurd (omega arith)
  refusing (not_grammar a h n t) k =
      let q = (stage-demand-3 s a t).refusal w n in
      subst (λ m. RefusedByGrammar s (Refused m (place_of a))) (sym q.0) (refused_at (place_of a) q.1)
  refusing (meant c d) k = absurd (k (derived_passes _))

-- Of the rules' answer to any text.
pub reading_demand_3 : (s : List ℕ) → Demand-3 s (reading_of (reading s)).answer
reading_demand_3 s = record {
  passes_exactly = λ w. passing s w (answers s);
  one_derivation = one_derivation (tokens s);
  refusal = λ w. refusing s w (answers s);
}

-- DEMAND 3, for a call with tables that are long enough.
pub demand_3 : {s d e o v d' e' o' v' : List ℕ} {r : Reading} → enough (rooms_of d e o v) ≡ true → Reads s d e o v d' e' o' v' r → Demand-3 s r.answer
demand_3 {s} {d} {e} {o} {v} {r} h k =
    let q : r.answer ≡ given (reading s) = ap (λ (x : Reading). x.answer) k.result ∙ ap given (call_enough s d e o v h) in
    subst (λ a. Demand-3 s a) (sym q) (reading_demand_3 s)
