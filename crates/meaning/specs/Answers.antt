-- The answer to a text that the grammar derives (document 01, "Refusals and their order": "Stages: .. 6 to 10; 11, 12 and 17; 13 to 16 and 18;
-- 19 .. The first stage with a fault answers, by the leftmost place, then the smaller number."). Assumes nothing.
use Rattle.std.specs.Prelude.{List, ℕ}
use Rattle.std.proofs.Math.Option.{Option, none, some}
use Rattle.meaning.specs.Syntax.{File}
use Rattle.meaning.specs.Faults.{Fault, first}
use Rattle.meaning.specs.Defining.{DefinitionRow, EnumeratorRow, all_definition_rows, all_enumerator_rows, definition_faults}
use Rattle.meaning.specs.Applying.{ObjectRow, object_rows, counts, object_faults}
use Rattle.meaning.specs.Judging.{statement_stage}
use Rattle.meaning.specs.Resolving.{ValueRow, Resolved, all_values, all_value_rows, how_many_in_all, too_many}

-- "four lent tables (definitions, enumerators, objects, resolved values)" and the counts of the thirteen kinds.
pub record Tables : Type 0 where
  pub definitions : List DefinitionRow
  pub enumerators : List EnumeratorRow
  pub objects : List ObjectRow
  pub values : List ValueRow
  pub counts : List ℕ

-- "A reading accepts or gives one numbered refusal and a byte place".
pub data Answer : Type 0 where
  accepted : Tables → Answer
  refused : ℕ → ℕ → Answer

unfoldable pub tables : File → List Resolved → Tables
tables f rs = record {
  definitions = all_definition_rows f.specs;
  enumerators = all_enumerator_rows f.specs;
  objects = object_rows f.objects;
  values = all_value_rows rs 0 0;
  counts = counts f.objects;
}

-- A stage's answer, or else the next one's.
unfoldable pub unless : Option Fault → (Unit {0} → Answer) → Answer
unless none next = next tt
unless (some f) next = refused f.number f.place

-- The stages from 6 on.
unfoldable pub answer : File → Answer
answer f =
    unless (first (definition_faults f)) (λ _.
    unless (first (object_faults f)) (λ _.
    unless (first (statement_stage f)) (λ _.
    let rs = all_values f f.objects in
    unless (first (too_many (how_many_in_all rs))) (λ _. accepted (tables f rs)))))
