-- The syntax of a normal text means the same as that of the text. Assumes nothing.
use mathlib.Core.Path.{◌≡◌, refl, sym, ◌∙◌, ap, ap₂}
use mathlib.Core.List.{List, [], ◌∷◌, ◌++◌}
use mathlib.Core.Bool.{Bool, true, false, not, false≢true}
use mathlib.Core.Option.{Option, none, some}
use Prim.Native.Nat.{ℕ, suc, ◌+◌, ◌≤◌}
use lib.ListN.{length}
use native.Mathlib.Omega.{arith}
use Rattle.token.specs.Words.{bytes_of, same}
use Rattle.grammar.specs.Grammar.{Derivation}
use Rattle.grammar.specs.Terminals.{tokens}
use Rattle.meaning.specs.Syntax.{Object, File}
use Rattle.meaning.specs.Kinds.{kinds}
use Rattle.meaning.specs.Faults.{Fault, faults_if, first}
use Rattle.meaning.specs.Actions.{syntax}
use Rattle.meaning.specs.Defining.{spec_faults, definition_faults}
use Rattle.meaning.specs.Applying.{ObjectRow, object_rows, counts, too_few, each_object, each_part, each_name, object_faults}
use Rattle.meaning.specs.Judging.{statement_stage}
use Rattle.meaning.specs.Resolving.{Resolved, all_values, how_many_values, how_many_in_all, too_many}
use Rattle.meaning.specs.Normal.{application_lines}
use Rattle.meaning.specs.Answers.{Tables, Answer, accepted, tables, unless, answer}
use Rattle.meaning.specs.Places.{each, unplaced_object_row, unplaced_tables}
use Rattle.meaning.specs.Merging.{merge}
use Rattle.meaning.proofs.Merges.{syntax_merged}
use Rattle.meaning.proofs.Rooms.{no_first, few_values, nothing_front, nothing_back, objects_fit}
use Rattle.meaning.proofs.Numbering.{Counts, object_numbers, numbered}
use Rattle.meaning.proofs.Unplaced.{application_unplaced, tables_same}
use Rattle.meaning.proofs.UnplacedFaults.{answer_unplaced}
use Rattle.reads_back.specs.ReadsBack.{bare, AllStated}
use Rattle.reads_back.proofs.Restated.{given, restated_object, restated_objects, restated_file}
use Rattle.reads_back.proofs.RestatingUnplaced.{kept_file, unplaced_kept}
use Rattle.reads_back.proofs.SameValues.{SameAll, all_same_many, all_same_rows, all_same_stated, stated_unplaced}
use Rattle.reads_back.proofs.SameTables.{bare_unplaced, accepts_unplaced}
use Rattle.reads_back.proofs.SameNames.{names_of, words_same, names_unplaced, objects_restated, all_same_names}
use Rattle.reads_back.proofs.MergedAgain.{merge_names}
use Rattle.reads_back.proofs.RestatingPlain.{PlainSpecs, syntax_plain}
use Rattle.reads_back.proofs.SameKindred.{AllKindred, no_kindred, kindred_objects, kindred_counts, kindred_rows}
use Rattle.reads_back.proofs.RestatingObjects.{SettledObjects, settle_objects, restated_kindred, all_restated_values, restated_objects_judged, kindred_few, restated_each, restated_parts_each, kindred_names, restated_lines}

-- Stages -------------------------------------------------------------------------------------------------------------------------------------

-- An accepted syntax has no fault of any stage.
pub record NoFaults (f : File) (t : Tables) : Type 0 where
  pub definitions : definition_faults f ≡ []
  pub objects : object_faults f ≡ []
  pub statements : statement_stage f ≡ []
  pub values : too_many (how_many_in_all (all_values f f.objects)) ≡ []
  pub tables_are : tables f (all_values f f.objects) ≡ t

passed : (fs : List Fault) (k : Unit {0} → Answer) (t : Tables) → unless (first fs) k ≡ accepted t → (fs ≡ []) × (k tt ≡ accepted t)
unfolding unless
passed fs k t e = go (first fs) refl e
  where
    go : (o : Option Fault) → first fs ≡ o → unless o k ≡ accepted t → (fs ≡ []) × (k tt ≡ accepted t)
    go none q h = (no_first fs q, h)
    go (some f) q h = absurd (let z : ◌≡◌ {A = Bool} false true = cc in false≢true z)

-- It has none where it is accepted,
pub no_faults : (f : File) (t : Tables) → answer f ≡ accepted t → NoFaults f t
unfolding answer
no_faults f t e =
    let p₁ = passed (definition_faults f) _ t e in
    let p₂ = passed (object_faults f) _ t p₁.1 in
    let p₃ = passed (statement_stage f) _ t p₂.1 in
    let p₄ = passed (too_many (how_many_in_all (all_values f f.objects))) _ t p₃.1 in
    record { definitions = p₁.0; objects = p₂.0; statements = p₃.0; values = p₄.0; tables_are = let q = p₄.1 in cc }

-- It is accepted with its tables.
pub accepted_tables : (f : File) (t : Tables) → answer f ≡ accepted t → tables f (all_values f f.objects) ≡ t
accepted_tables f t e = (no_faults f t e).tables_are

pass : (fs : List Fault) (k : Unit {0} → Answer) → fs ≡ [] → unless (first fs) k ≡ k tt
unfolding unless first
pass fs k e = ap (λ l. unless (first l) k) e

-- and it is accepted where it has none.
pub accepts_it : (f : File) → definition_faults f ≡ [] → object_faults f ≡ [] → statement_stage f ≡ [] → too_many (how_many_in_all (all_values f f.objects)) ≡ []
    → answer f ≡ accepted (tables f (all_values f f.objects))
unfolding answer
accepts_it f a b c d =
    pass (definition_faults f) _ a ∙ pass (object_faults f) _ b ∙ pass (statement_stage f) _ c ∙ pass (too_many (how_many_in_all (all_values f f.objects))) _ d

-- Its definitions have none.
pub specs_free : (f : File) → definition_faults f ≡ [] → spec_faults [] f.specs ≡ []
unfolding definition_faults
specs_free f e = nothing_back (faults_if (not (same f.version.bytes (bytes_of "\"2.5\""))) f.version 6) (spec_faults [] f.specs) e

definitions_kept : (f : File) → definition_faults f ≡ [] → definition_faults (kept_file f) ≡ []
unfolding definition_faults kept_file given same faults_if
definitions_kept f e = specs_free f e

kept_kindred : (f : File) → AllKindred (kept_file f).objects f.objects
unfolding kept_file
kept_kindred f = restated_kindred f f.objects 0

objects_kept : (f : File) → f.objects ≡ merge f.parts → Counts 0 (object_numbers f.objects) → length f.objects ≤ 256 → object_faults f ≡ [] → how_many_in_all (all_values f f.objects) ≤ 2048
    → object_faults (kept_file f) ≡ []
unfolding object_faults kept_file
objects_kept f mg c l e h =
    let a = too_few kinds f.objects f.cpu in
    let b = each_object [] f.objects in
    let p = each_part f.parts in
    let n = each_name [] f.parts in
    let z = nothing_back a (b ++ (p ++ n)) e in
    let names : each_name [] f.objects ≡ [] = ap (each_name []) mg ∙ merge_names f.parts (nothing_back p n (nothing_back b (p ++ n) z)) in
    ap₂ ◌++◌ (kindred_few kinds f.cpu (kept_kindred f) (nothing_front a (b ++ (p ++ n)) e))
    (ap₂ ◌++◌ (restated_each f [] [] f.objects 0 no_kindred (nothing_front b (p ++ n) z))
    (ap₂ ◌++◌ (restated_parts_each f f.objects 0 0 c (omega arith) (omega arith)) (kindred_names no_kindred (kept_kindred f) names)))

kept_specs : (f : File) → (kept_file f).specs ≡ f.specs
unfolding kept_file
kept_specs f = refl

module _ (f : File) (s : SettledObjects f f.objects) where
  statements_kept : statement_stage (kept_file f) ≡ []
  unfolding statement_stage kept_file
  statements_kept = restated_objects_judged f (kept_file f) (kept_specs f) (kindred_objects (kept_kindred f)) 0 s

  values_kept : SameAll (all_values (kept_file f) (kept_file f).objects) (all_values f f.objects)
  unfolding kept_file
  values_kept = all_restated_values f (kept_file f) (kept_specs f) (kindred_objects (kept_kindred f)) 0 s

  lines_kept : application_lines (kept_file f) (all_values (kept_file f) (kept_file f).objects) ≡ application_lines f (all_values f f.objects)
  unfolding application_lines kept_file
  lines_kept = ap (λ l. bytes_of "CPU " ++ (f.cpu.bytes ++ (bytes_of " {\n" ++ (l ++ bytes_of "};\n")))) (restated_lines f.objects 0 values_kept)

  tables_kept : bare (tables (kept_file f) (all_values (kept_file f) (kept_file f).objects)) ≡ bare (tables f (all_values f f.objects))
  unfolding bare tables kept_file unplaced_tables counts
  tables_kept = tables_same refl refl (kindred_rows (kept_kindred f)) (all_same_rows 0 0 values_kept) (kindred_counts kinds (kept_kindred f))

  stated_kept : AllStated (unplaced_tables (tables (kept_file f) (all_values (kept_file f) (kept_file f).objects))).values
  unfolding unplaced_tables tables
  stated_kept = stated_unplaced _ (all_same_stated 0 0 values_kept)

  names_kept : names_of (kept_file f) ≡ names_of f
  unfolding names_of kept_file
  names_kept = words_same refl refl (objects_restated f f.objects 0) (all_same_names values_kept)

-- Each object of the normal text has one part.
alone_rows : (xs : List Object) (rs : List Resolved) (k : ℕ) → each (λ (r : ObjectRow). r.parts) (each unplaced_object_row (object_rows (restated_objects xs rs k)))
    ≡ each (λ (r : ObjectRow). 1) (each unplaced_object_row (object_rows (restated_objects xs rs k)))
unfolding restated_objects restated_object object_rows each unplaced_object_row
alone_rows [] rs k = refl
alone_rows (x ∷ xs) [] k = refl
alone_rows (x ∷ xs) (r ∷ rs) k = ap (λ (l : List ℕ). 1 ∷ l) (alone_rows xs rs (k + how_many_values r))

rows_many : (xs : List Object) → length (object_rows xs) ≡ length xs
unfolding object_rows
rows_many [] = refl
rows_many (x ∷ xs) = ap suc (rows_many xs)

-- The theorem --------------------------------------------------------------------------------------------------------------------------------

-- The syntax of the normal text of f, with the tables t, is accepted, with the same tables but places, lengths and the stated mark, and has the
-- same words and lines.
pub record MeansSame (f : File) (t : Tables) : Type 0 where
  pub back : Tables
  pub accepts : answer (restated_file f) ≡ accepted back
  pub stated : AllStated back.values
  pub same : bare back ≡ bare t
  pub one_part : each (λ (r : ObjectRow). r.parts) back.objects ≡ each (λ (r : ObjectRow). 1) back.objects
  pub names : names_of (restated_file f) ≡ names_of f
  pub values : SameAll (all_values (kept_file f) (kept_file f).objects) (all_values f f.objects)
  pub lines : application_lines (restated_file f) (all_values (restated_file f) (restated_file f).objects) ≡ application_lines f (all_values f f.objects)

-- An accepted syntax with plain definitions.
same_of : (f : File) (t : Tables) → f.objects ≡ merge f.parts → Counts 0 (object_numbers f.objects) → length f.objects ≤ 256 → PlainSpecs f.specs → answer f ≡ accepted t → MeansSame f t
unfolding statement_stage unplaced_tables tables kept_file
same_of f t mg c l p e =
    let n = no_faults f t e in
    let s = settle_objects f f.objects (specs_free f n.definitions) p n.statements in
    let g = kept_file f in
    let rs = all_values g g.objects in
    let many = all_same_many (values_kept f s) in
    let a = accepts_it g (definitions_kept f n.definitions) (objects_kept f mg c l n.objects (few_values (how_many_in_all (all_values f f.objects)) n.values))
    (statements_kept f s) (ap too_many many ∙ n.values) in
    record {
      back = unplaced_tables (tables g rs);
      accepts = ap answer (sym (unplaced_kept f)) ∙ accepts_unplaced (tables g rs) (answer_unplaced g) a;
      stated = stated_kept f s;
      same = bare_unplaced (tables g rs) ∙ tables_kept f s ∙ ap bare n.tables_are;
      one_part = alone_rows f.objects (all_values f f.objects) 0;
      names = ap names_of (sym (unplaced_kept f)) ∙ names_unplaced g ∙ names_kept f s;
      values = values_kept f s;
      lines = ap (λ z. application_lines z (all_values z z.objects)) (sym (unplaced_kept f)) ∙ application_unplaced g ∙ lines_kept f s;
    }

no_fault : (l : List Fault) → l ≡ [] → first l ≡ none
unfolding first
no_fault l e = ap first e

-- So it is for the syntax of an accepted text.
pub means_same : (s : List ℕ) (d : Derivation (tokens s)) (t : Tables) → answer (syntax s d.tree) ≡ accepted t → MeansSame (syntax s d.tree) t
means_same s d t e =
    let f = syntax s d.tree in
    let fit = (objects_fit s d.tree (no_fault (object_faults f) (no_faults f t e).objects)).0 in
    let m = rows_many f.objects in
    same_of f t (syntax_merged s d.tree) (numbered s d.tree).1.0 (omega arith) (syntax_plain s d.tree) e
