-- Where no stage up to 12 and 17 has a fault: what the statements and the rows written come to. Assumes nothing.
use mathlib.Core.Path.{◌≡◌, refl, sym, ◌∙◌, ap, subst}
use mathlib.Core.List.{List, [], ◌∷◌}
use mathlib.Core.Option.{none}
use Prim.Native.Nat.{ℕ, suc, ◌-◌, ◌≤◌, ◌<◌, min}
use native.Mathlib.Omega.{arith}
use lib.ListN.{length, replicate, get_or, length-append}
use lib.Seq.{sets}
use borrow.Author.Tests.{lt-ltb, le-ltb}
use Rattle.meaning.specs.Syntax.{Spec, Object, File}
use Rattle.meaning.specs.Actions.{syntax}
use Rattle.meaning.specs.Words.{choose}
use Rattle.meaning.specs.Kinds.{kind_number}
use Rattle.meaning.specs.Faults.{first, sooner}
use Rattle.meaning.specs.Defining.{definition_rows, all_definition_rows, enumerator_rows, all_enumerator_rows, definition_faults}
use Rattle.meaning.specs.Applying.{object_rows, counts, object_faults}
use Rattle.meaning.specs.Judging.{statement_stage}
use Rattle.std.specs.Prelude.{Some, None}
use Rattle.rows.specs.declared.Fault.{Fault}
use Rattle.scopes.specs.Promises.{fault_of}
use Rattle.scopes.proofs.Firsts.{none_there}
use Rattle.meaning.specs.Resolving.{Resolved, all_values, all_value_rows, how_many_in_all, too_many}
use Rattle.meaning.specs.Answers.{Tables, accepted, refused, unless, tables, answer}
use Rattle.meaning.specs.Cells.{cells, zeros, room_cells, definition_room, enumerator_room, object_room, value_room, rooms_after, definition_cells, enumerator_cells, object_cells, value_cells}
use Rattle.meaning.proofs.Rooms.{definitions_fit, objects_fit, value_rows_length, value_width, cells_length}
use Rattle.meaning.proofs.Numbering.{statement_numbers, all_statement_numbers, length_statements}
use Rattle.meaning.proofs.Standing.{length_rows}
use Rattle.meaning.proofs.Choices.{length_rows as length-enumerator-rows}
use Rattle.layout.specs.Kept.{entries, spec_entries, choices, spec_choices, statement_count}
use Rattle.layout.proofs.Codes.{kind_low}
use Rattle.layout.proofs.Lengths.{length_entries, length_choices}
use Rattle.scopes.specs.Situations.{Situation}
use Rattle.scopes.specs.Given.{Given, Places}
use Rattle.scopes.specs.declared.Sizes.{Sizes}
use Rattle.copying.proofs.Rooms.{cleared_zeros, room_of}
use Rattle.meaning.specs.Reading.{reading}
use Rattle.walk.proofs.Placing.{each_place}
use Rattle.reading.specs.Results.{reading_of}
use Rattle.reading.specs.Decisions.{Merged, Kept, Passed, Filled}
use Rattle.reading.specs.declared.Decision.{Decision}
use Rattle.reading.specs.declared.Answer.TheVariants.{Accepted}
use Rattle.reading.specs.declared.Reading.{Reading}
use Rattle.reading.proofs.Arriving.{reading_is, stage_refuses}
use Rattle.meaning.proofs.Merges.{syntax_merged}
use Rattle.merging.proofs.Laying.{merge_count}

-- Numbers of rows ------------------------------------------------------------------------------------------------------------------------------

definitions_as_many : (xs : List Spec) → length (all_definition_rows xs) ≡ length (spec_entries xs)
unfolding all_definition_rows spec_entries
definitions_as_many [] = refl
definitions_as_many (x ∷ xs) =
    let a = length-append (definition_rows x.definitions x.word) (all_definition_rows xs) in
    let b = length-append (entries x.definitions x.word 0) (spec_entries xs) in
    let c = length_rows x.definitions x.word in
    let d = length_entries x.definitions x.word 0 in
    let e = definitions_as_many xs in
    omega arith

enumerators_as_many : (xs : List Spec) → length (all_enumerator_rows xs) ≡ length (spec_choices xs)
unfolding all_enumerator_rows spec_choices
enumerators_as_many [] = refl
enumerators_as_many (x ∷ xs) =
    let a = length-append (enumerator_rows x.definitions) (all_enumerator_rows xs) in
    let b = length-append (choices x.definitions) (spec_choices xs) in
    let c = length-enumerator-rows x.definitions in
    let d = length_choices x.definitions in
    let e = enumerators_as_many xs in
    omega arith

objects_as_many : (xs : List Object) → length (object_rows xs) ≡ length xs
unfolding object_rows
objects_as_many [] = refl
objects_as_many (x ∷ xs) = ap suc (objects_as_many xs)

statements_as_many : (xs : List Object) → length (all_statement_numbers xs) ≡ statement_count xs
unfolding all_statement_numbers statement_count
statements_as_many [] = refl
statements_as_many (x ∷ xs) =
    let a = length-append (statement_numbers x.statements) (all_statement_numbers xs) in
    let b = length_statements x.statements in
    let c = statements_as_many xs in
    omega arith

-- The rows fit into the rooms.
pub record Fitting (f : File) : Type 0 where
  pub definitions : length (spec_entries f.specs) ≤ 512
  pub enumerators : length (spec_choices f.specs) ≤ 1024
  pub objects : length f.objects ≤ 256
  pub parts : length f.parts ≤ 512
  pub part_statements : statement_count f.parts ≤ 2048
  pub statements : statement_count f.objects ≤ 2048

fitting_by : (s : List ℕ) (f : File) (t : Situation s f) → first (definition_faults (syntax s t.derivation.tree)) ≡ none
    → first (object_faults (syntax s t.derivation.tree)) ≡ none → Fitting (syntax s t.derivation.tree)
fitting_by s f t a b =
    let g = syntax s t.derivation.tree in
    let d = definitions_fit s t.derivation.tree a in
    let o = objects_fit s t.derivation.tree b in
    let d₀ = d.0 in
    let d₁ = d.1 in
    let o₀ = o.0 in
    let o₁ = o.1 in
    let o₂ = o.2 in
    let i = definitions_as_many g.specs in
    let j = enumerators_as_many g.specs in
    let k = objects_as_many g.objects in
    let l = statements_as_many g.parts in
    let m = ap statement_count (syntax_merged s t.derivation.tree) in
    let n = merge_count g.parts in
    record { definitions = omega arith; enumerators = omega arith; objects = omega arith; parts = omega arith; part_statements = omega arith; statements = omega arith }

pub fitting : (s : List ℕ) (f : File) → Situation s f → first (definition_faults f) ≡ none → first (object_faults f) ≡ none → Fitting f
fitting s f t a b =
    subst Fitting (sym t.syntax_of)
    (fitting_by s f t (subst (λ g. first (definition_faults g) ≡ none) t.syntax_of a) (subst (λ g. first (object_faults g) ≡ none) t.syntax_of b))

-- All rows are kept, and there is room for them.
module _ {s : List ℕ} {y : Merged} {w : Decision} {f : File} (k : Kept s y w f) (p : first (definition_faults f) ≡ none) (q : first (object_faults f) ≡ none) where
  pub given : (z : Sizes) → z.definitions ≡ w.walked.definitions → z.enumerators ≡ w.walked.enumerators → z.objects ≡ w.objects
      → Given s y.definitions y.enumerators y.objects y.statements z f
  given z a b c =
      let t = fitting s f k.situation p q in
      let t₀ = t.definitions in
      let t₁ = t.enumerators in
      let t₂ = t.objects in
      let k₀ = k.definitions in
      let k₁ = k.enumerators in
      let k₂ = k.objects in
      record {
        tables = record {
          situation = k.situation;
          in_definitions = k.in_definitions;
          in_enumerators = k.in_enumerators;
          in_objects = k.in_objects;
          definitions = omega arith;
          enumerators = omega arith;
          objects = omega arith;
          definitions_fit = omega arith;
          enumerators_fit = omega arith;
          objects_fit = omega arith;
        };
        in_statements = k.in_statements;
        statements_fit = t.statements;
      }

-- The places of the kinds, as the stages take them.
pub places : {s : List ℕ} {y : Merged} {w : Decision} {f : File} → Kept s y w f → Places f w.walked.places
places {f = f} h = record {
  place = λ k.
      let b = kind_low k in
      ap (λ l. get_or l (kind_number k) 0) h.places ∙ sym (each_place f.specs (kind_number k) (omega arith));
}

-- Rooms ----------------------------------------------------------------------------------------------------------------------------------------

pub blank_room : {R : Type 0} (n : ℕ) (f : R → List ℕ) (l : List ℕ) → l ≡ replicate n 0 → l ≡ room_cells n f []
unfolding room_cells cells
blank_room n f l e = let z : n ≡ n - 0 = omega arith in e ∙ cleared_zeros n ∙ ap zeros z

-- Refusals ---------------------------------------------------------------------------------------------------------------------------------

-- A refusal leaves the rooms blank.
pub refused_fills : (s : List ℕ) (n p : ℕ) (d e o v : List ℕ) (r : Reading) → reading s ≡ refused n p → r ≡ reading_of (refused n p)
    → d ≡ replicate 6656 0 → e ≡ replicate 3072 0 → o ≡ replicate 2048 0 → v ≡ replicate 18432 0 → Filled s d e o v r
unfolding rooms_after definition_room enumerator_room object_room value_room
refused_fills s n p d e o v r q h d₀ e₀ o₀ v₀ =
    record {
      result = h ∙ ap reading_of (sym q);
      definitions = blank_room 6656 definition_cells d d₀ ∙ ap (λ a. (rooms_after a).definitions) (sym q);
      enumerators = blank_room 3072 enumerator_cells e e₀ ∙ ap (λ a. (rooms_after a).enumerators) (sym q);
      objects = blank_room 2048 object_cells o o₀ ∙ ap (λ a. (rooms_after a).objects) (sym q);
      values = blank_room 18432 value_cells v v₀ ∙ ap (λ a. (rooms_after a).values) (sym q);
    }

-- The statements -----------------------------------------------------------------------------------------------------------------------------

module _ (s : List ℕ) (y : Merged) (w : Decision) (p : Passed s y w) where
  settled : answer p.file
      ≡ unless (first (statement_stage p.file)) (λ _. unless (first (too_many (how_many_in_all (all_values p.file p.file.objects)))) (λ _. accepted (tables p.file (all_values p.file p.file.objects))))
  unfolding answer unless
  settled = rw (p.no_definition_fault, p.no_object_fault)

  -- A fault of theirs refuses the text,
  pub statement_refused : (x : Fault) → fault_of (first (statement_stage p.file)) ≡ Some x → reading s ≡ refused x.number x.place
  statement_refused x e =
      reading_is s p.file p.kept.situation p.covered ∙ settled ∙ stage_refuses (first (statement_stage p.file)) _ x e

  -- and where there is none,
  pub no_statement_fault : fault_of (first (statement_stage p.file)) ≡ None → first (statement_stage p.file) ≡ none
  no_statement_fault e = none_there (first (statement_stage p.file)) e

  -- refusal 19, and an accepted text.
  module _ (none_stated : first (statement_stage p.file) ≡ none) where
    passed : answer p.file
        ≡ unless (first (too_many (how_many_in_all (all_values p.file p.file.objects)))) (λ _. accepted (tables p.file (all_values p.file p.file.objects)))
    unfolding unless
    passed = settled ∙ rw none_stated

    pub too_many_values : 2048 < how_many_in_all (all_values p.file p.file.objects) → reading s ≡ refused 19 0
    unfolding too_many choose first sooner unless
    too_many_values h =
        reading_is s p.file p.kept.situation p.covered ∙ passed
        ∙ rw (lt-ltb 2048 (how_many_in_all (all_values p.file p.file.objects)) h)

    pub few_values : how_many_in_all (all_values p.file p.file.objects) ≤ 2048
        → reading s ≡ accepted (tables p.file (all_values p.file p.file.objects))
    unfolding too_many choose first unless
    few_values h =
        reading_is s p.file p.kept.situation p.covered ∙ passed
        ∙ rw (le-ltb 2048 (how_many_in_all (all_values p.file p.file.objects)) h)

accepted_is : (a b c n : ℕ) (k : List ℕ) (t : Tables) → a ≡ length t.definitions → b ≡ length t.enumerators → c ≡ length t.objects → n ≡ length t.values → k ≡ t.counts
    → record { answer = Accepted; definitions = a; enumerators = b; objects = c; values = n; counts = k } ≡ reading_of (accepted t)
unfolding reading_of
accepted_is a b c n k t p q r h e = rw (p, q, r, h, e)

module _ (s : List ℕ) (y : Merged) (w : Decision) (p : Passed s y w) (none_stated : first (statement_stage p.file) ≡ none) where
  -- The rooms of an accepted text.
  pub accepted_fills : (n : ℕ) (d e o v v₀ : List ℕ) → n ≡ min 2049 (how_many_in_all (all_values p.file p.file.objects)) → n ≤ 2048 → v₀ ≡ replicate 18432 0
      → v ≡ sets v₀ 0 (cells value_cells (all_value_rows (all_values p.file p.file.objects) 0 0))
      → d ≡ definition_room (all_definition_rows p.file.specs) → e ≡ enumerator_room (all_enumerator_rows p.file.specs) → o ≡ object_room (object_rows p.file.objects)
      → Filled s d e o v (record { answer = Accepted; definitions = w.walked.definitions; enumerators = w.walked.enumerators; objects = w.objects; values = n; counts = w.counts })
  unfolding rooms_after value_room tables
  accepted_fills n d e o v v₀ c h b vs ds es os =
      let f = p.file in
      let rs = all_values f f.objects in
      let rows = all_value_rows rs 0 0 in
      let few : how_many_in_all rs ≤ 2048 = omega arith in
      let q = few_values s y w p none_stated few in
      let k = p.kept in
      let l : n ≡ length rows = let i = value_rows_length rs 0 0 in omega arith in
      let m = cells_length 9 value_cells value_width rows in
      let i₀ = k.definitions in
      let i₁ = k.enumerators in
      let i₂ = k.objects in
      let j₀ = definitions_as_many f.specs in
      let j₁ = enumerators_as_many f.specs in
      let j₂ = objects_as_many f.objects in
      record {
        result = accepted_is w.walked.definitions w.walked.enumerators w.objects n w.counts (tables f rs) (omega arith) (omega arith) (omega arith) l k.counted ∙ ap reading_of (sym q);
        definitions = ds ∙ ap (λ a. (rooms_after a).definitions) (sym q);
        enumerators = es ∙ ap (λ a. (rooms_after a).enumerators) (sym q);
        objects = os ∙ ap (λ a. (rooms_after a).objects) (sym q);
        values = room_of value_cells rows 18432 v₀ v (cells value_cells rows) (b ∙ cleared_zeros 18432) vs refl (omega arith) ∙ ap (λ a. (rooms_after a).values) (sym q);
      }
