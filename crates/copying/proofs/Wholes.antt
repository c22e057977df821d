-- The three copies, whole: what they store in a blank room is the room of the lent table. Assumes nothing.
use mathlib.Core.Path.{◌≡◌, refl, ◌∙◌, ap}
use mathlib.Core.List.{List, []}
use Prim.Native.Nat.{ℕ, ◌*◌, ◌≤◌}
use native.Mathlib.Omega.{arith}
use lib.ListN.{length, take}
use lib.Seq.{sets, length-sets}
use Rattle.scopes.proofs.Descents.{whole, spec_run}
use Rattle.meaning.specs.Syntax.{File}
use Rattle.meaning.specs.Defining.{all_definition_rows, all_enumerator_rows}
use Rattle.meaning.specs.Applying.{object_rows as lent-objects}
use Rattle.meaning.specs.Cells.{cells, enumerator_cells, definition_room, enumerator_room, object_room, definition_cells as lent-definition, object_cells as lent-object}
use Rattle.layout.specs.Kept.{Choice, spec_entries, spec_choices, definition_cells, choice_cells, object_rows, map_cells, kept, kept_definitions, kept_enumerators, kept_objects}
use Rattle.layout.proofs.Lengths.{object_wide, length_objects, definition_wide, length_map, wide_map}
use Rattle.scopes.specs.Situations.{Situation}
use Rattle.scopes.proofs.Forming.{formed}
use Rattle.copying.specs.Copies.{each_row, as_is, attributed, attribute_of}
use Rattle.copying.specs.Promises.{CopiesDefinitions, CopiesEnumerators, CopiesObjects}
use Rattle.copying.proofs.Stretches.{as_is_keeps, attributed_keeps, length_rows}
use Rattle.copying.proofs.Rooms.{rows_kept, cells_map, room_of}
use Rattle.copying.proofs.Definitions.{head, spec_heads}
use Rattle.copying.proofs.Objects.{object_heads}
use Rattle.copying.proofs.Keys.{attribute_found}
use Rattle.copying.proofs.Enumerators.{choice_row, spec_choice_rows}

-- Definitions.
definition_heads : (s : List ℕ) (f : File) (d : List ℕ) (n : ℕ) → Situation s f → d ≡ kept_definitions f → n ≡ length (spec_entries f.specs) → n ≤ 512
    → each_row as_is d 19 13 0 n ≡ cells lent-definition (all_definition_rows f.specs)
unfolding kept_definitions as_is head
definition_heads s f d n k e m h =
    let E = spec_entries f.specs in
    let rs = map_cells definition_cells E in
    let l = length_map definition_cells E in
    let q : n ≡ length rs = omega arith in
    ap (λ (t : List ℕ). each_row as_is t 19 13 0 n) e
    ∙ ap (each_row as_is (kept (513 * 19) rs) 19 13 0) q
    ∙ rows_kept as_is 19 13 (omega arith) (513 * 19) rs (wide_map definition_cells 19 definition_wide E) (omega arith)
    ∙ cells_map definition_cells (take 13) E
    ∙ spec_heads s f.specs (whole k).facts.formed

pub copies_definitions : (d : List ℕ) (n : ℕ) (l l' : List ℕ) → l' ≡ sets l 0 (each_row as_is d 19 13 0 n) → CopiesDefinitions d n l l'
unfolding definition_room
copies_definitions d n l l' e = (
  ap length e ∙ length-sets l 0 (each_row as_is d 19 13 0 n),
  λ s f k a b h z.
      let q = length_rows as_is as_is_keeps d 19 13 0 n in
      room_of lent-definition (all_definition_rows f.specs) (512 * 13) l l' (each_row as_is d 19 13 0 n) z e (definition_heads s f d n k a b h) (omega arith),
)

-- Objects.
objects_copied : (f : File) (o : List ℕ) (n : ℕ) → o ≡ kept_objects f → n ≡ length f.objects → n ≤ 256
    → each_row as_is o 10 8 0 n ≡ cells lent-object (lent-objects f.objects)
unfolding kept_objects as_is
objects_copied f o n e m h =
    let rs = object_rows f.objects 0 in
    let l = length_objects f.objects 0 in
    let q : n ≡ length rs = omega arith in
    ap (λ (t : List ℕ). each_row as_is t 10 8 0 n) e
    ∙ ap (each_row as_is (kept (257 * 10) rs) 10 8 0) q
    ∙ rows_kept as_is 10 8 (omega arith) (257 * 10) rs (object_wide f.objects 0) (omega arith)
    ∙ object_heads f.objects 0

pub copies_objects : (o : List ℕ) (n : ℕ) (l l' : List ℕ) → l' ≡ sets l 0 (each_row as_is o 10 8 0 n) → CopiesObjects o n l l'
unfolding object_room
copies_objects o n l l' e = (
  ap length e ∙ length-sets l 0 (each_row as_is o 10 8 0 n),
  λ s f k a b h z.
      let q = length_rows as_is as_is_keeps o 10 8 0 n in
      room_of lent-object (lent-objects f.objects) (256 * 8) l l' (each_row as_is o 10 8 0 n) z e (objects_copied f o n a b h) (omega arith),
)

-- Enumerators.
choice_wide : (x : Choice) → length (choice_cells x) ≡ 3
unfolding choice_cells
choice_wide x = refl

enumerators_copied : (s : List ℕ) (f : File) (d : List ℕ) (n : ℕ) (e : List ℕ) (m : ℕ) → Situation s f → d ≡ kept_definitions f → n ≡ length (spec_entries f.specs) → n ≤ 512
    → e ≡ kept_enumerators f → m ≡ length (spec_choices f.specs) → m ≤ 1024
    → each_row (attributed d n) e 3 3 0 m ≡ cells enumerator_cells (all_enumerator_rows f.specs)
unfolding kept_enumerators attributed choice_cells choice_row
enumerators_copied s f d n e m k a b h a' b' h' =
    let C = spec_choices f.specs in
    let rs = map_cells choice_cells C in
    let l = length_map choice_cells C in
    let q : m ≡ length rs = omega arith in
    let r = spec_run k in
    ap (λ (t : List ℕ). each_row (attributed d n) t 3 3 0 m) a'
    ∙ ap (each_row (attributed d n) (kept (1025 * 3) rs) 3 3 0) q
    ∙ rows_kept (attributed d n) 3 3 (omega arith) (1025 * 3) rs (wide_map choice_cells 3 choice_wide C) (omega arith)
    ∙ cells_map choice_cells (λ (t : List ℕ). attributed d n (take 3 t)) C
    ∙ spec_choice_rows (spec_entries f.specs) (attribute_of d n) (attribute_found f d n a b (omega arith)) f.specs [] 1 r.hi refl r.run (omega arith) (whole k).numbers.0.0
    (λ x p t. tt)

pub copies_enumerators : (d : List ℕ) (n : ℕ) (e : List ℕ) (m : ℕ) (l l' : List ℕ) → l' ≡ sets l 0 (each_row (attributed d n) e 3 3 0 m) → CopiesEnumerators d n e m l l'
unfolding enumerator_room
copies_enumerators d n e m l l' c = (
  ap length c ∙ length-sets l 0 (each_row (attributed d n) e 3 3 0 m),
  λ s f k a b h a' b' h' z.
      let q = length_rows (attributed d n) (attributed_keeps d n) e 3 3 0 m in
      room_of enumerator_cells (all_enumerator_rows f.specs) (1024 * 3) l l' (each_row (attributed d n) e 3 3 0 m) z c
      (enumerators_copied s f d n e m k a b h a' b' h') (omega arith),
)
