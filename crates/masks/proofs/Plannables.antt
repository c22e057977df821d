-- Whether EVENT itself has a single UINT64 MASK: the rows under the place of its word are its definitions. Assumes nothing.
use mathlib.Core.Path.{◌≡◌, refl, sym, ◌∙◌, ap, ap₂, subst}
use mathlib.Core.List.{List, [], ◌∷◌, ◌++◌}
use mathlib.Core.Bool.{Bool, true, false, not}
use Prim.Native.Nat.{ℕ, suc, ◌+◌, ◌*◌, ◌-◌, ◌≤◌, ◌<◌}
use native.Mathlib.Omega.{arith}
use native.Mathlib.Numerals.{add-one}
use lib.ListN.{length, get_or}
use lib.Dec.{eqb}
use borrow.Author.Tests.{eq-eqb, ne_eqb}
use Rattle.token.specs.Find.{bit, pick, both, either}
use Rattle.token.specs.Tokens.{part_of}
use Rattle.token.specs.Words.{bytes_of, same}
use Rattle.rows.specs.Table.{cell_of}
use Rattle.rows.specs.Search.{row_name}
use Rattle.grammar.specs.Grammar.{EVENT, UINT32, INT32, UINT64, INT64}
use Rattle.meaning.specs.Syntax.{Word, span_of, AttributeType, integer, string, boolean, enum, float, reference, Definitions, no_more, define, Defined, File}
use Rattle.meaning.specs.Kinds.{kind_number}
use Rattle.meaning.specs.Scopes.{of_kind}
use Rattle.meaning.specs.Defining.{DefinitionRow, definition_row, all_definition_rows}
use Rattle.meaning.specs.Standing.{Standing, standing_if, select, standing}
use Rattle.meaning.specs.Cells.{integer_code, type_code, definition_cells, definition_room}
use Rattle.meaning.proofs.Rooms.{definition_width}
use Rattle.layout.specs.Kept.{kind_place}
use Rattle.layout.proofs.Codes.{kind_low}
use Rattle.blocks.specs.Blocks.{WordIn}
use Rattle.scopes.specs.Situations.{Situation, HasDefinition, this_definition, later_definition, ScopeAt, no_scope, scope}
use Rattle.scopes.proofs.Descents.{scope_facts, scope_of_kind}
use Rattle.lookups.proofs.Standings.{words_definition, file_stands}
use Rattle.writing.specs.Promises.{From}
use Rattle.writing.proofs.Froms.{from_cell, from_append, from_room}
use Rattle.masks.specs.Events.{is_uint64, is_mask, has_mask, plannable}
use Rattle.masks.specs.Members.{mask_row, some_row, defines_mask}

-- The row's test ---------------------------------------------------------------------------------------------------------------------------

module _ (s d : List ℕ) (p j x : ℕ) (e : x ≡ cell_of d 13 j 0) where
  pub under_other : (x ≡ p → ⊥) → false ≡ mask_row s d p j
  unfolding mask_row
  under_other z = ap (λ (b : Bool). both b (both (eqb (cell_of d 13 j 12) 37) (both (eqb (cell_of d 13 j 6) 0) (same (row_name s d 13 2 j) (bytes_of "MASK"))))) (sym (ne_eqb (cell_of d 13 j 0) p (λ q. z (e ∙ q))))

  module _ (h : x ≡ p) where
    under_same : (b : Bool) → both (eqb (cell_of d 13 j 0) p) b ≡ b
    under_same b = ap (λ (c : Bool). both c b) (eq-eqb (cell_of d 13 j 0) p (sym e ∙ h))

    pub other_type : (y : ℕ) → y ≡ cell_of d 13 j 12 → (y ≡ 37 → ⊥) → false ≡ mask_row s d p j
    unfolding mask_row
    other_type y f z =
        sym (under_same (both (eqb (cell_of d 13 j 12) 37) (both (eqb (cell_of d 13 j 6) 0) (same (row_name s d 13 2 j) (bytes_of "MASK"))))
        ∙ ap (λ (b : Bool). both b (both (eqb (cell_of d 13 j 6) 0) (same (row_name s d 13 2 j) (bytes_of "MASK")))) (ne_eqb (cell_of d 13 j 12) 37 (λ q. z (f ∙ q))))

    pub a_list : (y u : ℕ) → y ≡ cell_of d 13 j 12 → y ≡ 37 → u ≡ cell_of d 13 j 6 → (u ≡ 0 → ⊥) → false ≡ mask_row s d p j
    unfolding mask_row
    a_list y u f g i z =
        sym (under_same (both (eqb (cell_of d 13 j 12) 37) (both (eqb (cell_of d 13 j 6) 0) (same (row_name s d 13 2 j) (bytes_of "MASK"))))
        ∙ ap₂ (λ (b c : Bool). both b (both c (same (row_name s d 13 2 j) (bytes_of "MASK")))) (eq-eqb (cell_of d 13 j 12) 37 (sym f ∙ g)) (ne_eqb (cell_of d 13 j 6) 0 (λ q. z (i ∙ q))))

    pub by_name : (y u a n : ℕ) (w : List ℕ) (r : Bool) → y ≡ cell_of d 13 j 12 → y ≡ 37 → u ≡ cell_of d 13 j 6 → u ≡ 0 → a ≡ get_or d (j * 13 + 2) 0 → n ≡ get_or d (j * 13 + 3) 0
        → w ≡ part_of s a n → r ≡ same w (bytes_of "MASK") → r ≡ mask_row s d p j
    unfolding mask_row row_name
    by_name y u a n w r f g i k l m v t =
        t ∙ ap (λ (c : List ℕ). same c (bytes_of "MASK")) (v ∙ ap₂ (part_of s) l m)
        ∙ sym (under_same (both (eqb (cell_of d 13 j 12) 37) (both (eqb (cell_of d 13 j 6) 0) (same (row_name s d 13 2 j) (bytes_of "MASK"))))
        ∙ ap₂ (λ (b c : Bool). both b (both c (same (row_name s d 13 2 j) (bytes_of "MASK")))) (eq-eqb (cell_of d 13 j 12) 37 (sym f ∙ g)) (eq-eqb (cell_of d 13 j 6) 0 (sym i ∙ k)))

-- The loop over the rows ---------------------------------------------------------------------------------------------------------------------

module _ (s d : List ℕ) (p n : ℕ) where
  pub no_place : p ≡ 0 → false ≡ defines_mask s d p n
  unfolding defines_mask
  no_place e = ap (λ (b : Bool). pick b false (some_row (mask_row s d p) n 0)) (sym (eq-eqb p 0 e))

  some_place : (p ≡ 0 → ⊥) → defines_mask s d p n ≡ some_row (mask_row s d p) n 0
  unfolding defines_mask
  some_place h = ap (λ (b : Bool). pick b false (some_row (mask_row s d p) n 0)) (ne_eqb p 0 h)

  -- The rows from j on decide.
  abbrev pub Seeks : ℕ → Type 0
  Seeks j = some_row (mask_row s d p) (n - j) j ≡ defines_mask s d p n

  pub seeks_start : (p ≡ 0 → ⊥) → Seeks 0
  seeks_start h = let e : n - 0 ≡ n = omega arith in ap (λ (c : ℕ). some_row (mask_row s d p) c 0) e ∙ sym (some_place h)

  next_row : (j : ℕ) → j < n → some_row (mask_row s d p) (n - j) j ≡ either (mask_row s d p j) (some_row (mask_row s d p) (n - (j + 1)) (j + 1))
  unfolding some_row
  next_row j h =
      let e : n - j ≡ suc (n - (j + 1)) = omega (arith, h) in
      ap (λ (c : ℕ). some_row (mask_row s d p) c j) e ∙ ap (λ (i : ℕ). either (mask_row s d p j) (some_row (mask_row s d p) (n - (j + 1)) i)) (sym (add-one j))

  pub seeks_stop : (j : ℕ) → j < n → true ≡ mask_row s d p j → Seeks j → true ≡ defines_mask s d p n
  seeks_stop j h e q = ap (λ (b : Bool). either b (some_row (mask_row s d p) (n - (j + 1)) (j + 1))) e ∙ sym (next_row j h) ∙ q

  pub seeks_more : (j : ℕ) → j < n → false ≡ mask_row s d p j → Seeks j → Seeks (j + 1)
  seeks_more j h e q = ap (λ (b : Bool). either b (some_row (mask_row s d p) (n - (j + 1)) (j + 1))) e ∙ sym (next_row j h) ∙ q

  pub seeks_end : (j : ℕ) → n ≤ j → Seeks j → false ≡ defines_mask s d p n
  unfolding some_row
  seeks_end j h q = let e : n - j ≡ 0 = omega (arith, h) in sym (ap (λ (c : ℕ). some_row (mask_row s d p) c j) e) ∙ q

-- The rows and the scope ---------------------------------------------------------------------------------------------------------------------

code_is : (y : AttributeType) → eqb (type_code y) 37 ≡ is_uint64 y
unfolding type_code integer_code is_uint64
code_is (integer UINT32) = refl
code_is (integer INT32) = refl
code_is (integer UINT64) = refl
code_is (integer INT64) = refl
code_is string = refl
code_is boolean = refl
code_is enum = refl
code_is float = refl
code_is (reference k) = ne_eqb (22 + kind_number k) 37 (λ (q : 22 + kind_number k ≡ 37). let h = kind_low k in omega (arith, h, q))

bit_is : (b : Bool) → eqb (bit b) 0 ≡ not b
unfolding bit
bit_is true = refl
bit_is false = refl

rotated : (a b c : Bool) → both a (both b c) ≡ both c (both a b)
rotated true true true = refl
rotated true true false = refl
rotated true false true = refl
rotated true false false = refl
rotated false b true = refl
rotated false b false = refl

module _ (s : List ℕ) where
  -- The row is a single UINT64 attribute MASK.
  unfoldable row_test : DefinitionRow → Bool
  row_test r = both (is_uint64 r.typed) (both (not r.list) (same (part_of s r.name.place r.name.length) (bytes_of "MASK")))

  unfoldable any_standing : List Standing → Bool
  any_standing [] = false
  any_standing (x ∷ xs) = let a = any_standing xs in either (row_test x.row) a

  -- The definitions of a scope, whose names are in the text.
  standing_mask : (u : Word) (ds : Definitions) → ((x : Defined) → HasDefinition ds x → WordIn s x.definition.name) → any_standing (standing u ds) ≡ has_mask ds
  unfolding any_standing standing row_test definition_row span_of has_mask is_mask
  standing_mask u no_more h = refl
  standing_mask u (define d vs ds) h =
      ap₂ (λ (l : List ℕ) (b : Bool). either (both (is_uint64 d.type) (both (not d.list) (same l (bytes_of "MASK")))) b)
      (sym (h (record { definition = d; values = vs }) this_definition).bytes) (standing_mask u ds (λ x k. h x (later_definition k)))
      ∙ ap (λ (b : Bool). either b (has_mask ds)) (rotated (is_uint64 d.type) (not d.list) (same d.name.bytes (bytes_of "MASK")))

  module _ (d : List ℕ) (n p : ℕ) where
    test_is : (r : DefinitionRow) (rs : List DefinitionRow) (i : ℕ) → From 13 definition_cells d n i (r ∷ rs) → mask_row s d p i ≡ both (eqb r.under.place p) (row_test r)
    unfolding mask_row row_name row_test definition_cells
    test_is r rs i h =
        let e0 = from_cell 13 definition_cells definition_width r rs 0 (omega arith) h in
        let e2 = from_cell 13 definition_cells definition_width r rs 2 (omega arith) h in
        let e3 = from_cell 13 definition_cells definition_width r rs 3 (omega arith) h in
        let e6 = from_cell 13 definition_cells definition_width r rs 6 (omega arith) h in
        let e12 = from_cell 13 definition_cells definition_width r rs 12 (omega arith) h in
        ap₂ both (ap (λ (c : ℕ). eqb c p) e0)
        (ap₂ both (ap (λ (c : ℕ). eqb c 37) e12 ∙ code_is r.typed)
        (ap₂ both (ap (λ (c : ℕ). eqb c 0) e6 ∙ bit_is r.list) (ap₂ (λ (a b : ℕ). same (part_of s a b) (bytes_of "MASK")) e2 e3)))

    rows_select : (rs : List DefinitionRow) (i : ℕ) → From 13 definition_cells d n i rs → some_row (mask_row s d p) (length rs) i ≡ any_standing (select p i rs)
    unfolding some_row select any_standing standing_if
    rows_select [] i h = refl
    rows_select (r ∷ rs) i h =
        let z : suc i ≡ i + 1 = omega arith in
        ap₂ either (test_is r rs i h) (rows_select rs (suc i) (from_append 13 definition_cells definition_width (r ∷ []) rs z h)) ∙ go (eqb r.under.place p)
      where
        go : (b : Bool) → either (both b (row_test r)) (any_standing (select p (suc i) rs)) ≡ any_standing (standing_if b i r ++ select p (suc i) rs)
        go true = refl
        go false = refl

-- THE TEST OVER THE ROWS answers as that over the file.
module _ {s d : List ℕ} {n : ℕ} {f : File} (t : Situation s f) (e : d ≡ definition_room (all_definition_rows f.specs)) (m : n ≡ length (all_definition_rows f.specs)) where
  scope_is : {p : ℕ} {ds : Definitions} → ScopeAt f p ds → defines_mask s d p n ≡ has_mask ds
  unfolding definition_room has_mask
  scope_is no_scope = sym (no_place s d 0 n refl)
  scope_is {p} (scope {u} {ds} q k) =
      let a = scope_facts t k in
      let g = a.good.later in
      some_place s d p n (λ (z : p ≡ 0). omega (arith, z, q, g))
      ∙ ap (λ (c : ℕ). some_row (mask_row s d p) c 0) m
      ∙ rows_select s d n p (all_definition_rows f.specs) 0 (from_room 13 definition_cells (512 * 13) (all_definition_rows f.specs) d n e m)
      ∙ ap (λ (c : ℕ). any_standing s (select c 0 (all_definition_rows f.specs))) (sym q)
      ∙ ap (any_standing s) a.scope
      ∙ standing_mask s u ds (λ x h. (words_definition h (file_stands t k).1).1.0)

  pub plannable_is : {p : ℕ} → p ≡ kind_place (kind_number EVENT) f.specs → defines_mask s d p n ≡ plannable f
  unfolding plannable
  plannable_is q = scope_is (subst (λ (i : ℕ). ScopeAt f i (of_kind EVENT f.specs)) (sym q) (scope_of_kind f EVENT))
