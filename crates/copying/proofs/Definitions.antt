-- The first 13 cells of the kept definitions are the rows of the lent table. Assumes nothing.
use Prim.Native.Nat.{ℕ}
use mathlib.Core.Path.{◌≡◌, refl, sym, ap, ap₂, ◌∙◌}
use mathlib.Core.List.{List, [], ◌∷◌, ◌++◌}
use lib.ListN.{length, take}
use Rattle.token.specs.Find.{bit}
use Rattle.meaning.specs.Syntax.{Word, span_of, span_or, Definition, Definitions, no_more, define, Values, no_value, value, Spec}
use Rattle.meaning.specs.Defining.{definition_row, definition_rows, definition_rows_under, all_definition_rows}
use Rattle.meaning.specs.Cells.{type_code, cells, definition_cells as lent-cells}
use Rattle.layout.specs.Kept.{Entry, entries, entries_under, spec_entries, list_key, code_of, definition_cells}
use Rattle.scopes.proofs.Forms.{Formed, an_integer, a_string, a_boolean, an_enum, a_float, a_reference, AllFormed, none_formed, more_formed, AllFormedUnder, none_under, more_under}
use Rattle.scopes.proofs.Forming.{FormedSpecs}
use Rattle.copying.proofs.Rooms.{cells_append}

-- The code of a definition's type word is that of its type.
type_coded : {s : List ℕ} {d : Definition} {vs : Values} → Formed s d vs → code_of d.word ≡ type_code d.type
unfolding type_code
type_coded (an_integer i t c r) = c ∙ sym (ap type_code t)
type_coded (a_string t c b) = c ∙ sym (ap type_code t)
type_coded (a_float t c b) = c ∙ sym (ap type_code t)
type_coded (a_boolean t c b v) = c ∙ sym (ap type_code t)
type_coded (an_enum t c b v) = c ∙ sym (ap type_code t)
type_coded (a_reference k t c b) = c ∙ sym (ap type_code t)

-- What is copied of an entry.
unfoldable pub head : Entry → List ℕ
head x = take 13 (definition_cells x)

head_lent : (x : Entry) → code_of x.definition.word ≡ type_code x.definition.type → head x ≡ lent-cells (definition_row x.under x.definition)
unfolding head definition_cells lent-cells definition_row span_of
head_lent x e =
    let d = x.definition in
    ap (λ (k : ℕ). x.under.place ∷ x.under.length ∷ d.name.place ∷ d.name.length ∷ d.word.place ∷ d.word.length
    ∷ bit d.list ∷ bit d.auto ∷ d.range.place ∷ d.range.length ∷ (span_or d.default).place ∷ (span_or d.default).length ∷ k ∷ []) e

mutual
  unfolding entries definition_rows cells

  heads : {s : List ℕ} (ds : Definitions) (u : Word) (o : ℕ) → AllFormed s ds → cells head (entries ds u o) ≡ cells lent-cells (definition_rows ds u)
  heads no_more u o none_formed = refl
  heads (define d vs ds) u o (more_formed h t i j) =
      let x : Entry = record { under = u; outer = o; definition = d; values = vs } in
      cells_append head (entries_under vs (list_key vs)) (x ∷ entries ds u o)
      ∙ ap₂ ◌++◌ (heads_under vs (list_key vs) i) (ap₂ ◌++◌ (head_lent x (type_coded h)) (heads ds u o j))
      ∙ sym (cells_append lent-cells (definition_rows_under vs) (definition_row u d ∷ definition_rows ds u))

  heads_under : {s : List ℕ} (vs : Values) (o : ℕ) → AllFormedUnder s vs → cells head (entries_under vs o) ≡ cells lent-cells (definition_rows_under vs)
  heads_under no_value o none_under = refl
  heads_under (value w e us vs) o (more_under h i) =
      cells_append head (entries us w o) (entries_under vs o)
      ∙ ap₂ ◌++◌ (heads us w o h) (heads_under vs o i)
      ∙ sym (cells_append lent-cells (definition_rows us w) (definition_rows_under vs))

pub spec_heads : (s : List ℕ) (xs : List Spec) → FormedSpecs s xs → cells head (spec_entries xs) ≡ cells lent-cells (all_definition_rows xs)
unfolding spec_entries all_definition_rows cells
spec_heads s [] h = refl
spec_heads s (x ∷ xs) h =
    cells_append head (entries x.definitions x.word 0) (spec_entries xs)
    ∙ ap₂ ◌++◌ (heads x.definitions x.word 0 h.0) (spec_heads s xs h.1)
    ∙ sym (cells_append lent-cells (definition_rows x.definitions x.word) (all_definition_rows xs))
