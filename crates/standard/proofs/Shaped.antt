-- What the cells of a row tell of its type, list mark and WITH_AUTO. Assumes nothing.
use mathlib.Core.Path.{◌≡◌, refl, sym, ◌∙◌, ap, ap₂}
use mathlib.Core.List.{List}
use mathlib.Core.Bool.{Bool, true, false, not}
use Prim.Native.Nat.{ℕ, ◌+◌, ◌*◌, ◌<◌}
use native.Mathlib.Omega.{arith}
use lib.ListN.{get_or}
use lib.Dec.{eqb}
use borrow.Author.Tests.{eq-eqb, ne_eqb}
use Rattle.token.specs.Find.{bit, both, either}
use Rattle.meaning.specs.Syntax.{Definition, Values, Defined, File}
use Rattle.meaning.specs.Cells.{type_code}
use Rattle.layout.specs.Kept.{Entry, kept_definitions, definition_cells, code_of}
use Rattle.scopes.specs.Situations.{RowOf}
use Rattle.scopes.proofs.Forms.{Formed, an_integer, a_string, a_boolean, an_enum, a_float, a_reference}
use Rattle.scopes.proofs.Rooms.{definition_cell}
use Rattle.scopes.proofs.Descents.{nth_in, entry_facts}
use Rattle.standard.specs.Asking.{only_where, same_truth}
use Rattle.standard.specs.Shapes.{ShapeDiffers}

-- By the cells: the standard's code c, list mark l and WITH_AUTO a.
unfoldable pub shape_differs : List ℕ → (j c l a : ℕ) → Bool
shape_differs d j c l a =
    either (not (eqb c (get_or d (j * 19 + 12) 0))) (either (not (eqb l (get_or d (j * 19 + 6) 0))) (both (eqb (get_or d (j * 19 + 7) 0) 1) (eqb a 0)))

type_coded : {s : List ℕ} {d : Definition} {vs : Values} → Formed s d vs → code_of d.word ≡ type_code d.type
unfolding type_code
type_coded (an_integer i t c r) = c ∙ sym (ap type_code t)
type_coded (a_string t c b) = c ∙ sym (ap type_code t)
type_coded (a_boolean t c b v) = c ∙ sym (ap type_code t)
type_coded (an_enum t c b v) = c ∙ sym (ap type_code t)
type_coded (a_float t c b) = c ∙ sym (ap type_code t)
type_coded (a_reference k t c b) = c ∙ sym (ap type_code t)

bits_same : (a b : Bool) → eqb (bit a) (bit b) ≡ same_truth a b
unfolding same_truth bit
bits_same true true = refl
bits_same true false = refl
bits_same false true = refl
bits_same false false = refl

bits_only : (a b : Bool) → both (eqb (bit b) 1) (eqb (bit a) 0) ≡ only_where a b
unfolding only_where bit
bits_only true true = refl
bits_only true false = refl
bits_only false true = refl
bits_only false false = refl

abbrev entry : (f : File) (j : ℕ) (x : Defined) → RowOf f j x → Entry
entry f j x r = record { under = r.under; outer = r.outer; definition = x.definition; values = x.values }

code_cell : (f : File) (d : List ℕ) (j : ℕ) (x : Defined) → d ≡ kept_definitions f → RowOf f j x → j < 513 → get_or d (j * 19 + 12) 0 ≡ code_of x.definition.word
unfolding definition_cells
code_cell f d j x e r l = definition_cell f d j 12 (entry f j x r) e r.nth l (omega arith)

list_cell : (f : File) (d : List ℕ) (j : ℕ) (x : Defined) → d ≡ kept_definitions f → RowOf f j x → j < 513 → get_or d (j * 19 + 6) 0 ≡ bit x.definition.list
unfolding definition_cells
list_cell f d j x e r l = definition_cell f d j 6 (entry f j x r) e r.nth l (omega arith)

auto_cell : (f : File) (d : List ℕ) (j : ℕ) (x : Defined) → d ≡ kept_definitions f → RowOf f j x → j < 513 → get_or d (j * 19 + 7) 0 ≡ bit x.definition.auto
unfolding definition_cells
auto_cell f d j x e r l = definition_cell f d j 7 (entry f j x r) e r.nth l (omega arith)

join_tests : {p p' q q' r r' : Bool} → p ≡ p' → q ≡ q' → r ≡ r' → either (not p) (either (not q) r) ≡ either (not p') (either (not q') r')
join_tests {p' = p'} {q = q} {r = r} e f g = ap (λ c. either (not c) (either (not q) r)) e ∙ ap₂ (λ c b. either (not p') (either (not c) b)) f g

pub shape_differs_lem : (d : List ℕ) (j c l a : ℕ) (r : Bool) → r ≡ shape_differs d j c l a → ShapeDiffers d j c l a r
unfolding shape_differs
shape_differs_lem d j c l a r z s f x w k e row h hc hl ha =
    z ∙ join_tests (ap₂ eqb hc (code_cell f d j x e row h ∙ type_coded (entry_facts k (nth_in row.nth)).facts.formed))
    (ap₂ eqb hl (list_cell f d j x e row h) ∙ bits_same w.definition.list x.definition.list)
    (ap₂ (λ m n. both (eqb m 1) (eqb n 0)) (auto_cell f d j x e row h) ha ∙ bits_only w.definition.auto x.definition.auto)

-- The answers of the code.
module _ (d : List ℕ) (j c l a y : ℕ) (e : y ≡ get_or d (j * 19 + 12) 0) where
  pub other_type : (y ≡ c → ⊥) → true ≡ shape_differs d j c l a
  unfolding shape_differs
  other_type h = rw (sym e, ne_eqb c y (λ g. h (sym g)))

  module _ (h : y ≡ c) (y₂ : ℕ) (e₂ : y₂ ≡ get_or d (j * 19 + 6) 0) where
    pub other_mark : (y₂ ≡ l → ⊥) → true ≡ shape_differs d j c l a
    unfolding shape_differs
    other_mark k = rw (sym e, h, eq-eqb c c refl, sym e₂, ne_eqb l y₂ (λ g. k (sym g)))

    module _ (k : y₂ ≡ l) (y₃ : ℕ) (e₃ : y₃ ≡ get_or d (j * 19 + 7) 0) where
      pub no_auto : (y₃ ≡ 1 → ⊥) → false ≡ shape_differs d j c l a
      unfolding shape_differs
      no_auto g = rw (sym e, h, eq-eqb c c refl, sym e₂, k, eq-eqb l l refl, sym e₃, ne_eqb y₃ 1 g)

      pub auto-new : y₃ ≡ 1 → a ≡ 0 → true ≡ shape_differs d j c l a
      unfolding shape_differs
      auto-new g i = rw (sym e, h, eq-eqb c c refl, sym e₂, k, eq-eqb l l refl, sym e₃, g, i)

      pub auto-too : y₃ ≡ 1 → (a ≡ 0 → ⊥) → false ≡ shape_differs d j c l a
      unfolding shape_differs
      auto-too g i = rw (sym e, h, eq-eqb c c refl, sym e₂, k, eq-eqb l l refl, sym e₃, g, ne_eqb a 0 i)
