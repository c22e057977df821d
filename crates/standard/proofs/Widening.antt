-- Whether the values of a row are wider, by the type. Assumes nothing.
use mathlib.Core.Path.{◌≡◌, refl, sym, ◌∙◌, ap, ap₂, subst}
use mathlib.Core.List.{List}
use mathlib.Core.Bool.{Bool, true, false, not}
use Prim.Native.Nat.{ℕ, ◌+◌, ◌*◌, ◌≤◌, ◌<◌}
use native.Mathlib.Omega.{arith}
use lib.ListN.{get_or}
use lib.Dec.{eqb}
use borrow.Author.Tests.{ne_eqb, eq-eqb}
use Rattle.token.specs.Find.{both}
use Rattle.grammar.specs.Grammar.{Integer, UINT32, INT32, UINT64, INT64}
use Rattle.meaning.specs.Syntax.{AttributeType, integer, string, boolean, enum, float, reference, Bounds, Definition, Values, no_value, value, Defined, File, is_enum}
use Rattle.meaning.specs.Cells.{integer_code, type_code}
use Rattle.meaning.proofs.Sites.{value_words}
use Rattle.layout.proofs.Codes.{kind_low}
use Rattle.layout.specs.Kept.{kept_definitions, definition_cells, list_key}
use Rattle.scopes.specs.Situations.{Situation, RowOf}
use Rattle.scopes.specs.Ranges.{RangeAt}
use Rattle.scopes.proofs.Forms.{Formed, an_integer, a_string, a_boolean, an_enum, a_float, a_reference}
use Rattle.scopes.proofs.Goodness.{Goods}
use Rattle.scopes.proofs.Rooms.{definition_cell}
use Rattle.scopes.proofs.Descents.{nth_in, entry_facts}
use Rattle.standard.specs.Asking.{has_list, within, wider}
use Rattle.standard.specs.Choices.{has_extra}
use Rattle.standard.specs.Spans.{WithinOneTwo}
use Rattle.standard.specs.Findings.{Wider}
use Rattle.standard.proofs.Choosing.{extra_is}
use Rattle.standard.proofs.Types.{enum_coded, boolean_coded}

-- Types by their codes -------------------------------------------------------------------------------------------------------------------------

integer_bounds : (i : Integer) → (35 ≤ integer_code i) × (integer_code i ≤ 38)
unfolding integer_code
integer_bounds UINT32 = (omega arith, omega arith)
integer_bounds INT32 = (omega arith, omega arith)
integer_bounds UINT64 = (omega arith, omega arith)
integer_bounds INT64 = (omega arith, omega arith)

ranged : {s : List ℕ} {d : Definition} {vs : Values} → Formed s d vs → (n : ℕ) → type_code d.type ≡ n → 35 ≤ n → n ≤ 38 → RangeAt s d.range.place d.bounds
unfolding type_code
ranged (an_integer i t c r) n e a b = r
ranged (a_string t c r) n e a b = absurd (let q = sym (ap type_code t) ∙ e in omega (arith, q, b))
ranged (a_boolean t c r v) n e a b = absurd (let q = sym (ap type_code t) ∙ e in omega (arith, q, b))
ranged (an_enum t c r v) n e a b = absurd (let q = sym (ap type_code t) ∙ e in omega (arith, q, b))
ranged (a_float t c r) n e a b = absurd (let q = sym (ap type_code t) ∙ e in omega (arith, q, b))
ranged (a_reference k t c r) n e a b = absurd (let q = sym (ap type_code t) ∙ e in let l = kind_low k in omega (arith, q, a, l))

list_there : (s : List ℕ) (vs : Values) → Goods s (value_words vs) → has_list vs ≡ not (eqb (list_key vs) 0)
unfolding has_list list_key value_words
list_there s no_value g = refl
list_there s (value w e us vs) g = let l = g.0.later in sym (ap not (ne_eqb w.place 0 (λ z. omega (arith, l, z))))

-- The cells of a row ---------------------------------------------------------------------------------------------------------------------------

module _ {s d : List ℕ} {f : File} {x : Defined} {j : ℕ} (st : Situation s f) (hd : d ≡ kept_definitions f) (row : RowOf f j x) (l : j < 513) where
  key_cell : get_or d (j * 19 + 14) 0 ≡ list_key x.values
  unfolding definition_cells
  key_cell = definition_cell f d j 14 (record { under = row.under; outer = row.outer; definition = x.definition; values = x.values }) hd row.nth l (omega arith)

  range_cell : get_or d (j * 19 + 8) 0 ≡ x.definition.range.place
  unfolding definition_cells
  range_cell = definition_cell f d j 8 (record { under = row.under; outer = row.outer; definition = x.definition; values = x.values }) hd row.nth l (omega arith)

  formed_row : Formed s x.definition x.values
  formed_row = (entry_facts st (nth_in row.nth)).facts.formed

  listed_row : has_list x.values ≡ not (eqb (get_or d (j * 19 + 14) 0) 0)
  listed_row = list_there s x.values (entry_facts st (nth_in row.nth)).facts.values.good ∙ ap (λ n. not (eqb n 0)) (sym key_cell)

-- The answers of `wider` -------------------------------------------------------------------------------------------------------------------------

wider_as : {t u : AttributeType} (b c : Bounds) (ws vs : Values) → t ≡ u → wider t b ws c vs ≡ wider u b ws c vs
wider_as b c ws vs e = ap (λ (t : AttributeType). wider t b ws c vs) e

not_whole : (t : AttributeType) (b c : Bounds) (ws vs : Values) → (type_code t ≡ 41 → ⊥) → (type_code t ≡ 40 → ⊥) → ((k : Integer) → within k b c ≡ true) → wider t b ws c vs ≡ false
unfolding wider type_code
not_whole (integer i) b c ws vs m n h = ap not (h i)
not_whole string b c ws vs m n h = refl
not_whole boolean b c ws vs m n h = absurd (n refl)
not_whole enum b c ws vs m n h = absurd (m refl)
not_whole float b c ws vs m n h = refl
not_whole (reference k) b c ws vs m n h = refl

module _ (g rs ws s d e : List ℕ) (m i j code first end key : ℕ) (q₁ : code ≡ get_or rs (i * 14 + 3) 0) (q₂ : first ≡ get_or rs (i * 14 + 12) 0) (q₃ : end ≡ get_or rs (i * 14 + 13) 0)
    (q₄ : key ≡ get_or d (j * 19 + 14) 0) where
  pub of_enum : code ≡ 41 → (r : Bool) → r ≡ has_extra s e g ws first end key m → Wider g rs ws s d e m i j r
  unfolding wider is_enum
  of_enum c r h f x a st hd he row l rc ri tc =
      let w = enum_coded a.wanted.definition.type (sym (q₁ ∙ ri.type) ∙ c) in
      let v = enum_coded x.definition.type (sym tc ∙ sym (q₁ ∙ ri.type) ∙ c) in
      h ∙ ap (λ n. has_extra s e g ws first end n m) q₄ ∙ ap₂ (λ n o. has_extra s e g ws n o (get_or d (j * 19 + 14) 0) m) q₂ q₃
      ∙ extra_is st hd he row l (rc x.values) (ap is_enum v) g ws (get_or rs (i * 14 + 12) 0) (get_or rs (i * 14 + 13) 0) a.wanted.values ri.words
      ∙ sym (wider_as a.wanted.definition.bounds x.definition.bounds a.wanted.values x.values w)

  module _ (n₁ : code ≡ 41 → ⊥) where
    pub no_list : code ≡ 40 → first ≡ end → Wider g rs ws s d e m i j false
    unfolding wider
    no_list c z f x a st hd he row l rc ri tc =
        let w = boolean_coded a.wanted.definition.type (sym (q₁ ∙ ri.type) ∙ c) in
        sym (wider_as a.wanted.definition.bounds x.definition.bounds a.wanted.values x.values w
        ∙ ap (λ b. both b (not (has_list x.values))) (ri.listed ∙ ap not (eq-eqb (get_or rs (i * 14 + 12) 0) (get_or rs (i * 14 + 13) 0) (sym q₂ ∙ z ∙ q₃))))

    pub a_list : code ≡ 40 → (first ≡ end → ⊥) → (r : Bool) → r ≡ eqb key 0 → Wider g rs ws s d e m i j r
    unfolding wider
    a_list c z r h f x a st hd he row l rc ri tc =
        let w = boolean_coded a.wanted.definition.type (sym (q₁ ∙ ri.type) ∙ c) in
        h ∙ sym (twice (eqb key 0))
        ∙ sym (wider_as a.wanted.definition.bounds x.definition.bounds a.wanted.values x.values w
        ∙ ap₂ (λ b o. both b (not o)) (ri.listed ∙ ap not (ne_eqb (get_or rs (i * 14 + 12) 0) (get_or rs (i * 14 + 13) 0) (λ v. z (q₂ ∙ v ∙ sym q₃))))
        (listed_row st hd row l ∙ ap (λ n. not (eqb n 0)) (sym q₄)))
      where
        twice : (b : Bool) → not (not b) ≡ b
        twice true = refl
        twice false = refl

    module _ (n₂ : code ≡ 40 → ⊥) (u : ℕ) (q₅ : u ≡ get_or rs (i * 14 + 11) 0) where
      pub unrestricted : u ≡ 0 → Wider g rs ws s d e m i j false
      unrestricted z f x a st hd he row l rc ri tc =
          sym (not_whole a.wanted.definition.type a.wanted.definition.bounds x.definition.bounds a.wanted.values x.values
          (λ v. n₁ (q₁ ∙ ri.type ∙ v)) (λ v. n₂ (q₁ ∙ ri.type ∙ v)) (λ k. ri.free (sym q₅ ∙ z) k x.definition.bounds))

      pub restricted_to : (u ≡ 0 → ⊥) → (p : ℕ) (r : Bool) → p ≡ get_or d (j * 19 + 8) 0 → WithinOneTwo s p r → Wider g rs ws s d e m i j (not r)
      unfolding wider type_code
      restricted_to z p r o h f x a st hd he row l rc ri tc =
          let R = ri.restricted (λ v. z (q₅ ∙ v)) in
          let b = integer_bounds R.width in
          let b₀ = b.0 in
          let b₁ = b.1 in
          let c : type_code x.definition.type ≡ integer_code R.width = sym tc ∙ ap type_code R.type in
          let t = ranged (formed_row st hd row l) (integer_code R.width) c b₀ b₁ in
          ap not (h x.definition.bounds (subst (λ n. RangeAt s n x.definition.bounds) (sym (o ∙ range_cell st hd row l)) t) ∙ sym (R.within_is x.definition.bounds))
          ∙ sym (wider_as a.wanted.definition.bounds x.definition.bounds a.wanted.values x.values R.type)
