-- What differs, and the finding of one attribute. Assumes nothing.
use mathlib.Core.Path.{◌≡◌, refl, sym, ◌∙◌, ap, ap₂, subst}
use mathlib.Core.List.{List}
use mathlib.Core.Bool.{Bool, true, false, not, false≢true}
use mathlib.Core.Option.{Option, none, some}
use Rattle.std.specs.Prelude.{Option as Maybe, Some, None}
use Prim.Native.Nat.{ℕ, ◌+◌, ◌*◌, ◌<◌}
use native.Mathlib.Omega.{arith}
use lib.ListN.{length, get_or}
use lib.Dec.{eqb}
use borrow.Author.Tests.{eqb-true}
use Rattle.token.specs.Find.{either}
use Rattle.token.specs.Tokens.{part_of}
use Rattle.grammar.proofs.Uniqueness.{none≢some}
use Rattle.rows.specs.Found.{Found}
use Rattle.std.specs.Prelude.{Some, None}
use Rattle.rows.specs.Search.{is_found, row_of}
use Rattle.meaning.specs.Syntax.{Word, Definitions, Defined, File}
use Rattle.meaning.specs.Cells.{type_code}
use Rattle.meaning.specs.Scopes.{find_definition}
use Rattle.layout.specs.Kept.{spec_entries, definition_cells, kept_definitions}
use Rattle.scopes.specs.Situations.{Situation, ScopeAt, no_scope, scope, RowOf}
use Rattle.scopes.specs.Promises.{row_found}
use Rattle.scopes.proofs.Rooms.{nth_low, definition_cell}
use Rattle.scopes.proofs.Descents.{row_of_definition, found_definition}
use Rattle.standard.specs.Asking.{Asked, Scope, scope_of, along, same_truth, only_where, has_default, wider, differs, finding_if, found, in_scope, finding}
use Rattle.standard.specs.Naming.{FindsAttribute}
use Rattle.standard.specs.Shapes.{ShapeDiffers}
use Rattle.standard.specs.Findings.{Knows, RowIs, ScopeIs, Reaches, nowhere, reaches, Owns, DefaultDiffers, Wider, Differs, first_told, Finds}
use Rattle.standard.specs.declared.Known.{Known}
use Rattle.standard.specs.declared.Owner.{Owner}
use Rattle.standard.specs.declared.Told.{Told}
use Rattle.standard.proofs.Owning.{all_reached}

-- What differs -----------------------------------------------------------------------------------------------------------------------------------

first_three : (a b c r : Bool) → either a (either b c) ≡ true → either a (either b (either c r)) ≡ true
first_three true b c r h = refl
first_three false true c r h = refl
first_three false false true r h = refl
first_three false false false r h = absurd (false≢true h)

not_three : (a b c r : Bool) → either a (either b c) ≡ false → either a (either b (either c r)) ≡ r
not_three true b c r h = absurd (false≢true (sym h))
not_three false true c r h = absurd (false≢true (sym h))
not_three false false true r h = absurd (false≢true (sym h))
not_three false false false r h = refl

not_first : (a b c : Bool) → either (not a) (either b c) ≡ false → a ≡ true
not_first true b c h = refl
not_first false b c h = absurd (false≢true (sym h))

module _ (g rs ws s d e : List ℕ) (m i j code list auto : ℕ) (q₁ : code ≡ get_or rs (i * 14 + 3) 0) (q₂ : list ≡ get_or rs (i * 14 + 4) 0) (q₃ : auto ≡ get_or rs (i * 14 + 5) 0)
    (b : Bool) (h₁ : ShapeDiffers d j code list auto b) where
  shape_is : (f : File) (x : Defined) (a : Asked) → Situation s f → d ≡ kept_definitions f → RowOf f j x → j < 513 → RowIs g rs ws i a
      → b ≡ either (not (eqb (type_code a.wanted.definition.type) (type_code x.definition.type)))
      (either (not (same_truth a.wanted.definition.list x.definition.list)) (only_where a.wanted.definition.auto x.definition.auto))
  shape_is f x a st hd row l ri = h₁ s f x a.wanted st hd row l (q₁ ∙ ri.type) (q₂ ∙ ri.list) (q₃ ∙ ri.auto)

  pub shape_other : b ≡ true → Differs g rs ws s d e m i j true
  unfolding differs
  shape_other t f x a st hd he row l rc ri = sym (first_three (not (eqb (type_code a.wanted.definition.type) (type_code x.definition.type))) (not (same_truth a.wanted.definition.list x.definition.list)) (only_where a.wanted.definition.auto x.definition.auto)
      (either (only_where (has_default a.wanted.definition) (has_default x.definition))
      (wider a.wanted.definition.type a.wanted.definition.bounds a.wanted.values x.definition.bounds x.values))
      (sym (shape_is f x a st hd row l ri) ∙ t))

  module _ (t : b ≡ false) (has : ℕ) (q₄ : has ≡ get_or rs (i * 14 + 6) 0) (c : Bool) (h₂ : DefaultDiffers d j has c) where
    after_shape : (f : File) (x : Defined) (a : Asked) → Situation s f → d ≡ kept_definitions f → RowOf f j x → j < 513 → RowIs g rs ws i a
        → differs a.wanted x
        ≡ either c (wider a.wanted.definition.type a.wanted.definition.bounds a.wanted.values x.definition.bounds x.values)
    unfolding differs
    after_shape f x a st hd row l ri =
        not_three (not (eqb (type_code a.wanted.definition.type) (type_code x.definition.type))) (not (same_truth a.wanted.definition.list x.definition.list)) (only_where a.wanted.definition.auto x.definition.auto)
        (either (only_where (has_default a.wanted.definition) (has_default x.definition))
        (wider a.wanted.definition.type a.wanted.definition.bounds a.wanted.values x.definition.bounds x.values))
        (sym (shape_is f x a st hd row l ri) ∙ t)
        ∙ ap (λ z. either z (wider a.wanted.definition.type a.wanted.definition.bounds a.wanted.values x.definition.bounds x.values))
        (sym (h₂ s f x a.wanted st hd row l (q₄ ∙ ri.default)))

    pub default_other : c ≡ true → Differs g rs ws s d e m i j true
    default_other v f x a st hd he row l rc ri =
        sym (after_shape f x a st hd row l ri ∙ ap (λ z. either z (wider a.wanted.definition.type a.wanted.definition.bounds a.wanted.values x.definition.bounds x.values)) v)

    pub wider_decides : c ≡ false → (r : Bool) → Wider g rs ws s d e m i j r → Differs g rs ws s d e m i j r
    wider_decides v r w f x a st hd he row l rc ri =
        w f x a st hd he row l rc ri (eqb-true _ _ (not_first (eqb (type_code a.wanted.definition.type) (type_code x.definition.type)) (not (same_truth a.wanted.definition.list x.definition.list)) (only_where a.wanted.definition.auto x.definition.auto)
        (sym (shape_is f x a st hd row l ri) ∙ t)))
        ∙ sym (after_shape f x a st hd row l ri ∙ ap (λ z. either z (wider a.wanted.definition.type a.wanted.definition.bounds a.wanted.values x.definition.bounds x.values)) v)

-- One attribute ----------------------------------------------------------------------------------------------------------------------------------

none_of : (o : Option Defined) → None ≡ row_found o → o ≡ none
unfolding row_found
none_of none e = refl
none_of (some x) e = absurd (false≢true (ap is_found e))

-- What a lookup that finds row j has found.
record Hit (f : File) (ds : Definitions) (t : Word) (j : ℕ) : Type 0 where
  it : Defined
  found_it : find_definition ds t ≡ some it
  row : RowOf f j it
  low : j < length (spec_entries f.specs)

standing_row : {s : List ℕ} {f : File} {key : ℕ} {ds : Definitions} (t : Word) (j : ℕ) → Situation s f → ScopeAt f key ds → (o : Option Defined) → find_definition ds t ≡ o → Some j ≡ row_found o → Hit f ds t j
unfolding row_found find_definition row_of
standing_row t j k sc none c e = absurd (false≢true (sym (ap is_found e)))
standing_row t j k no_scope (some y) c e = absurd (none≢some c)
standing_row {f = f} {ds = ds} t j k (scope {u = u} h p) (some y) c e =
    let w : j ≡ y.definition.row = ap row_of e in
    let r : RowOf f j y = subst (λ i. RowOf f i y) (sym w) (row_of_definition k p (found_definition ds t c)) in
    record { it = y; found_it = c; row = r; low = nth_low r.nth }

name_cell : {f : File} {d : List ℕ} {j : ℕ} {x : Defined} → d ≡ kept_definitions f → RowOf f j x → j < 513 → get_or d (j * 19 + 2) 0 ≡ x.definition.name.place
unfolding definition_cells
name_cell {f} {d} {j} {x} hd row l = definition_cell f d j 2 (record { under = row.under; outer = row.outer; definition = x.definition; values = x.values }) hd row.nth l (omega arith)

module _ (g rs ws s d e : List ℕ) (x : Known) (i : ℕ) (u : Owner) (o : Owns g rs s d e x i u) where
  by_scope : (r : Maybe Told) → ((f : File) (a : Asked) → Knows s d e x f → RowIs g rs ws i a → (v : Scope) → ScopeIs f v u → r ≡ first_told (in_scope a.wanted (some v)))
      → (u.word ≡ 0 → ⊥) → Finds g rs ws s d e x i r
  unfolding finding
  by_scope r h n f a k ri = by (along (scope_of f a.kind) a.path) (o ws f a k ri)
    where
      by : (y : Option Scope) → Reaches f y u → r ≡ first_told (in_scope a.wanted y)
      by _ (nowhere z) = absurd (n z)
      by _ (reaches {u = v} z) = h f a k ri v z

  pub not_asked : u.word ≡ 0 → Finds g rs ws s d e x i None
  unfolding finding in_scope first_told
  not_asked n f a k ri = by (along (scope_of f a.kind) a.path) (o ws f a k ri)
    where
      by : (y : Option Scope) → Reaches f y u → None ≡ first_told (in_scope a.wanted y)
      by _ (nowhere z) = refl
      by _ (reaches z) = absurd (let t = z.there in omega (arith, t, n))

  module _ (n : u.word ≡ 0 → ⊥) (at len : ℕ) (b : List ℕ) (e₁ : at ≡ get_or rs (i * 14 + 1) 0) (e₂ : len ≡ get_or rs (i * 14 + 2) 0) (hb : b ≡ part_of g at len)
      (z : Found) (hz : FindsAttribute s d x.definitions u.key b z) where
    looked_up : (f : File) (a : Asked) → Knows s d e x f → RowIs g rs ws i a → (v : Scope) → ScopeIs f v u → z ≡ row_found (find_definition v.definitions a.wanted.definition.name)
    looked_up f a k ri v y =
        let l = k.definitions_fit in
        hz f v.definitions a.wanted.definition.name k.situation k.in_definitions k.definitions (omega (arith, l)) y.at
        (ri.name ∙ sym (hb ∙ ap₂ (part_of g) e₁ e₂))

    pub is_absent : z ≡ None → Finds g rs ws s d e x i (Some (record { place = u.word; number = 25; attribute = i }))
    unfolding in_scope found finding_if first_told
    is_absent t = by_scope _ (λ f a k ri v y.
        let c = none_of (find_definition v.definitions a.wanted.definition.name) (sym t ∙ looked_up f a k ri v y) in
        ap₂ (λ (p r : ℕ). Some (record { place = p; number = 25; attribute = r })) (sym y.word) (sym ri.number) ∙ sym (ap (λ (q : Option Defined). first_told (found v.word a.wanted q)) c)) n

    module _ (j : ℕ) (t : z ≡ Some j) (c : Bool) (hc : Differs g rs ws s d e x.enumerators i j c) where
      hit : (f : File) (a : Asked) → Knows s d e x f → RowIs g rs ws i a → (v : Scope) → ScopeIs f v u → Hit f v.definitions a.wanted.definition.name j
      hit f a k ri v y =
          standing_row a.wanted.definition.name j k.situation y.at (find_definition v.definitions a.wanted.definition.name) refl (sym t ∙ looked_up f a k ri v y)

      low_row : (f : File) (a : Asked) → Knows s d e x f → (ds : Definitions) → Hit f ds a.wanted.definition.name j → j < 513
      low_row f a k ds h = let p = h.low in let l = k.definitions_fit in let q = k.definitions in omega (arith, p, l, q)

      was_found : (f : File) (a : Asked) → Knows s d e x f → RowIs g rs ws i a → (v : Scope) (y : ScopeIs f v u)
          → first_told (in_scope a.wanted (some v)) ≡ first_told (finding_if c (get_or d (j * 19 + 2) 0) 26 a.wanted.definition.row)
      unfolding in_scope found
      was_found f a k ri v y =
          let h = hit f a k ri v y in
          let l = low_row f a k v.definitions h in
          ap (λ (q : Option Defined). first_told (found v.word a.wanted q)) h.found_it
          ∙ ap₂ (λ (w : Bool) (p : ℕ). first_told (finding_if w p 26 a.wanted.definition.row))
          (sym (hc f h.it a k.situation k.in_definitions k.in_enumerators h.row l (all_reached k) ri)) (sym (name_cell k.in_definitions h.row l))

      pub is-different : c ≡ true → (p : ℕ) → p ≡ get_or d (j * 19 + 2) 0 → Finds g rs ws s d e x i (Some (record { place = p; number = 26; attribute = i }))
      unfolding finding_if first_told
      is-different v p q = by_scope _ (λ f a k ri w y.
          ap₂ (λ (p' r : ℕ). Some (record { place = p'; number = 26; attribute = r })) q (sym ri.number) ∙ sym (was_found f a k ri w y ∙ ap (λ (b' : Bool). first_told (finding_if b' (get_or d (j * 19 + 2) 0) 26 a.wanted.definition.row)) v)) n

      pub is_same : c ≡ false → Finds g rs ws s d e x i None
      unfolding finding_if first_told
      is_same v = by_scope _ (λ f a k ri w y. sym (was_found f a k ri w y ∙ ap (λ (b' : Bool). first_told (finding_if b' (get_or d (j * 19 + 2) 0) 26 a.wanted.definition.row)) v)) n
