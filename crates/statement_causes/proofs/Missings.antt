-- What is missing: the laws over the rows of the definitions. Assumes nothing.
use mathlib.Core.Path.{◌≡◌, refl, sym, ◌∙◌, ap, subst}
use mathlib.Core.List.{List, []}
use mathlib.Core.Bool.{Bool, true, false, not, false≢true}
use mathlib.Core.Option.{Option, none, some}
use Prim.Native.Nat.{ℕ, suc, ◌+◌, ◌*◌, ◌≤◌, ◌<◌}
use native.Mathlib.Omega.{arith}
use native.Mathlib.Decide.{ℕ_discrete, dec_lt}
use lib.ListN.{get_or}
use lib.Dec.{eqb}
use borrow.Author.Tests.{eq-eqb, ne_eqb, eqb-true}
use Rattle.token.specs.Find.{pick, both, bit}
use Rattle.token.proofs.Bytes.{both_false}
use Rattle.std.specs.Prelude.{Some, None}
use Rattle.rows.specs.Search.{has_key, find_row}
use Rattle.rows.proofs.Searches.{found_first, nothing_none}
use Rattle.meaning.specs.Syntax.{Word, Definitions, no_more, define, Defined, Statements, done, state, File, statements_in}
use Rattle.meaning.specs.Words.{among}
use Rattle.meaning.specs.Kinds.{kind_number}
use Rattle.meaning.specs.Scopes.{Under, find_value, definitions_or, under, names, find_definition, of_kind}
use Rattle.meaning.specs.Judging.{taken, lacking, lacks, lacks_under}
use Rattle.meaning.proofs.Unders.{lacks_there}
use Rattle.layout.specs.Kept.{spec_entries, statement_count, kind_place}
use Rattle.blocks.specs.Blocks.{BlockAt, IsStated, row_after}
use Rattle.blocks.proofs.Ranges.{first_after, inside_at, in_then, back_at}
use Rattle.scopes.specs.Situations.{HasDefinition, this_definition, later_definition, Stands, ScopeAt, no_scope, scope}
use Rattle.scopes.specs.Given.{Given, Attribute, Below}
use Rattle.scopes.specs.Promises.{place_found, FindsWord}
use Rattle.scopes.specs.declared.Sizes.{Sizes}
use Rattle.scopes.proofs.Rooms.{nth_of}
use Rattle.scopes.proofs.Descents.{found_value, scope_under, scope_of_kind}
use Rattle.lookups.proofs.Standings.{file_stands}
use Rattle.lookups.proofs.Attributes.{AttributeRow, under_cell, stands_below, known, name_at, value_below, none_given, not_taken, nothing_at, kept_object}
use Rattle.judging.specs.Promises.{needed, lack, HasRow}
use Rattle.judging.proofs.Lacking.{none_lacks, taking}
use Rattle.judging.proofs.Standings.{in_scope}
use Rattle.statement_causes.specs.Sites.{inner}
use Rattle.statement_causes.specs.Tellings.{Missing, nothing, itself, by_default, owner_inside, no_owner, an_owner}
use Rattle.statement_causes.specs.Promises.{FindsInner, no_spot, a_spot, single_place, RowMisses, MissesRow, MissesIn, Misses, MissesObject, MissesInside}
use Rattle.statement_causes.specs.declared.Spot.{Spot}

-- No definition is one of none.
unfoldable some_there : Definitions → Bool
some_there no_more = false
some_there (define d vs ds) = true

has_some : {ds : Definitions} {x : Defined} → HasDefinition ds x → some_there ds ≡ true
unfolding some_there
has_some this_definition = refl
has_some (later_definition h) = refl

below_none : (n : ℕ) → Below n no_more
unfolding some_there
below_none n x h = absurd (false≢true (has_some h))

-- One attribute -------------------------------------------------------------------------------------------------------------------------------

-- It takes no default: it is single.
needs_none : (x : Defined) → taken x.definition.default ≡ none → needed x ≡ not x.definition.list
unfolding needed lacking
needs_none x h = ap (λ o. lacking o x.definition.list (λ t. lacks_under x.values t)) h

-- It takes its default: what is under that.
needs_default : (x : Defined) (t : Word) → taken x.definition.default ≡ some t → needed x ≡ lacks (under x.values t) []
unfolding needed lacking
needs_default x t h = ap (λ o. lacking o x.definition.list (λ w. lacks_under x.values w)) h ∙ lacks_there x.values t

lack_stated : (x : Defined) (ns : List Word) → among x.definition.name ns ≡ true → lack x ns ≡ false
unfolding lack
lack_stated x ns h = ap (λ b. both (not b) (needed x)) h

lack_needless : (x : Defined) (ns : List Word) → needed x ≡ false → lack x ns ≡ false
unfolding lack
lack_needless x ns h = ap (both (not (among x.definition.name ns))) h ∙ both_false (not (among x.definition.name ns))

module _ {s d e o st : List ℕ} {z : Sizes} {f : File} {u : Word} {ds : Definitions} {ss : Statements} {x : Defined} {j m v : ℕ} (c : Given s d e o st z f) (w : Stands f.specs u ds)
    (b : BlockAt s st m v ss) (h : HasDefinition ds x) (k : x.definition.row ≡ j) where
  own : Attribute f j x
  own = record { under = u; scope = ds; stands = w; has = h; row = k }

  row : AttributeRow s d f u j x
  unfolding own
  row = known c.tables own

  stated_by : (at len : ℕ) (t : Bool) → at ≡ get_or d (j * 19 + 2) 0 → len ≡ get_or d (j * 19 + 3) 0 → IsStated s st m v at len t → t ≡ among x.definition.name (names ss)
  stated_by at len t p q g = g ss x.definition.name b (name_at c.tables own at len p q)

  single_by : (l : Bool) → x.definition.list ≡ l → among x.definition.name (names ss) ≡ false → taken x.definition.default ≡ none → RowMisses ds (names ss) x (single_place d j)
  unfolding single_place bit
  single_by true e n t =
      let r : single_place d j ≡ 0 = ap (λ i. pick (eqb i 0) (get_or d (j * 19 + 2) 0) 0) (row.list_mark ∙ ap bit e) in
      record { none = λ _. lack_needless x (names ss) (needs_none x t ∙ ap not e); some = λ q. absurd (q r) }
  single_by false e n t =
      let r : single_place d j ≡ x.definition.name.place = ap (λ i. pick (eqb i 0) (get_or d (j * 19 + 2) 0) 0) (row.list_mark ∙ ap bit e) ∙ row.name_place in
      let l = row.name.later in
      record {
        none = λ q. absurd (omega (arith, q, r, l));
        some = λ _. subst (Missing ds (names ss)) (sym r) (itself h n t e);
      }

  under_by : (t : Word) (key r : ℕ) → among x.definition.name (names ss) ≡ false → taken x.definition.default ≡ some t → key ≡ place_found (find_value x.values t)
      → Misses s d e st z j key 0 0 r → RowMisses ds (names ss) x r
  unfolding names under definitions_or place_found
  under_by t key r n a p g = by (find_value x.values t) refl
    where
      sc : ScopeAt f key (under x.values t)
      sc = subst (λ q. ScopeAt f q (under x.values t)) (sym p) (scope_under t c.tables.situation row.row_of)

      low : j ≤ z.definitions
      low = let l = stands_below c.tables w x h in omega (arith, l, k)

      by-misses : MissesIn (under x.values t) [] r → RowMisses ds (names ss) x r
      by-misses y = record {
        none = λ q. lack_needless x (names ss) (needs_default x t a ∙ y.none q);
        some = λ q. by_default h n a q y.missing;
      }

      by : (q : Option Under) → find_value x.values t ≡ q → RowMisses ds (names ss) x r
      by none q = by-misses (g o f (under x.values t) done c sc (nothing_at c) low (subst (λ (y : Option Under). Below j (definitions_or y)) (sym q) (below_none j)))
      by (some y) q =
          by-misses (g o f (under x.values t) done c sc (nothing_at c) low
          (subst (λ (y : Option Under). Below j (definitions_or y)) (sym q) (value_below c.tables.situation own (found_value x.values t q))))

module _ (d : List ℕ) (j : ℕ) where
  pub single_one : get_or d (j * 19 + 6) 0 ≡ 0 → get_or d (j * 19 + 2) 0 ≡ single_place d j
  unfolding single_place
  single_one h = sym (ap (λ b. pick b (get_or d (j * 19 + 2) 0) 0) (eq-eqb (get_or d (j * 19 + 6) 0) 0 h))

  pub single_list : (get_or d (j * 19 + 6) 0 ≡ 0 → ⊥) → 0 ≡ single_place d j
  unfolding single_place
  single_list h = sym (ap (λ b. pick b (get_or d (j * 19 + 2) 0) 0) (ne_eqb (get_or d (j * 19 + 6) 0) 0 h))

-- The cases of the attribute of row j: it is stated,
module _ (s d e st : List ℕ) (z : Sizes) (j m v at len : ℕ) (p : at ≡ get_or d (j * 19 + 2) 0) (q : len ≡ get_or d (j * 19 + 3) 0) where
  pub row_stated : IsStated s st m v at len true → MissesRow s d e st z j m v 0
  row_stated g o f u ds ss x c w b h k =
      record { none = λ _. lack_stated x (names ss) (sym (stated_by c w b h k at len true p q g)); some = λ r. absurd (r refl) }

  module _ (g : IsStated s st m v at len false) where
    -- it has no default,
    pub row_no_size : get_or d (j * 19 + 11) 0 ≡ 0 → MissesRow s d e st z j m v (single_place d j)
    row_no_size i o f u ds ss x c w b h k =
        single_by c w b h k x.definition.list refl (sym (stated_by c w b h k at len false p q g)) (none_given (row c w b h k) i)

    -- or NO_DEFAULT,
    pub row_no_default : get_or d (j * 19 + 18) 0 ≡ 4 → MissesRow s d e st z j m v (single_place d j)
    row_no_default i o f u ds ss x c w b h k =
        single_by c w b h k x.definition.list refl (sym (stated_by c w b h k at len false p q g)) (not_taken (row c w b h k) i)

    -- or takes its default.
    pub row_default : (at₂ len₂ key r : ℕ) → at₂ ≡ get_or d (j * 19 + 10) 0 → len₂ ≡ get_or d (j * 19 + 11) 0 → (len₂ ≡ 0 → ⊥) → (get_or d (j * 19 + 18) 0 ≡ 4 → ⊥)
        → FindsWord s d e z.enumerators j at₂ len₂ key → Misses s d e st z j key 0 0 r → MissesRow s d e st z j m v r
    unfolding own
    row_default at₂ len₂ key r pa pl n i y g₂ o f u ds ss x c w b h k =
        let t = taking c (own c w b h k) at₂ len₂ key pa pl n i y in
        under_by c w b h k t.word_of key r (sym (stated_by c w b h k at len false p q g)) t.takes t.key_is g₂

-- A scope -------------------------------------------------------------------------------------------------------------------------------------

no_key : (d : List ℕ) (i key : ℕ) → has_key d (i * 19) 0 key ≡ false → get_or d (i * 19 + 0) 0 ≡ key → ⊥
unfolding has_key
no_key d i key h e = false≢true (sym h ∙ eq-eqb (get_or d (i * 19 + 0) 0) key e)

num_has_key : (d : List ℕ) (i key : ℕ) → has_key d (i * 19) 0 key ≡ true → get_or d (i * 19 + 0) 0 ≡ key
unfolding has_key
num_has_key d i key h = eqb-true (get_or d (i * 19 + 0) 0) key h

-- The loop over the rows: none of those passed lacks its statement.
abbrev pub Over : (s d e st : List ℕ) → Sizes → (key m v i : ℕ) → Type 0
Over s d e st z key m v i =
    (o : List ℕ) (f : File) (u : Word) (ds : Definitions) (ss : Statements) → Given s d e o st z f → Stands f.specs u ds → u.place ≡ key → BlockAt s st m v ss
    → (x : Defined) → HasDefinition ds x → x.definition.row < i → lack x (names ss) ≡ false

-- The row found is not before, and one of the first n.
module _ (d : List ℕ) (n key i j : ℕ) (g : find_row d 19 n 0 key i ≡ Some j) where
  pub found_low : i ≤ j
  unfolding find_row
  found_low = (found_first (λ k. has_key d (k * 19) 0 key) n i j g).low

  pub found_high : j < n
  unfolding find_row
  found_high = (found_first (λ k. has_key d (k * 19) 0 key) n i j g).high

module _ (s d e st : List ℕ) (z : Sizes) (n key m v : ℕ) where
  -- The place 0 is no word's.
  pub misses_nowhere : key ≡ 0 → Misses s d e st z n key m v 0
  unfolding lacks
  misses_nowhere h o f ds ss c w b l r = go w h
    where
      go : {k : ℕ} {us : Definitions} → ScopeAt f k us → k ≡ 0 → MissesIn us (names ss) 0
      go no_scope q = record { missing = nothing refl; none = λ _. refl }
      go (scope g t) q = let l = (file_stands c.tables.situation t).0.later in absurd (omega (arith, l, g, q))

  pub over_start : Over s d e st z key m v 0
  over_start o f u ds ss c w p b x h k = absurd (omega arith)

  -- None lacks anything.
  over_all : (key ≡ 0 → ⊥) → Over s d e st z key m v n → Misses s d e st z n key m v 0
  over_all k₀ g o f ds ss c w b l r = go w k₀ g r
    where
      go : {k : ℕ} {us : Definitions} → ScopeAt f k us → (k ≡ 0 → ⊥) → Over s d e st z k m v n → Below n us → MissesIn us (names ss) 0
      go no_scope q i r = absurd (q refl)
      go (scope {u} {ds = us} g t) q i r =
          let a : lacks us (names ss) ≡ false = none_lacks us (names ss) (λ x h. i o f u us ss c t g b x h (r x h)) in
          record { missing = nothing a; none = λ _. a }

  pub over_end : (i : ℕ) → (key ≡ 0 → ⊥) → n ≤ i → Over s d e st z key m v i → Misses s d e st z n key m v 0
  over_end i k₀ h g = over_all k₀ (λ o f u ds ss c w p b x y k. g o f u ds ss c w p b x y (omega (arith, h, k)))

  -- The rows up to the next one under the word.
  over_on : (i j : ℕ) → ((k : ℕ) → i ≤ k → k < j → has_key d (k * 19) 0 key ≡ false) → Over s d e st z key m v i → Over s d e st z key m v j
  over_on i j g a o f u ds ss c w p b x h k = go (dec_lt x.definition.row i)
    where
      go : Dec (x.definition.row < i) → lack x (names ss) ≡ false
      go (yes r) = a o f u ds ss c w p b x h r
      go (no r) =
          absurd (no_key d x.definition.row key (g x.definition.row (omega (arith, r)) k) ((row {m = m} {v = v} c w b h refl).under_place ∙ p))

  -- There is none left.
  pub over_none : (i : ℕ) → (key ≡ 0 → ⊥) → find_row d 19 n 0 key i ≡ None → Over s d e st z key m v i → Misses s d e st z n key m v 0
  unfolding find_row
  over_none i k₀ g a = over_all k₀ (over_on i n (nothing_none (λ k. has_key d (k * 19) 0 key) n i g) a)

  module _ (i j r : ℕ) (g : find_row d 19 n 0 key i ≡ Some j) (w : MissesRow s d e st z j m v r) where
    pub over_more : r ≡ 0 → Over s d e st z key m v i → Over s d e st z key m v (j + 1)
    unfolding find_row
    over_more q a o f u ds ss c t p b x h k = go (ℕ_discrete x.definition.row j)
      where
        go : Dec (x.definition.row ≡ j) → lack x (names ss) ≡ false
        go (yes y) = (w o f u ds ss x c t b h y).none q
        go (no y) = over_on i j (found_first (λ k. has_key d (k * 19) 0 key) n i j g).fails a o f u ds ss c t p b x h (omega (arith, y, k))

    pub over_stop : (r ≡ 0 → ⊥) → (key ≡ 0 → ⊥) → Misses s d e st z n key m v r
    unfolding find_row
    over_stop q k₀ o f ds ss c sc b l below = go sc k₀ (num_has_key d j key (found_first (λ k. has_key d (k * 19) 0 key) n i j g).holds)
      where
        high : j < n
        high = (found_first (λ k. has_key d (k * 19) 0 key) n i j g).high

        go : {k : ℕ} {us : Definitions} → ScopeAt f k us → (k ≡ 0 → ⊥) → get_or d (j * 19 + 0) 0 ≡ k → MissesIn us (names ss) r
        go no_scope y a = absurd (y refl)
        go (scope {u} {ds = us} i₀ t) y a =
            let T = c.tables in
            let l₁ = T.definitions in
            let e = nth_of (spec_entries f.specs) j (omega (arith, high, l, l₁)) in
            let x : HasRow us j = in_scope T.situation t e.nth (sym (under_cell T e.nth) ∙ a ∙ sym i₀) in
            record { missing = (w o f u us ss x.defined c t b x.has x.row).some q; none = λ y. absurd (q y) }

-- Owners --------------------------------------------------------------------------------------------------------------------------------------

-- All definitions of a scope are among the rows.
scope_below : {s d e o st : List ℕ} {z : Sizes} {f : File} {k : ℕ} {ds : Definitions} → Given s d e o st z f → ScopeAt f k ds → Below z.definitions ds
scope_below {z = z} c no_scope = below_none z.definitions
scope_below c (scope g t) = stands_below c.tables t

pub object_misses : (s d e o st : List ℕ) (z : Sizes) (ps : List ℕ) (i kind key m n r : ℕ) → kind ≡ get_or o (i * 10 + 0) 0 → key ≡ get_or ps kind 0
    → m ≡ get_or o (i * 10 + 8) 0 → n ≡ get_or o (i * 10 + 9) 0 → Misses s d e st z z.definitions key m n r → MissesObject s d e o st z ps i r
object_misses s d e o st z ps i kind key m n r pk py pm pn g f front x rest c pl w q =
    let R = kept_object front x rest c w q in
    let kind_is : kind ≡ kind_number x.kind = pk ∙ R.kind in
    let key_is : key ≡ kind_place (kind_number x.kind) f.specs = py ∙ ap (λ a. get_or ps a 0) kind_is ∙ pl.place x.kind in
    let m-is : m ≡ statement_count front = pm ∙ R.from in
    let n_is : n ≡ statement_count front + statements_in x.statements = pn ∙ R.till in
    let sc : ScopeAt f key (of_kind x.kind f.specs) = subst (λ a. ScopeAt f a (of_kind x.kind f.specs)) (sym key_is) (scope_of_kind f x.kind) in
    (g o f (of_kind x.kind f.specs) x.statements c sc
    (subst (λ a. BlockAt s st a n x.statements) (sym m-is) (subst (λ a. BlockAt s st (statement_count front) a x.statements) (sym n_is) R.block))
    (omega arith) (scope_below c sc)).missing

module _ (s d e st : List ℕ) (z : Sizes) (t : Spot) where
  pub inside_none : t.found ≡ false → MissesInside s d e st z t 0
  unfolding owner_inside
  inside_none h o f none c (no_spot y) = no_owner refl
  inside_none h o f (some q) c (a_spot y) = absurd (false≢true (sym h ∙ y.found))

  -- No statement's row is past its block.
  pub inside_past : t.end ≤ t.row → MissesInside s d e st z t 0
  unfolding owner_inside statements_in
  inside_past h o f none c (no_spot y) = no_owner refl
  inside_past h o f (some q) c (a_spot y) =
      let a = y.block.after in
      let b = in_then q.before (state q.statement q.inside q.rest) in
      let i = y.row in
      absurd (omega (arith, h, a, b, i))

  pub inside_misses : (next key r : ℕ) → t.found ≡ true → next ≡ row_after st t.row t.end → FindsInner s d e st z t.key t.row key
      → Misses s d e st z z.definitions key (t.row + 1) next r → MissesInside s d e st z t r
  unfolding owner_inside
  inside_misses next key r h p g w o f none c (no_spot y) = absurd (false≢true (sym y ∙ h))
  inside_misses next key r h p g w o f (some q) c (a_spot y) =
      let ss = state q.statement q.inside q.rest in
      let bb : BlockAt s st t.row t.end ss = subst (λ u. BlockAt s st u t.end ss) (sym y.row) (back_at q.before ss y.block) in
      let a = p ∙ first_after bb in
      let k₁ : suc t.row ≡ t.row + 1 = omega arith in
      let bi : BlockAt s st (t.row + 1) next q.inside = subst (λ u. BlockAt s st u next q.inside) k₁ (subst (λ u. BlockAt s st (suc t.row) u q.inside) (sym a) (inside_at bb)) in
      let us = inner (find_definition q.scope q.statement.name) q.statement in
      let sc : ScopeAt f key us = g o f q.scope q.statement q.inside q.rest t.end c y.scope bb in
      an_owner (w o f us q.inside c sc bi (omega arith) (scope_below c sc)).missing
