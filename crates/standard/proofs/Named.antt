-- What a lookup by bytes finds is what the scope has. Assumes nothing.
use mathlib.Core.Path.{◌≡◌, refl, sym, ◌∙◌, ap, ap₂}
use mathlib.Core.List.{List, [], ◌∷◌, ◌++◌, append-nil}
use mathlib.Core.Bool.{Bool, true, false}
use mathlib.Core.Option.{Option, none, some}
use Prim.Native.Nat.{ℕ, suc, ◌+◌, ◌*◌, ◌≤◌}
use native.Mathlib.Omega.{arith}
use lib.ListN.{length, get_or}
use lib.Dec.{eqb}
use borrow.Author.Tests.{eq-eqb, ne_eqb}
use Rattle.token.specs.Find.{pick, both}
use Rattle.token.specs.Words.{same}
use Rattle.token.specs.Tokens.{part_of}
use Rattle.rows.specs.Found.{Found}
use Rattle.std.specs.Prelude.{Some, None}
use Rattle.rows.proofs.Walks.{first, any_of}
use Rattle.rows.specs.Search.{find_from, has_key}
use Rattle.meaning.proofs.Unplaced.{if_there}
use Rattle.meaning.specs.Syntax.{Word, span_of, Definitions, Defined, File}
use Rattle.meaning.specs.Normal.{part}
use Rattle.meaning.specs.Scopes.{find_definition}
use Rattle.meaning.specs.Defining.{definition_row, all_definition_rows}
use Rattle.meaning.proofs.Sites.{definition_words}
use Rattle.meaning.proofs.Standing.{Standing, standing_if, select}
use Rattle.meaning.proofs.Lookups.{InText, first_standing, row_under, finds_definition}
use Rattle.layout.specs.Kept.{Entry, spec_entries, kept_definitions, definition_cells}
use Rattle.scopes.specs.Situations.{Situation, ScopeAt, no_scope, scope}
use Rattle.scopes.specs.Given.{entry_rows}
use Rattle.scopes.specs.Promises.{row_found}
use Rattle.scopes.proofs.Goodness.{Good, Goods}
use Rattle.scopes.proofs.Finding.{seek_all, none_first, nth_front, below_front}
use Rattle.scopes.proofs.Rooms.{definition_cell}
use Rattle.scopes.proofs.Answering.{spec_rows}
use Rattle.scopes.proofs.Descents.{In, here, there, entry_facts, scope_facts}
use Rattle.standard.specs.Naming.{is_named_under, FindsAttribute}
use Rattle.standard.specs.declared.naming.Columns.{Columns}

-- row i stands under the word at key, and its name has the bytes b
unfoldable pub is_attribute : List ℕ → List ℕ → (key i : ℕ) → List ℕ → Bool
is_attribute s d key i b = both (has_key d (i * 19) 0 key) (same (part_of s (get_or d (i * 19 + 2) 0) (get_or d (i * 19 + 3) 0)) b)

-- the first of the rows from i on, below n
unfoldable pub find_attribute : List ℕ → List ℕ → (n key : ℕ) → List ℕ → ℕ → Found
find_attribute s d n key b i = find_from (λ j. is_attribute s d key j b) n i

-- The tests of the code --------------------------------------------------------------------------------------------------------------------

pub other_key : (s t : List ℕ) (c : Columns) (key i : ℕ) (b : List ℕ) → (get_or t (i * c.width + c.under) 0 ≡ key → ⊥) → is_named_under s t c key i b ≡ false
unfolding is_named_under has_key
other_key s t c key i b h = rw (ne_eqb (get_or t (i * c.width + c.under) 0) key h)

pub its_key : (s t : List ℕ) (c : Columns) (key i : ℕ) (b : List ℕ) (p n : ℕ) → get_or t (i * c.width + c.under) 0 ≡ key → p ≡ get_or t (i * c.width + c.name) 0
    → n ≡ get_or t (i * c.width + c.length) 0 → same (part_of s p n) b ≡ is_named_under s t c key i b
unfolding is_named_under has_key
its_key s t c key i b p n h e g = rw (h, e, g, eq-eqb key key refl)

pub of_attributes : (s d : List ℕ) (n key : ℕ) (b : List ℕ)
    → find_from (λ i. is_named_under s d (record { width = 19; under = 0; name = 2; length = 3 }) key i b) n 0 ≡ find_attribute s d n key b 0
unfolding is_named_under is_attribute find_attribute
of_attributes s d n key b = refl

-- The rows of a scope --------------------------------------------------------------------------------------------------------------------------

unfoldable is_row : List ℕ → ℕ → List ℕ → Entry → Bool
is_row s key b x = both (eqb x.under.place key) (same (part_of s x.definition.name.place x.definition.name.length) b)

attribute_cells : (s l : List ℕ) (key i : ℕ) (b : List ℕ) (x y z : ℕ) → get_or l (i * 19 + 0) 0 ≡ x → get_or l (i * 19 + 2) 0 ≡ y → get_or l (i * 19 + 3) 0 ≡ z
    → is_attribute s l key i b ≡ both (eqb x key) (same (part_of s y z) b)
unfolding is_attribute has_key
attribute_cells s l key i b x y z e f g = rw (e, f, g)

find_in_rows : (f : File) (s d : List ℕ) (n key : ℕ) (b : List ℕ) → d ≡ kept_definitions f → n ≡ length (spec_entries f.specs) → n ≤ 513
    → find_attribute s d n key b 0 ≡ first (is_row s key b) Some None 0 (spec_entries f.specs)
unfolding find_attribute is_row definition_cells
find_in_rows f s d n key b e k h =
    ap (λ (m : ℕ). find_from (λ j. is_attribute s d key j b) m 0) k
    ∙ seek_all (is_row s key b) (λ j. is_attribute s d key j b) (spec_entries f.specs) (λ a x c g.
    let q = nth_front [] (sym (append-nil (spec_entries f.specs))) a x c g in
    let l = below_front (spec_entries f.specs) a x c g in
    attribute_cells s d key (length a) b x.under.place x.definition.name.place x.definition.name.length
    (definition_cell f d (length a) 0 x e q (omega arith) (omega arith))
    (definition_cell f d (length a) 2 x e q (omega arith) (omega arith))
    (definition_cell f d (length a) 3 x e q (omega arith) (omega arith)))

unfoldable standing_found : Option Standing → Found
standing_found none = None
standing_found (some x) = Some x.number

search_rows : (s : List ℕ) (key : ℕ) (n : List ℕ) (t : Word) → t.bytes ≡ n → (i : ℕ) (E : List Entry) → ((x : Entry) → In x E → Good s x.definition.name)
    → first (is_row s key n) Some None i E ≡ standing_found (first_standing s t (select key i (entry_rows E)))
unfolding first is_row select standing_if first_standing standing_found entry_rows definition_row span_of
search_rows s key n t q i [] g = refl
search_rows s key n t q i (x ∷ E) g =
    by (eqb x.under.place key) (search_rows s key n t q (suc i) E (λ y m. g y (there m)))
    (ap₂ same (sym (g x (here refl)).read.bytes ∙ (g x (here refl)).text) (sym q))
  where
    by : (b : Bool) → first (is_row s key n) Some None (suc i) E ≡ standing_found (first_standing s t (select key (suc i) (entry_rows E)))
        → same (part_of s x.definition.name.place x.definition.name.length) n ≡ same (part s (span_of x.definition.name)) t.bytes
        → pick (both b (same (part_of s x.definition.name.place x.definition.name.length) n)) (Some i) (first (is_row s key n) Some None (suc i) E)
        ≡ standing_found (first_standing s t (standing_if b i (definition_row x.under x.definition) ++ select key (suc i) (entry_rows E)))
    by false e z = e
    by true e z = ap (λ c. pick c (Some i) (first (is_row s key n) Some None (suc i) E)) z ∙ pick-it (same (part s (span_of x.definition.name)) t.bytes)
      where
        pick-it : (c : Bool) → pick c (Some i) (first (is_row s key n) Some None (suc i) E)
            ≡ standing_found (pick c (some (record { number = i; row = definition_row x.under x.definition })) (first_standing s t (select key (suc i) (entry_rows E))))
        pick-it true = refl
        pick-it false = e

found_standing : (u : Word) (o : Option Defined) → standing_found (if_there (row_under u) o) ≡ row_found o
unfolding standing_found if_there row_under row_found
found_standing u none = refl
found_standing u (some x) = refl

none_at_start : (s n : List ℕ) (E : List Entry) → ((x : Entry) → In x E → Good s x.under) → any_of (is_row s 0 n) E ≡ false
unfolding any_of is_row
none_at_start s n [] g = refl
none_at_start s n (x ∷ E) g =
    let l = (g x (here refl)).later in
    rw (ne_eqb x.under.place 0 (λ e. omega arith)) (none_at_start s n E (λ y m. g y (there m)))

texts : (s : List ℕ) (l : List Word) → Goods s l → InText s l
texts s [] g = tt
texts s (w ∷ l) g = (g.0.text, texts s l g.1)

in_scope : {s : List ℕ} {f : File} (key : ℕ) (n : List ℕ) (ds : Definitions) (t : Word) → Situation s f → ScopeAt f key ds → t.bytes ≡ n
    → first (is_row s key n) Some None 0 (spec_entries f.specs) ≡ row_found (find_definition ds t)
unfolding find_definition row_found
in_scope {s} {f} key n ds t k no_scope q =
    none_first (is_row s 0 n) (λ j. true) 0 (spec_entries f.specs) (none_at_start s n (spec_entries f.specs) (λ x m. (entry_facts k m).scope.good))
in_scope {s} {f} key n ds t k (scope {u} e p) q =
    let c = scope_facts k p in
    let R = all_definition_rows f.specs in
    search_rows s key n t q 0 (spec_entries f.specs) (λ x m. (entry_facts k m).facts.name)
    ∙ ap (λ r. standing_found (first_standing s t (select key 0 r))) (spec_rows f.specs)
    ∙ ap (λ m. standing_found (first_standing s t (select m 0 R))) (sym e)
    ∙ ap standing_found (finds_definition R u ds s t (texts s (definition_words ds) c.facts.good) c.scope)
    ∙ found_standing u (find_definition ds t)

pub finds_attribute : (s d : List ℕ) (n key : ℕ) (b : List ℕ) (r : Found) → r ≡ find_attribute s d n key b 0 → FindsAttribute s d n key b r
finds_attribute s d n key b r e f ds t k h m l p q = e ∙ find_in_rows f s d n key b h m l ∙ in_scope key b ds t k p q
