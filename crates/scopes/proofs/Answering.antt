-- What the lookups in the tables find is what the meaning has. Assumes nothing.
use mathlib.Core.Path.{◌≡◌, refl, sym, ◌∙◌, ap, ap₂}
use mathlib.Core.List.{List, [], ◌∷◌, ◌++◌, append-nil}
use mathlib.Core.Bool.{Bool, true, false, false≢true}
use mathlib.Core.Option.{Option, none, some}
use Prim.Native.Nat.{ℕ, suc, ◌+◌, ◌*◌}
use native.Mathlib.Omega.{arith}
use lib.ListN.{length, get_or}
use lib.Dec.{eqb}
use borrow.Author.Tests.{ne_eqb}
use Rattle.meaning.proofs.Unplaced.{if_there}
use Rattle.token.specs.Find.{pick, both}
use Rattle.token.specs.Words.{same}
use Rattle.token.specs.Tokens.{part_of}
use Rattle.token.proofs.Bytes.{eqb_sym}
use Rattle.grammar.specs.Grammar.{Kind}
use Rattle.rows.specs.Found.{Found}
use Rattle.std.specs.Prelude.{Some, None}
use Rattle.rows.proofs.Walks.{first, any_of}
use Rattle.rows.specs.Search.{find_named}
use Rattle.meaning.specs.Kinds.{kind_number, same_kind}
use Rattle.meaning.specs.Syntax.{Word, span_of, Definition, Definitions, no_more, define, Values, no_value, value, Defined, Spec, Object, File, is_enum}
use Rattle.meaning.specs.Words.{alike}
use Rattle.meaning.specs.Normal.{part}
use Rattle.meaning.specs.Scopes.{Under, find_definition, find_value, find_object}
use Rattle.meaning.specs.Defining.{DefinitionRow, definition_row, definition_rows, definition_rows_under, all_definition_rows}
use Rattle.meaning.proofs.Sites.{definition_words, statement_words, object_words}
use Rattle.meaning.proofs.Numbering.{Counts, object_numbers}
use Rattle.meaning.proofs.Standing.{Standing, standing_if, select, counts_head, counts_tail}
use Rattle.meaning.proofs.Lookups.{InText, first_standing, row_under, finds_definition}
use Rattle.layout.specs.Kept.{Entry, list_key, entries, entries_under, spec_entries, spec_choices, kept_enumerators, choice_cells}
use Rattle.scopes.specs.Situations.{Situation, ScopeAt, no_scope, scope, Reached}
use Rattle.scopes.specs.Given.{entry_rows}
use Rattle.scopes.proofs.Forms.{NotEmpty, Formed, an_integer, a_string, a_boolean, an_enum, a_float, a_reference}
use Rattle.scopes.specs.Promises.{row_found, number_found, object_found, FindsDefinition, FindsObject}
use Rattle.scopes.proofs.Goodness.{Good, Goods, good_back, object_good}
use Rattle.scopes.proofs.Finding.{is_row, is_choice, is_object, first_front, none_first, none_chosen, first_one, found_one, found_below, find_in_definitions, find_in_enumerators, find_in_objects}
use Rattle.scopes.proofs.Rooms.{choice_cell}
use Rattle.scopes.proofs.Lists.{chosen}
use Rattle.scopes.proofs.Descents.{In, here, there, whole, entry_facts, scope_facts}

-- Definitions --------------------------------------------------------------------------------------------------------------------------------

rows_append : (a b : List Entry) → entry_rows (a ++ b) ≡ entry_rows a ++ entry_rows b
unfolding entry_rows
rows_append [] b = refl
rows_append (x ∷ a) b = ap (λ (l : List DefinitionRow). definition_row x.under x.definition ∷ l) (rows_append a b)

mutual
  unfolding entries definition_rows entry_rows

  rows_of : (ds : Definitions) (u : Word) (o : ℕ) → entry_rows (entries ds u o) ≡ definition_rows ds u
  rows_of no_more u o = refl
  rows_of (define d vs ds) u o =
      rows_append (entries_under vs (list_key vs)) (record { under = u; outer = o; definition = d; values = vs } ∷ entries ds u o)
      ∙ ap₂ (λ (a b : List DefinitionRow). a ++ (definition_row u d ∷ b)) (rows_under vs (list_key vs)) (rows_of ds u o)

  rows_under : (vs : Values) (o : ℕ) → entry_rows (entries_under vs o) ≡ definition_rows_under vs
  rows_under no_value o = refl
  rows_under (value w e us vs) o = rows_append (entries us w o) (entries_under vs o) ∙ ap₂ ◌++◌ (rows_of us w o) (rows_under vs o)

pub spec_rows : (xs : List Spec) → entry_rows (spec_entries xs) ≡ all_definition_rows xs
unfolding spec_entries all_definition_rows entry_rows
spec_rows [] = refl
spec_rows (x ∷ xs) = rows_append (entries x.definitions x.word 0) (spec_entries xs) ∙ ap₂ ◌++◌ (rows_of x.definitions x.word 0) (spec_rows xs)

unfoldable standing_found : Option Standing → Found
standing_found none = None
standing_found (some x) = Some x.number

search_rows : (s : List ℕ) (key at len : ℕ) (t : Word) → t.bytes ≡ part_of s at len → (i : ℕ) (E : List Entry) → ((x : Entry) → In x E → Good s x.definition.name)
    → first (is_row s key at len) Some None i E ≡ standing_found (first_standing s t (select key i (entry_rows E)))
unfolding first is_row select standing_if first_standing standing_found entry_rows definition_row span_of
search_rows s key at len t q i [] g = refl
search_rows s key at len t q i (x ∷ E) g =
    by (eqb x.under.place key) (search_rows s key at len t q (suc i) E (λ y m. g y (there m)))
    (ap₂ same (sym (g x (here refl)).read.bytes ∙ (g x (here refl)).text) (sym q))
  where
    n : List ℕ
    n = part_of s x.definition.name.place x.definition.name.length

    by : (b : Bool) → first (is_row s key at len) Some None (suc i) E ≡ standing_found (first_standing s t (select key (suc i) (entry_rows E)))
        → same (part_of s x.definition.name.place x.definition.name.length) (part_of s at len) ≡ same (part s (span_of x.definition.name)) t.bytes
        → pick (both b (same (part_of s x.definition.name.place x.definition.name.length) (part_of s at len))) (Some i) (first (is_row s key at len) Some None (suc i) E)
        ≡ standing_found (first_standing s t (standing_if b i (definition_row x.under x.definition) ++ select key (suc i) (entry_rows E)))
    by false e z = e
    by true e z = ap (λ c. pick c (Some i) (first (is_row s key at len) Some None (suc i) E)) z ∙ pick-it (same (part s (span_of x.definition.name)) t.bytes)
      where
        pick-it : (c : Bool) → pick c (Some i) (first (is_row s key at len) Some None (suc i) E)
            ≡ standing_found (pick c (some (record { number = i; row = definition_row x.under x.definition })) (first_standing s t (select key (suc i) (entry_rows E))))
        pick-it true = refl
        pick-it false = e

found_standing : (u : Word) (o : Option Defined) → standing_found (if_there (row_under u) o) ≡ row_found o
unfolding standing_found if_there row_under row_found
found_standing u none = refl
found_standing u (some x) = refl

-- No row stands under the place 0.
none_at_start : (s : List ℕ) (at len : ℕ) (E : List Entry) → ((x : Entry) → In x E → Good s x.under) → any_of (is_row s 0 at len) E ≡ false
unfolding any_of is_row
none_at_start s at len [] g = refl
none_at_start s at len (x ∷ E) g =
    let l = (g x (here refl)).later in
    rw (ne_eqb x.under.place 0 (λ e. omega arith)) (none_at_start s at len E (λ y m. g y (there m)))

texts : (s : List ℕ) (l : List Word) → Goods s l → InText s l
texts s [] g = tt
texts s (w ∷ l) g = (g.0.text, texts s l g.1)

in_scope : {s : List ℕ} {f : File} (key at len : ℕ) (ds : Definitions) (t : Word) → Situation s f → ScopeAt f key ds → t.bytes ≡ part_of s at len
    → first (is_row s key at len) Some None 0 (spec_entries f.specs) ≡ row_found (find_definition ds t)
unfolding find_definition row_found
in_scope {s} {f} key at len ds t k no_scope q =
    none_first (is_row s 0 at len) (λ j. true) 0 (spec_entries f.specs) (none_at_start s at len (spec_entries f.specs) (λ x m. (entry_facts k m).scope.good))
in_scope {s} {f} key at len ds t k (scope {u} e p) q =
    let c = scope_facts k p in
    let R = all_definition_rows f.specs in
    search_rows s key at len t q 0 (spec_entries f.specs) (λ x m. (entry_facts k m).facts.name)
    ∙ ap (λ r. standing_found (first_standing s t (select key 0 r))) (spec_rows f.specs)
    ∙ ap (λ n. standing_found (first_standing s t (select n 0 R))) (sym e)
    ∙ ap standing_found (finds_definition R u ds s t (texts s (definition_words ds) c.facts.good) c.scope)
    ∙ found_standing u (find_definition ds t)

pub finds_in_scope : (s d : List ℕ) (n key at len : ℕ) (r : Found) → r ≡ find_named s d 19 n 0 key 2 at len 0 → FindsDefinition s d n key at len r
finds_in_scope s d n key at len r e f ds t k h m l p q =
    e ∙ find_in_definitions f s d (spec_entries f.specs) [] n key at len h (sym (append-nil (spec_entries f.specs))) m l ∙ in_scope key at len ds t k p q

-- Enumerators --------------------------------------------------------------------------------------------------------------------------------

some_values : {s : List ℕ} {d : Definition} {vs : Values} → is_enum d.type ≡ true → Formed s d vs → NotEmpty vs
unfolding is_enum
some_values e (an_integer i t c r) = absurd (false≢true (sym (ap is_enum t) ∙ e))
some_values e (a_string t c r) = absurd (false≢true (sym (ap is_enum t) ∙ e))
some_values e (a_float t c r) = absurd (false≢true (sym (ap is_enum t) ∙ e))
some_values e (a_boolean t c b v) = absurd (false≢true (sym (ap is_enum t) ∙ e))
some_values e (an_enum t c b v) = v
some_values e (a_reference k t c b) = absurd (false≢true (sym (ap is_enum t) ∙ e))

pub in_list : {s : List ℕ} {f : File} (e : List ℕ) (x : Entry) (m at len : ℕ) (t : Word) → Situation s f → In x (spec_entries f.specs) → e ≡ kept_enumerators f
    → is_enum x.definition.type ≡ true → Reached f m x.values → t.bytes ≡ part_of s at len
    → find_named s e 3 m 0 (list_key x.values) 1 at len 0 ≡ number_found (find_value x.values t)
in_list {s} {f} e x m at len t k i h b r q =
    let g = (entry_facts k i).facts in
    let key = list_key x.values in
    let p = is_choice s key at len in
    find_in_enumerators f s e r.front r.rest m key at len h r.whole (sym r.many) r.room
    ∙ sym (first_front p (λ j. true) 0 r.front r.rest (none_chosen s key at len r.rest r.free))
    ∙ ap (first p Some None 0) (sym r.whole)
    ∙ (g.own b (some_values b g.formed)).number at len t q

-- The row that is found has the value's word.
pub word_in_list : {s : List ℕ} {f : File} (e : List ℕ) (x : Entry) (m at len j : ℕ) (t : Word) (v : Under) → Situation s f → In x (spec_entries f.specs) → e ≡ kept_enumerators f
    → is_enum x.definition.type ≡ true → Reached f m x.values → t.bytes ≡ part_of s at len → find_value x.values t ≡ some v → j ≡ v.number
    → get_or e (j * 3 + 1) 0 ≡ v.word.place
unfolding number_found chosen choice_cells
word_in_list {s} {f} e x m at len j t v k i h b r q z y =
    let g = (entry_facts k i).facts in
    let o = g.own b (some_values b g.formed) in
    let key = list_key x.values in
    let p = is_choice s key at len in
    let n : first p Some None 0 r.front ≡ Some j =
    sym (first_front p (λ j. true) 0 r.front r.rest (none_chosen s key at len r.rest r.free))
    ∙ ap (first p Some None 0) (sym r.whole) ∙ o.number at len t q ∙ ap number_found z ∙ ap Some (sym y) in
    let n₀ : first p Some None 0 (spec_choices f.specs) ≡ Some j = o.number at len t q ∙ ap number_found z ∙ ap Some (sym y) in
    let w : first_one p (spec_choices f.specs) ≡ some (record { list = key; word = v.word }) = o.word at len t q ∙ ap (chosen key) z in
    let l = found_below p (λ j. true) r.front j n in
    let u = r.many in
    let a = r.room in
    choice_cell f e j 1 (record { list = key; word = v.word }) h (found_one p (spec_choices f.specs) j (record { list = key; word = v.word }) n₀ w) (omega arith) (omega arith)

-- Objects ------------------------------------------------------------------------------------------------------------------------------------

search_objects : (s : List ℕ) (k : Kind) (at len : ℕ) (t : Word) → t.bytes ≡ part_of s at len → (i : ℕ) (os : List Object) → Goods s (object_words os) → Counts i (object_numbers os)
    → first (is_object s (kind_number k) at len) Some None i os ≡ object_found (find_object k os t)
unfolding first is_object find_object object_found object_words object_numbers same_kind alike
search_objects s k at len t q i [] g c = refl
search_objects s k at len t q i (x ∷ os) g c =
    ap₂ (λ a b. pick (both a b) (Some i) (first (is_object s (kind_number k) at len) Some None (suc i) os)) (eqb_sym (kind_number x.kind) (kind_number k))
    (ap₂ same (sym g.1.0.read.bytes) (sym q))
    ∙ by (both (eqb (kind_number k) (kind_number x.kind)) (same x.name.bytes t.bytes))
    (search_objects s k at len t q (suc i) os (good_back s (statement_words x.statements) (object_words os) g.1.1) (counts_tail c)) (sym (counts_head c))
  where
    by : (b : Bool) → first (is_object s (kind_number k) at len) Some None (suc i) os ≡ object_found (find_object k os t) → i ≡ x.row
        → pick b (Some i) (first (is_object s (kind_number k) at len) Some None (suc i) os) ≡ object_found (pick b (some x) (find_object k os t))
    by true e n = ap Some n
    by false e n = e

pub finds_in_objects : (s o : List ℕ) (n kind at len : ℕ) (r : Found) → r ≡ find_named s o 10 n 0 kind 3 at len 0 → FindsObject s o n kind at len r
finds_in_objects s o n kind at len r e f k t z h m l p q =
    let w = whole z in
    e ∙ ap (λ c. find_named s o 10 n 0 c 3 at len 0) p
    ∙ find_in_objects f s o f.objects [] n (kind_number k) at len h (sym (append-nil f.objects)) m l
    ∙ search_objects s k at len t q 0 f.objects (object_good s f w.merged w.good) w.numbers.1.0
