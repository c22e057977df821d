-- What the tables of a text tell of each of its resolved values: its definition is in the row of its number, and its word in the text. Assumes nothing.
use mathlib.Core.Path.{◌≡◌, refl, sym, ◌∙◌, ap, ap₂, subst}
use mathlib.Core.List.{List, [], ◌∷◌, ◌++◌}
use mathlib.Core.Bool.{Bool, true, false}
use mathlib.Core.Option.{Option, none, some}
use Prim.Native.Nat.{ℕ, suc, ◌+◌, ◌*◌, ◌<◌}
use native.Mathlib.Omega.{arith}
use lib.ListN.{length}
use Rattle.token.specs.Find.{bit}
use Rattle.token.specs.Tokens.{part_of}
use Rattle.rows.specs.Table.{cell_of}
use Rattle.rows.specs.Search.{row_name}
use Rattle.meaning.specs.Syntax.{Word, span_of, AttributeType, integer, boolean, enum, reference, Definition, Definitions, no_more, define, Values, no_value, value, Defined, Statements, done, state, Object, File, string as string-type, float as float_type}
use Rattle.meaning.specs.Words.{alike, among, choose}
use Rattle.meaning.specs.Scopes.{Sort, a_number, a_string, a_truth, an_auto, a_no_default, a_name, a_float, Under, names, sort_of}
use Rattle.meaning.specs.Defining.{DefinitionRow, definition_row, all_definition_rows}
use Rattle.meaning.specs.Judging.{is_no_default, taken_by, taken}
use Rattle.meaning.specs.Resolving.{Taken, Resolved, end, resolved, named, valued, take_value, entries, default_entry, resolve, resolve_under}
use Rattle.meaning.specs.Cells.{type_code, definition_cells, definition_room}
use Rattle.meaning.proofs.Rooms.{definition_width}
use Rattle.meaning.proofs.Sites.{option_words}
use Rattle.layout.specs.Kept.{Entry}
use Rattle.blocks.specs.Blocks.{WordIn, StatementsIn, none_in, more_in}
use Rattle.blocks.proofs.Files.{AllIn}
use Rattle.scopes.specs.Situations.{Situation, HasDefinition, this_definition, later_definition, HasValue, this_value, later_value, Stands, under_value, ScopeAt, no_scope, scope}
use Rattle.scopes.specs.Given.{entry_rows}
use Rattle.scopes.proofs.Answering.{spec_rows}
use Rattle.scopes.proofs.Descents.{row_of_definition}
use Rattle.lookups.proofs.Standings.{words_definition, file_stands}
use Rattle.writing.specs.Promises.{From}
use Rattle.writing.proofs.Froms.{from_cell, from_append, from_room}
use Rattle.comparing.specs.Standing as st

-- P holds of each of these values.
pub data AllTaken (P : Taken → Type 0) : Resolved → Type 0 where
  no_taken : AllTaken P end
  more_taken : {t : Taken} {us rest : Resolved} → P t → AllTaken P us → AllTaken P rest → AllTaken P (resolved t us rest)

-- Entries ----------------------------------------------------------------------------------------------------------------------------------

module _ {s : List ℕ} (P : Taken → Type 0) (os : List Object) (x : Definition) (vs : Values) (h : (b : Bool) (w : Word) → WordIn s w → P (take_value b os x vs w)) (inner : Word → Statements → Resolved)
    (i : (t : Word) (us : Statements) → StatementsIn s us → AllTaken P (inner t us)) {rest : Resolved} (r : AllTaken P rest) where
  entries_all : (ss : Statements) → StatementsIn s ss → AllTaken P (entries ss os x vs inner rest)
  unfolding entries choose
  entries_all done none_in = r
  entries_all (state y inside more) (more_in n w b j k) = go (alike y.name x.name) (entries_all more k)
    where
      go : (c : Bool) → AllTaken P (entries more os x vs inner rest)
          → AllTaken P (choose c (λ _. resolved (take_value true os x vs y.value) (inner y.value inside) (entries more os x vs inner rest)) (λ _. entries more os x vs inner rest))
      go true a = more_taken (h true y.value w) (i y.value inside j) a
      go false a = a

  default_all : (o : Option Word) → AllIn s (option_words o) → AllTaken P (default_entry (taken o) os x vs inner rest)
  unfolding default_entry taken taken_by option_words
  default_all none a = r
  default_all (some t) a = go (is_no_default (sort_of t.class))
    where
      go : (b : Bool) → AllTaken P (default_entry (taken_by b t) os x vs inner rest)
      go true = r
      go false = more_taken (h false t a.0) (i t done none_in) r

-- Scopes -----------------------------------------------------------------------------------------------------------------------------------

-- What holds of every value that a definition of a scope takes by a word of the text holds of all resolved values.
module _ {s : List ℕ} {f : File} (t : Situation s f) (os : List Object) (P : Taken → Type 0)
    (h : (u : Word) (ds : Definitions) (x : Defined) → Stands f.specs u ds → HasDefinition ds x → (b : Bool) (w : Word) → WordIn s w → P (take_value b os x.definition x.values w)) where
  mutual
    unfolding resolve choose

    resolve_all : (ds : Definitions) {u : Word} {es : Definitions} → Stands f.specs u es → ((x : Defined) → HasDefinition ds x → HasDefinition es x)
        → (ss : Statements) → StatementsIn s ss → AllTaken P (resolve ds os ss)
    resolve_all no_more p i ss w = no_taken
    resolve_all (define x vs ds) p i ss w =
        let q = i (record { definition = x; values = vs }) this_definition in
        let rest = resolve_all ds p (λ y k. i y (later_definition k)) ss w in
        let inner : (z : Word) (us : Statements) → StatementsIn s us → AllTaken P (resolve_under vs os z us) = λ z us k. under_all vs p q (λ y j. j) z us k in
        either-all (among x.name (names ss))
        (entries_all P os x vs (λ b z k. h _ _ _ p q b z k) (λ z us. resolve_under vs os z us) inner rest ss w)
        (default_all P os x vs (λ b z k. h _ _ _ p q b z k) (λ z us. resolve_under vs os z us) inner rest x.default (words_definition q (file_stands t p).1).1.1)
      where
        either-all : (b : Bool) {y z : Resolved} → AllTaken P y → AllTaken P z → AllTaken P (choose b (λ _. y) (λ _. z))
        either-all true k l = k
        either-all false k l = l

    under_all : (vs : Values) {u : Word} {es : Definitions} {x : Defined} → Stands f.specs u es → HasDefinition es x
        → ((y : Under) → HasValue vs y → HasValue x.values y) → (z : Word) (ss : Statements) → StatementsIn s ss → AllTaken P (resolve_under vs os z ss)
    under_all no_value p q i z ss w = no_taken
    under_all (value v n us vs) p q i z ss w =
        go (alike v z) (resolve_all us (under_value p q (i (record { word = v; number = n; definitions = us }) this_value)) (λ y k. k) ss w)
        (under_all vs p q (λ y k. i y (later_value k)) z ss w)
      where
        go : (b : Bool) → AllTaken P (resolve us os ss) → AllTaken P (resolve_under vs os z ss)
            → AllTaken P (choose b (λ _. resolve us os ss) (λ _. resolve_under vs os z ss))
        go true k l = k
        go false k l = l

  pub scope_all : {k : ℕ} {ds : Definitions} → ScopeAt f k ds → (ss : Statements) → StatementsIn s ss → AllTaken P (resolve ds os ss)
  unfolding resolve
  scope_all no_scope ss w = no_taken
  scope_all (scope {ds = ds} e p) ss w = resolve_all ds p (λ x k. k) ss w

-- Facts ------------------------------------------------------------------------------------------------------------------------------------

-- What the tables tell of a value.
pub record Fact (s d : List ℕ) (many : ℕ) (t : Taken) : Type 0 where
  pub name : row_name s d 13 2 t.definition.row ≡ t.definition.name.bytes
  pub list : cell_of d 13 t.definition.row 6 ≡ bit t.definition.list
  pub type : cell_of d 13 t.definition.row 12 ≡ type_code t.definition.type
  pub known : t.definition.row < many
  pub word : WordIn s t.word
  pub typed : st.Typed t.definition.type t.value

named_typed : (y : AttributeType) (os : List Object) (vs : Values) (w : Word) → st.Typed y (named y os vs w)
unfolding named
named_typed (integer i) os vs w = st.a_string
named_typed string-type os vs w = st.a_string
named_typed boolean os vs w = st.a_string
named_typed float_type os vs w = st.a_string
named_typed enum os vs w = st.an_enumerator
named_typed (reference k) os vs w = st.an_object k refl

valued_typed : (o : Sort) (os : List Object) (d : Definition) (vs : Values) (w : Word) → st.Typed d.type (valued o os d vs w)
unfolding valued
valued_typed a_number os d vs w = st.a_number
valued_typed a_string os d vs w = st.a_string
valued_typed a_truth os d vs w = st.a_truth
valued_typed an_auto os d vs w = st.an_auto
valued_typed a_no_default os d vs w = st.an_auto
valued_typed a_float os d vs w = st.a_float
valued_typed a_name os d vs w = named_typed d.type os vs w

nth_row : {d : List ℕ} {n : ℕ} (k : ℕ) (front : List Entry) (x : Entry) (rest : List Entry) → From 13 definition_cells d n k (entry_rows (front ++ (x ∷ rest)))
    → From 13 definition_cells d n (k + length front) (definition_row x.under x.definition ∷ entry_rows rest)
unfolding entry_rows
nth_row {d} {n} k [] x rest a = let e : k ≡ k + 0 = omega arith in subst (λ (i : ℕ). From 13 definition_cells d n i (definition_row x.under x.definition ∷ entry_rows rest)) e a
nth_row {d} {n} k (y ∷ front) x rest a =
    let e : (k + 1) + length front ≡ k + suc (length front) = omega arith in
    subst (λ (i : ℕ). From 13 definition_cells d n i (definition_row x.under x.definition ∷ entry_rows rest)) e
    (nth_row (k + 1) front x rest (from_append 13 definition_cells definition_width (_ ∷ []) (entry_rows (front ++ (x ∷ rest))) refl a))

module _ {s d : List ℕ} {f : File} (t : Situation s f) (h : d ≡ definition_room (all_definition_rows f.specs)) where
  abbrev rows : List DefinitionRow
  rows = all_definition_rows f.specs

  -- Every value that a definition takes.
  definition_fact : (os : List Object) {u : Word} {ds : Definitions} {x : Defined} → Stands f.specs u ds → HasDefinition ds x → (b : Bool) (w : Word) → WordIn s w
      → Fact s d (length (all_definition_rows f.specs)) (take_value b os x.definition x.values w)
  unfolding row_name definition_room definition_cells definition_row span_of take_value
  definition_fact os {u} {ds} {x} p q b w k =
      let r = row_of_definition t p q in
      let n = (words_definition q (file_stands t p).1).1.0 in
      let a : From 13 definition_cells d (length rows) 0 rows = from_room 13 definition_cells (512 * 13) rows d (length rows) h refl in
      let c = subst (From 13 definition_cells d (length rows) 0) (sym (spec_rows f.specs) ∙ ap entry_rows r.nth.whole) a in
      let e = nth_row 0 r.nth.front _ r.nth.rest c in
      let m = r.nth.place in
      let z : 0 + length r.nth.front ≡ x.definition.row = omega (arith, m) in
      let g = subst (λ (i : ℕ). From 13 definition_cells d (length rows) i (definition_row r.under x.definition ∷ entry_rows r.nth.rest)) z e in
      let many = g.count in
      record {
        name = ap₂ (part_of s) (from_cell 13 definition_cells definition_width (definition_row r.under x.definition) (entry_rows r.nth.rest) 2 (omega arith) g)
            (from_cell 13 definition_cells definition_width (definition_row r.under x.definition) (entry_rows r.nth.rest) 3 (omega arith) g)
            ∙ sym n.bytes;
        list = from_cell 13 definition_cells definition_width (definition_row r.under x.definition) (entry_rows r.nth.rest) 6 (omega arith) g;
        type = from_cell 13 definition_cells definition_width (definition_row r.under x.definition) (entry_rows r.nth.rest) 12 (omega arith) g;
        known = omega (arith, many);
        word = k;
        typed = valued_typed (sort_of w.class) os x.definition x.values w;
      }

  pub all_facts : (os : List Object) {k : ℕ} {ds : Definitions} → ScopeAt f k ds → (ss : Statements) → StatementsIn s ss → AllTaken (Fact s d (length (all_definition_rows f.specs))) (resolve ds os ss)
  all_facts os p ss w = scope_all t os (Fact s d (length (all_definition_rows f.specs))) (λ u ds x a q b z k. definition_fact os a q b z k) p ss w
