-- The resolved values of a text are told by its tables: each one's definition is in the row of its number, and its word in the text. Assumes nothing.
use mathlib.Core.Path.{◌≡◌, refl, sym, ◌∙◌, ap, ap₂, subst}
use mathlib.Core.List.{List, [], ◌∷◌, ◌++◌}
use mathlib.Core.Bool.{Bool, true, false}
use mathlib.Core.Option.{Option, none, some}
use Prim.Native.Nat.{ℕ, suc, ◌+◌, ◌*◌}
use native.Mathlib.Omega.{arith}
use lib.ListN.{length}
use Rattle.token.specs.Find.{bit}
use Rattle.rows.specs.Table.{cell_of}
use Rattle.rows.specs.Search.{row_name}
use Rattle.token.specs.Tokens.{part_of}
use Rattle.meaning.specs.Syntax.{Word, span_of, Definition, Definitions, no_more, define, Values, no_value, value, Defined, Statements, done, state, Object, File}
use Rattle.meaning.specs.Words.{alike, among, choose}
use Rattle.meaning.specs.Scopes.{Under, names, sort_of}
use Rattle.meaning.specs.Defining.{definition_row, all_definition_rows}
use Rattle.meaning.specs.Judging.{is_no_default, taken_by, taken}
use Rattle.meaning.specs.Resolving.{Resolved, resolved, take_value, entries, default_entry, resolve, resolve_under, object_values, all_values}
use Rattle.meaning.specs.Cells.{definition_cells, definition_room}
use Rattle.meaning.proofs.Rooms.{definition_width}
use Rattle.meaning.proofs.Sites.{option_words, statement_words, object_words}
use Rattle.layout.specs.Kept.{Entry}
use Rattle.blocks.specs.Blocks.{StatementsIn, none_in, more_in}
use Rattle.blocks.proofs.Files.{AllIn, in_front, in_back, objects_in, statements_in_text}
use Rattle.scopes.specs.Situations.{Situation, HasDefinition, this_definition, later_definition, HasValue, this_value, later_value, Stands, under_value, ScopeAt, no_scope, scope}
use Rattle.scopes.specs.Given.{entry_rows}
use Rattle.scopes.proofs.Answering.{spec_rows}
use Rattle.scopes.proofs.Descents.{row_of_definition, scope_of_kind}
use Rattle.lookups.proofs.Standings.{words_definition, file_stands}
use Rattle.writing.specs.Promises.{From, AllTold, end_told, more_told, Pairs, no_pair, a_pair}
use Rattle.writing.proofs.Froms.{from_cell, from_append, from_room}

-- Rows of definitions ----------------------------------------------------------------------------------------------------------------------

nth_row : {d : List ℕ} {n : ℕ} (k : ℕ) (front : List Entry) (x : Entry) (rest : List Entry) → From 13 definition_cells d n k (entry_rows (front ++ (x ∷ rest)))
    → From 13 definition_cells d n (k + length front) (definition_row x.under x.definition ∷ entry_rows rest)
unfolding entry_rows
nth_row {d} {n} k [] x rest a = let e : k ≡ k + 0 = omega arith in subst (λ (i : ℕ). From 13 definition_cells d n i (definition_row x.under x.definition ∷ entry_rows rest)) e a
nth_row {d} {n} k (y ∷ front) x rest a =
    let e : (k + 1) + length front ≡ k + suc (length front) = omega arith in
    subst (λ (i : ℕ). From 13 definition_cells d n i (definition_row x.under x.definition ∷ entry_rows rest)) e
    (nth_row (k + 1) front x rest (from_append 13 definition_cells definition_width (_ ∷ []) (entry_rows (front ++ (x ∷ rest))) refl a))

-- The name and the list mark of a definition are in the row of its number.
record Shown (s d : List ℕ) (x : Definition) : Type 0 where
  name : row_name s d 13 2 x.row ≡ x.name.bytes
  list : cell_of d 13 x.row 6 ≡ bit x.list

module _ {s d : List ℕ} {f : File} (t : Situation s f) (h : d ≡ definition_room (all_definition_rows f.specs)) where
  -- The name and the list mark of a definition of a scope.
  definition_told : {u : Word} {ds : Definitions} {x : Defined} → Stands f.specs u ds → HasDefinition ds x → Shown s d x.definition
  unfolding row_name definition_room definition_cells definition_row span_of
  definition_told {u} {ds} {x} p q =
      let r = row_of_definition t p q in
      let rows = all_definition_rows f.specs in
      let w = (words_definition q (file_stands t p).1).1.0 in
      let a : From 13 definition_cells d (length rows) 0 rows = from_room 13 definition_cells (512 * 13) rows d (length rows) h refl in
      let b = subst (From 13 definition_cells d (length rows) 0) (sym (spec_rows f.specs) ∙ ap entry_rows r.nth.whole) a in
      let c = nth_row 0 r.nth.front _ r.nth.rest b in
      let m = r.nth.place in
      let e : 0 + length r.nth.front ≡ x.definition.row = omega (arith, m) in
      let g = subst (λ (i : ℕ). From 13 definition_cells d (length rows) i (definition_row r.under x.definition ∷ entry_rows r.nth.rest)) e c in
      record {
        name = ap₂ (part_of s) (from_cell 13 definition_cells definition_width (definition_row r.under x.definition) (entry_rows r.nth.rest) 2 (omega arith) g)
            (from_cell 13 definition_cells definition_width (definition_row r.under x.definition) (entry_rows r.nth.rest) 3 (omega arith) g)
            ∙ sym w.bytes;
        list = from_cell 13 definition_cells definition_width (definition_row r.under x.definition) (entry_rows r.nth.rest) 6 (omega arith) g;
      }

-- Entries ----------------------------------------------------------------------------------------------------------------------------------

module _ {s d : List ℕ} (os : List Object) (x : Definition) (vs : Values) (e : Shown s d x) (inner : Word → Statements → Resolved)
    (i : (t : Word) (us : Statements) → StatementsIn s us → AllTold s d (inner t us)) {rest : Resolved} (r : AllTold s d rest) where
  entries_told : (ss : Statements) → StatementsIn s ss → AllTold s d (entries ss os x vs inner rest)
  unfolding entries choose take_value
  entries_told done none_in = r
  entries_told (state y inside more) (more_in n w b j k) = go (alike y.name x.name) (entries_told more k)
    where
      go : (c : Bool) → AllTold s d (entries more os x vs inner rest)
          → AllTold s d (choose c (λ _. resolved (take_value true os x vs y.value) (inner y.value inside) (entries more os x vs inner rest)) (λ _. entries more os x vs inner rest))
      go true a = more_told (record { name = e.name; list = e.list; word = w }) (i y.value inside j) a
      go false a = a

  default_told : (o : Option Word) → AllIn s (option_words o) → AllTold s d (default_entry (taken o) os x vs inner rest)
  unfolding default_entry taken taken_by option_words take_value
  default_told none h = r
  default_told (some t) h = go (is_no_default (sort_of t.class))
    where
      go : (b : Bool) → AllTold s d (default_entry (taken_by b t) os x vs inner rest)
      go true = r
      go false = more_told (record { name = e.name; list = e.list; word = h.0 }) (i t done none_in) r

-- Scopes -----------------------------------------------------------------------------------------------------------------------------------

module _ {s d : List ℕ} {f : File} (t : Situation s f) (h : d ≡ definition_room (all_definition_rows f.specs)) (os : List Object) where
  mutual
    unfolding resolve choose

    resolve_told : (ds : Definitions) {u : Word} {es : Definitions} → Stands f.specs u es → ((x : Defined) → HasDefinition ds x → HasDefinition es x)
        → (ss : Statements) → StatementsIn s ss → AllTold s d (resolve ds os ss)
    resolve_told no_more p i ss w = end_told
    resolve_told (define x vs ds) p i ss w =
        let q = i (record { definition = x; values = vs }) this_definition in
        let e = definition_told t h p q in
        let rest = resolve_told ds p (λ y k. i y (later_definition k)) ss w in
        let inner : (z : Word) (us : Statements) → StatementsIn s us → AllTold s d (resolve_under vs os z us) = λ z us k. under_told vs p q (λ y j. j) z us k in
        either-told (among x.name (names ss))
        (entries_told os x vs e (λ z us. resolve_under vs os z us) inner rest ss w)
        (default_told os x vs e (λ z us. resolve_under vs os z us) inner rest x.default (words_definition q (file_stands t p).1).1.1)
      where
        either-told : (b : Bool) {y z : Resolved} → AllTold s d y → AllTold s d z → AllTold s d (choose b (λ _. y) (λ _. z))
        either-told true k l = k
        either-told false k l = l

    under_told : (vs : Values) {u : Word} {es : Definitions} {x : Defined} → Stands f.specs u es → HasDefinition es x
        → ((y : Under) → HasValue vs y → HasValue x.values y) → (z : Word) (ss : Statements) → StatementsIn s ss → AllTold s d (resolve_under vs os z ss)
    under_told no_value p q i z ss w = end_told
    under_told (value v n us vs) p q i z ss w =
        go (alike v z) (resolve_told us (under_value p q (i (record { word = v; number = n; definitions = us }) this_value)) (λ y k. k) ss w)
        (under_told vs p q (λ y k. i y (later_value k)) z ss w)
      where
        go : (b : Bool) → AllTold s d (resolve us os ss) → AllTold s d (resolve_under vs os z ss)
            → AllTold s d (choose b (λ _. resolve us os ss) (λ _. resolve_under vs os z ss))
        go true k l = k
        go false k l = l

  scope_told : {k : ℕ} {ds : Definitions} → ScopeAt f k ds → (ss : Statements) → StatementsIn s ss → AllTold s d (resolve ds os ss)
  unfolding resolve
  scope_told no_scope ss w = end_told
  scope_told (scope {ds = ds} e p) ss w = resolve_told ds p (λ x k. k) ss w

module _ {s d : List ℕ} {f : File} (t : Situation s f) (h : d ≡ definition_room (all_definition_rows f.specs)) where
  pairs_of : (xs : List Object) → AllIn s (object_words xs) → Pairs s d xs (all_values f xs)
  unfolding object_words all_values object_values
  pairs_of [] w = no_pair
  pairs_of (x ∷ xs) w =
      a_pair w.0 w.1.0
      (scope_told t h f.objects (scope_of_kind f x.kind) x.statements (statements_in_text s x.statements (in_front s (statement_words x.statements) (object_words xs) w.1.1)))
      (pairs_of xs (in_back s (statement_words x.statements) (object_words xs) w.1.1))

  -- The objects of a text with their values.
  pub file_pairs : Pairs s d f.objects (all_values f f.objects)
  file_pairs = pairs_of f.objects (subst (λ (g : File). AllIn s (object_words g.objects)) (sym t.syntax_of) (objects_in s t.derivation))
