-- What the tables of an accepted text show of a channel is what its view shows. Assumes nothing.
use mathlib.Core.Path.{◌≡◌, refl, sym, ◌∙◌, ap, ap₂}
use mathlib.Core.List.{List, [], ◌∷◌, ◌++◌, append_assoc, append-nil}
use mathlib.Core.Bool.{Bool, true, false}
use mathlib.Core.Option.{some}
use Prim.Native.Nat.{ℕ, zero, suc, ◌+◌, ◌≤◌, ◌<◌}
use native.Mathlib.Omega.{arith}
use lib.Dec.{eqb}
use borrow.Author.Tests.{eq-eqb, ne_eqb}
use Rattle.token.specs.Find.{pick, both}
use Rattle.token.specs.Words.{same}
use Rattle.grammar.specs.Grammar.{Kind}
use Rattle.meaning.specs.Syntax.{Word, span_of, Object, File}
use Rattle.meaning.specs.Words.{alike}
use Rattle.meaning.specs.Kinds.{same_kind}
use Rattle.meaning.specs.Actions.{syntax}
use Rattle.meaning.specs.Scopes.{of_kind, find_object}
use Rattle.meaning.specs.Applying.{ObjectRow, object_rows}
use Rattle.meaning.specs.Resolving.{Value, number, truth, auto, string, float, enumerator, object, Resolved, end, resolved, object_values, all_values, Owner, of_object, of_value, ValueRow, value_row, how_many_values, value_rows, all_value_rows}
use Rattle.meaning.specs.Normal.{part}
use Rattle.meaning.specs.Places.{each}
use Rattle.meaning.specs.Answers.{Tables, accepted, tables}
use Rattle.meaning.specs.Reading.{reading}
use Rattle.meaning.specs.Defining.{DefinitionRow, all_definition_rows}
use Rattle.meaning.specs.Judging.{statement_stage}
use Rattle.meaning.proofs.Numbering.{Counts, spec_numbers, numbered}
use Rattle.meaning.proofs.Found.{reading_derived}
use Rattle.meaning.proofs.Lookups.{InText, syntax_text}
use Rattle.meaning.proofs.Unplaced.{each_append}
use Rattle.meaning.proofs.Sites.{spec_words, object_words, statement_words, file_words}
use Rattle.reads_back.proofs.SameMeaning.{accepted_tables, no_faults, specs_free}
use Rattle.reads_back.proofs.RestatingPlain.{syntax_plain}
use Rattle.reads_back.proofs.RestatingObjects.{SettledObjects, no_objects, more_objects, settle_objects}
use Rattle.reads_back.proofs.SameNamesText.{There, parts, ValuesThere, resolve_there, kind_there, objects_text}
use Rattle.channels.specs.Channels.{if_there, key_of, key_at, a_string, a_float, an_enumerator, a_reference, View, nothing, item, shown, item_of, view, called, channel}
use Rattle.channels.proofs.Computed.{channel_of}
use Rattle.channels.specs.Rows.{RowItem, key_row, row_shown, row_item, owned, rows_of, find_row, table_channel}
use Rattle.channels.proofs.Titles.{kind_titled, ValuesTitled, settled_titled}
use Rattle.channels.proofs.Moved.{there_twice, channel_derived}
use Rattle.channels.proofs.ObjectTokens.{accepted_covered, accepted_derivation}

-- The items of a view in the order of rows.
unfoldable pub items : View → List RowItem
items nothing = []
items (item i us rest) = record { definition = i.definition; attribute = i.attribute; value = i.value; stated = i.stated } ∷ (items us ++ items rest)

module _ (s : List ℕ) where
  key_rows : (i : ℕ) (os : List Object) → InText s (object_words os) → key_row s i (object_rows os) ≡ key_at i os
  unfolding key_row key_at key_of object_rows object_words
  key_rows i [] h = refl
  key_rows zero (x ∷ xs) h = ap (λ n. some (record { kind = x.kind; name = n })) (sym h.1.0)
  key_rows (suc i) (x ∷ xs) h = key_rows i xs (parts s (statement_words x.statements) (object_words xs) h.1.1).1

  module _ (R : List DefinitionRow) (os : List Object) (h : InText s (object_words os)) where
    shown_row : (v : Value) (w : Word) → There s w → row_shown s (object_rows os) v (span_of w) ≡ shown os v w
    unfolding row_shown shown
    shown_row (number n) w e = refl
    shown_row (truth b) w e = refl
    shown_row auto w e = refl
    shown_row string w e = ap a_string (sym e)
    shown_row float w e = ap a_float (sym e)
    shown_row (enumerator i) w e = ap (an_enumerator i) (sym e)
    shown_row (object i) w e = ap a_reference (key_rows i os h)

    -- The rows of an object show its view.
    rows_view : (r : Resolved) (n : ℕ) (o : Owner) → ValuesThere s r → ValuesTitled s R r → each (row_item s R (object_rows os)) (value_rows r n o) ≡ items (view os r)
    unfolding value_rows value_row row_item items view item_of each
    rows_view end n o v z = refl
    rows_view (resolved t us rest) n o v z =
        ap₂ ◌∷◌ (ap₂ (λ a x. record { definition = t.definition.row; attribute = a; value = x; stated = t.stated }) z.0 (shown_row t.value t.word v.0))
        (each_append (row_item s R (object_rows os)) (value_rows us (suc n) (of_value n)) (value_rows rest (suc n + how_many_values us) o)
        ∙ ap₂ ◌++◌ (rows_view us (suc n) (of_value n) v.1 z.1) (rows_view rest (suc n + how_many_values us) o v.2 z.2))

-- Which rows are an object's -------------------------------------------------------------------------------------------------------------------

abbrev taking : Bool → List ValueRow → List ValueRow → List ValueRow
taking b l m = pick b (l ++ m) m

taking_twice : (b : Bool) (r : ValueRow) (l m k : List ValueRow) → pick b (r ∷ taking b l (taking b m k)) (taking b l (taking b m k)) ≡ taking b (r ∷ (l ++ m)) k
taking_twice true r l m k = ap (r ∷◌) (sym (append_assoc l m k))
taking_twice false r l m k = refl

-- Rows under values belong to the object before.
under_rows : (o c : ℕ) (r : Resolved) (n m : ℕ) (l : List ValueRow) → rows_of o c (value_rows r n (of_value m) ++ l) ≡ taking (eqb c o) (value_rows r n (of_value m)) (rows_of o c l)
unfolding value_rows value_row rows_of owned
under_rows o c end n m l = none_taken (eqb c o) (rows_of o c l)
  where
    none_taken : (b : Bool) (k : List ValueRow) → k ≡ taking b [] k
    none_taken true k = refl
    none_taken false k = refl
under_rows o c (resolved t us rest) n m l =
    let A = value_rows us (suc n) (of_value n) in
    let B = value_rows rest (suc n + how_many_values us) (of_value m) in
    ap (λ k. pick (eqb c o) (value_row t (of_value m) ∷ k) k)
    (ap (rows_of o c) (append_assoc A B l) ∙ under_rows o c us (suc n) n (B ++ l) ∙ ap (taking (eqb c o) A) (under_rows o c rest (suc n + how_many_values us) m l))
    ∙ taking_twice (eqb c o) (value_row t (of_value m)) A B (rows_of o c l)

-- Rows of the object p; what follows does not look at what is before.
object_rows_of : (o p c : ℕ) (r : Resolved) (n : ℕ) (l k : List ValueRow) → ((d : ℕ) → rows_of o d l ≡ k) → rows_of o c (value_rows r n (of_object p) ++ l) ≡ taking (eqb p o) (value_rows r n (of_object p)) k
unfolding value_rows value_row rows_of owned
object_rows_of o p c end n l k h = h c ∙ none_taken (eqb p o) k
  where
    none_taken : (b : Bool) (k : List ValueRow) → k ≡ taking b [] k
    none_taken true k = refl
    none_taken false k = refl
object_rows_of o p c (resolved t us rest) n l k h =
    let A = value_rows us (suc n) (of_value n) in
    let B = value_rows rest (suc n + how_many_values us) (of_object p) in
    ap (λ z. pick (eqb p o) (value_row t (of_object p) ∷ z) z)
    (ap (rows_of o p) (append_assoc A B l) ∙ under_rows o p us (suc n) n (B ++ l) ∙ ap (taking (eqb p o) A) (object_rows_of o p p rest (suc n + how_many_values us) l k h))
    ∙ taking_twice (eqb p o) (value_row t (of_object p)) A B k

-- No object of a later row has any.
none_before : (o : ℕ) (rs : List Resolved) (p n c : ℕ) → o < p → rows_of o c (all_value_rows rs p n) ≡ []
unfolding all_value_rows rows_of
none_before o [] p n c h = refl
none_before o (r ∷ rs) p n c h =
    object_rows_of o p c r n (all_value_rows rs (suc p) (n + how_many_values r)) [] (λ d. none_before o rs (suc p) (n + how_many_values r) d (omega arith))
    ∙ ap (λ b. taking b (value_rows r n (of_object p)) []) (ne_eqb p o (λ e. omega arith))

same_before : (o : ℕ) (rs : List Resolved) (p n c d : ℕ) → rows_of o c (all_value_rows rs p n) ≡ rows_of o d (all_value_rows rs p n)
unfolding all_value_rows rows_of
same_before o [] p n c d = refl
same_before o (r ∷ rs) p n c d =
    let l = all_value_rows rs (suc p) (n + how_many_values r) in
    object_rows_of o p c r n l (rows_of o 0 l) (λ e. same_before o rs (suc p) (n + how_many_values r) e 0)
    ∙ sym (object_rows_of o p d r n l (rows_of o 0 l) (λ e. same_before o rs (suc p) (n + how_many_values r) e 0))

-- The object's own.
own_rows : (r : Resolved) (rs : List Resolved) (p n c : ℕ) → rows_of p c (all_value_rows (r ∷ rs) p n) ≡ value_rows r n (of_object p)
unfolding all_value_rows
own_rows r rs p n c =
    object_rows_of p p c r n (all_value_rows rs (suc p) (n + how_many_values r)) [] (λ d. none_before p rs (suc p) (n + how_many_values r) d (omega arith))
    ∙ ap (λ b. taking b (value_rows r n (of_object p)) []) (eq-eqb p p refl) ∙ append-nil (value_rows r n (of_object p))

-- Those of a later object.
later_rows : (r : Resolved) (rs : List Resolved) (o p n c : ℕ) → p < o → rows_of o c (all_value_rows (r ∷ rs) p n) ≡ rows_of o c (all_value_rows rs (suc p) (n + how_many_values r))
unfolding all_value_rows
later_rows r rs o p n c h =
    let l = all_value_rows rs (suc p) (n + how_many_values r) in
    object_rows_of o p c r n l (rows_of o c l) (λ d. same_before o rs (suc p) (n + how_many_values r) d c)
    ∙ ap (λ b. taking b (value_rows r n (of_object p)) (rows_of o c l)) (ne_eqb p o (λ e. omega arith))

-- The channel ----------------------------------------------------------------------------------------------------------------------------------

low_same : {B : Type 0} (s : List ℕ) (k : Kind) (n : List ℕ) (f g : ℕ → B) (i : ℕ) (rs : List ObjectRow) → ((o : ℕ) → i ≤ o → f o ≡ g o)
    → if_there f (find_row s k n i rs) ≡ if_there g (find_row s k n i rs)
unfolding find_row if_there
low_same s k n f g i [] h = refl
low_same {B} s k n f g i (r ∷ rs) h = go (both (same_kind k r.kind) (same (part s r.name) n)) (low_same s k n f g (suc i) rs (λ o l. h o (omega arith)))
  where
    go : (b : Bool) → if_there f (find_row s k n (suc i) rs) ≡ if_there g (find_row s k n (suc i) rs)
        → if_there f (pick b (some i) (find_row s k n (suc i) rs)) ≡ if_there g (pick b (some i) (find_row s k n (suc i) rs))
    go true e = ap some (h i (omega arith))
    go false e = e

module _ (s : List ℕ) (f : File) (texts : InText s (spec_words f.specs)) (names : InText s (object_words f.objects)) (numbers : Counts 0 (spec_numbers f.specs)) (k : Kind) (n : List ℕ) where
  abbrev R : List DefinitionRow
  R = all_definition_rows f.specs

  abbrev shows : List Object → ℕ → ℕ → ℕ → List RowItem
  shows xs p m o = each (row_item s R (object_rows f.objects)) (rows_of o 0 (all_value_rows (all_values f xs) p m))

  abbrev views : Object → List RowItem
  views x = items (view f.objects (object_values f x))

  object_there : (x : Object) → InText s (statement_words x.statements) → ValuesThere s (object_values f x)
  unfolding object_values
  object_there x h = resolve_there s f.objects (of_kind x.kind f.specs) x.statements (kind_there s x.kind f.specs texts) h

  head_there : (x : Object) (xs : List Object) → InText s (object_words (x ∷ xs)) → There s x.name × InText s (statement_words x.statements) × InText s (object_words xs)
  unfolding object_words
  head_there x xs h = let p = parts s (statement_words x.statements) (object_words xs) h.1.1 in (h.1.0, p.0, p.1)

  find_same : {xs : List Object} (p m : ℕ) → SettledObjects f xs → InText s (object_words xs)
      → if_there (shows xs p m) (find_row s k n p (object_rows xs)) ≡ if_there views (find_object k xs (called n))
  unfolding find_row find_object object_rows all_values if_there alike called
  find_same p m no_objects h = refl
  find_same p m (more_objects {x} {xs} z zs) h =
      let t = head_there x xs h in
      let r = object_values f x in
      let q = p in
      ap (λ b. if_there (shows (x ∷ xs) p m) (pick (both (same_kind k x.kind) (same b n)) (some p) (find_row s k n (suc p) (object_rows xs)))) (sym t.0)
      ∙ go (both (same_kind k x.kind) (same x.name.bytes n)) (find_same (suc p) (m + how_many_values r) zs t.2) (object_there x t.1)
      (settled_titled s R f.objects z (kind_titled s f.specs x.kind numbers texts))
    where
      go : (b : Bool) → if_there (shows xs (suc p) (m + how_many_values (object_values f x))) (find_row s k n (suc p) (object_rows xs)) ≡ if_there views (find_object k xs (called n))
          → ValuesThere s (object_values f x) → ValuesTitled s R (object_values f x)
          → if_there (shows (x ∷ xs) p m) (pick b (some p) (find_row s k n (suc p) (object_rows xs))) ≡ if_there views (pick b (some x) (find_object k xs (called n)))
      go true e v w =
          ap some (ap (each (row_item s R (object_rows f.objects))) (own_rows (object_values f x) (all_values f xs) p m 0) ∙ rows_view s R f.objects names (object_values f x) m (of_object p) v w)
      go false e v w =
          low_same s k n (shows (x ∷ xs) p m) (shows xs (suc p) (m + how_many_values (object_values f x))) (suc p) (object_rows xs)
          (λ o l. ap (each (row_item s R (object_rows f.objects))) (later_rows (object_values f x) (all_values f xs) o p m 0 (omega arith))) ∙ e

-- The tables of the syntax.
tables_show : (s : List ℕ) (f : File) → InText s (spec_words f.specs) → InText s (object_words f.objects) → Counts 0 (spec_numbers f.specs) → SettledObjects f f.objects → (k : Kind) (n : List ℕ)
    → table_channel s (tables f (all_values f f.objects)) k n ≡ if_there items (channel f k n)
unfolding table_channel tables channel
tables_show s f h i c z k n =
    find_same s f h i c k n 0 0 z i
    ∙ sym (there_twice (λ x. view f.objects (object_values f x)) items (λ x. items (view f.objects (object_values f x))) (λ x. refl) (find_object k f.objects (called n)))

-- What a reading hands out shows the channels of its text.
pub table_channels : (s : List ℕ) (t : Tables) → reading s ≡ accepted t → (k : Kind) (n : List ℕ) → table_channel s t k n ≡ if_there items (channel_of s k n)
unfolding file_words statement_stage
table_channels s t e k n =
    let w = accepted_covered s t e in
    let d = accepted_derivation s t e in
    let f = syntax s d.tree in
    let r = sym (reading_derived s w d) ∙ e in
    let q = no_faults f t r in
    let z = settle_objects f f.objects (specs_free f q.definitions) (syntax_plain s d.tree) q.statements in
    let p = parts s (f.version ∷ spec_words f.specs) (f.cpu ∷ object_words f.parts) (syntax_text s d.tree) in
    ap (λ z. table_channel s z k n) (sym (accepted_tables f t r)) ∙ tables_show s f p.0.1 (objects_text s d.tree p.1.1) (numbered s d.tree).0.0 z k n
    ∙ ap (if_there items) (sym (channel_derived s w d k n))
