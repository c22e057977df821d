-- The words that rows point to in a text are the words of its syntax. Assumes nothing.
use mathlib.Core.Path.{◌≡◌, refl, sym, ◌∙◌, ap, ap₂, subst}
use mathlib.Core.List.{List, [], ◌∷◌, ◌++◌}
use mathlib.Core.Bool.{Bool, true, false}
use mathlib.Core.Option.{Option, none, some}
use Prim.Native.Nat.{ℕ, suc, ◌+◌}
use Rattle.meaning.specs.Merging.{merge}
use Rattle.meaning.proofs.Merges.{In, in_here, in_there, merge_in, syntax_merged}
use Rattle.grammar.specs.Grammar.{Kind, file, ◌▸◌, ∎, ◌⟶◌, Trees}
use Rattle.token.specs.Find.{pick}
use Rattle.meaning.specs.Syntax.{Word, absent, span_of, span_or, Definition, Definitions, no_more, define, Values, no_value, value, Statements, done, state, Spec, Object, File, is_enum}
use Rattle.meaning.specs.Words.{alike, among, choose}
use Rattle.meaning.specs.Kinds.{same_kind}
use Rattle.meaning.specs.Scopes.{sort_of, of_kind, names}
use Rattle.meaning.specs.Actions.{syntax}
use Rattle.meaning.specs.Defining.{definition_row, definition_rows, definition_rows_under, enumerator_row, enumerator_rows, enumerator_rows_of, all_definition_rows, all_enumerator_rows}
use Rattle.meaning.specs.Applying.{object_rows}
use Rattle.meaning.specs.Judging.{is_no_default, taken_by, taken}
use Rattle.meaning.specs.Resolving.{take_value, Resolved, end, resolved, entries, default_entry, resolve, resolve_under, object_values, all_values, Owner, of_object, of_value, value_row, how_many_values, value_rows, all_value_rows}
use Rattle.meaning.specs.Normal.{part}
use Rattle.meaning.specs.Answers.{tables}
use Rattle.meaning.specs.Places.{each}
use Rattle.meaning.proofs.Sites.{bound_words, option_words, definition_words, value_words, spec_words, statement_words, object_words, file_words}
use Rattle.meaning.proofs.Lookups.{InText, syntax_text}
use Rattle.meaning.proofs.Unplaced.{each_append}
use Rattle.reads_back.specs.ReadsBack.{definition_row_words, enumerator_row_word, object_row_words, unless_number, value_row_word, words_of}
use Rattle.reads_back.proofs.SameWords.{by_choose}
use Rattle.reads_back.proofs.SameNames.{option_bytes, definition_names, scope_names, scope_names_under, enumerator_name, enumerator_names, enumerator_names_of, all_scope_names, all_enumerator_names, object_names, value_names, all_value_names, names_of, words_same}

-- Parts of a text's words -----------------------------------------------------------------------------------------------------------------

-- The bytes of the word t are what the text s has at its place.
abbrev pub There : List ℕ → Word → Type 0
There s t = t.bytes ≡ part s (span_of t)

-- Words of two lists are those of each.
pub parts : (s : List ℕ) (a b : List Word) → InText s (a ++ b) → InText s a × InText s b
parts s [] b h = (tt, h)
parts s (w ∷ a) b h = let r = parts s a b h.1 in ((h.0, r.0), r.1)

-- Those of a definition, and of the definitions behind it.
pub record DefinitionText (s : List ℕ) (d : Definition) (vs : Values) (ds : Definitions) : Type 0 where
  pub word : There s d.word
  pub values : InText s (value_words vs)
  pub name : There s d.name
  pub default : InText s (option_words d.default)
  pub rest : InText s (definition_words ds)

pub definition_text : (s : List ℕ) (d : Definition) (vs : Values) (ds : Definitions) → InText s (definition_words (define d vs ds)) → DefinitionText s d vs ds
unfolding definition_words
definition_text s d vs ds h =
    let w = d.name ∷ option_words d.default in
    let a = parts s (d.word ∷ (bound_words d.bounds ++ (value_words vs ++ w))) (definition_words ds) h in
    let b = parts s (bound_words d.bounds) (value_words vs ++ w) a.0.1 in
    let c = parts s (value_words vs) w b.1 in
    record { word = a.0.0; values = c.0; name = c.1.0; default = c.1.1; rest = a.1 }

-- Those of a value, of the definitions under it and of the values behind it.
pub list_text : (s : List ℕ) (w : Word) (e : ℕ) (us : Definitions) (vs : Values) → InText s (value_words (value w e us vs))
    → There s w × InText s (definition_words us) × InText s (value_words vs)
unfolding value_words
list_text s w e us vs h = let p = parts s (definition_words us) (value_words vs) h.1 in (h.0, p.0, p.1)

-- Rows of definitions and enumerators -----------------------------------------------------------------------------------------------------

default_there : (s : List ℕ) (o : Option Word) → InText s (option_words o) → part s (span_or o) ≡ option_bytes o
unfolding option_words span_or absent part option_bytes
default_there s none h = refl
default_there s (some t) h = sym h.0

row_names : (s : List ℕ) (u : Word) (d : Definition) (vs : Values) (ds : Definitions) → There s u → DefinitionText s d vs ds
    → definition_row_words s (definition_row u d) ≡ definition_names u d
unfolding definition_row_words definition_row definition_names
row_names s u d vs ds p h =
    ap₂ (λ a b. a ∷ b ∷ part s (span_of d.word) ∷ part s (span_or d.default) ∷ []) (sym p) (sym h.name)
    ∙ ap₂ (λ a b. u.bytes ∷ d.name.bytes ∷ a ∷ b ∷ []) (sym h.word) (default_there s d.default h.default)

mutual
  unfolding definition_rows scope_names each

  scope_there : (s : List ℕ) (ds : Definitions) (u : Word) → There s u → InText s (definition_words ds) → each (definition_row_words s) (definition_rows ds u) ≡ scope_names ds u
  scope_there s no_more u p h = refl
  scope_there s (define d vs ds) u p h =
      let k = definition_text s d vs ds h in
      each_append (definition_row_words s) (definition_rows_under vs) (definition_row u d ∷ definition_rows ds u)
      ∙ ap₂ ◌++◌ (under_there s vs k.values) (ap₂ ◌∷◌ (row_names s u d vs ds p k) (scope_there s ds u p k.rest))

  under_there : (s : List ℕ) (vs : Values) → InText s (value_words vs) → each (definition_row_words s) (definition_rows_under vs) ≡ scope_names_under vs
  under_there s no_value h = refl
  under_there s (value w e us vs) h =
      let k = list_text s w e us vs h in
      each_append (definition_row_words s) (definition_rows us w) (definition_rows_under vs)
      ∙ ap₂ ◌++◌ (scope_there s us w k.0 k.1) (under_there s vs k.2)

enumerator_there : (s : List ℕ) (b : Bool) (a : ℕ) (w : Word) → There s w → each (enumerator_row_word s) (enumerator_row b a w) ≡ enumerator_name b w
unfolding enumerator_row_word enumerator_row enumerator_name each
enumerator_there s true a w p = ap (◌∷ []) (sym p)
enumerator_there s false a w p = refl

mutual
  unfolding enumerator_rows enumerator_names each

  enumerators_there : (s : List ℕ) (ds : Definitions) → InText s (definition_words ds) → each (enumerator_row_word s) (enumerator_rows ds) ≡ enumerator_names ds
  enumerators_there s no_more h = refl
  enumerators_there s (define d vs ds) h =
      let k = definition_text s d vs ds h in
      each_append (enumerator_row_word s) (enumerator_rows_of vs (is_enum d.type) d.row) (enumerator_rows ds)
      ∙ ap₂ ◌++◌ (list_there s vs (is_enum d.type) d.row k.values) (enumerators_there s ds k.rest)

  list_there : (s : List ℕ) (vs : Values) (b : Bool) (a : ℕ) → InText s (value_words vs) → each (enumerator_row_word s) (enumerator_rows_of vs b a) ≡ enumerator_names_of vs b
  list_there s no_value b a h = refl
  list_there s (value w e us vs) b a h =
      let k = list_text s w e us vs h in
      each_append (enumerator_row_word s) (enumerator_row b a w) (enumerator_rows us ++ enumerator_rows_of vs b a)
      ∙ ap₂ ◌++◌ (enumerator_there s b a w k.0)
      (each_append (enumerator_row_word s) (enumerator_rows us) (enumerator_rows_of vs b a)
      ∙ ap₂ ◌++◌ (enumerators_there s us k.1) (list_there s vs b a k.2))

all_scopes_there : (s : List ℕ) (xs : List Spec) → InText s (spec_words xs) → each (definition_row_words s) (all_definition_rows xs) ≡ all_scope_names xs
unfolding all_definition_rows all_scope_names each spec_words
all_scopes_there s [] h = refl
all_scopes_there s (x ∷ xs) h =
    let k = parts s (definition_words x.definitions) (spec_words xs) h.1 in
    each_append (definition_row_words s) (definition_rows x.definitions x.word) (all_definition_rows xs)
    ∙ ap₂ ◌++◌ (scope_there s x.definitions x.word h.0 k.0) (all_scopes_there s xs k.1)

all_enumerators_there : (s : List ℕ) (xs : List Spec) → InText s (spec_words xs) → each (enumerator_row_word s) (all_enumerator_rows xs) ≡ all_enumerator_names xs
unfolding all_enumerator_rows all_enumerator_names each spec_words
all_enumerators_there s [] h = refl
all_enumerators_there s (x ∷ xs) h =
    let k = parts s (definition_words x.definitions) (spec_words xs) h.1 in
    each_append (enumerator_row_word s) (enumerator_rows x.definitions) (all_enumerator_rows xs)
    ∙ ap₂ ◌++◌ (enumerators_there s x.definitions k.0) (all_enumerators_there s xs k.1)

-- Rows of objects and values --------------------------------------------------------------------------------------------------------------

objects_there : (s : List ℕ) (xs : List Object) → InText s (object_words xs) → each (object_row_words s) (object_rows xs) ≡ object_names xs
unfolding object_rows object_row_words object_names each object_words
objects_there s [] h = refl
objects_there s (x ∷ xs) h =
    ap₂ ◌∷◌ (ap₂ (λ a b. a ∷ b ∷ []) (sym h.0) (sym h.1.0))
    (objects_there s xs (parts s (statement_words x.statements) (object_words xs) h.1.1).1)

-- The words of resolved values are words of the text.
abbrev pub ValuesThere : List ℕ → Resolved → Type 0
ValuesThere s end = Unit {0}
ValuesThere s (resolved t us rest) = There s t.word × ValuesThere s us × ValuesThere s rest

module _ (s : List ℕ) (os : List Object) where
  -- What is under a value.
  abbrev Inner : (Word → Statements → Resolved) → Type 0
  Inner inner = (t : Word) (us : Statements) → InText s (statement_words us) → ValuesThere s (inner t us)

  entries_there : (ss : Statements) (d : Definition) (vs : Values) (inner : Word → Statements → Resolved) (rest : Resolved)
      → InText s (statement_words ss) → Inner inner → ValuesThere s rest → ValuesThere s (entries ss os d vs inner rest)
  unfolding entries choose statement_words take_value
  entries_there done d vs inner rest h k r = r
  entries_there (state x inside more) d vs inner rest h k r =
      let p = parts s (option_words x.brace ++ statement_words inside) (statement_words more) h.1.1 in
      go (alike x.name d.name) (entries more os d vs inner rest)
      (k x.value inside (parts s (option_words x.brace) (statement_words inside) p.0).1)
      (entries_there more d vs inner rest p.1 k r)
    where
      go : (b : Bool) (l : Resolved) → ValuesThere s (inner x.value inside) → ValuesThere s l
          → ValuesThere s (choose b (λ _. resolved (take_value true os d vs x.value) (inner x.value inside) l) (λ _. l))
      go true l i j = (h.1.0, i, j)
      go false l i j = j

  default_taken_there : (o : Option Word) (d : Definition) (vs : Values) (inner : Word → Statements → Resolved) (rest : Resolved)
      → InText s (option_words o) → Inner inner → ValuesThere s rest → ValuesThere s (default_entry o os d vs inner rest)
  unfolding default_entry take_value option_words statement_words
  default_taken_there none d vs inner rest h k r = r
  default_taken_there (some t) d vs inner rest h k r = (h.0, k t done tt, r)

  taken_there : (o : Option Word) → InText s (option_words o) → InText s (option_words (taken o))
  unfolding taken taken_by option_words
  taken_there none h = tt
  taken_there (some t) h = go (is_no_default (sort_of t.class))
    where
      go : (b : Bool) → InText s (option_words (taken_by b t))
      go true = tt
      go false = h

  mutual
    unfolding resolve

    -- The words of what a scope resolves to.
    pub resolve_there : (ds : Definitions) (ss : Statements) → InText s (definition_words ds) → InText s (statement_words ss) → ValuesThere s (resolve ds os ss)
    resolve_there no_more ss h k = tt
    resolve_there (define d vs ds) ss h k =
        let p = definition_text s d vs ds h in
        let r = resolve_there ds ss p.rest k in
        let i : Inner (λ t us. resolve_under vs os t us) = λ t us j. resolve_under_there vs t us p.values j in
        by_choose (ValuesThere s) (among d.name (names ss)) _ _ (λ _. entries_there ss d vs _ _ k i r)
        (λ _. default_taken_there (taken d.default) d vs _ _ (taken_there d.default p.default) i r)

    resolve_under_there : (vs : Values) (t : Word) (ss : Statements) → InText s (value_words vs) → InText s (statement_words ss) → ValuesThere s (resolve_under vs os t ss)
    resolve_under_there no_value t ss h k = tt
    resolve_under_there (value w e us vs) t ss h k =
        let p = list_text s w e us vs h in
        by_choose (ValuesThere s) (alike w t) _ _ (λ _. resolve_there us ss p.1 k) (λ _. resolve_under_there vs t ss p.2 k)

-- The definitions of a kind are definitions of the text.
pub kind_there : (s : List ℕ) (k : Kind) (xs : List Spec) → InText s (spec_words xs) → InText s (definition_words (of_kind k xs))
unfolding of_kind spec_words definition_words
kind_there s k [] h = tt
kind_there s k (x ∷ xs) h =
    let p = parts s (definition_words x.definitions) (spec_words xs) h.1 in
    go (same_kind k x.kind) p.0 (kind_there s k xs p.1)
  where
    go : (b : Bool) → InText s (definition_words x.definitions) → InText s (definition_words (of_kind k xs)) → InText s (definition_words (pick b x.definitions (of_kind k xs)))
    go true p q = p
    go false p q = q

values_there : (s : List ℕ) (r : Resolved) (n : ℕ) (o : Owner) → ValuesThere s r → each (value_row_word s) (value_rows r n o) ≡ value_names r
unfolding value_rows value_row value_row_word value_names each
values_there s end n o h = refl
values_there s (resolved t us rest) n o h =
    ap₂ ◌∷◌ (ap (unless_number t.value) (sym h.0))
    (each_append (value_row_word s) (value_rows us (suc n) (of_value n)) (value_rows rest (suc n + how_many_values us) o)
    ∙ ap₂ ◌++◌ (values_there s us (suc n) (of_value n) h.1) (values_there s rest (suc n + how_many_values us) o h.2))

all_values_there : (s : List ℕ) (f : File) (xs : List Object) (o n : ℕ) → InText s (spec_words f.specs) → InText s (object_words xs)
    → each (value_row_word s) (all_value_rows (all_values f xs) o n) ≡ all_value_names (all_values f xs)
unfolding all_value_rows all_value_names all_values object_values each object_words
all_values_there s f [] o n h k = refl
all_values_there s f (x ∷ xs) o n h k =
    let p = parts s (statement_words x.statements) (object_words xs) k.1.1 in
    let r = object_values f x in
    each_append (value_row_word s) (value_rows r n (of_object o)) (all_value_rows (all_values f xs) (suc o) (n + how_many_values r))
    ∙ ap₂ ◌++◌ (values_there s r n (of_object o) (resolve_there s f.objects (of_kind x.kind f.specs) x.statements (kind_there s x.kind f.specs h) p.0))
    (all_values_there s f xs (suc o) (n + how_many_values r) h p.1)

-- The words of the objects are words of their parts.
one_text : (s : List ℕ) {w : Word} {l : List Word} → In w l → InText s l → w.bytes ≡ part s (span_of w)
one_text s (in_here e) g = subst (λ (v : Word). v.bytes ≡ part s (span_of v)) e g.0
one_text s (in_there h) g = one_text s h g.1

among_text : (s : List ℕ) (l m : List Word) → ((w : Word) → In w l → In w m) → InText s m → InText s l
among_text s [] m f g = tt
among_text s (w ∷ l) m f g = (one_text s (f w (in_here refl)) g, among_text s l m (λ v h. f v (in_there h)) g)

pub objects_text : (s : List ℕ) (t : Trees ◌⟶◌ (file ▸ ∎)) → InText s (object_words (syntax s t).parts) → InText s (object_words (syntax s t).objects)
objects_text s t g =
    subst (λ (os : List Object). InText s (object_words os)) (sym (syntax_merged s t)) (among_text s (object_words (merge (syntax s t).parts)) (object_words (syntax s t).parts) (λ w i. merge_in (syntax s t).parts i) g)

-- The words of the rows of a text's syntax.
pub names_there : (s : List ℕ) (t : Trees ◌⟶◌ (file ▸ ∎)) → words_of s (tables (syntax s t) (all_values (syntax s t) (syntax s t).objects)) ≡ names_of (syntax s t)
unfolding words_of tables names_of file_words
names_there s t =
    let f = syntax s t in
    let p = parts s (f.version ∷ spec_words f.specs) (f.cpu ∷ object_words f.parts) (syntax_text s t) in
    let o = objects_text s t p.1.1 in
    words_same (all_scopes_there s f.specs p.0.1) (all_enumerators_there s f.specs p.0.1) (objects_there s f.objects o)
    (all_values_there s f f.objects 0 0 p.0.1 o)
