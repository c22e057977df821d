-- Every resolved value of an accepted text is its own: the statements of specs/Own. Assumes nothing.
use mathlib.Core.Path.{◌≡◌, refl, sym, ◌∙◌, ap, subst}
use mathlib.Core.List.{List, [], ◌∷◌, ◌++◌, append_assoc}
use mathlib.Core.Bool.{Bool, true, false, not, false≢true}
use mathlib.Core.Option.{Option, none, some}
use Prim.Native.Nat.{ℕ, suc, ◌+◌, ◌≤◌, ◌<◌}
use native.Mathlib.Omega.{arith}
use lib.ListN.{length, length-append, get_or}
use lib.Dec.{eqb}
use borrow.Author.Tests.{eqb-true}
use Rattle.token.specs.Find.{pick, both, either, is_there}
use Rattle.token.specs.Tokens.{step_at}
use Rattle.token.proofs.Bytes.{both_true, both_second}
use Rattle.grammar.specs.Grammar.{kind as a-kind-token, Kind, OS, APPMODE, TASK, ISR, COUNTER, ALARM, RESOURCE, EVENT, COM, MESSAGE, NETWORKMESSAGE, IPDU, NM, Integer, Class, TRUE, FALSE, the, matches, Derivation, name as a-name-token}
use Rattle.grammar.proofs.Choices.{all, classes, every_class}
use Rattle.grammar.specs.Terminals.{tokens}
use Rattle.meaning.specs.Syntax.{Num, Word, span_of, span_or, AttributeType, integer, string, boolean, enum, float, reference, Bounds, Definition, Definitions, no_more, define, Values, no_value, value, Spec, Object, File, is_enum}
use Rattle.meaning.specs.Words.{alike, in_type, in_bounds, in_float_bounds}
use Rattle.meaning.specs.Kinds.{kinds, kind_number, same_kind}
use Rattle.meaning.specs.Actions.{kind_of, float_of_step, syntax}
use Rattle.meaning.specs.Places.{each}
use Rattle.meaning.specs.Scopes.{Sort, a_number, a_string, a_truth, an_auto, a_no_default, a_name, a_float, sort_of, sort_of_word, Under, find_value, definitions_or, under, of_kind, find_object, fits_number, fits_float, fits_as, fits}
use Rattle.meaning.specs.Defining.{DefinitionRow, EnumeratorRow, definition_row, enumerator_row, enumerator_rows, enumerator_rows_of, all_definition_rows, all_enumerator_rows, definition_faults}
use Rattle.meaning.specs.Applying.{ObjectRow, object_rows}
use Rattle.meaning.specs.Judging.{statement_stage}
use Rattle.meaning.specs.Resolving.{Value, number, truth, auto, enumerator, object, Taken, number_or, row_or, is_true, named, valued, take_value, Resolved, end, resolved, object_values, all_values, Owner, of_object, of_value, ValueRow, value_row, how_many_values, value_rows, all_value_rows, string as string-value, float as float_value}
use Rattle.meaning.specs.Normal.{part}
use Rattle.meaning.specs.Answers.{Tables, Answer, accepted, tables, answer}
use Rattle.meaning.specs.Reading.{Answers, too_long, not_grammar, meant}
use Rattle.meaning.specs.Standing.{Standing, standing_if, select, standing}
use Rattle.meaning.proofs.Numbering.{Counts, number_if, enumerator_numbers, enumerator_numbers_of, spec_enumerator_numbers, object_numbers, length_enumerators, length_enumerators_of, numbered}
use Rattle.meaning.proofs.Standing.{Scope, Deep, deep_more, DeepValues, more_values, DeepSpecs, more_specs, scopes, counts_back, counts_front, counts_head, counts_tail}
use Rattle.meaning.proofs.Choices.{length_rows, length_rows_of}
use Rattle.meaning.proofs.Entries.{length_values}
use Rattle.meaning.proofs.Settled.{text_ordered}
use Rattle.meaning.proofs.Order.{Ordered, drop, sub_front, sub_all, ordered_sub}
use Rattle.meaning.proofs.Runs.{Run, run_le, cut, cuts, ends}
use Rattle.meaning.proofs.Leaves.{words_leaves, leaves_in_order}
use Rattle.meaning.proofs.Sites.{bound_words, definition_words, value_words, spec_words, statement_words, object_words, file_words}
use Rattle.meaning.proofs.Lookups.{InText, syntax_text}
use Rattle.meaning.proofs.Unplaced.{unplaced_word}
use Rattle.reads_back.proofs.Restated.{plain_word, Alone, AllAlone, restated_word, Stateable, as_name, as_true, as_false, SaidLines, SaidObjects}
use Rattle.reads_back.proofs.SameWords.{alike_bytes}
use Rattle.reads_back.proofs.SameNamesText.{There, parts, definition_text, list_text, ValuesThere, resolve_there, kind_there, objects_text}
use Rattle.reads_back.proofs.SameMeaning.{no_faults, specs_free}
use Rattle.reads_back.proofs.SayingAlone.{tokens_alone, number_alone}
use Rattle.reads_back.proofs.WordingClasses.{is_number}
use Rattle.reads_back.proofs.WordingSyntax.{WordedSpecs, worded}
use Rattle.reads_back.proofs.WordingValues.{said}
use Rattle.reads_back.proofs.RestatingPlain.{syntax_plain}
use Rattle.reads_back.proofs.RestatingObjects.{SettledObjects, no_objects, more_objects, settle_objects}
use Rattle.reads_back.proofs.RestatingScopes.{is_reference, Taking, numbered as taken-number, told, referred, Takes, Settled, settled, none_of, one_of, More, again, no_more_of, nothing_there}
use Rattle.scopes.specs.Ranges.{RangeAt, FloatsAt}
use Rattle.scopes.proofs.Chains.{Chain, text_chain}
use Rattle.scopes.proofs.Forms.{Formed, an_integer, a_string as a-string-formed, a_boolean as a-boolean-formed, an_enum as an-enum-formed, a_float as a-float-formed, a_reference as a-reference-formed, AllFormed, more_formed, AllFormedUnder, more_under}
use Rattle.scopes.proofs.Forming.{FormedSpecs, formed}
use Rattle.assurances.proofs.KindWords.{kind_bytes, alone_float}
use Rattle.assurances.specs.Own.{Row, here, behind, ReferenceKind, OwnWord, own_enumerator, own_truth, UnderOwnValue, ObjectsOwn, NumberOwn, FloatOwn, ReferencesOwn, DefaultsOwn, BranchesOwn, AnObject, ReferencesResolved, OwnersOwn, NumbersOwn, FloatsOwn}

-- Rows of a table ------------------------------------------------------------------------------------------------------------------------------

row_at : {R : Type 0} (a : List R) (r : R) (b : List R) → Row (a ++ (r ∷ b)) (length a) r
row_at [] r b = here
row_at (x ∷ a) r b = behind (row_at a r b)

-- The row behind the rows a, in a table that is theirs.
row_in : {R : Type 0} (t a b : List R) (r : R) (n : ℕ) → t ≡ a ++ (r ∷ b) → n ≡ length a → Row t n r
row_in t a b r n e h = subst (λ x. Row x n r) (sym e) (subst (λ k. Row (a ++ (r ∷ b)) k r) (sym h) (row_at a r b))

-- A row has one content.
one_row : {R : Type 0} {l : List R} {n : ℕ} {r q : R} → Row l n r → Row l n q → r ≡ q
one_row here here = refl
one_row (behind a) (behind b) = one_row a b

pub data All {R : Type 0} (P : R → Type 0) : List R → Type 0 where
  none_left : All P []
  one_more : {r : R} {rs : List R} → P r → All P rs → All P (r ∷ rs)

all_append : {R : Type 0} {P : R → Type 0} {a b : List R} → All P a → All P b → All P (a ++ b)
all_append none_left q = q
all_append (one_more h p) q = one_more h (all_append p q)

of_row : {R : Type 0} {P : R → Type 0} {l : List R} {n : ℕ} {r : R} → All P l → Row l n r → P r
of_row (one_more h p) here = h
of_row (one_more h p) (behind a) = of_row p a
of_row {R = R} {P = P} {n = n} {r = r} none_left x3 = elim x3 [ ]

-- Definitions ----------------------------------------------------------------------------------------------------------------------------------

abbrev IsRow : List DefinitionRow → Standing → Type 0
IsRow R x = Row R x.number x.row

standing_row : (R A B : List DefinitionRow) (r : DefinitionRow) (b : Bool) → R ≡ A ++ (r ∷ B) → All (IsRow R) (standing_if b (length A) r)
unfolding standing_if
standing_row R A B r true e = one_more (row_in R A B r (length A) e refl) none_left
standing_row R A B r false e = none_left

select_rows : (R A B : List DefinitionRow) (p i : ℕ) → R ≡ A ++ B → i ≡ length A → All (IsRow R) (select p i B)
unfolding select
select_rows R A [] p i e h = none_left
select_rows R A (r ∷ B) p i e h =
    let e' : R ≡ (A ++ (r ∷ [])) ++ B = e ∙ sym (append_assoc A (r ∷ []) B) in
    let l = length-append A (r ∷ []) in
    let h' : suc i ≡ length (A ++ (r ∷ [])) = omega arith in
    all_append (subst (λ k. All (IsRow R) (standing_if (eqb r.under.place p) k r)) (sym h) (standing_row R A B r (eqb r.under.place p) e))
    (select_rows R (A ++ (r ∷ [])) B p (suc i) e' h')

scope_rows : (R : List DefinitionRow) (u : Word) (ds : Definitions) → Scope R u ds → All (IsRow R) (standing u ds)
scope_rows R u ds e = subst (λ l. All (IsRow R) l) e (select_rows R [] R u.place 0 refl refl)

-- Enumerators ----------------------------------------------------------------------------------------------------------------------------------

mutual
  data Listed (E : List EnumeratorRow) : Definitions → Type 0 where
    no_lists : Listed E no_more
    more_lists : {d : Definition} {vs : Values} {ds : Definitions} → ListedIn E (is_enum d.type) d.row vs → Listed E ds → Listed E (define d vs ds)

  data ListedIn (E : List EnumeratorRow) : Bool → ℕ → Values → Type 0 where
    no_entry : {b : Bool} {a : ℕ} → ListedIn E b a no_value
    more_entries : {b : Bool} {a e : ℕ} {w : Word} {us : Definitions} {vs : Values}
        → (b ≡ true → Row E e (record { attribute = a; name = span_of w })) → Listed E us → ListedIn E b a vs → ListedIn E b a (value w e us vs)

length_first : (b : Bool) (a : ℕ) (w : Word) (n : ℕ) → length (enumerator_row b a w) ≡ length (number_if b n)
unfolding enumerator_row number_if
length_first true a w n = refl
length_first false a w n = refl

first_row : (b : Bool) (a : ℕ) (w : Word) (n : ℕ) (E A B : List EnumeratorRow) → E ≡ A ++ (enumerator_row b a w ++ B) → Counts (length A) (number_if b n)
    → b ≡ true → Row E n (record { attribute = a; name = span_of w })
unfolding enumerator_row number_if
first_row true a w n E A B e c h = row_in E A B _ n e (counts_head c)
first_row false a w n E A B e c h = absurd (false≢true h)

mutual
  unfolding enumerator_rows enumerator_numbers

  listed : (ds : Definitions) (E A B : List EnumeratorRow) → E ≡ A ++ (enumerator_rows ds ++ B) → Counts (length A) (enumerator_numbers ds) → Listed E ds
  listed no_more E A B e c = no_lists
  listed (define d vs ds) E A B e c =
      let x = enumerator_rows_of vs (is_enum d.type) d.row in
      let y = enumerator_rows ds in
      let n = enumerator_numbers_of vs (is_enum d.type) in
      let l₁ = length_rows_of vs (is_enum d.type) d.row in
      let l₂ = length_enumerators_of vs (is_enum d.type) in
      let l₃ = length-append A x in
      let e₁ : E ≡ A ++ (x ++ (y ++ B)) = e ∙ ap (λ l. A ++ l) (append_assoc x y B) in
      let e₂ : E ≡ (A ++ x) ++ (y ++ B) = e₁ ∙ sym (append_assoc A x (y ++ B)) in
      more_lists (listed_in vs (is_enum d.type) d.row E A (y ++ B) e₁ (counts_front n (enumerator_numbers ds) c))
      (listed ds E (A ++ x) B e₂ (counts_back n {m = length (A ++ x)} c (omega arith)))

  listed_in : (vs : Values) (b : Bool) (a : ℕ) (E A B : List EnumeratorRow) → E ≡ A ++ (enumerator_rows_of vs b a ++ B) → Counts (length A) (enumerator_numbers_of vs b)
      → ListedIn E b a vs
  listed_in no_value b a E A B e c = no_entry
  listed_in (value w n us vs) b a E A B e c =
      let i = enumerator_row b a w in
      let x = enumerator_rows us in
      let y = enumerator_rows_of vs b a in
      let k = number_if b n in
      let m = enumerator_numbers us in
      let o = enumerator_numbers_of vs b in
      let l₀ = length_first b a w n in
      let l₁ = length_rows us in
      let l₂ = length_enumerators us in
      let l₃ = length-append A i in
      let l₄ = length-append (A ++ i) x in
      let e₁ : E ≡ A ++ (i ++ ((x ++ y) ++ B)) = e ∙ ap (λ l. A ++ l) (append_assoc i (x ++ y) B) in
      let e₂ : E ≡ (A ++ i) ++ (x ++ (y ++ B)) = e₁ ∙ sym (append_assoc A i ((x ++ y) ++ B)) ∙ ap (λ l. (A ++ i) ++ l) (append_assoc x y B) in
      let e₃ : E ≡ ((A ++ i) ++ x) ++ (y ++ B) = e₂ ∙ sym (append_assoc (A ++ i) x (y ++ B)) in
      let c₁ = counts_back k {m = length (A ++ i)} c (omega arith) in
      more_entries (first_row b a w n E A ((x ++ y) ++ B) e₁ (counts_front k (m ++ o) c))
      (listed us E (A ++ i) (y ++ B) e₂ (counts_front m o c₁))
      (listed_in vs b a E ((A ++ i) ++ x) B e₃ (counts_back m {m = length ((A ++ i) ++ x)} c₁ (omega arith)))

data AllListed (E : List EnumeratorRow) : List Spec → Type 0 where
  none_listed : AllListed E []
  more_listed : {x : Spec} {xs : List Spec} → Listed E x.definitions → AllListed E xs → AllListed E (x ∷ xs)

listed_specs : (xs : List Spec) (E A : List EnumeratorRow) → E ≡ A ++ all_enumerator_rows xs → Counts (length A) (spec_enumerator_numbers xs) → AllListed E xs
unfolding all_enumerator_rows spec_enumerator_numbers
listed_specs [] E A e c = none_listed
listed_specs (x ∷ xs) E A e c =
    let y = enumerator_rows x.definitions in
    let n = enumerator_numbers x.definitions in
    let l₁ = length_rows x.definitions in
    let l₂ = length_enumerators x.definitions in
    let l₃ = length-append A y in
    more_listed (listed x.definitions E A (all_enumerator_rows xs) e (counts_front n (spec_enumerator_numbers xs) c))
    (listed_specs xs E (A ++ y) (e ∙ sym (append_assoc A y (all_enumerator_rows xs))) (counts_back n {m = length (A ++ y)} c (omega arith)))

-- What is known of a scope -----------------------------------------------------------------------------------------------------------------------

mutual
  -- The definitions of a scope under the word u, by their rows,
  data Facts (s : List ℕ) (R : List DefinitionRow) (E : List EnumeratorRow) : Word → Definitions → Type 0 where
    no_facts : {u : Word} → Facts s R E u no_more
    more_facts : {u : Word} {d : Definition} {vs : Values} {ds : Definitions} → Row R d.row (definition_row u d) → Formed s d vs → ListFacts s R E d vs → Facts s R E u ds
        → Facts s R E u (define d vs ds)

  -- and the values of the definition d's list.
  data ListFacts (s : List ℕ) (R : List DefinitionRow) (E : List EnumeratorRow) : Definition → Values → Type 0 where
    no_list_facts : {d : Definition} → ListFacts s R E d no_value
    more_list_facts : {d : Definition} {w : Word} {e : ℕ} {us : Definitions} {vs : Values} → There s w → (is_enum d.type ≡ true → Row E e (record { attribute = d.row; name = span_of w }))
        → (d.word.place < w.place) × (w.place < d.name.place) → Facts s R E w us → ListFacts s R E d vs → ListFacts s R E d (value w e us vs)

mutual
  unfolding standing value_words

  facts_of : (s : List ℕ) (R : List DefinitionRow) (E : List EnumeratorRow) (u : Word) (ds : Definitions) → All (IsRow R) (standing u ds) → Deep R ds → Listed E ds → AllFormed s ds
      → InText s (definition_words ds) → (lo hi : ℕ) → Run lo (definition_words ds) hi → Facts s R E u ds
  facts_of s R E u no_more a d l g h lo hi r = no_facts
  facts_of s R E u (define d vs ds) (one_more a as') (deep_more v p) (more_lists l ls) (more_formed g _ gv gs) h lo hi r =
      let k = definition_text s d vs ds h in
      let c = cuts d vs ds lo hi r in
      more_facts a g (list_facts s R E d vs v l gv k.values c.a c.b (run_le (bound_words d.bounds) c.bounds) c.named.0 c.values)
      (facts_of s R E u ds as' p ls gs k.rest c.c hi c.rest)

  list_facts : (s : List ℕ) (R : List DefinitionRow) (E : List EnumeratorRow) (d : Definition) (vs : Values) → DeepValues R vs → ListedIn E (is_enum d.type) d.row vs → AllFormedUnder s vs
      → InText s (value_words vs) → (lo hi : ℕ) → suc d.word.place ≤ lo → hi ≤ d.name.place → Run lo (value_words vs) hi → ListFacts s R E d vs
  list_facts s R E d no_value v l g h lo hi i j r = no_list_facts
  list_facts s R E d (value w e us vs) (more_values c p q) (more_entries x l ls) (more_under gu gs) h lo hi i j r =
      let k = list_text s w e us vs h in
      let m = cut (definition_words us) (value_words vs) (suc w.place) hi r.1 in
      let n₁ = r.0 in
      let n₂ = run_le (definition_words us) m.front in
      let n₃ = run_le (value_words vs) m.back in
      more_list_facts {d = d} k.0 x (omega arith, omega arith)
      (facts_of s R E w us (scope_rows R w us c) p l gu k.1 (suc w.place) m.mid m.front)
      (list_facts s R E d vs q ls gs k.2 m.mid hi (omega arith) j m.back)

-- The value that a word finds in a list.
record ValueFacts (s : List ℕ) (R : List DefinitionRow) (E : List EnumeratorRow) (d : Definition) (t : Word) (x : Under) : Type 0 where
  there : There s x.word
  row : is_enum d.type ≡ true → Row E x.number (record { attribute = d.row; name = span_of x.word })
  facts : Facts s R E x.word x.definitions
  same : x.word.bytes ≡ t.bytes
  inside : (d.word.place < x.word.place) × (x.word.place < d.name.place)

found_value : (s : List ℕ) (R : List DefinitionRow) (E : List EnumeratorRow) (d : Definition) (vs : Values) (t : Word) (x : Under) → ListFacts s R E d vs → find_value vs t ≡ some x
    → ValueFacts s R E d t x
unfolding find_value
found_value s R E d no_value t x f e = absurd (let z : ◌≡◌ {A = Bool} false true = cc in false≢true z)
found_value s R E d (value w n us vs) t x (more_list_facts h r i g l) e = go (alike w t) refl (found_value s R E d vs t x l) e
  where
    go : (b : Bool) → alike w t ≡ b → (find_value vs t ≡ some x → ValueFacts s R E d t x) → pick b (some (record { word = w; number = n; definitions = us })) (find_value vs t) ≡ some x → ValueFacts s R E d t x
    go true q k j =
        let z : ◌≡◌ {A = Under} (record { word = w; number = n; definitions = us }) x = cc in
        subst (λ y. ValueFacts s R E d t y) z (record { there = h; row = r; facts = g; same = alike_bytes w t q; inside = i })
    go false q k j = k j

-- Kinds --------------------------------------------------------------------------------------------------------------------------------------------

kind_back : (k : Kind) → get_or kinds (kind_number k) OS ≡ k
unfolding kind_number
kind_back OS = refl
kind_back APPMODE = refl
kind_back TASK = refl
kind_back ISR = refl
kind_back COUNTER = refl
kind_back ALARM = refl
kind_back RESOURCE = refl
kind_back EVENT = refl
kind_back COM = refl
kind_back MESSAGE = refl
kind_back NETWORKMESSAGE = refl
kind_back IPDU = refl
kind_back NM = refl

kinds_same : (a b : Kind) → same_kind a b ≡ true → b ≡ a
unfolding same_kind
kinds_same a b e =
    let q : kind_number a ≡ kind_number b = eqb-true (kind_number a) (kind_number b) e in
    sym (kind_back b) ∙ ap (λ (n : ℕ). get_or kinds n OS) (sym q) ∙ kind_back a

-- The scope of the kind whose word is w: under its spec's word, which has the bytes of w; or empty.
record KindFacts (s : List ℕ) (R : List DefinitionRow) (E : List EnumeratorRow) (w : Word) (ds : Definitions) : Type 0 where
  word : Word
  same : part s (span_of word) ≡ part s (span_of w)
  facts : Facts s R E word ds

module _ (s : List ℕ) (R : List DefinitionRow) (E : List EnumeratorRow) (w : Word) (there : There s w) (alone : Alone (unplaced_word w)) (kind : matches a-kind-token w.class ≡ true) where
  kind_facts : (xs : List Spec) → DeepSpecs R xs → AllListed E xs → FormedSpecs s xs → WordedSpecs xs → InText s (spec_words xs) → (lo hi : ℕ) → Run lo (spec_words xs) hi
      → KindFacts s R E w (of_kind (kind_of w.class) xs)
  unfolding of_kind spec_words unplaced_word
  kind_facts [] p l g v h lo hi r = record { word = w; same = refl; facts = no_facts }
  kind_facts (x ∷ xs) (more_specs c p q) (more_listed l ls) g v h lo hi r =
      let a = parts s (definition_words x.definitions) (spec_words xs) h.1 in
      let m = cut (definition_words x.definitions) (spec_words xs) (suc x.word.place) hi r.1 in
      go (same_kind (kind_of w.class) x.kind) refl
      (facts_of s R E x.word x.definitions (scope_rows R x.word x.definitions c) p l g.0 a.0 (suc x.word.place) m.mid m.front)
      (kind_facts xs q ls g.1 v.1 a.1 m.mid hi m.back)
    where
      go : (b : Bool) → same_kind (kind_of w.class) x.kind ≡ b → Facts s R E x.word x.definitions → KindFacts s R E w (of_kind (kind_of w.class) xs)
          → KindFacts s R E w (pick b x.definitions (of_kind (kind_of w.class) xs))
      go true e i j =
          let k : kind_of x.word.class ≡ kind_of w.class = v.0.kind_is ∙ kinds_same (kind_of w.class) x.kind e in
          record {
            word = x.word;
            same = sym h.0 ∙ kind_bytes (unplaced_word x.word) (unplaced_word w) v.0.word_alone alone v.0.word_class kind k ∙ there;
            facts = i;
          }
      go false e i j = j

-- Objects ----------------------------------------------------------------------------------------------------------------------------------------

abbrev row_of : Object → ObjectRow
row_of x = record { kind = x.kind; word = span_of x.word; name = span_of x.name; block = x.block; parts = x.parts }

-- The object that a name finds among those of a kind.
record ObjectFacts (s : List ℕ) (O : List ObjectRow) (k : Kind) (t : Word) (x : Object) : Type 0 where
  row : Row O x.row (row_of x)
  kind : x.kind ≡ k
  there : There s x.name
  same : x.name.bytes ≡ t.bytes

found_object : (s : List ℕ) (k : Kind) (xs : List Object) (t : Word) (x : Object) (O A : List ObjectRow) → O ≡ A ++ object_rows xs → Counts (length A) (object_numbers xs)
    → InText s (object_words xs) → find_object k xs t ≡ some x → ObjectFacts s O k t x
unfolding object_rows object_numbers object_words find_object
found_object s k [] t x O A e c h i = absurd (let z : ◌≡◌ {A = Bool} false true = cc in false≢true z)
found_object s k (y ∷ ys) t x O A e c h i =
    let l = length-append A (row_of y ∷ []) in
    let m : suc (length A) ≡ length (A ++ (row_of y ∷ [])) = omega arith in
    go (both (same_kind k y.kind) (alike y.name t)) refl
    (found_object s k ys t x O (A ++ (row_of y ∷ [])) (e ∙ sym (append_assoc A (row_of y ∷ []) (object_rows ys)))
    (subst (λ n. Counts n (object_numbers ys)) m (counts_tail c)) (parts s (statement_words y.statements) (object_words ys) h.1.1).1) i
  where
    go : (b : Bool) → both (same_kind k y.kind) (alike y.name t) ≡ b → (find_object k ys t ≡ some x → ObjectFacts s O k t x)
        → pick b (some y) (find_object k ys t) ≡ some x → ObjectFacts s O k t x
    go true q f j =
        let z : y ≡ x = cc in
        subst (λ v. ObjectFacts s O k t v) z (record {
          row = row_in O A (object_rows ys) (row_of y) y.row e (counts_head c);
          kind = kinds_same k y.kind (both_true (same_kind k y.kind) (alike y.name t) q);
          there = h.1.0;
          same = alike_bytes y.name t (both_second (same_kind k y.kind) (alike y.name t) q);
        })
    go false q f j = f j

-- The class of a value with something under it ------------------------------------------------------------------------------------------------------

-- The sorts of values under which something may stand.
unfoldable opens : Sort → Bool
opens a_number = false
opens a_string = false
opens a_truth = true
opens an_auto = false
opens a_no_default = false
opens a_float = false
opens a_name = true

class_opens : (P : Class → Bool) → ((k : Kind) (i : Integer) → all (λ c. either (not (P c)) (opens (sort_of c))) (classes k i) ≡ true) → (c : Class) → P c ≡ true
    → opens (sort_of c) ≡ true
class_opens P h c p = go (P c) p (every_class (λ d. either (not (P d)) (opens (sort_of d))) h c)
  where
    go : (b : Bool) → b ≡ true → either (not b) (opens (sort_of c)) ≡ true → opens (sort_of c) ≡ true
    go true e k = k
    go false e k = absurd (false≢true e)

stateable_opens : {c : Class} {x : Taken} {us r : Resolved} → Stateable c (resolved x us r) → opens (sort_of c) ≡ true
unfolding opens sort_of sort_of_word matches
stateable_opens {c} (as_name h) = class_opens (matches a-name-token) (λ k i. refl) c h
stateable_opens {c} (as_true h) = class_opens (matches (the TRUE)) (λ k i. refl) c h
stateable_opens {c} (as_false h) = class_opens (matches (the FALSE)) (λ k i. refl) c h

-- The class of the word that is written for a value is the value's own, unless it is a number.
word_opens : (v : Value) (w : Word) → opens (sort_of (restated_word v w).class) ≡ true → opens (sort_of w.class) ≡ true
unfolding restated_word unplaced_word opens sort_of
word_opens (number n) w h = absurd (false≢true h)
word_opens (truth b) w h = h
word_opens auto w h = h
word_opens string-value w h = h
word_opens float_value w h = h
word_opens (enumerator e) w h = h
word_opens (object o) w h = h

-- Rows -----------------------------------------------------------------------------------------------------------------------------------------------

-- What is known of the value that a scope under the word u belongs to.
record Above (s : List ℕ) (t : Tables) (u : Word) (n : ℕ) : Type 0 where
  above : ValueRow
  its_above : Row t.values n above
  same_word : part s (span_of u) ≡ part s above.word
  own_word : OwnWord t above (span_of u)
  above_definition : DefinitionRow
  its_above_definition : Row t.definitions above.definition above_definition
  inside : (above_definition.type.place < u.place) × (u.place < above_definition.name.place)

-- What is known of the object that a scope under the word u belongs to.
record Owning (s : List ℕ) (t : Tables) (u : Word) (o : ℕ) : Type 0 where
  owner : ObjectRow
  its_owner : Row t.objects o owner
  same_kind_word : part s (span_of u) ≡ part s owner.word

abbrev OwnerFacts : List ℕ → Tables → Word → Owner → Type 0
OwnerFacts s t u (of_object o) = Owning s t u o
OwnerFacts s t u (of_value n) = Above s t u n

-- What holds of a row.
pub record OwnRow (s : List ℕ) (t : Tables) (r : ValueRow) : Type 0 where
  pub definition : DefinitionRow
  pub its_definition : Row t.definitions r.definition definition
  pub referring : (o : ℕ) → r.value ≡ object o → ReferenceKind s t r o
  pub referred_to : (k : Kind) → definition.typed ≡ reference k → AnObject r
  pub default : r.stated ≡ false → r.word ≡ definition.default
  pub under_value : (n : ℕ) → r.owner ≡ of_value n → UnderOwnValue s t r n
  pub of_its_object : (o : ℕ) → r.owner ≡ of_object o → ObjectsOwn s t r o
  pub in_range : (n : Num) → r.value ≡ number n → NumberOwn s t r n
  pub in_float_range : r.value ≡ float_value → FloatOwn s t r

named_no_object : (y : AttributeType) (os : List Object) (vs : Values) (w : Word) (i : ℕ) → is_reference y ≡ false → named y os vs w ≡ object i → ⊥
unfolding named is_reference
named_no_object (integer j) os vs w i n e = let z : ◌≡◌ {A = Bool} false true = cc in false≢true z
named_no_object string os vs w i n e = let z : ◌≡◌ {A = Bool} false true = cc in false≢true z
named_no_object boolean os vs w i n e = let z : ◌≡◌ {A = Bool} false true = cc in false≢true z
named_no_object float os vs w i n e = let z : ◌≡◌ {A = Bool} false true = cc in false≢true z
named_no_object enum os vs w i n e = let z : ◌≡◌ {A = Bool} false true = cc in false≢true z
named_no_object (reference k) os vs w i n e = false≢true (sym n)

no_object : (o : Sort) (os : List Object) (d : Definition) (vs : Values) (w : Word) (i : ℕ) → is_reference d.type ≡ false → valued o os d vs w ≡ object i → ⊥
unfolding valued
no_object a_number os d vs w i n e = let z : ◌≡◌ {A = Bool} false true = cc in false≢true z
no_object a_string os d vs w i n e = let z : ◌≡◌ {A = Bool} false true = cc in false≢true z
no_object a_truth os d vs w i n e = let z : ◌≡◌ {A = Bool} false true = cc in false≢true z
no_object an_auto os d vs w i n e = let z : ◌≡◌ {A = Bool} false true = cc in false≢true z
no_object a_no_default os d vs w i n e = let z : ◌≡◌ {A = Bool} false true = cc in false≢true z
no_object a_float os d vs w i n e = let z : ◌≡◌ {A = Bool} false true = cc in false≢true z
no_object a_name os d vs w i n e = named_no_object d.type os vs w i n e

not_a_reference : (y : AttributeType) (k : Kind) → is_reference y ≡ false → y ≡ reference k → ⊥
unfolding is_reference
not_a_reference y k n e = false≢true (sym n ∙ ap is_reference e)

reference_value : (os : List Object) (d : Definition) (vs : Values) (w : Word) (k : Kind) → d.type ≡ reference k → sort_of w.class ≡ a_name
    → valued (sort_of w.class) os d vs w ≡ object (row_or (find_object k os w))
unfolding valued named
reference_value os d vs w k q z = ap (λ o. valued o os d vs w) z ∙ ap (λ y. named y os vs w) q

named_enum : (y : AttributeType) (os : List Object) (vs : Values) (w : Word) → is_enum y ≡ true → named y os vs w ≡ enumerator (number_or (find_value vs w))
unfolding named is_enum
named_enum (integer j) os vs w e = absurd (false≢true e)
named_enum string os vs w e = absurd (false≢true e)
named_enum boolean os vs w e = absurd (false≢true e)
named_enum float os vs w e = absurd (false≢true e)
named_enum enum os vs w e = refl
named_enum (reference k) os vs w e = absurd (false≢true e)

-- A value that is no number's.
named_no_number : (y : AttributeType) (os : List Object) (vs : Values) (w : Word) (n : Num) → named y os vs w ≡ number n → ⊥
unfolding named
named_no_number (integer j) os vs w n e = let z : ◌≡◌ {A = Bool} false true = cc in false≢true z
named_no_number string os vs w n e = let z : ◌≡◌ {A = Bool} false true = cc in false≢true z
named_no_number boolean os vs w n e = let z : ◌≡◌ {A = Bool} false true = cc in false≢true z
named_no_number float os vs w n e = let z : ◌≡◌ {A = Bool} false true = cc in false≢true z
named_no_number enum os vs w n e = let z : ◌≡◌ {A = Bool} false true = cc in false≢true z
named_no_number (reference k) os vs w n e = let z : ◌≡◌ {A = Bool} false true = cc in false≢true z

no_number_of : (o : Sort) (os : List Object) (d : Definition) (vs : Values) (w : Word) (n : Num) → is_number o ≡ false → valued o os d vs w ≡ number n → ⊥
unfolding valued is_number
no_number_of a_number os d vs w n m e = false≢true (sym m)
no_number_of a_string os d vs w n m e = let z : ◌≡◌ {A = Bool} false true = cc in false≢true z
no_number_of a_truth os d vs w n m e = let z : ◌≡◌ {A = Bool} false true = cc in false≢true z
no_number_of an_auto os d vs w n m e = let z : ◌≡◌ {A = Bool} false true = cc in false≢true z
no_number_of a_no_default os d vs w n m e = let z : ◌≡◌ {A = Bool} false true = cc in false≢true z
no_number_of a_float os d vs w n m e = let z : ◌≡◌ {A = Bool} false true = cc in false≢true z
no_number_of a_name os d vs w n m e = named_no_number d.type os vs w n e

-- The type that takes a float.
float_type : (y : AttributeType) (b : Bounds) (n : Num) → fits_float y b n ≡ true → (y ≡ float) × (in_float_bounds n b ≡ true)
unfolding fits_float
float_type (integer i) b n e = absurd (false≢true e)
float_type string b n e = absurd (false≢true e)
float_type boolean b n e = absurd (false≢true e)
float_type enum b n e = absurd (false≢true e)
float_type float b n e = (refl, e)
float_type (reference k) b n e = absurd (false≢true e)

-- A value that is no float's.
named_no_float : (y : AttributeType) (os : List Object) (vs : Values) (w : Word) → named y os vs w ≡ float_value → ⊥
unfolding named
named_no_float (integer j) os vs w e = let z : ◌≡◌ {A = Bool} false true = cc in false≢true z
named_no_float string os vs w e = let z : ◌≡◌ {A = Bool} false true = cc in false≢true z
named_no_float boolean os vs w e = let z : ◌≡◌ {A = Bool} false true = cc in false≢true z
named_no_float float os vs w e = let z : ◌≡◌ {A = Bool} false true = cc in false≢true z
named_no_float enum os vs w e = let z : ◌≡◌ {A = Bool} false true = cc in false≢true z
named_no_float (reference k) os vs w e = let z : ◌≡◌ {A = Bool} false true = cc in false≢true z

-- The value of the sort o that fits the attribute d is a float: d is a FLOAT, and the word's float is in its range.
float_fits : (o : Sort) (os : List Object) (d : Definition) (vs : Values) (w : Word) → fits_as o d vs w ≡ true → valued o os d vs w ≡ float_value
    → (d.type ≡ float) × (in_float_bounds w.float d.bounds ≡ true)
unfolding valued fits_as
float_fits a_number os d vs w f e = absurd (let z : ◌≡◌ {A = Bool} false true = cc in false≢true z)
float_fits a_string os d vs w f e = absurd (let z : ◌≡◌ {A = Bool} false true = cc in false≢true z)
float_fits a_truth os d vs w f e = absurd (let z : ◌≡◌ {A = Bool} false true = cc in false≢true z)
float_fits an_auto os d vs w f e = absurd (let z : ◌≡◌ {A = Bool} false true = cc in false≢true z)
float_fits a_no_default os d vs w f e = absurd (let z : ◌≡◌ {A = Bool} false true = cc in false≢true z)
float_fits a_float os d vs w f e = float_type d.type d.bounds w.float f
float_fits a_name os d vs w f e = absurd (named_no_float d.type os vs w e)

-- The type that takes a number: an integer's, which has it, in the range.
record Fitting (y : AttributeType) (b : Bounds) (n : Num) : Type 0 where
  type : Integer
  is : y ≡ integer type
  in_its_type : in_type type n ≡ true
  in_its_range : in_bounds n b ≡ true

fitting : (y : AttributeType) (b : Bounds) (n : Num) → fits_number y b n ≡ true → Fitting y b n
unfolding fits_number
fitting (integer i) b n e = record { type = i; is = refl; in_its_type = both_true (in_type i n) (in_bounds n b) e; in_its_range = both_second (in_type i n) (in_bounds n b) e }
fitting string b n e = absurd (false≢true e)
fitting boolean b n e = absurd (false≢true e)
fitting enum b n e = absurd (false≢true e)
fitting float b n e = absurd (false≢true e)
fitting (reference k) b n e = absurd (false≢true e)

abbrev is_integer : AttributeType → Bool
is_integer (integer i) = true
is_integer string = false
is_integer boolean = false
is_integer enum = false
is_integer float = false
is_integer (reference k) = false

-- The range of an integer stands in the text.
integer_range_at : (s : List ℕ) (d : Definition) (vs : Values) (i : Integer) → Formed s d vs → d.type ≡ integer i → RangeAt s d.range.place d.bounds
integer_range_at s d vs i (an_integer j q c r) e = r
integer_range_at s d vs i (a-string-formed q c r) e = absurd (false≢true (ap is_integer (sym q ∙ e)))
integer_range_at s d vs i (a-boolean-formed q c r k) e = absurd (false≢true (ap is_integer (sym q ∙ e)))
integer_range_at s d vs i (an-enum-formed q c r k) e = absurd (false≢true (ap is_integer (sym q ∙ e)))
integer_range_at s d vs i (a-float-formed q c r) e = absurd (false≢true (ap is_integer (sym q ∙ e)))
integer_range_at s d vs i (a-reference-formed k q c r) e = absurd (false≢true (ap is_integer (sym q ∙ e)))

abbrev is_float : AttributeType → Bool
is_float (integer i) = false
is_float string = false
is_float boolean = false
is_float enum = false
is_float float = true
is_float (reference k) = false

-- So does that of a float.
float_range_at : (s : List ℕ) (d : Definition) (vs : Values) → Formed s d vs → d.type ≡ float → FloatsAt s d.range.place d.bounds
float_range_at s d vs (an_integer j q c r) e = absurd (false≢true (ap is_float (sym q ∙ e)))
float_range_at s d vs (a-string-formed q c r) e = absurd (false≢true (ap is_float (sym q ∙ e)))
float_range_at s d vs (a-boolean-formed q c r k) e = absurd (false≢true (ap is_float (sym q ∙ e)))
float_range_at s d vs (an-enum-formed q c r k) e = absurd (false≢true (ap is_float (sym q ∙ e)))
float_range_at s d vs (a-float-formed q c r) e = r
float_range_at s d vs (a-reference-formed k q c r) e = absurd (false≢true (ap is_float (sym q ∙ e)))

module _ (s : List ℕ) (t : Tables) (os : List Object)
    (objects : (k : Kind) (w : Word) (x : Object) → find_object k os w ≡ some x → ObjectFacts s t.objects k w x) where
  -- A float, in its range.
  float_ranged : (u : Word) (d : Definition) (vs : Values) (w : Word) (b : Bool) (o : Owner) → Row t.definitions d.row (definition_row u d) → Formed s d vs → Taking os d vs w → There s w
      → Alone (restated_word (valued (sort_of w.class) os d vs w) w) → valued (sort_of w.class) os d vs w ≡ float_value → FloatOwn s t (value_row (take_value b os d vs w) o)
  unfolding take_value value_row definition_row valued fits restated_word unplaced_word is_number
  float_ranged u d vs w b o r g (taken-number q m f v) h a e = absurd (let x : number w.number ≡ float_value = ap (λ y. valued y os d vs w) (sym q) ∙ e in let z : ◌≡◌ {A = Bool} false true = cc in false≢true z)
  float_ranged u d vs w b o r g (told q m f) h a e =
      let k = float_fits (sort_of w.class) os d vs w f e in
      let c : Alone (restated_word float_value w) = subst (λ v. Alone (restated_word v w)) e a in
      let i : w.float ≡ float_of_step (step_at (part s (span_of w)) 0) = alone_float (restated_word float_value w) c ∙ ap (λ l. float_of_step (step_at l 0)) h in
      record {
        definition = definition_row u d;
        its_definition = r;
        typed = k.0;
        bounds = d.bounds;
        its_range = float_range_at s d vs g k.0;
        in_its_range = subst (λ n. in_float_bounds n d.bounds ≡ true) i k.1;
      }
  float_ranged u d vs w b o r g (referred {k} q v z p) h a e = absurd (named_no_float d.type os vs w (ap (λ y. valued y os d vs w) (sym z) ∙ e))

  -- A number, in its type and its range.
  ranged : (u : Word) (d : Definition) (vs : Values) (w : Word) (b : Bool) (o : Owner) → Row t.definitions d.row (definition_row u d) → Formed s d vs → Taking os d vs w
      → (n : Num) → valued (sort_of w.class) os d vs w ≡ number n → NumberOwn s t (value_row (take_value b os d vs w) o) n
  unfolding take_value value_row definition_row valued is_number
  ranged u d vs w b o r g (taken-number q m f v) n e =
      let x : number w.number ≡ number n = ap (λ y. valued y os d vs w) (sym q) ∙ e in
      let z : w.number ≡ n = cc in
      let k = fitting d.type d.bounds n (subst (λ y. fits_number d.type d.bounds y ≡ true) z f) in
      record {
        definition = definition_row u d;
        its_definition = r;
        type = k.type;
        typed = k.is;
        in_its_type = k.in_its_type;
        bounds = d.bounds;
        its_range = integer_range_at s d vs k.type g k.is;
        in_its_range = k.in_its_range;
      }
  ranged u d vs w b o r g (told q m f) n e = absurd (no_number_of (sort_of w.class) os d vs w n q e)
  ranged u d vs w b o r g (referred {k} q v z p) n e =
      absurd (no_number_of a_name os d vs w n refl (ap (λ y. valued y os d vs w) (sym z) ∙ e))

  refer : (u : Word) (d : Definition) (vs : Values) (w : Word) (b : Bool) (o : Owner) → Row t.definitions d.row (definition_row u d) → Taking os d vs w → There s w
      → (i : ℕ) → valued (sort_of w.class) os d vs w ≡ object i → ReferenceKind s t (value_row (take_value b os d vs w) o) i
  unfolding take_value value_row definition_row is_there row_or
  refer u d vs w b o r (taken-number q n f v) h i e = absurd (no_object (sort_of w.class) os d vs w i n e)
  refer u d vs w b o r (told q n f) h i e = absurd (no_object (sort_of w.class) os d vs w i n e)
  refer u d vs w b o r (referred {k} q v z p) h i e = go (find_object k os w) refl p
    where
      go : (y : Option Object) → find_object k os w ≡ y → is_there y ≡ true → ReferenceKind s t (value_row (take_value b os d vs w) o) i
      go none y g = absurd (false≢true g)
      go (some x) y g =
          let f = objects k w x y in
          let a : object x.row ≡ object i = ap (λ m. object (row_or m)) (sym y) ∙ sym (reference_value os d vs w k q z) ∙ e in
          let c : x.row ≡ i = cc in
          record {
            definition = definition_row u d;
            its_definition = r;
            kind = k;
            refers = q;
            target = row_of x;
            its_target = subst (λ j. Row t.objects j (row_of x)) c f.row;
            same_kind = f.kind;
            same_name = sym f.there ∙ f.same ∙ h;
          }

  resolved_object : (u : Word) (d : Definition) (vs : Values) (w : Word) (b : Bool) (o : Owner) (k : Kind) → Taking os d vs w → d.type ≡ reference k
      → AnObject (value_row (take_value b os d vs w) o)
  unfolding take_value value_row
  resolved_object u d vs w b o k (taken-number q n f v) e = absurd (not_a_reference d.type k n e)
  resolved_object u d vs w b o k (told q n f) e = absurd (not_a_reference d.type k n e)
  resolved_object u d vs w b o k (referred {k = j} q v z p) e = record { row = row_or (find_object j os w); is = reference_value os d vs w j q z }

  own_row : (u : Word) (d : Definition) (vs : Values) (w : Word) (x : Taken) (o : Owner) → Row t.definitions d.row (definition_row u d) → Formed s d vs → Takes os d vs w x → There s x.word
      → Alone (restated_word x.value x.word) → OwnerFacts s t u o → OwnRow s t (value_row x o)
  unfolding take_value value_row definition_row span_or span_of
  own_row u d vs w x o r m k h g f = subst (λ y. There s y.word → Alone (restated_word y.value y.word) → OwnRow s t (value_row y o)) (sym k.is) go h g
    where
      go : There s (take_value k.stated os d vs w).word → Alone (restated_word (take_value k.stated os d vs w).value (take_value k.stated os d vs w).word)
          → OwnRow s t (value_row (take_value k.stated os d vs w) o)
      go h g = record {
        definition = definition_row u d;
        its_definition = r;
        referring = refer u d vs w k.stated o r k.taking h;
        referred_to = λ j e. resolved_object u d vs w k.stated o j k.taking e;
        default = λ e. sym (ap span_or (k.origin e));
        under_value = λ n e.
            let a = subst (λ y. OwnerFacts s t u y) e f in
            record { definition = definition_row u d; its_definition = r; above = a.above; its_above = a.its_above; same_word = a.same_word; own_word = a.own_word; above_definition = a.above_definition; its_above_definition = a.its_above_definition; inside = a.inside };
        of_its_object = λ n e.
            let a = subst (λ y. OwnerFacts s t u y) e f in
            record { definition = definition_row u d; its_definition = r; owner = a.owner; its_owner = a.its_owner; same_kind_word = a.same_kind_word };
        in_range = ranged u d vs w k.stated o r m k.taking;
        in_float_range = float_ranged u d vs w k.stated o r m k.taking h g;
      }

  -- The word under which the definitions stand that a value opens: it is that of the value, in the list of the value's own attribute.
  own_word_of : (d : Definition) (vs : Values) (w : Word) (b : Bool) (o : Owner) (v : Under) → Taking os d vs w → find_value vs w ≡ some v
      → (is_enum d.type ≡ true → Row t.enumerators v.number (record { attribute = d.row; name = span_of v.word })) → opens (sort_of w.class) ≡ true
      → OwnWord t (value_row (take_value b os d vs w) o) (span_of v.word)
  unfolding take_value value_row find_value valued fits fits_as opens number_or
  own_word_of d vs w b o v (taken-number q n f e) i r h = absurd (let z : none ≡ some v = ap (λ l. find_value l w) (sym e) ∙ i in let y : ◌≡◌ {A = Bool} false true = cc in false≢true y)
  own_word_of d vs w b o v (referred q e z p) i r h = absurd (let z : none ≡ some v = ap (λ l. find_value l w) (sym e) ∙ i in let y : ◌≡◌ {A = Bool} false true = cc in false≢true y)
  own_word_of d vs w b o v (told q n f) i r h = go (sort_of w.class) refl h f
    where
      go : (x : Sort) → sort_of w.class ≡ x → opens x ≡ true → fits_as x d vs w ≡ true → OwnWord t (value_row (take_value b os d vs w) o) (span_of v.word)
      go a_number e y g = absurd (false≢true y)
      go a_string e y g = absurd (false≢true y)
      go a_truth e y g = own_truth (is_true w.class) (ap (λ z. valued z os d vs w) e)
      go an_auto e y g = absurd (false≢true y)
      go a_no_default e y g = absurd (false≢true y)
      go a_float e y g = absurd (false≢true y)
      go a_name e y g =
          let m : is_enum d.type ≡ true = both_true (is_enum d.type) (is_there (find_value vs w)) g in
          own_enumerator v.number (ap (λ z. valued z os d vs w) e ∙ named_enum d.type os vs w m ∙ ap (λ z. enumerator (number_or z)) i) (r m)

  nothing_under : {y : Taken} {us r : Resolved} → Settled os [] no_more (resolved y us r) → ⊥
  nothing_under {y} {us} {r} m = let e : resolved y us r ≡ end = nothing_there refl m in let z : ◌≡◌ {A = Bool} false true = cc in false≢true z

  -- The rows of a scope's values -------------------------------------------------------------------------------------------------------------------

  abbrev Own : List ValueRow → Type 0
  Own l = All (OwnRow s t) l

  -- What is under the value of row n: nothing, or the definitions under its own word.
  module _ (u : Word) (d : Definition) (vs : Values) (w : Word) (x : Taken) (o : Owner) (n : ℕ) (k : Takes os d vs w x) (h : There s x.word)
      (r : Row t.values n (value_row x o)) (a : Row t.definitions d.row (definition_row u d)) where
    above_of : (v : Under) (us r' : Resolved) (y : Taken) → find_value vs w ≡ some v → ValueFacts s t.definitions t.enumerators d w v
        → Stateable (restated_word x.value x.word).class (resolved y us r') → Above s t v.word n
    unfolding take_value value_row definition_row span_of
    above_of v us r' y e f g =
        let b = k.stated in
        let z : opens (sort_of w.class) ≡ true =
        subst (λ q. opens (sort_of q.class) ≡ true) (ap (λ (q : Taken). q.word) k.is) (word_opens x.value x.word (stateable_opens g)) in
        let i : There s w = subst (λ q. There s q) (ap (λ (q : Taken). q.word) k.is) h in
        record {
          above = value_row x o;
          its_above = r;
          same_word = sym f.there ∙ f.same ∙ i ∙ ap (λ (q : Taken). part s (span_of q.word)) (sym k.is);
          own_word = subst (λ q. OwnWord t (value_row q o) (span_of v.word)) (sym k.is) (own_word_of d vs w b o v k.taking e f.row z);
          above_definition = definition_row u d;
          its_above_definition = subst (λ (q : Taken). Row t.definitions (value_row q o).definition (definition_row u d)) (sym k.is) a;
          inside = f.inside;
        }

  -- The rows of what is under a value, wherever they stand in the table, if the word of their scope is known.
  abbrev Under-rows : Definitions → Resolved → ℕ → Type 0
  Under-rows ds us n =
      (u : Word) → Facts s t.definitions t.enumerators u ds → ValuesThere s us → SaidLines us → OwnerFacts s t u (of_value n)
      → (A B : List ValueRow) → t.values ≡ A ++ (value_rows us (suc n) (of_value n) ++ B) → suc n ≡ length A → Own (value_rows us (suc n) (of_value n))

  own_under : (u : Word) (d : Definition) (vs : Values) (w : Word) (x : Taken) (us : Resolved) (n : ℕ) (o : Owner) (A B : List ValueRow) (v : Option Under) → find_value vs w ≡ v
      → Takes os d vs w x → Settled os [] (definitions_or (find_value vs w)) us → Under-rows (definitions_or (find_value vs w)) us n
      → Row t.definitions d.row (definition_row u d) → ListFacts s t.definitions t.enumerators d vs → There s x.word
      → ValuesThere s us → Stateable (restated_word x.value x.word).class us → SaidLines us → Row t.values n (value_row x o)
      → t.values ≡ A ++ (value_rows us (suc n) (of_value n) ++ B) → suc n ≡ length A → Own (value_rows us (suc n) (of_value n))
  unfolding value_rows definitions_or
  own_under u d vs w x end n o A B v i k m rec a b h h' g g' p e l = none_left
  own_under u d vs w x (resolved y us r) n o A B none i k m rec a b h h' g g' p e l =
      absurd (nothing_under (subst (λ z. Settled os [] (definitions_or z) (resolved y us r)) i m))
  own_under u d vs w x (resolved y us r) n o A B (some v) i k m rec a b h h' g g' p e l =
      let f = found_value s t.definitions t.enumerators d vs w v b i in
      rec v.word (subst (λ z. Facts s t.definitions t.enumerators v.word (definitions_or z)) (sym i) f.facts) h' g'
      (above_of u d vs w x o n k h p a v us r y i f g) A B e l

  -- The rows of an entry, of what is under it, and of what is behind it.
  own_entry : (u : Word) (d : Definition) (vs : Values) (w : Word) (x : Taken) (us r : Resolved) (n : ℕ) (o : Owner) (A B : List ValueRow)
      → Takes os d vs w x → Settled os [] (under vs w) us → Under-rows (under vs w) us n
      → Row t.definitions d.row (definition_row u d) → Formed s d vs → ListFacts s t.definitions t.enumerators d vs
      → ValuesThere s (resolved x us r) → SaidLines (resolved x us r) → OwnerFacts s t u o
      → ((C : List ValueRow) → t.values ≡ C ++ (value_rows r (suc n + how_many_values us) o ++ B) → suc n + how_many_values us ≡ length C → Own (value_rows r (suc n + how_many_values us) o))
      → t.values ≡ A ++ (value_rows (resolved x us r) n o ++ B) → n ≡ length A → Own (value_rows (resolved x us r) n o)
  unfolding value_rows under
  own_entry u d vs w x us r n o A B k m rec a c b h g q rest e l =
      let row = value_row x o in
      let us-rows = value_rows us (suc n) (of_value n) in
      let j = suc n + how_many_values us in
      let r-rows = value_rows r j o in
      let e₁ : t.values ≡ A ++ (row ∷ (us-rows ++ (r-rows ++ B))) = e ∙ ap (λ z. A ++ (row ∷ z)) (append_assoc us-rows r-rows B) in
      let e₂ : t.values ≡ (A ++ (row ∷ [])) ++ (us-rows ++ (r-rows ++ B)) = e₁ ∙ sym (append_assoc A (row ∷ []) (us-rows ++ (r-rows ++ B))) in
      let e₃ : t.values ≡ ((A ++ (row ∷ [])) ++ us-rows) ++ (r-rows ++ B) = e₂ ∙ sym (append_assoc (A ++ (row ∷ [])) us-rows (r-rows ++ B)) in
      let l₁ = length-append A (row ∷ []) in
      let l₂ = length-append (A ++ (row ∷ [])) us-rows in
      let l₃ = length_values us (suc n) (of_value n) in
      let p : Row t.values n row = row_in t.values A (us-rows ++ (r-rows ++ B)) row n e₁ l in
      let i₁ : suc n ≡ length (A ++ (row ∷ [])) = omega arith in
      let i₂ : j ≡ length ((A ++ (row ∷ [])) ++ us-rows) = omega arith in
      one_more (own_row u d vs w x o a c k h.0 g.0.alone q)
      (all_append (own_under u d vs w x us n o (A ++ (row ∷ [])) (r-rows ++ B) (find_value vs w) refl k m rec a b h.0 h.1 g.0.form g.1 p e₂ i₁)
      (rest ((A ++ (row ∷ [])) ++ us-rows) e₃ i₂))

  mutual
    unfolding value_rows

    own_rows : {before : List Definition} {ds : Definitions} {r : Resolved} → Settled os before ds r → (u : Word) (n : ℕ) (o : Owner)
        → Facts s t.definitions t.enumerators u ds → ValuesThere s r → SaidLines r → OwnerFacts s t u o
        → (A B : List ValueRow) → t.values ≡ A ++ (value_rows r n o ++ B) → n ≡ length A → Own (value_rows r n o)
    own_rows settled u n o f h g q A B e l = none_left
    own_rows (none_of _ _ _ m) u n o (more_facts a f b c) h g q A B e l = own_rows m u n o c h g q A B e l
    own_rows (one_of {d} {vs} {x} {t = w} {us} {r} _ k m y) u n o (more_facts a f b c) h g q A B e l =
        own_entry u d vs w x us r n o A B k m (λ u' f' h' g' q' A' B' e' l'. own_rows m u' (suc n) (of_value n) f' h' g' q' A' B' e' l') a f b h g q
        (λ C e' l'. own_more y u (suc n + how_many_values us) o a f b c h.2 g.2 q C B e' l') e l

    own_more : {before : List Definition} {d : Definition} {vs : Values} {ds : Definitions} {r : Resolved} → More os before d vs ds r → (u : Word) (n : ℕ) (o : Owner)
        → Row t.definitions d.row (definition_row u d) → Formed s d vs → ListFacts s t.definitions t.enumerators d vs → Facts s t.definitions t.enumerators u ds
        → ValuesThere s r → SaidLines r → OwnerFacts s t u o
        → (A B : List ValueRow) → t.values ≡ A ++ (value_rows r n o ++ B) → n ≡ length A → Own (value_rows r n o)
    own_more (again {d} {vs} {x} {t = w} {us} {r} _ k m y) u n o a f b c h g q A B e l =
        own_entry u d vs w x us r n o A B k m (λ u' f' h' g' q' A' B' e' l'. own_rows m u' (suc n) (of_value n) f' h' g' q' A' B' e' l') a f b h g q
        (λ C e' l'. own_more y u (suc n + how_many_values us) o a f b c h.2 g.2 q C B e' l') e l
    own_more (no_more_of m) u n o a f b c h g q A B e l = own_rows m u n o c h g q A B e l

-- Every row of a text --------------------------------------------------------------------------------------------------------------------------------

module _ (s : List ℕ) (t : Tables) (f : File)
    (objects : (k : Kind) (w : Word) (x : Object) → find_object k f.objects w ≡ some x → ObjectFacts s t.objects k w x)
    (kinds-of : (w : Word) → There s w → Alone (unplaced_word w) → matches a-kind-token w.class ≡ true → KindFacts s t.definitions t.enumerators w (of_kind (kind_of w.class) f.specs))
    (specs-there : InText s (spec_words f.specs)) where
  own_objects : {xs : List Object} → SettledObjects f xs → (i o n : ℕ) (A : List ValueRow) (C : List ObjectRow) → InText s (object_words xs) → SaidObjects xs (all_values f xs) i
      → t.objects ≡ C ++ object_rows xs → o ≡ length C → t.values ≡ A ++ all_value_rows (all_values f xs) o n → n ≡ length A
      → All (OwnRow s t) (all_value_rows (all_values f xs) o n)
  unfolding all_value_rows all_values object_values object_words object_rows
  own_objects no_objects i o n A C h g e' l' e l = none_left
  own_objects (more_objects {x} {xs} m p) i o n A C h g e' l' e l =
      let r = object_values f x in
      let k = subst (λ (y : Kind). KindFacts s t.definitions t.enumerators x.word (of_kind y f.specs)) g.0.kind_is (kinds-of x.word h.0 g.0.word_alone g.0.word_class) in
      let owns : Owning s t k.word o = record { owner = row_of x; its_owner = row_in t.objects C (object_rows xs) (row_of x) o e' l'; same_kind_word = k.same } in
      let l₀ = length-append C (row_of x ∷ []) in
      let i₀ : suc o ≡ length (C ++ (row_of x ∷ [])) = omega arith in
      let j = n + how_many_values r in
      let a = parts s (statement_words x.statements) (object_words xs) h.1.1 in
      let rows = value_rows r n (of_object o) in
      let rest = all_value_rows (all_values f xs) (suc o) j in
      let l₁ = length-append A rows in
      let l₂ = length_values r n (of_object o) in
      let i₁ : j ≡ length (A ++ rows) = omega arith in
      all_append
      (own_rows s t f.objects objects m k.word n (of_object o) k.facts
      (resolve_there s f.objects (of_kind x.kind f.specs) x.statements (kind_there s x.kind f.specs specs-there) a.0) g.0.lines owns A rest e l)
      (own_objects p (suc i) (suc o) j (A ++ rows) (C ++ (row_of x ∷ [])) a.1 g.1 (e' ∙ sym (append_assoc C (row_of x ∷ []) (object_rows xs))) i₀ (e ∙ sym (append_assoc A rows rest)) i₁)

own_table : (s : List ℕ) (d : Derivation (tokens s)) → definition_faults (syntax s d.tree) ≡ [] → statement_stage (syntax s d.tree) ≡ []
    → All (OwnRow s (tables (syntax s d.tree) (all_values (syntax s d.tree) (syntax s d.tree).objects))) (all_value_rows (all_values (syntax s d.tree) (syntax s d.tree).objects) 0 0)
unfolding tables statement_stage file_words
own_table s d a b =
    let f = syntax s d.tree in
    let w = parts s (f.version ∷ spec_words f.specs) (f.cpu ∷ object_words f.parts) (syntax_text s d.tree) in
    let os-text = objects_text s d.tree w.1.1 in
    let o = subst (λ l. Ordered 0 l) (sym d.leaves) (text_ordered s) in
    let c = subst (Chain s 0) (sym d.leaves) (text_chain s) in
    let x = worded s d.tree (subst (λ l. AllAlone (each (plain_word s) l)) (sym d.leaves) (tokens_alone s)) in
    let n = numbered s d.tree in
    let y = ordered_sub (words_leaves s d.tree) 0 (leaves_in_order s d.tree o) in
    let z = ends (spec_words f.specs) 0 (ordered_sub (drop {t = f.version} (sub_front (sub_all (spec_words f.specs)) (f.cpu ∷ object_words f.parts))) 0 y) in
    own_objects s (tables f (all_values f f.objects)) f
    (λ k v x e. found_object s k f.objects v x (object_rows f.objects) [] refl n.1.0 os-text e)
    (λ v there alone kind. kind_facts s (all_definition_rows f.specs) (all_enumerator_rows f.specs) v there alone kind f.specs (scopes s d.tree o)
    (listed_specs f.specs (all_enumerator_rows f.specs) [] refl n.0.1) (formed s d.tree c) x.specs w.0.1 0 z.hi z.run)
    w.0.1 (settle_objects f f.objects (specs_free f a) (syntax_plain s d.tree) b) 0 0 0 [] [] os-text
    (said s d (tokens_alone s) number_alone).objects refl refl refl refl

every_row : (s : List ℕ) (d : Derivation (tokens s)) (t : Tables) → answer (syntax s d.tree) ≡ accepted t → All (OwnRow s t) t.values
unfolding tables
every_row s d t e =
    let n = no_faults (syntax s d.tree) t e in
    subst (λ (y : Tables). All (OwnRow s y) y.values) n.tables_are (own_table s d n.definitions n.statements)

by_derivation : {s : List ℕ} {a : Answer} (t : Tables) → Answers s a → a ≡ accepted t → All (OwnRow s t) t.values
by_derivation t (too_long k) e = absurd (let z : ◌≡◌ {A = Bool} false true = cc in false≢true z)
by_derivation t (not_grammar a k m q) e = absurd (let z : ◌≡◌ {A = Bool} false true = cc in false≢true z)
by_derivation {s} t (meant w d) e = every_row s d t e

-- A resolved reference leads to an object of the reference's kind whose name has the value word's bytes.
pub reference_kind : ReferencesOwn
reference_kind s t a i r p o e = (of_row (by_derivation t a refl) p).referring o e

-- Every value of a reference is such an object.
pub reference_resolved : ReferencesResolved
reference_resolved s t a i r p d k q e =
    let h = of_row (by_derivation t a refl) p in
    h.referred_to k (ap (λ (x : DefinitionRow). x.typed) (one_row h.its_definition q) ∙ e)

-- A value that was not stated has its word in its own definition's default.
pub default_own : DefaultsOwn
default_own s t a i r p e =
    let h = of_row (by_derivation t a refl) p in
    record { definition = h.definition; its_definition = h.its_definition; own_default = h.default e }

-- A value under a value of an attribute has a definition that stands under that value's own word.
pub under_own_value : BranchesOwn
under_own_value s t a i r p n e = (of_row (by_derivation t a refl) p).under_value n e

-- A value that an object owns has a definition under that object's own kind word.
pub owner_own : OwnersOwn
owner_own s t a i r p o e = (of_row (by_derivation t a refl) p).of_its_object o e

-- A number lies in its own type and its own range.
pub number_own : NumbersOwn
number_own s t a i r p n e = (of_row (by_derivation t a refl) p).in_range n e

-- A float lies in its own range.
pub float_own : FloatsOwn
float_own s t a i r p e = (of_row (by_derivation t a refl) p).in_float_range e
