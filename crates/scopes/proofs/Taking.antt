-- What the lookups of values and the values that an attribute takes cite. Assumes nothing.
use mathlib.Core.Path.{◌≡◌, refl, sym, ◌∙◌, ap, ap₂, subst}
use mathlib.Core.List.{List, [], ◌∷◌, ◌++◌}
use mathlib.Core.Bool.{Bool, true, false, not, false≢true}
use mathlib.Core.Option.{Option, none, some}
use Prim.Native.Nat.{ℕ, ◌+◌, ◌*◌, ◌≤◌, ◌<◌}
use native.Mathlib.Omega.{arith}
use lib.ListN.{length, get_or}
use lib.Dec.{eqb}
use borrow.Author.Tests.{eq-eqb, ne_eqb}
use Rattle.meaning.specs.Cells.{integer_code}
use Rattle.std.specs.Prelude.{None}
use Rattle.token.specs.Find.{pick, both, bit, is_there}
use Rattle.token.specs.Words.{same}
use Rattle.token.specs.Tokens.{step_at, part_of}
use Rattle.grammar.specs.Grammar.{Integer, UINT32, INT32, UINT64, INT64}
use Rattle.rows.specs.Order.{MaybeFault}
use Rattle.rows.specs.Found.{Found}
use Rattle.std.specs.Prelude.{Some, None}
use Rattle.rows.specs.Search.{find_named, is_found}
use Rattle.meaning.specs.Faults.{first}
use Rattle.meaning.specs.Syntax.{Num, Word, AttributeType, boolean, Definition, Values, no_value, value, Defined, File, is_enum}
use Rattle.meaning.specs.Actions.{num_of_step, float_of_step}
use Rattle.meaning.specs.Words.{alike, in_type, in_bounds, in_float_bounds}
use Rattle.meaning.specs.Scopes.{Under, find_value, Sort, a_number, a_truth, an_auto, a_no_default, a_name, a_float as float-sort, is_string, is_boolean, fits_number, fits_float, fits_as, fits, a_string as string-sort}
use Rattle.meaning.specs.Defining.{range_faults, bound_faults, low_faults}
use Rattle.meaning.proofs.Sites.{value_words, definition_words}
use Rattle.layout.specs.Kept.{Entry, list_key, truth_cells, default_code, definition_cells, code_of, kept_definitions}
use Rattle.layout.proofs.Codes.{kind_low, integer_low}
use Rattle.scopes.specs.Items.{integer_coded}
use Rattle.scopes.specs.Situations.{Situation, RowOf}
use Rattle.scopes.specs.Ranges.{RangeAt, FloatsAt}
use Rattle.scopes.proofs.Forms.{Truths, no_truths, both_truths, Formed, an_integer, a_string, a_boolean, an_enum, a_float, a_reference}
use Rattle.scopes.specs.Promises.{fault_of, InRange, InFloats, BoundFault, LowFault, number_found, place_found, FindsEnumerator, FindsWord, FindsTruth, TakesNumber, TakesFloat, TakesUnder, TakesWord, RangeFault}
use Rattle.scopes.proofs.Goodness.{Good, Goods, good_back}
use Rattle.scopes.proofs.Rooms.{definition_cell}
use Rattle.scopes.proofs.Descents.{nth_in, entry_facts, DefinitionFacts, found_value, value_word}
use Rattle.scopes.proofs.Answering.{in_list, word_in_list}
use Rattle.scopes.proofs.Sorts.{sort_coded, tells, name_coded}

-- Cells of a row ----------------------------------------------------------------------------------------------------------------------------

abbrev entry : (f : File) (j : ℕ) (x : Defined) → RowOf f j x → Entry
entry f j x r = record { under = r.under; outer = r.outer; definition = x.definition; values = x.values }

module _ (f : File) (d : List ℕ) (j : ℕ) (x : Defined) (h : d ≡ kept_definitions f) (r : RowOf f j x) (l : j < 513) where
  pub code_cell : get_or d (j * 19 + 12) 0 ≡ code_of x.definition.word
  unfolding definition_cells
  code_cell = definition_cell f d j 12 (entry f j x r) h r.nth l (omega arith)

  pub key_cell : get_or d (j * 19 + 14) 0 ≡ list_key x.values
  unfolding definition_cells
  key_cell = definition_cell f d j 14 (entry f j x r) h r.nth l (omega arith)

  pub auto_cell : get_or d (j * 19 + 7) 0 ≡ bit x.definition.auto
  unfolding definition_cells
  auto_cell = definition_cell f d j 7 (entry f j x r) h r.nth l (omega arith)

  pub range_cell : get_or d (j * 19 + 8) 0 ≡ x.definition.range.place
  unfolding definition_cells
  range_cell = definition_cell f d j 8 (entry f j x r) h r.nth l (omega arith)

  module _ (b : is_enum x.definition.type ≡ false) where
    pub size_cell : get_or d (j * 19 + 15) 0 ≡ get_or (truth_cells false x.values ++ (default_code x.definition.default ∷ [])) 0 0
    unfolding definition_cells
    size_cell = definition_cell f d j 15 (entry f j x r) h r.nth l (omega arith) ∙ ap (λ c. get_or (truth_cells c x.values ++ (default_code x.definition.default ∷ [])) 0 0) b

    pub second_cell : get_or d (j * 19 + 16) 0 ≡ get_or (truth_cells false x.values ++ (default_code x.definition.default ∷ [])) 1 0
    unfolding definition_cells
    second_cell = definition_cell f d j 16 (entry f j x r) h r.nth l (omega arith) ∙ ap (λ c. get_or (truth_cells c x.values ++ (default_code x.definition.default ∷ [])) 1 0) b

    pub size2_cell : get_or d (j * 19 + 17) 0 ≡ get_or (truth_cells false x.values ++ (default_code x.definition.default ∷ [])) 2 0
    unfolding definition_cells
    size2_cell = definition_cell f d j 17 (entry f j x r) h r.nth l (omega arith) ∙ ap (λ c. get_or (truth_cells c x.values ++ (default_code x.definition.default ∷ [])) 2 0) b

row_facts : {s : List ℕ} {f : File} {j : ℕ} {x : Defined} → (k : Situation s f) → (r : RowOf f j x) → DefinitionFacts s f r.under (entry_facts k (nth_in r.nth)).scope.outer x
row_facts k r = (entry_facts k (nth_in r.nth)).facts

-- Codes and types ---------------------------------------------------------------------------------------------------------------------------

coded : (i : Integer) → integer_coded (integer_code i) ≡ i
unfolding integer_coded integer_code
coded UINT32 = refl
coded INT32 = refl
coded UINT64 = refl
coded INT64 = refl

module _ {s : List ℕ} {d : Definition} where
  pub coded_boolean : {vs : Values} → Formed s d vs → code_of d.word ≡ 40 → d.type ≡ boolean
  coded_boolean (an_integer i t c r) e = let a = integer_low i in absurd (omega arith)
  coded_boolean (a_string t c b) e = absurd (omega arith)
  coded_boolean (a_float t c g) e = absurd (omega arith)
  coded_boolean (a_boolean t c b v) e = t
  coded_boolean (an_enum t c b v) e = absurd (omega arith)
  coded_boolean (a_reference k t c b) e = let a = kind_low k in absurd (omega arith)

  pub coded_enum : {vs : Values} → Formed s d vs → code_of d.word ≡ 41 → is_enum d.type ≡ true
  unfolding is_enum
  coded_enum (an_integer i t c r) e = let a = integer_low i in absurd (omega arith)
  coded_enum (a_string t c b) e = absurd (omega arith)
  coded_enum (a_float t c g) e = absurd (omega arith)
  coded_enum (a_boolean t c b v) e = absurd (omega arith)
  coded_enum (an_enum t c b v) e = ap is_enum t
  coded_enum (a_reference k t c b) e = let a = kind_low k in absurd (omega arith)

  coded_other : {vs : Values} → Formed s d vs → (code_of d.word ≡ 41 → ⊥) → is_enum d.type ≡ false
  unfolding is_enum
  coded_other (an_integer i t c r) e = ap is_enum t
  coded_other (a_string t c b) e = ap is_enum t
  coded_other (a_float t c g) e = ap is_enum t
  coded_other (a_boolean t c b v) e = ap is_enum t
  coded_other (an_enum t c b v) e = absurd (e c)
  coded_other (a_reference k t c b) e = ap is_enum t

  coded_none : {vs : Values} → Formed s d vs → (code_of d.word ≡ 40 → ⊥) → (code_of d.word ≡ 41 → ⊥) → vs ≡ no_value
  coded_none (an_integer i t c r) e g = refl
  coded_none (a_string t c b) e g = refl
  coded_none (a_float t c y) e g = refl
  coded_none (a_boolean t c b v) e g = absurd (e c)
  coded_none (an_enum t c b v) e g = absurd (g c)
  coded_none (a_reference k t c b) e g = refl

  string_test : {vs : Values} → Formed s d vs → eqb (code_of d.word) 39 ≡ is_string d.type
  unfolding is_string
  string_test (an_integer i t c r) = let a = integer_low i in ne_eqb (code_of d.word) 39 (λ e. omega arith) ∙ sym (ap is_string t)
  string_test (a_string t c b) = eq-eqb (code_of d.word) 39 c ∙ sym (ap is_string t)
  string_test (a_boolean t c b v) = ne_eqb (code_of d.word) 39 (λ e. omega arith) ∙ sym (ap is_string t)
  string_test (an_enum t c b v) = ne_eqb (code_of d.word) 39 (λ e. omega arith) ∙ sym (ap is_string t)
  string_test (a_float t c g) = ne_eqb (code_of d.word) 39 (λ e. omega arith) ∙ sym (ap is_string t)
  string_test (a_reference k t c b) = let a = kind_low k in ne_eqb (code_of d.word) 39 (λ e. omega arith) ∙ sym (ap is_string t)

  boolean_test : {vs : Values} → Formed s d vs → eqb (code_of d.word) 40 ≡ is_boolean d.type
  unfolding is_boolean
  boolean_test (an_integer i t c r) = let a = integer_low i in ne_eqb (code_of d.word) 40 (λ e. omega arith) ∙ sym (ap is_boolean t)
  boolean_test (a_string t c b) = ne_eqb (code_of d.word) 40 (λ e. omega arith) ∙ sym (ap is_boolean t)
  boolean_test (a_float t c g) = ne_eqb (code_of d.word) 40 (λ e. omega arith) ∙ sym (ap is_boolean t)
  boolean_test (a_boolean t c b v) = eq-eqb (code_of d.word) 40 c ∙ sym (ap is_boolean t)
  boolean_test (an_enum t c b v) = ne_eqb (code_of d.word) 40 (λ e. omega arith) ∙ sym (ap is_boolean t)
  boolean_test (a_reference k t c b) = let a = kind_low k in ne_eqb (code_of d.word) 40 (λ e. omega arith) ∙ sym (ap is_boolean t)

  the_truths : {vs : Values} → Formed s d vs → d.type ≡ boolean → Truths vs
  unfolding is_boolean
  the_truths (an_integer i t c r) e = absurd (false≢true (sym (ap is_boolean t) ∙ ap is_boolean e))
  the_truths (a_string t c b) e = absurd (false≢true (sym (ap is_boolean t) ∙ ap is_boolean e))
  the_truths (a_float t c g) e = absurd (false≢true (sym (ap is_boolean t) ∙ ap is_boolean e))
  the_truths (a_boolean t c b v) e = v
  the_truths (an_enum t c b v) e = absurd (false≢true (sym (ap is_boolean t) ∙ ap is_boolean e))
  the_truths (a_reference k t c b) e = absurd (false≢true (sym (ap is_boolean t) ∙ ap is_boolean e))

-- TRUE and FALSE ----------------------------------------------------------------------------------------------------------------------------

module _ (s : List ℕ) (n at len : ℕ) (t : Word) (q : t.bytes ≡ part_of s at len) where
  truth_is : (w : Word) (a b : ℕ) (c : Bool) → Good s w → a ≡ w.place → b ≡ w.length → same (part_of s a b) (part_of s at len) ≡ c → alike w t ≡ c
  unfolding alike
  truth_is w a b c g e h k = ap₂ same (g.read.bytes ∙ sym (ap₂ (part_of s) e h)) q ∙ k

  first_truth : (vs : Values) → Truths vs → Goods s (value_words vs) → (a b : ℕ) → a ≡ list_key vs → b ≡ get_or (truth_cells false vs ++ (n ∷ [])) 0 0
      → same (part_of s a b) (part_of s at len) ≡ true → a ≡ place_found (find_value vs t)
  unfolding list_key truth_cells find_value place_found value_words
  first_truth no_value no_truths g a b e h k = e
  first_truth (value w i us (value v j ws no_value)) both_truths g a b e h k = e ∙ sym (ap (λ c. place_found (pick c (some (record { word = w; number = i; definitions = us })) (find_value (value v j ws no_value) t))) (truth_is w a b true g.0 e h k))
  first_truth (value w i us no_value) x7 g a b e h k = elim x7 [ ]
  first_truth (value w i us (value v j ws (value _ _ _ _))) x14 g a b e h k = elim x14 [ ]

  second_truth : (vs : Values) → Truths vs → Goods s (value_words vs) → (a b a₂ b₂ : ℕ) → a ≡ list_key vs → b ≡ get_or (truth_cells false vs ++ (n ∷ [])) 0 0
      → a₂ ≡ get_or (truth_cells false vs ++ (n ∷ [])) 1 0 → b₂ ≡ get_or (truth_cells false vs ++ (n ∷ [])) 2 0
      → same (part_of s a b) (part_of s at len) ≡ false → same (part_of s a₂ b₂) (part_of s at len) ≡ true → a₂ ≡ place_found (find_value vs t)
  unfolding list_key truth_cells find_value place_found value_words
  second_truth no_value no_truths g a b a₂ b₂ e h e₂ h₂ k k₂ = e₂
  second_truth (value w i us (value v j ws no_value)) both_truths g a b a₂ b₂ e h e₂ h₂ k k₂ =
      e₂ ∙ sym (ap (λ c. place_found (pick c (some (record { word = w; number = i; definitions = us })) (find_value (value v j ws no_value) t))) (truth_is w a b false g.0 e h k)
      ∙ ap (λ c. place_found (pick c (some (record { word = v; number = j; definitions = ws })) none)) (truth_is v a₂ b₂ true (good_back s (definition_words us) (value_words (value v j ws no_value)) g.1).0 e₂ h₂ k₂))
  second_truth (value w i us no_value) x10 g a b a₂ b₂ e h e₂ h₂ k k₂ = elim x10 [ ]
  second_truth (value w i us (value v j ws (value _ _ _ _))) x17 g a b a₂ b₂ e h e₂ h₂ k k₂ = elim x17 [ ]

  no_truth : (vs : Values) → Truths vs → Goods s (value_words vs) → (a b a₂ b₂ : ℕ) → a ≡ list_key vs → b ≡ get_or (truth_cells false vs ++ (n ∷ [])) 0 0
      → a₂ ≡ get_or (truth_cells false vs ++ (n ∷ [])) 1 0 → b₂ ≡ get_or (truth_cells false vs ++ (n ∷ [])) 2 0
      → same (part_of s a b) (part_of s at len) ≡ false → same (part_of s a₂ b₂) (part_of s at len) ≡ false → 0 ≡ place_found (find_value vs t)
  unfolding list_key truth_cells find_value place_found value_words
  no_truth no_value no_truths g a b a₂ b₂ e h e₂ h₂ k k₂ = refl
  no_truth (value w i us (value v j ws no_value)) both_truths g a b a₂ b₂ e h e₂ h₂ k k₂ =
      sym (ap (λ c. place_found (pick c (some (record { word = w; number = i; definitions = us })) (find_value (value v j ws no_value) t))) (truth_is w a b false g.0 e h k)
      ∙ ap (λ c. place_found (pick c (some (record { word = v; number = j; definitions = ws })) none)) (truth_is v a₂ b₂ false (good_back s (definition_words us) (value_words (value v j ws no_value)) g.1).0 e₂ h₂ k₂))
  no_truth (value w i us no_value) x10 g a b a₂ b₂ e h e₂ h₂ k k₂ = elim x10 [ ]
  no_truth (value w i us (value v j ws (value _ _ _ _))) x17 g a b a₂ b₂ e h e₂ h₂ k k₂ = elim x17 [ ]

not_enum : (y : AttributeType) → y ≡ boolean → is_enum y ≡ false
unfolding is_enum
not_enum y e = ap is_enum e

module _ (s d : List ℕ) (j at len a b : ℕ) (e : a ≡ get_or d (j * 19 + 14) 0) (h : b ≡ get_or d (j * 19 + 15) 0) where
  pub truth_one : (r : Bool) → r ≡ same (part_of s a b) (part_of s at len) → r ≡ true → FindsTruth s d j at len a
  truth_one r z k f x t st hd row l y q =
      let g = row_facts st row in
      first_truth s _ at len t q x.values (the_truths g.formed y) g.values.good a b
      (e ∙ key_cell f d j x hd row l) (h ∙ size_cell f d j x hd row l (not_enum x.definition.type y)) (sym z ∙ k)

  module _ (a₂ b₂ : ℕ) (e₂ : a₂ ≡ get_or d (j * 19 + 16) 0) (h₂ : b₂ ≡ get_or d (j * 19 + 17) 0) where
    pub truth_two : (r r₂ : Bool) → r ≡ same (part_of s a b) (part_of s at len) → r ≡ false → r₂ ≡ same (part_of s a₂ b₂) (part_of s at len) → r₂ ≡ true → FindsTruth s d j at len a₂
    truth_two r r₂ z k z₂ k₂ f x t st hd row l y q =
        let g = row_facts st row in
        second_truth s _ at len t q x.values (the_truths g.formed y) g.values.good a b a₂ b₂
        (e ∙ key_cell f d j x hd row l) (h ∙ size_cell f d j x hd row l (not_enum x.definition.type y)) (e₂ ∙ second_cell f d j x hd row l (not_enum x.definition.type y)) (h₂ ∙ size2_cell f d j x hd row l (not_enum x.definition.type y))
        (sym z ∙ k) (sym z₂ ∙ k₂)

    pub truth_none : (r r₂ : Bool) → r ≡ same (part_of s a b) (part_of s at len) → r ≡ false → r₂ ≡ same (part_of s a₂ b₂) (part_of s at len) → r₂ ≡ false → FindsTruth s d j at len 0
    truth_none r r₂ z k z₂ k₂ f x t st hd row l y q =
        let g = row_facts st row in
        no_truth s _ at len t q x.values (the_truths g.formed y) g.values.good a b a₂ b₂
        (e ∙ key_cell f d j x hd row l) (h ∙ size_cell f d j x hd row l (not_enum x.definition.type y)) (e₂ ∙ second_cell f d j x hd row l (not_enum x.definition.type y)) (h₂ ∙ size2_cell f d j x hd row l (not_enum x.definition.type y))
        (sym z ∙ k) (sym z₂ ∙ k₂)

-- Values of a list --------------------------------------------------------------------------------------------------------------------------

pub finds_enumerator : (s d e : List ℕ) (m j at len key : ℕ) (r : Found) → key ≡ get_or d (j * 19 + 14) 0 → r ≡ find_named s e 3 m 0 key 1 at len 0 → FindsEnumerator s d e m j at len r
finds_enumerator s d e m j at len key r h z f x t st hd he row l rch b q =
    z ∙ ap (λ k. find_named s e 3 m 0 k 1 at len 0) (h ∙ key_cell f d j x hd row l)
    ∙ in_list e (entry f j x row) m at len t st (nth_in row.nth) he b rch q

module _ (s d e : List ℕ) (m j at len c : ℕ) (h : c ≡ get_or d (j * 19 + 12) 0) where
  pub word_truth : (r : ℕ) → c ≡ 40 → FindsTruth s d j at len r → FindsWord s d e m j at len r
  word_truth r k g f x t st hd he row l rch q =
      g f x t st hd row l (coded_boolean (row_facts st row).formed (sym (h ∙ code_cell f d j x hd row l) ∙ k)) q

  pub word_nothing : (c ≡ 40 → ⊥) → (c ≡ 41 → ⊥) → FindsWord s d e m j at len 0
  unfolding find_value place_found
  word_nothing n n₂ f x t st hd he row l rch q =
      let z = h ∙ code_cell f d j x hd row l in
      sym (ap (λ vs. place_found (find_value vs t)) (coded_none (row_facts st row).formed (λ y. n (z ∙ y)) (λ y. n₂ (z ∙ y))))

  module _ (k : c ≡ 41) (z : Found) (g : FindsEnumerator s d e m j at len z) where
    pub word_none : z ≡ None → FindsWord s d e m j at len 0
    unfolding number_found place_found
    word_none y f x t st hd he row l rch q =
        by (find_value x.values t) (sym y ∙ g f x t st hd he row l rch (coded_enum (row_facts st row).formed (sym (h ∙ code_cell f d j x hd row l) ∙ k)) q)
      where
        by : (o : Option Under) → None ≡ number_found o → 0 ≡ place_found o
        by none p = refl
        by (some v) p = absurd (false≢true (ap is_found p))

    pub word_some : (i r : ℕ) → z ≡ Some i → r ≡ get_or e (i * 3 + 1) 0 → FindsWord s d e m j at len r
    unfolding number_found place_found
    word_some i r y w f x t st hd he row l rch q =
        let b = coded_enum (row_facts st row).formed (sym (h ∙ code_cell f d j x hd row l) ∙ k) in
        by (find_value x.values t) (sym y ∙ g f x t st hd he row l rch b q)
        (λ v p n. w ∙ word_in_list e (entry f j x row) m at len i t v st (nth_in row.nth) he b rch q p n) refl
      where
        row_of : Found → ℕ
        row_of (Some n) = n
        row_of None = 0

        by : (o : Option Under) → Some i ≡ number_found o → ((v : Under) → find_value x.values t ≡ some v → i ≡ v.number → r ≡ v.word.place) → find_value x.values t ≡ o → r ≡ place_found o
        by none p u n = absurd (false≢true (sym (ap is_found p)))
        by (some v) p u n = u v n (ap row_of p)

-- Numbers -----------------------------------------------------------------------------------------------------------------------------------

module _ {s : List ℕ} {d : Definition} (n : Num) where
  fits_below : {vs : Values} → Formed s d vs → code_of d.word < 35 → false ≡ fits_number d.type d.bounds n
  unfolding fits_number
  fits_below (an_integer i t c r) h = let a = integer_low i in absurd (omega arith)
  fits_below (a_string t c b) h = absurd (omega arith)
  fits_below (a_float t c g) h = absurd (omega arith)
  fits_below (a_boolean t c b v) h = absurd (omega arith)
  fits_below (an_enum t c b v) h = absurd (omega arith)
  fits_below (a_reference k t c b) h = sym (ap (λ y. fits_number y d.bounds n) t)

  fits_above : {vs : Values} → Formed s d vs → 38 < code_of d.word → false ≡ fits_number d.type d.bounds n
  unfolding fits_number
  fits_above (an_integer i t c r) h = let a = integer_low i in absurd (omega arith)
  fits_above (a_string t c b) h = sym (ap (λ y. fits_number y d.bounds n) t)
  fits_above (a_float t c g) h = sym (ap (λ y. fits_number y d.bounds n) t)
  fits_above (a_boolean t c b v) h = sym (ap (λ y. fits_number y d.bounds n) t)
  fits_above (an_enum t c b v) h = sym (ap (λ y. fits_number y d.bounds n) t)
  fits_above (a_reference k t c b) h = sym (ap (λ y. fits_number y d.bounds n) t)

  fits_between : {vs : Values} → Formed s d vs → 35 ≤ code_of d.word → code_of d.word ≤ 38 → (r : Bool)
      → (RangeAt s d.range.place d.bounds → r ≡ both (in_type (integer_coded (code_of d.word)) n) (in_bounds n d.bounds)) → r ≡ fits_number d.type d.bounds n
  unfolding fits_number
  fits_between (an_integer i t c g) h l r k =
      k g ∙ ap (λ y. both (in_type y n) (in_bounds n d.bounds)) (ap integer_coded c ∙ coded i) ∙ sym (ap (λ y. fits_number y d.bounds n) t)
  fits_between (a_string t c b) h l r k = absurd (omega arith)
  fits_between (a_float t c g) h l r k = absurd (omega arith)
  fits_between (a_boolean t c b v) h l r k = absurd (omega arith)
  fits_between (an_enum t c b v) h l r k = absurd (omega arith)
  fits_between (a_reference z t c b) h l r k = let a = kind_low z in absurd (omega arith)

module _ (s d : List ℕ) (j at c : ℕ) (h : c ≡ get_or d (j * 19 + 12) 0) where
  pub number_below : c < 35 → TakesNumber s d j at false
  number_below k f x st hd row l =
      fits_below (num_of_step (step_at s at)) (row_facts st row).formed (let z = h ∙ code_cell f d j x hd row l in omega arith)

  pub number_above : 38 < c → TakesNumber s d j at false
  number_above k f x st hd row l =
      fits_above (num_of_step (step_at s at)) (row_facts st row).formed (let z = h ∙ code_cell f d j x hd row l in omega arith)

  module _ (lo : 35 ≤ c) (hi : c ≤ 38) (n : Num) (y : n ≡ num_of_step (step_at s at)) where
    pub number_in : (p : ℕ) (r t : Bool) → t ≡ in_type (integer_coded c) n → t ≡ true → p ≡ get_or d (j * 19 + 8) 0 → InRange s p n r → TakesNumber s d j at r
    number_in p r t k u q g f x st hd row l =
        let z = h ∙ code_cell f d j x hd row l in
        fits_between (num_of_step (step_at s at)) (row_facts st row).formed (omega arith) (omega arith) r
        (λ w. g x.definition.bounds (subst (λ a. RangeAt s a x.definition.bounds) (sym (q ∙ range_cell f d j x hd row l)) w)
        ∙ ap (λ m. in_bounds m x.definition.bounds) y
        ∙ sym (ap (λ b. both b (in_bounds (num_of_step (step_at s at)) x.definition.bounds)) (sym (ap₂ (λ a m. in_type (integer_coded a) m) z y) ∙ sym k ∙ u)))

    pub number_out : (t : Bool) → t ≡ in_type (integer_coded c) n → t ≡ false → TakesNumber s d j at false
    number_out t k u f x st hd row l =
        let z = h ∙ code_cell f d j x hd row l in
        fits_between (num_of_step (step_at s at)) (row_facts st row).formed (omega arith) (omega arith) false
        (λ w. sym (ap (λ b. both b (in_bounds (num_of_step (step_at s at)) x.definition.bounds)) (sym (ap₂ (λ a m. in_type (integer_coded a) m) z y) ∙ sym k ∙ u)))

-- Floats ------------------------------------------------------------------------------------------------------------------------------------

module _ {s : List ℕ} {d : Definition} (n : Num) where
  float_other : {vs : Values} → Formed s d vs → (code_of d.word ≡ 42 → ⊥) → false ≡ fits_float d.type d.bounds n
  unfolding fits_float
  float_other (an_integer i t c r) h = sym (ap (λ y. fits_float y d.bounds n) t)
  float_other (a_string t c b) h = sym (ap (λ y. fits_float y d.bounds n) t)
  float_other (a_boolean t c b v) h = sym (ap (λ y. fits_float y d.bounds n) t)
  float_other (an_enum t c b v) h = sym (ap (λ y. fits_float y d.bounds n) t)
  float_other (a_float t c g) h = absurd (h c)
  float_other (a_reference k t c b) h = sym (ap (λ y. fits_float y d.bounds n) t)

  float_is : {vs : Values} → Formed s d vs → code_of d.word ≡ 42 → (r : Bool) → (FloatsAt s d.range.place d.bounds → r ≡ in_float_bounds n d.bounds)
      → r ≡ fits_float d.type d.bounds n
  unfolding fits_float
  float_is (an_integer i t c g) h r k = let a = integer_low i in absurd (omega arith)
  float_is (a_string t c b) h r k = absurd (omega arith)
  float_is (a_boolean t c b v) h r k = absurd (omega arith)
  float_is (an_enum t c b v) h r k = absurd (omega arith)
  float_is (a_float t c g) h r k = k g ∙ sym (ap (λ y. fits_float y d.bounds n) t)
  float_is (a_reference z t c b) h r k = let a = kind_low z in absurd (omega arith)

module _ (s d : List ℕ) (j at c : ℕ) (h : c ≡ get_or d (j * 19 + 12) 0) where
  pub float_none : (c ≡ 42 → ⊥) → TakesFloat s d j at false
  float_none k f x st hd row l =
      float_other (float_of_step (step_at s at)) (row_facts st row).formed (λ e. k (h ∙ code_cell f d j x hd row l ∙ e))

  pub float_in : c ≡ 42 → (n : Num) → n ≡ float_of_step (step_at s at) → (p : ℕ) (r : Bool) → p ≡ get_or d (j * 19 + 8) 0 → InFloats s p n r → TakesFloat s d j at r
  float_in k n y p r q g f x st hd row l =
      float_is (float_of_step (step_at s at)) (row_facts st row).formed (sym (h ∙ code_cell f d j x hd row l) ∙ k) r
      (λ w. g x.definition.bounds (subst (λ a. FloatsAt s a x.definition.bounds) (sym (q ∙ range_cell f d j x hd row l)) w)
      ∙ ap (λ m. in_float_bounds m x.definition.bounds) y)

-- Words -------------------------------------------------------------------------------------------------------------------------------------

of_sort : (x : Definition) (vs : Values) (t : Word) (code : ℕ) (k : Sort) (r : Bool) → code_of t ≡ code → sort_coded code ≡ k → r ≡ fits_as k x vs t → r ≡ fits x vs t
unfolding fits code_of
of_sort x vs t code k r e h q = q ∙ ap (λ y. fits_as y x vs t) (sym h ∙ ap sort_coded (sym e) ∙ sym (tells t.class).sort)

bit_test : (b : Bool) (n : ℕ) → n ≡ bit b → eqb n 1 ≡ b
unfolding bit
bit_test true n e = eq-eqb n 1 e
bit_test false n e = ne_eqb n 1 (λ z. omega arith)

pub takes_numeral : (s d : List ℕ) (j at code u : ℕ) (r : Bool) → code ≡ 43 → TakesNumber s d j at r → TakesUnder s d j at code u r
unfolding fits_as sort_coded
takes_numeral s d j at code u r k g e m len w f x t st hd he row l rch rd c =
    of_sort x.definition x.values t code a_number r c (rw k) (g f x st hd row l ∙ ap (fits_number x.definition.type x.definition.bounds) (sym rd.number))

pub takes_floating : (s d : List ℕ) (j at code u : ℕ) (r : Bool) → code ≡ 54 → TakesFloat s d j at r → TakesUnder s d j at code u r
unfolding fits_as sort_coded
takes_floating s d j at code u r k g e m len w f x t st hd he row l rch rd c =
    of_sort x.definition x.values t code float-sort r c (rw k) (g f x st hd row l ∙ ap (fits_float x.definition.type x.definition.bounds) (sym rd.float))

module _ (d : List ℕ) (j code u : ℕ) where
  pub takes_3 : (a : ℕ) → code ≡ 3 → a ≡ get_or d (j * 19 + 7) 0 → TakesWord d j code u (eqb a 1)
  unfolding fits_as sort_coded
  takes_3 a k h n₁ n₀ s at e m len w f x t st hd he row l rch rd c =
      of_sort x.definition x.values t code an_auto (eqb a 1) c (rw k) (bit_test x.definition.auto a (h ∙ auto_cell f d j x hd row l))

  pub takes_4 : code ≡ 4 → TakesWord d j code u false
  unfolding fits_as sort_coded
  takes_4 k n₁ n₀ s at e m len w f x t st hd he row l rch rd c = of_sort x.definition x.values t code a_no_default false c (rw k) refl

  module _ (y : ℕ) (h : y ≡ get_or d (j * 19 + 12) 0) where
    pub takes_quoted : code ≡ 44 → TakesWord d j code u (eqb y 39)
    unfolding fits_as sort_coded
    takes_quoted k n₁ n₀ s at e m len w f x t st hd he row l rch rd c =
        of_sort x.definition x.values t code string-sort (eqb y 39) c (rw k) (ap (λ n. eqb n 39) (h ∙ code_cell f d j x hd row l) ∙ string_test (row_facts st row).formed)

    pub takes_1 : code ≡ 1 → TakesWord d j code u (eqb y 40)
    unfolding fits_as sort_coded
    takes_1 k n₁ n₀ s at e m len w f x t st hd he row l rch rd c =
        of_sort x.definition x.values t code a_truth (eqb y 40) c (rw k) (ap (λ n. eqb n 40) (h ∙ code_cell f d j x hd row l) ∙ boolean_test (row_facts st row).formed)

    pub takes_2 : code ≡ 2 → TakesWord d j code u (eqb y 40)
    unfolding fits_as sort_coded
    takes_2 k n₁ n₀ s at e m len w f x t st hd he row l rch rd c =
        of_sort x.definition x.values t code a_truth (eqb y 40) c (rw k) (ap (λ n. eqb n 40) (h ∙ code_cell f d j x hd row l) ∙ boolean_test (row_facts st row).formed)

    module _ (n₂ : code ≡ 3 → ⊥) (n₃ : code ≡ 4 → ⊥) (n₄ : code ≡ 44 → ⊥) (n₅ : code ≡ 1 → ⊥) (n₆ : code ≡ 2 → ⊥) where
      name-sort : (code ≡ 43 → ⊥) → (code ≡ 54 → ⊥) → sort_coded code ≡ a_name
      name-sort n₁ n₀ = name_coded code n₁ n₄ n₅ n₆ n₂ n₃ n₀

      pub takes-other : (y ≡ 41 → ⊥) → TakesWord d j code u false
      unfolding fits_as
      takes-other k n₁ n₀ s at e m len w f x t st hd he row l rch rd c =
          of_sort x.definition x.values t code a_name false c (name-sort n₁ n₀)
          (sym (ap (λ b. both b (is_there (find_value x.values t))) (coded_other (row_facts st row).formed (λ z. k (h ∙ code_cell f d j x hd row l ∙ z)))))

      pub takes_name : y ≡ 41 → TakesWord d j code u (not (eqb u 0))
      unfolding fits_as place_found is_there
      takes_name k n₁ n₀ s at e m len w f x t st hd he row l rch rd c =
          let a = row_facts st row in
          of_sort x.definition x.values t code a_name (not (eqb u 0)) c (name-sort n₁ n₀)
          (by (find_value x.values t) refl (w f x t st hd he row l rch rd.bytes) (λ v p. (value_word (found_value x.values t p) a.values.good).later)
          ∙ sym (ap (λ b. both b (is_there (find_value x.values t))) (coded_enum a.formed (sym (h ∙ code_cell f d j x hd row l) ∙ k))))
        where
          by : (o : Option Under) → find_value x.values t ≡ o → u ≡ place_found o → ((v : Under) → find_value x.values t ≡ some v → 0 < v.word.place) → not (eqb u 0) ≡ is_there o
          by none p q i = ap not (eq-eqb u 0 q)
          by (some v) p q i = let z = i v p in ap not (ne_eqb u 0 (λ b. omega arith))

-- 21 at the bounds --------------------------------------------------------------------------------------------------------------------------

module _ {s : List ℕ} {d : Definition} where
  no_range : {vs : Values} → Formed s d vs → ((i : Integer) → code_of d.word ≡ integer_code i → ⊥) → (code_of d.word ≡ 42 → ⊥) → range_faults d.type d.bounds ≡ []
  unfolding range_faults
  no_range (an_integer i t c r) h g = absurd (h i c)
  no_range (a_float t c r) h g = absurd (g c)
  no_range (a_string t c b) h g = ap (λ y. range_faults y d.bounds) t
  no_range (a_boolean t c b v) h g = ap (λ y. range_faults y d.bounds) t
  no_range (an_enum t c b v) h g = ap (λ y. range_faults y d.bounds) t
  no_range (a_reference k t c b) h g = ap (λ y. range_faults y d.bounds) t

  a_range : {vs : Values} → Formed s d vs → 35 ≤ code_of d.word → code_of d.word ≤ 38 → (r : MaybeFault)
      → (RangeAt s d.range.place d.bounds → r ≡ fault_of (first (bound_faults (integer_coded (code_of d.word)) d.bounds))) → r ≡ fault_of (first (range_faults d.type d.bounds))
  unfolding range_faults
  a_range (an_integer i t c g) h l r k =
      k g ∙ ap (λ y. fault_of (first (bound_faults y d.bounds))) (ap integer_coded c ∙ coded i) ∙ sym (ap (λ y. fault_of (first (range_faults y d.bounds))) t)
  a_range (a_string t c b) h l r k = absurd (omega arith)
  a_range (a_float t c g) h l r k = absurd (omega arith)
  a_range (a_boolean t c b v) h l r k = absurd (omega arith)
  a_range (an_enum t c b v) h l r k = absurd (omega arith)
  a_range (a_reference z t c b) h l r k = let a = kind_low z in absurd (omega arith)

  floats_range : {vs : Values} → Formed s d vs → code_of d.word ≡ 42 → (r : MaybeFault)
      → (FloatsAt s d.range.place d.bounds → r ≡ fault_of (first (low_faults d.bounds))) → r ≡ fault_of (first (range_faults d.type d.bounds))
  unfolding range_faults
  floats_range (an_integer i t c g) h r k = let a = integer_low i in absurd (omega arith)
  floats_range (a_string t c b) h r k = absurd (omega arith)
  floats_range (a_boolean t c b v) h r k = absurd (omega arith)
  floats_range (an_enum t c b v) h r k = absurd (omega arith)
  floats_range (a_float t c g) h r k = k g ∙ sym (ap (λ y. fault_of (first (range_faults y d.bounds))) t)
  floats_range (a_reference z t c b) h r k = let a = kind_low z in absurd (omega arith)

module _ (s d : List ℕ) (j c : ℕ) (h : c ≡ get_or d (j * 19 + 12) 0) where
  pub range_below : c < 35 → RangeFault s d j None
  unfolding first fault_of
  range_below k f x st hd row l =
      let z = h ∙ code_cell f d j x hd row l in
      sym (ap (λ y. fault_of (first y)) (no_range (row_facts st row).formed (λ i e. let a = integer_low i in omega arith) (λ e. omega arith)))

  pub range_above : 38 < c → (c ≡ 42 → ⊥) → RangeFault s d j None
  unfolding first fault_of
  range_above k n f x st hd row l =
      let z = h ∙ code_cell f d j x hd row l in
      sym (ap (λ y. fault_of (first y)) (no_range (row_facts st row).formed (λ i e. let a = integer_low i in omega arith) (λ e. n (z ∙ e))))

  pub range_float : c ≡ 42 → (p : ℕ) (r : MaybeFault) → p ≡ get_or d (j * 19 + 8) 0 → LowFault s p r → RangeFault s d j r
  range_float k p r q g f x st hd row l =
      let z = h ∙ code_cell f d j x hd row l in
      floats_range (row_facts st row).formed (sym z ∙ k) r
      (λ w. g x.definition.bounds (subst (λ a. FloatsAt s a x.definition.bounds) (sym (q ∙ range_cell f d j x hd row l)) w))

  pub range_between : 35 ≤ c → c ≤ 38 → (p : ℕ) (r : MaybeFault) → p ≡ get_or d (j * 19 + 8) 0 → BoundFault s (integer_coded c) p r → RangeFault s d j r
  range_between lo hi p r q g f x st hd row l =
      let z = h ∙ code_cell f d j x hd row l in
      a_range (row_facts st row).formed (omega arith) (omega arith) r
      (λ w. g x.definition.bounds (subst (λ a. RangeAt s a x.definition.bounds) (sym (q ∙ range_cell f d j x hd row l)) w)
      ∙ ap (λ a. fault_of (first (bound_faults (integer_coded a) x.definition.bounds))) z)
