-- One law for each way in which a reader of definitions answers. Assumes nothing.
use mathlib.Core.Path.{◌≡◌, refl, sym, ◌∙◌, ap, ap₂}
use mathlib.Core.List.{List, [], ◌∷◌, ◌++◌, append_assoc, append-nil}
use mathlib.Core.Bool.{Bool, true, false}
use mathlib.Core.Option.{none}
use Prim.Native.Nat.{ℕ, suc, ◌+◌, ◌-◌, ◌*◌, min}
use lib.Seq.{sets}
use Rattle.filling.specs.Tables.{Table}
use Rattle.token.specs.Find.{bit}
use Rattle.grammar.specs.Grammar.{Form, ◌⟶◌, ◌·◌, ◌▸◌, ∎, matches, name, type, integer, the, sg, TRUE, FALSE, STRING, BOOLEAN, ENUM, FLOAT, lbrace, rbrace, lsquare, rsquare, semicolon, comma, integers, strings, booleans, enums, floats, definitions, definition, attribute, D, P, auto, mark, integer_range, float_range, boolean_range, enumerator, enumerators, default, a_definition, no_definition, an_attribute, a_reference, an_integer, a_string, a_boolean, an_enum, a_float, reference_is, a_P, no_P, a_boolean_range, no_boolean_range, enumerator_is, an_enumerator, no_enumerator}
use Rattle.grammar.specs.Factored.{paper}
use Rattle.grammar.specs.Machine.{starts}
use Rattle.grammar.specs.Readers.{class_at, advanced, refusal, Meets}
use Rattle.grammar.specs.declared.Look.{Look}
use Rattle.grammar.proofs.Codes.{at_code, in_set}
use Rattle.grammar.proofs.Meeting.{◌⊳◌, take}
use Rattle.grammar.proofs.Rules.{reference_by, string_by, integer_by, float_by_lem, boolean_by, enum_by, boolean_range_pass, boolean_range_by, lsquare_taken, P-pass, P-by, enumerator_by, enumerators_item, enumerators_again, enumerators_done, definitions_again, definitions_done}
use Rattle.meaning.specs.Syntax.{Word, Span, absent, through, Definition, Definitions, no_more, define, Values, no_value, value, is_enum, definitions_in, enumerators_in}
use Rattle.meaning.specs.Actions.{Parts, means, first_value, truths, defined, defining}
use Rattle.layout.specs.Kept.{Entry, Choice, code_of, list_key, truth_cells, default_code, entries, entries_under, choices, choices_of, choice_if, definition_cells, choice_cells, map_cells}
use Rattle.layout.proofs.Lengths.{map_append}
use Rattle.filling.specs.Fills.{Seen, Fills, Walks}
use Rattle.filling.proofs.Filling.{Going, Effects, front_of, behind, plain, first, ◌▻◌, told_as, told_rule, told_none, refused, going_on, gone, both}
use Rattle.filling.proofs.Tables.{wrote_none, wrote_then, wrote_row, ◌⸬◌}
use Rattle.definitions.specs.declared.Under.{Under}
use Rattle.definitions.specs.declared.Head.{Head}
use Rattle.definitions.specs.Rows.{Puts, Done, Fill, rows_of, choice_rows, one, Stands, row_of, head_of, list_head, Named, Rows, EnumeratorRows}
use Rattle.filling.proofs.Codes.{seen_code, seen_place, seen_length}

abbrev pub then : Done → Done → Done
then a b = (a.0 ++ b.0, a.1 ++ b.1)

abbrev pub rows_in : Values → ℕ → List (List ℕ)
rows_in vs o = map_cells definition_cells (entries_under vs o)

abbrev pub choice_rows_in : Values → Bool → ℕ → List (List ℕ)
choice_rows_in vs b o = map_cells choice_cells (choices_of vs b o)

-- The rows are those of the values of an ENUM's list.
unfoldable pub ValueRows : ℕ → Done → (ℕ → ℕ → Values) → Type 0
ValueRows k w m = (n e : ℕ) → (rows_in (m n e) k ≡ w.0) × (choice_rows_in (m n e) true k ≡ w.1)

-- Tables ---------------------------------------------------------------------------------------------------------------------------------

pub table : (c : ℕ) → Effects (List (List ℕ)) Table ◌++◌ [] (Puts c)
table c =
    record {
      assoc = append_assoc;
      front = λ a. refl;
      back = append-nil;
      does_none = λ x. wrote_none;
      does_then = λ x y z a b d d'. wrote_then d d';
    }

pub tables : Effects Done (Table × Table) then ([], []) Fill
tables = both (table 19) (table 3)

-- Rows -----------------------------------------------------------------------------------------------------------------------------------

rows_defining : (d : Definition) (vs : Values) (ds : Definitions) (u : Word) (o : ℕ) → rows_of (define d vs ds) u o ≡ rows_of (define d vs no_more) u o ++ rows_of ds u o
unfolding entries map_cells
rows_defining d vs ds u o =
    let r : Entry = record { under = u; outer = o; definition = d; values = vs } in
    let before = entries_under vs (list_key vs) in
    map_append definition_cells before (r ∷ entries ds u o)
    ∙ sym (append_assoc (map_cells definition_cells before) (definition_cells r ∷ []) (rows_of ds u o))
    ∙ ap (λ (l : List (List ℕ)). l ++ rows_of ds u o) (sym (map_append definition_cells before (r ∷ [])))

choices_defining : (d : Definition) (vs : Values) (ds : Definitions) → choice_rows (define d vs ds) ≡ choice_rows (define d vs no_more) ++ choice_rows ds
unfolding choices
choices_defining d vs ds =
    let own = choices_of vs (is_enum d.type) (list_key vs) in
    map_append choice_cells own (choices ds) ∙ ap (λ (l : List Choice). map_cells choice_cells l ++ choice_rows ds) (sym (append-nil own))

-- The values of a list.
under_two : (t : Word) (us : Definitions) (f : Word) (vs : Definitions) (k : ℕ) → rows_in (value t 0 us (value f 0 vs no_value)) k ≡ rows_of us t k ++ rows_of vs f k
unfolding entries
under_two t us f vs k =
    map_append definition_cells (entries us t k) (entries vs f k ++ [])
    ∙ ap (λ (l : List Entry). rows_of us t k ++ map_cells definition_cells l) (append-nil (entries vs f k))

choices_two : (t : Word) (us : Definitions) (f : Word) (vs : Definitions) (k : ℕ) → choice_rows_in (value t 0 us (value f 0 vs no_value)) false k ≡ choice_rows us ++ choice_rows vs
unfolding choices choice_if
choices_two t us f vs k =
    map_append choice_cells (choices us) (choices vs ++ []) ∙ ap (λ (l : List Choice). choice_rows us ++ map_cells choice_cells l) (append-nil (choices vs))

under_first : (w : Word) (e : ℕ) (us : Definitions) (vs : Values) (k : ℕ) → rows_in (value w e us vs) k ≡ rows_of us w k ++ rows_in vs k
unfolding entries
under_first w e us vs k = map_append definition_cells (entries us w k) (entries_under vs k)

choices_first : (w : Word) (e : ℕ) (us : Definitions) (vs : Values) (k : ℕ)
    → choice_rows_in (value w e us vs) true k ≡ (choice_cells (record { list = k; word = w }) ∷ choice_rows us) ++ choice_rows_in vs true k
unfolding choices choice_if map_cells
choices_first w e us vs k = ap (λ (l : List (List ℕ)). choice_cells (record { list = k; word = w }) ∷ l) (map_append choice_cells (choices us) (choices_of vs true k))

-- What h tells of a definition is so.
record HeadIs (h : Head) (d : Definition) (vs : Values) : Type 0 where
  word : d.word.place ≡ h.word
  length : d.word.length ≡ h.length
  code : code_of d.word ≡ h.code
  auto : bit d.auto ≡ h.auto
  range : d.range.place ≡ h.range
  extent : d.range.length ≡ h.extent
  key : list_key vs ≡ h.key
  truths : truth_cells (is_enum d.type) vs ≡ h.truth ∷ h.falsity ∷ h.width ∷ []

row_is : (x : Under) (h : Head) (u : Word) (d : Definition) (vs : Values) → Stands x u → HeadIs h d vs
    → definition_cells (record { under = u; outer = x.list; definition = d; values = vs }) ≡ row_of x h d.name d.list d.default
unfolding definition_cells row_of
row_is x h u d vs st i =
    st.0 ⸬ st.1 ⸬ refl ⸬ refl ⸬ i.word ⸬ i.length ⸬ refl ⸬ i.auto ⸬ i.range ⸬ i.extent ⸬ refl ⸬ refl ⸬ i.code ⸬ refl ⸬ i.key
    ⸬ ap (λ (l : List ℕ). l ++ (default_code d.default ∷ [])) i.truths

one_rows : (x : Under) (h : Head) (u : Word) (d : Definition) (vs : Values) {ds w : List (List ℕ)} → Stands x u → HeadIs h d vs → rows_in vs h.key ≡ ds
    → (row_of x h d.name d.list d.default ∷ []) ≡ w → rows_of (define d vs no_more) u x.list ≡ ds ++ w
unfolding entries map_cells
one_rows x h u d vs st i p q =
    map_append definition_cells (entries_under vs (list_key vs)) (record { under = u; outer = x.list; definition = d; values = vs } ∷ [])
    ∙ ap₂ ◌++◌ (ap (λ (k : ℕ). rows_in vs k) i.key ∙ p) (ap (λ (r : List ℕ). r ∷ []) (row_is x h u d vs st i) ∙ q)

one_choices : (d : Definition) (vs : Values) {es : List (List ℕ)} → choice_rows_in vs (is_enum d.type) (list_key vs) ≡ es → choice_rows (define d vs no_more) ≡ es
unfolding choices
one_choices d vs p = ap (map_cells choice_cells) (append-nil (choices_of vs (is_enum d.type) (list_key vs))) ∙ p

-- A list of values, and what h tells of it.
pub record Listed (h : Head) (b : Bool) (w : Done) (x : Span) (vs : Values) : Type 0 where
  pub place : x.place ≡ h.range
  pub size : x.length ≡ h.extent
  pub key : list_key vs ≡ h.key
  pub truths : truth_cells b vs ≡ h.truth ∷ h.falsity ∷ h.width ∷ []
  pub rows : rows_in vs h.key ≡ w.0
  pub choices : choice_rows_in vs b (list_key vs) ≡ w.1

-- The type's word and WITH_AUTO.
pub record Typed (a : Look) (i : ℕ) (h : Head) : Type 0 where
  pub word : h.word ≡ a.at
  pub length : h.length ≡ a.next - a.at
  pub code : h.code ≡ a.code
  pub auto : h.auto ≡ i

pub typed_plain : (a : Look) {i p q : ℕ} {h : Head} → h ≡ head_of a i p q → Typed a i h
typed_plain a e =
    record {
      word = ap (λ (k : Head). k.word) e;
      length = ap (λ (k : Head). k.length) e;
      code = ap (λ (k : Head). k.code) e;
      auto = ap (λ (k : Head). k.auto) e;
    }

pub typed_list : (a : Look) {i p q k t f v : ℕ} {h : Head} → h ≡ list_head a i p q k t f v → Typed a i h
typed_list a e =
    record {
      word = ap (λ (k : Head). k.word) e;
      length = ap (λ (k : Head). k.length) e;
      code = ap (λ (k : Head). k.code) e;
      auto = ap (λ (k : Head). k.auto) e;
    }

head_is : {s : List ℕ} {a : Look} {i : ℕ} {h : Head} {w : Done} (d : Definition) (vs : Values) → Typed a i h → Seen s a d.word → bit d.auto ≡ i
    → Listed h (is_enum d.type) w d.range vs → HeadIs h d vs
head_is d vs t q b l =
    record {
      word = seen_place q ∙ sym t.word;
      length = seen_length q ∙ sym t.length;
      code = seen_code q ∙ sym t.code;
      auto = b ∙ sym t.auto;
      range = l.place;
      extent = l.size;
      key = l.key;
      truths = l.truths;
    }

-- Without a list.
unlisted : (a : Look) {i p q : ℕ} {h : Head} (x : Span) → h ≡ head_of a i p q → x.place ≡ p → x.length ≡ q → Listed h false ([], []) x no_value
unfolding list_key truth_cells entries choices map_cells
unlisted a x e p q =
    record {
      place = p ∙ sym (ap (λ (k : Head). k.range) e);
      size = q ∙ sym (ap (λ (k : Head). k.extent) e);
      key = sym (ap (λ (k : Head). k.key) e);
      truths = sym (ap (λ (k : Head). k.truth ∷ k.falsity ∷ k.width ∷ []) e);
      rows = refl;
      choices = refl;
    }

-- Definitions ----------------------------------------------------------------------------------------------------------------------------

module _ {s : List ℕ} {a : Look} {y z : Table × Table} where
  -- An attribute by a form, of what is known of its parts.
  attribute_by : (x : Under) {g : Form} (p : attribute ⟶ g) {Q : Parts g → Type 0} {e : ℕ} {r : Look} (w : Done) → Meets 1 (definition ▸ ∎) s a r → Fill y w z
      → Fills e g s a r Q → ((m : Parts g) → Q m → Rows x w (λ i j. one (means p m i j))) → Walks Fill 1 (definition ▸ ∎) (λ w m. Rows x w (λ i j. one (m.0 i j))) s a r y z
  unfolding means
  attribute_by x p w d f g h =
      record {
        what = w;
        does = f;
        fills = record {
          meets = d;
          told = λ k. told_rule (λ m. Rows x w (λ i j. one (m i j))) an_attribute (told_rule (λ m. Rows x w (λ i j. one (m i j))) p (told_as (g.told k) h));
        };
      }

module _ {s : List ℕ} {a : Look} {y z t : Table} where
  pub reference_defined : (x : Under) {e : ℕ} {b r : Look} → matches type (class_at a.code) ≡ true → b ≡ advanced s a
      → Walks (Puts 19) e (name · mark ▸ D ▸ sg semicolon · ∎) (λ w m. Named x (head_of a 0 0 0) w m.0 m.1.0 none) s b r y z
      → Walks Fill 1 (definition ▸ ∎) (λ w m. Rows x w (λ i j. one (m.0 i j))) s a r (y, t) (z, t)
  unfolding means defined Rows Named row_of is_enum absent front_of behind matches class_at bit entries map_cells choices list_key truth_cells
  reference_defined x h p w =
      let f = first type (take type {s = s} {a = a} (in_set (matches type) (matches type) refl tt h) p) ▻ w.fills in
      record {
        what = (w.what, []);
        does = (w.does, wrote_none);
        fills = record {
          meets = reference_by h p w.fills.meets;
          told = λ k.
              told_rule (λ m. Rows x (w.what, []) (λ i j. one (m i j))) a_reference
              (told_rule (λ m. Rows x (w.what, []) (λ i j. one (m i j))) reference_is
              (told_as (f.told k) (λ m q u st i j.
              let d = (means reference_is m i j).definition in
              let l = unlisted a d.range refl refl refl in
              (one_rows x (head_of a 0 0 0) u d no_value st (head_is d no_value (typed_plain a refl) q.0 refl l) refl q.1, refl))));
        };
      }

  pub integer_defined : (x : Under) {e : ℕ} {b r : Look} → matches integer (class_at a.code) ≡ true → b ≡ advanced s a
      → Walks (Puts 19) e (auto ▸ integer_range ▸ name · mark ▸ default integers ▸ D ▸ sg semicolon · ∎)
      (λ w m. Named x (head_of a (bit m.0) m.1.0.span.place m.1.0.span.length) w m.1.1.0 m.1.1.1.0 m.1.1.1.1.0) s b r y z
      → Walks Fill 1 (definition ▸ ∎) (λ w m. Rows x w (λ i j. one (m.0 i j))) s a r (y, t) (z, t)
  unfolding means defined Rows Named row_of is_enum front_of behind matches class_at entries map_cells choices list_key truth_cells
  integer_defined x h p w =
      attribute_by x an_integer (w.what, []) (integer_by h p w.fills.meets) (w.does, wrote_none)
      (first integer (take integer {s = s} {a = a} (in_set (matches integer) (matches integer) refl tt h) p) ▻ w.fills)
      (λ m q u st i j.
      let d = (means an_integer m i j).definition in
      let g = head_of a (bit m.1.0) m.1.1.0.span.place m.1.1.0.span.length in
      let l = unlisted a d.range refl refl refl in
      (one_rows x g u d no_value st (head_is d no_value (typed_plain a refl) q.0 refl l) refl q.1, refl))

  pub float_defined : (x : Under) {e : ℕ} {b r : Look} → a.code ≡ 42 → b ≡ advanced s a
      → Walks (Puts 19) e (auto ▸ float_range ▸ name · mark ▸ default floats ▸ D ▸ sg semicolon · ∎)
      (λ w m. Named x (head_of a (bit m.0) m.1.0.span.place m.1.0.span.length) w m.1.1.0 m.1.1.1.0 m.1.1.1.1.0) s b r y z
      → Walks Fill 1 (definition ▸ ∎) (λ w m. Rows x w (λ i j. one (m.0 i j))) s a r (y, t) (z, t)
  unfolding means defined Rows Named row_of is_enum front_of behind matches class_at entries map_cells choices list_key truth_cells
  float_defined x h p w =
      attribute_by x a_float (w.what, []) (float_by_lem h p w.fills.meets) (w.does, wrote_none)
      (first (the FLOAT) (take (the FLOAT) {s = s} {a = a} (at_code (matches (the FLOAT)) 42 tt h) p) ▻ w.fills)
      (λ m q u st i j.
      let d = (means a_float m i j).definition in
      let g = head_of a (bit m.1.0) m.1.1.0.span.place m.1.1.0.span.length in
      let l = unlisted a d.range refl refl refl in
      (one_rows x g u d no_value st (head_is d no_value (typed_plain a refl) q.0 refl l) refl q.1, refl))

  pub string_defined : (x : Under) {e : ℕ} {b r : Look} → a.code ≡ 39 → b ≡ advanced s a
      → Walks (Puts 19) e (auto ▸ name · mark ▸ default strings ▸ D ▸ sg semicolon · ∎)
      (λ w m. Named x (head_of a (bit m.0) 0 0) w m.1.0 m.1.1.0 m.1.1.1.0) s b r y z
      → Walks Fill 1 (definition ▸ ∎) (λ w m. Rows x w (λ i j. one (m.0 i j))) s a r (y, t) (z, t)
  unfolding means defined Rows Named row_of is_enum absent front_of behind matches class_at entries map_cells choices list_key truth_cells
  string_defined x h p w =
      attribute_by x a_string (w.what, []) (string_by h p w.fills.meets) (w.does, wrote_none)
      (first (the STRING) (take (the STRING) {s = s} {a = a} (at_code (matches (the STRING)) 39 tt h) p) ▻ w.fills)
      (λ m q u st i j.
      let d = (means a_string m i j).definition in
      let l = unlisted a d.range refl refl refl in
      (one_rows x (head_of a (bit m.1.0) 0 0) u d no_value st (head_is d no_value (typed_plain a refl) q.0 refl l) refl q.1, refl))

module _ {s : List ℕ} {a : Look} {y y₁ z t t₁ : Table} where
  -- BOOLEAN, whatever its list.
  pub boolean_defined : (x : Under) {e e' e'' i : ℕ} {h : Head} {b c d r : Look} → a.code ≡ 40 → b ≡ advanced s a → Fills e (auto ▸ ∎) s b c (λ m. bit m.0 ≡ i)
      → Walks Fill e' (boolean_range ▸ ∎) (λ w m. (i j : ℕ) → Listed h false w (m.0 i j).span (m.0 i j).values) s c d (y, t) (y₁, t₁) → Typed a i h
      → Walks (Puts 19) e'' (name · mark ▸ default booleans ▸ D ▸ sg semicolon · ∎) (λ w m. Named x h w m.0 m.1.0 m.1.1.0) s d r y₁ z
      → Walks Fill 1 (definition ▸ ∎) (λ w m. Rows x w (λ i j. one (m.0 i j))) s a r (y, t) (z, t₁)
  unfolding means defined Rows Named row_of is_enum front_of behind matches class_at
  boolean_defined x {h} g p f v k w =
      let o = f ▻ v.fills ▻ w.fills in
      attribute_by x a_boolean (v.what.0 ++ w.what, v.what.1) (boolean_by g p o.meets) (wrote_then v.does.0 w.does, v.does.1)
      (first (the BOOLEAN) (take (the BOOLEAN) {s = s} {a = a} (at_code (matches (the BOOLEAN)) 40 tt g) p) ▻ o)
      (λ m q u st i j.
      let d = (means a_boolean m i j).definition in
      let vs = (m.1.1.0 i j).values in
      let l = q.1.1.0 i j in
      (one_rows x h u d vs st (head_is d vs k q.0 q.1.0 l) l.rows q.1.1.1, one_choices d vs l.choices))

module _ {s : List ℕ} {c : Look} {y : Table × Table} where
  pub truths_none : (a : Look) {i : ℕ} {h : Head} → (c.code ≡ 47 → ⊥) → h ≡ head_of a i 0 0
      → Walks Fill 0 (boolean_range ▸ ∎) (λ w m. (i j : ℕ) → Listed h false w (m.0 i j).span (m.0 i j).values) s c c y y
  unfolding means absent
  truths_none a {h} n e =
      record {
        what = ([], []);
        does = (wrote_none, wrote_none);
        fills = record {
          meets = boolean_range_pass n;
          told = λ k. told_none (λ m. (i j : ℕ) → Listed h false ([], []) (m i j).span (m i j).values) no_boolean_range (λ i j. unlisted a absent e refl refl);
        };
      }

  pub parameters_none : (x : Under) → (c.code ≡ 45 → ⊥) → Walks Fill 0 (P ▸ ∎) (λ w m. Rows x w m.0) s c c y y
  unfolding means Rows entries choices map_cells
  parameters_none x h =
      record {
        what = ([], []);
        does = (wrote_none, wrote_none);
        fills = record { meets = P-pass h; told = λ k. told_none (λ m. Rows x ([], []) m) no_P (λ u st i j. (refl, refl)) };
      }

  pub definition_none : (x : Under) {r : Look} → Meets 1 (definition ▸ ∎) s c r → r ≡ refusal c
      → Walks Fill 1 (definition ▸ ∎) (λ w m. Rows x w (λ i j. one (m.0 i j))) s c r y y
  definition_none x m e = record { what = ([], []); does = (wrote_none, wrote_none); fills = record { meets = m; told = λ k. refused c e k } }

module _ {s : List ℕ} {c f j l : Look} {x y z : Table × Table} where
  pub truths_there : (a : Look) {e₁ e₂ e₃ e₄ e₅ e₆ e₇ e₈ i v w extent : ℕ} {h : Head} {g o k p q r : Look} → c.code ≡ 47 → f ≡ advanced s c → Meets e₁ (the TRUE · ∎) s f g
      → v ≡ f.next - f.at → Walks Fill e₂ (P ▸ ∎) (λ w m. Rows (record { at = f.at; len = v; list = f.at }) w m.0) s g p x y → Meets e₃ (D ▸ ∎) s p q
      → Meets e₄ (sg comma · ∎) s q j → Meets e₅ (the FALSE · ∎) s j k → w ≡ j.next - j.at
      → Walks Fill e₆ (P ▸ ∎) (λ u m. Rows (record { at = j.at; len = w; list = f.at }) u m.0) s k o y z → Meets e₇ (D ▸ ∎) s o l → Meets e₈ (sg rsquare · ∎) s l r
      → extent ≡ (l.at + (l.next - l.at)) - c.at → h ≡ list_head a i c.at extent f.at v j.at w
      → Walks Fill 0 (boolean_range ▸ ∎) (λ w m. (i j : ℕ) → Listed h false w (m.0 i j).span (m.0 i j).values) s c r x z
  unfolding means truths through Rows front_of behind list_key truth_cells entries choices choice_if map_cells
  truths_there a {h} n d t v' A b u F w' B b' cl ex e =
      let g = first (the TRUE) t ▻ A.fills ▻ plain (D ▸ ∎) b ▻ plain (sg comma · ∎) u ▻ first (the FALSE) F ▻ B.fills ▻ plain (D ▸ ∎) b' ▻ first (sg rsquare) cl in
      let o = first (sg lsquare) (lsquare_taken n d) ▻ g in
      let w : Done = then A.what B.what in
      record {
        what = w;
        does = (wrote_then A.does.0 B.does.0, wrote_then A.does.1 B.does.1);
        fills = record {
          meets = boolean_range_by n d g.meets;
          told = λ k.
              told_rule (λ m. (i j : ℕ) → Listed h false w (m i j).span (m i j).values) a_boolean_range
              (told_as (o.told k) (λ m q i i'.
              let key = ap (λ (k : Head). k.key) e in
              let tr = q.1.0 in
              let fa = q.1.1.1.1.1.0 in
              let last = q.1.1.1.1.1.1.1.1 in
              let us = m.1.1.0 i i' in
              let ra = q.1.1.0 m.1.0 (seen_place tr, seen_length tr ∙ sym v') in
              let i'' = i + definitions_in us in
              let j'' = i' + enumerators_in us in
              let rb = q.1.1.1.1.1.1.0 m.1.1.1.1.1.0 (seen_place fa, seen_length fa ∙ sym w') i'' j'' in
              let us' = m.1.1.1.1.1.1.0 i'' j'' in
              let vs = (means a_boolean_range m i i').values in
              record {
                place = seen_place q.0 ∙ sym (ap (λ (k : Head). k.range) e);
                size = ap₂ (λ (i j : ℕ). (i + j) - m.0.place) (seen_place last) (seen_length last)
                    ∙ ap (λ (i : ℕ). (l.at + (l.next - l.at)) - i) (seen_place q.0) ∙ sym ex ∙ sym (ap (λ (k : Head). k.extent) e);
                key = seen_place tr ∙ sym key;
                truths = ((seen_length tr ∙ sym v') ⸬ seen_place fa ⸬ (seen_length fa ∙ sym w') ⸬ refl) ∙ sym (ap (λ (k : Head). k.truth ∷ k.falsity ∷ k.width ∷ []) e);
                rows = ap (λ (k : ℕ). rows_in vs k) key ∙ under_two m.1.0 us m.1.1.1.1.1.0 us' f.at ∙ ap₂ ◌++◌ (ra i i').0 rb.0;
                choices = choices_two m.1.0 us m.1.1.1.1.1.0 us' m.1.0.place ∙ ap₂ ◌++◌ (ra i i').1 rb.1;
              }));
        };
      }

module _ {s : List ℕ} {a : Look} {y z : Table × Table} where
  pub parameters_there : (x : Under) {e e' : ℕ} {b c r : Look} → a.code ≡ 45 → b ≡ advanced s a → Walks Fill e (definitions ▸ ∎) (λ w m. Rows x w m.0) s b c y z
      → Meets e' (sg rbrace · ∎) s c r → Walks Fill 0 (P ▸ ∎) (λ w m. Rows x w m.0) s a r y z
  unfolding means front_of behind matches class_at
  parameters_there x h p w m =
      let f = plain (sg lbrace · ∎) (take (sg lbrace) {s = s} {a = a} (at_code (matches (sg lbrace)) 45 tt h) p) ▻ w.fills ▻ plain (sg rbrace · ∎) m in
      record {
        what = w.what;
        does = w.does;
        fills = record {
          meets = P-by h p (w.fills.meets ⊳ m);
          told = λ k. told_rule (λ m. Rows x w.what m) a_P (told_as (f.told k) (λ m q. q.1.0));
        };
      }

module _ {s : List ℕ} {a : Look} {y z : Table} {l l₁ : List ℕ} {n n₁ : ℕ} {t : Table} where
  pub enumerator_there : (k : ℕ) {v e e' : ℕ} {b c r : Look} → v ≡ a.next - a.at → l₁ ≡ sets l (n * 3) (k ∷ a.at ∷ v ∷ []) → n₁ ≡ n + min 1 (65536 - n) → Meets 1 (name · ∎) s a b
      → Walks Fill e (P ▸ ∎) (λ w m. Rows (record { at = a.at; len = v; list = k }) w m.0) s b c (y, (l₁, n₁)) (z, t) → Meets e' (D ▸ ∎) s c r
      → Walks Fill 1 (enumerator ▸ ∎) (λ w m. EnumeratorRows s a k w m.0) s a r (y, (l, n)) (z, t)
  unfolding means front_of behind Rows EnumeratorRows choice_cells
  enumerator_there k {v} e o j x w d =
      let f = first name x ▻ w.fills ▻ plain (D ▸ ∎) d in
      let u : Done = (w.what.0, (k ∷ a.at ∷ v ∷ []) ∷ w.what.1) in
      record {
        what = u;
        does = (w.does.0, wrote_then (wrote_row refl o j) w.does.1);
        fills = record {
          meets = enumerator_by f.meets;
          told = λ h.
              told_rule (λ m. EnumeratorRows s a k u m) enumerator_is
              (told_as (f.told h) (λ m q i j.
              let r = q.1.0 m.0 (seen_place q.0, seen_length q.0 ∙ sym e) i (suc j) in
              (q.0, r.0, ap₂ ◌∷◌ (refl ⸬ seen_place q.0 ⸬ (seen_length q.0 ∙ sym e) ⸬ refl) r.1)));
        };
      }

module _ {s : List ℕ} {a : Look} {x y z : Table × Table} where
  pub definitions_on : (u : Under) {o r : Look} → Going then Fill definitions (Rows u) s o a x y → starts (paper definition) (class_at a.code) ≡ true
      → Walks Fill 1 (definition ▸ ∎) (λ w m. Rows u w (λ i j. one (m.0 i j))) s a r y z → Going then Fill definitions (Rows u) s o r x z
  unfolding means defining front_of behind Rows
  definitions_on u g h w =
      going_on tables (Rows u) (definition ▸ ∎) a_definition g (definitions_again g.still h w.fills.meets) w.does w.fills
      (λ m more q r v st i j.
      let d = (m.0 i j).definition in
      let vs = (m.0 i j).values in
      let i'' = suc d.row in
      let j'' = j + enumerators_in (define d vs no_more) in
      let ds = m.1.0 i'' j'' in
      (rows_defining d vs ds v u.list ∙ ap₂ ◌++◌ (q v st i j).0 (r v st i'' j'').0, choices_defining d vs ds ∙ ap₂ ◌++◌ (q v st i j).1 (r v st i'' j'').1))

  pub enumerators_on : (k : ℕ) {b o r : Look} → Going then Fill enumerators (ValueRows k) s o a x y → a.code ≡ 52 → b ≡ advanced s a
      → Walks Fill 1 (enumerator ▸ ∎) (λ w m. EnumeratorRows s b k w m.0) s b r y z → Going then Fill enumerators (ValueRows k) s o r x z
  unfolding means first_value front_of behind matches class_at ValueRows EnumeratorRows
  enumerators_on k g h p w =
      going_on tables (ValueRows k) (sg comma · enumerator ▸ ∎) an_enumerator g (enumerators_again g.still h (enumerators_item h p w.fills.meets)) w.does
      (plain (sg comma · ∎) (take (sg comma) {s = s} {a = a} (at_code (matches (sg comma)) 52 tt h) p) ▻ w.fills)
      (λ m more q r i j.
      let v = m.1.0 i j in
      let i'' = i + definitions_in v.under in
      let j'' = suc j + enumerators_in v.under in
      let vs = m.1.1.0 i'' j'' in
      let e = q.1 i j in
      let f = r i'' j'' in
      (under_first v.word j v.under vs k ∙ ap₂ ◌++◌ e.1 f.0, choices_first v.word j v.under vs k ∙ ap₂ ◌++◌ e.2 f.1))

module _ {s : List ℕ} {a : Look} {x y : Table × Table} where
  pub definitions_gone : (u : Under) {o : Look} → Going then Fill definitions (Rows u) s o a x y → starts (paper definition) (class_at a.code) ≡ false
      → Walks Fill 0 (definitions ▸ ∎) (λ w m. Rows u w m.0) s o a x y
  unfolding means Rows entries choices map_cells
  definitions_gone u g h = gone tables (Rows u) no_definition (λ v st i j. (refl, refl)) g (definitions_done g.still h)

module _ {s : List ℕ} {a c f g : Look} {y y₁ y₂ z t t₁ t₂ : Table} where
  pub enum_defined : (x : Under) {e₁ e₂ e₃ e₄ e₅ i extent : ℕ} {h : Head} {b o p r : Look} → a.code ≡ 41 → b ≡ advanced s a → Fills e₁ (auto ▸ ∎) s b c (λ m. bit m.0 ≡ i)
      → Meets e₂ (sg lsquare · ∎) s c f → Walks Fill e₃ (enumerator ▸ ∎) (λ w m. EnumeratorRows s f f.at w m.0) s f o (y, t) (y₁, t₁)
      → Going then Fill enumerators (ValueRows f.at) s o g (y₁, t₁) (y₂, t₂) → (g.code ≡ 52 → ⊥) → Meets e₄ (sg rsquare · ∎) s g p
      → extent ≡ (g.at + (g.next - g.at)) - c.at → h ≡ list_head a i c.at extent f.at 0 0 0
      → Walks (Puts 19) e₅ (name · mark ▸ default enums ▸ D ▸ sg semicolon · ∎) (λ w m. Named x h w m.0 m.1.0 m.1.1.0) s p r y₂ z
      → Walks Fill 1 (definition ▸ ∎) (λ w m. Rows x w (λ i j. one (m.0 i j))) s a r (y, t) (z, t₂)
  unfolding means defined first_value through Named row_of Rows EnumeratorRows ValueRows is_enum front_of behind matches class_at list_key truth_cells entries choices map_cells
  enum_defined x {h} n p u sq v gg nc cl ex e w =
      let q = gone tables (ValueRows f.at) no_enumerator (λ i j. (refl, refl)) gg (enumerators_done gg.still nc) in
      let o = u ▻ first (sg lsquare) sq ▻ v.fills ▻ q.fills ▻ first (sg rsquare) cl ▻ w.fills in
      attribute_by x an_enum ((then v.what q.what).0 ++ w.what, (then v.what q.what).1) (enum_by n p o.meets)
      (wrote_then (wrote_then v.does.0 q.does.0) w.does, wrote_then v.does.1 q.does.1)
      (first (the ENUM) (take (the ENUM) {s = s} {a = a} (at_code (matches (the ENUM)) 41 tt n) p) ▻ o)
      (λ m k ú st i j.
      let d = (means an_enum m i j).definition in
      let vs = (means an_enum m i j).values in
      let ev = m.1.1.1.0 i j in
      let i'' = i + definitions_in ev.under in
      let j'' = suc j + enumerators_in ev.under in
      let more = m.1.1.1.1.0 i'' j'' in
      let er = k.1.1.1.0 i j in
      let mr = k.1.1.1.1.0 i'' j'' in
      let o = k.1.1.0 in
      let last = k.1.1.1.1.1.0 in
      let key = ap (λ (k : Head). k.key) e in
      let l : Listed h true (then v.what q.what) d.range vs =
      record {
        place = seen_place o ∙ sym (ap (λ (k : Head). k.range) e);
        size = ap₂ (λ (i j : ℕ). (i + j) - m.1.1.0.place) (seen_place last) (seen_length last)
            ∙ ap (λ (i : ℕ). (g.at + (g.next - g.at)) - i) (seen_place o) ∙ sym ex ∙ sym (ap (λ (k : Head). k.extent) e);
        key = seen_place er.0 ∙ sym key;
        truths = sym (ap (λ (k : Head). k.truth ∷ k.falsity ∷ k.width ∷ []) e);
        rows = ap (λ (k : ℕ). rows_in vs k) key ∙ under_first ev.word j ev.under more f.at ∙ ap₂ ◌++◌ er.1 mr.0;
        choices = ap (λ (k : ℕ). choice_rows_in vs true k) (seen_place er.0) ∙ choices_first ev.word j ev.under more f.at ∙ ap₂ ◌++◌ er.2 mr.1;
      } in
      (one_rows x h ú d vs st (head_is d vs (typed_list a e) k.0 k.1.0 l) l.rows k.1.1.1.1.1.1, one_choices d vs l.choices))
