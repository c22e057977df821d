-- What is known of an attribute and of an object by the rows that were kept of a text. Assumes nothing.
use mathlib.Core.Path.{◌≡◌, refl, sym, ◌∙◌, ap, ap₂, subst}
use mathlib.Core.List.{List, [], ◌∷◌, ◌++◌, append-nil}
use mathlib.Core.Option.{Option, none, some}
use Prim.Native.Nat.{ℕ, ◌+◌, ◌*◌, ◌≤◌, ◌<◌}
use native.Mathlib.Omega.{arith}
use lib.ListN.{length, get_or}
use Rattle.token.specs.Find.{bit}
use Rattle.token.specs.Tokens.{part_of, step_at}
use Rattle.meaning.specs.Syntax.{Word, span_of, span_or, absent, Definitions, Values, Defined, done, Object, File, statements_in}
use Rattle.meaning.specs.Actions.{num_of_step, float_of_step}
use Rattle.meaning.specs.Kinds.{kind_number}
use Rattle.meaning.specs.Scopes.{Under}
use Rattle.meaning.specs.Judging.{taken}
use Rattle.meaning.proofs.Sites.{option_words, object_words}
use Rattle.layout.specs.Kept.{Entry, spec_entries, spec_choices, definition_cells, default_code, code_of, object_cells, statement_count, statement_rows, all_statement_rows}
use Rattle.blocks.specs.Blocks.{Holds, WordIn, none_in, BlockAt}
use Rattle.blocks.proofs.Files.{AllIn, objects_in, object_cell, object_block, statements_held}
use Rattle.scopes.specs.Situations.{Situation, HasValue, Stands, Nth, RowOf, Reached, ReadAt}
use Rattle.scopes.specs.Given.{Tables, Given, Attribute, Below}
use Rattle.scopes.proofs.Forms.{Formed}
use Rattle.scopes.specs.declared.Sizes.{Sizes}
use Rattle.scopes.proofs.Rooms.{definition_cell, nth_low, default_cell}
use Rattle.scopes.proofs.Descents.{nth_in, entry_facts}
use Rattle.scopes.proofs.Sorts.{taken_none, taken_some}
use Rattle.lookups.proofs.Standings.{entry, stands_at, under_below, file_stands, words_definition}

-- The word t at its place.
pub read_at : {s : List ℕ} {t : Word} {at len : ℕ} → WordIn s t → at ≡ t.place → len ≡ t.length → ReadAt s t at len
read_at {s} h p l = record {
  bytes = h.bytes ∙ ap₂ (part_of s) (sym p) (sym l);
  number = h.number ∙ ap (λ i. num_of_step (step_at s i)) (sym p);
  float = h.float ∙ ap (λ i. float_of_step (step_at s i)) (sym p);
}

-- The row of an attribute ------------------------------------------------------------------------------------------------------------------

-- Its cells, and its words in the text.
pub record AttributeRow (s d : List ℕ) (f : File) (u : Word) (j : ℕ) (x : Defined) : Type 0 where
  pub row_of : RowOf f j x
  pub low : j < 513
  pub inside : j < length (spec_entries f.specs)
  pub under_place : get_or d (j * 19 + 0) 0 ≡ u.place
  pub name_place : get_or d (j * 19 + 2) 0 ≡ x.definition.name.place
  pub name_length : get_or d (j * 19 + 3) 0 ≡ x.definition.name.length
  pub list_mark : get_or d (j * 19 + 6) 0 ≡ bit x.definition.list
  pub type_code : get_or d (j * 19 + 12) 0 ≡ code_of x.definition.word
  pub default_place : get_or d (j * 19 + 10) 0 ≡ (span_or x.definition.default).place
  pub default_length : get_or d (j * 19 + 11) 0 ≡ (span_or x.definition.default).length
  pub default_is : get_or d (j * 19 + 18) 0 ≡ default_code x.definition.default
  pub name : WordIn s x.definition.name
  pub default : AllIn s (option_words x.definition.default)

module _ {s d e o : List ℕ} {z : Sizes} {f : File} (g : Tables s d e o z f) where
  -- The word that a row stands under.
  pub under_cell : {j : ℕ} {y : Entry} → Nth (spec_entries f.specs) j y → get_or d (j * 19 + 0) 0 ≡ y.under.place
  unfolding definition_cells
  under_cell {j} {y} n =
      let h = nth_low n in
      let i = g.definitions in
      let k = g.definitions_fit in
      definition_cell f d j 0 y g.in_definitions n (omega arith) (omega arith)

  -- All rows are below their number.
  pub stands_below : {u : Word} {ds : Definitions} → Stands f.specs u ds → Below z.definitions ds
  stands_below q x h =
      let a = nth_low (stands_at g.situation q h).nth in
      let b = g.definitions in
      omega arith

  -- All enumerators are in the table.
  pub reached : (vs : Values) → Reached f z.enumerators vs
  reached vs = record {
    front = spec_choices f.specs;
    rest = [];
    whole = sym (append-nil (spec_choices f.specs));
    many = sym g.enumerators;
    room = let h = g.enumerators_fit in omega arith;
    free = tt;
  }

  module _ {j : ℕ} {x : Defined} (a : Attribute f j x) where
    pub known : AttributeRow s d f a.under j x
    unfolding definition_cells
    known =
        let p = g.situation in
        let q = stands_at p a.stands a.has in
        let E = entry a.under q.outer x in
        let n : Nth (spec_entries f.specs) j E = subst (λ k. Nth (spec_entries f.specs) k E) a.row q.nth in
        let h = nth_low n in
        let i = g.definitions in
        let k = g.definitions_fit in
        let l : j < 513 = omega arith in
        let w = words_definition a.has (file_stands p a.stands).1 in
        let c : (c : ℕ) → c < 19 → get_or d (j * 19 + c) 0 ≡ get_or (definition_cells E) c 0 = λ c m. definition_cell f d j c E g.in_definitions n l m in
        record {
          row_of = record { under = a.under; outer = q.outer; nth = n };
          low = l;
          inside = h;
          under_place = c 0 (omega arith);
          name_place = c 2 (omega arith);
          name_length = c 3 (omega arith);
          list_mark = c 6 (omega arith);
          type_code = c 12 (omega arith);
          default_place = c 10 (omega arith);
          default_length = c 11 (omega arith);
          default_is = default_cell f d j E g.in_definitions n l;
          name = w.1.0;
          default = w.1.1;
        }

    pub name_at : (at len : ℕ) → at ≡ get_or d (j * 19 + 2) 0 → len ≡ get_or d (j * 19 + 3) 0 → x.definition.name.bytes ≡ part_of s at len
    name_at at len p q = known.name.bytes ∙ ap₂ (part_of s) (sym (p ∙ known.name_place)) (sym (q ∙ known.name_length))

    pub formed : Formed s x.definition x.values
    formed = (entry_facts g.situation (nth_in known.row_of.nth)).facts.formed

-- The definitions under its values stand before it.
pub value_below : {s : List ℕ} {f : File} {j : ℕ} {x : Defined} {v : Under} → Situation s f → Attribute f j x → HasValue x.values v → Below j v.definitions
value_below p a i y h = let k = under_below p a.stands a.has i h in let r = a.row in omega arith

-- Its default ------------------------------------------------------------------------------------------------------------------------------

-- The default that is taken, by the cells of the row.
pub record DefaultWord (s d : List ℕ) (j : ℕ) (x : Defined) : Type 0 where
  pub word : Word
  pub takes : taken x.definition.default ≡ some word
  pub in_text : WordIn s word
  pub place : get_or d (j * 19 + 10) 0 ≡ word.place
  pub length : get_or d (j * 19 + 11) 0 ≡ word.length
  pub coded : get_or d (j * 19 + 18) 0 ≡ code_of word

module _ {s d : List ℕ} {f : File} {u : Word} {j : ℕ} {x : Defined} (k : AttributeRow s d f u j x) where
  -- There is none, or it is NO_DEFAULT.
  pub none_given : get_or d (j * 19 + 11) 0 ≡ 0 → taken x.definition.default ≡ none
  unfolding span_or span_of option_words taken
  none_given e = by x.definition.default (sym k.default_length ∙ e) k.default
    where
      by : (o : Option Word) → (span_or o).length ≡ 0 → AllIn s (option_words o) → taken o ≡ none
      by none h a = refl
      by (some t) h a = let l = a.0.long in absurd (omega arith)

  pub not_taken : get_or d (j * 19 + 18) 0 ≡ 4 → taken x.definition.default ≡ none
  unfolding default_code taken
  not_taken e = by x.definition.default (sym k.default_is ∙ e)
    where
      by : (o : Option Word) → default_code o ≡ 4 → taken o ≡ none
      by none h = refl
      by (some t) h = taken_none t h

  -- There is one.
  pub default_word : (get_or d (j * 19 + 11) 0 ≡ 0 → ⊥) → (get_or d (j * 19 + 18) 0 ≡ 4 → ⊥) → DefaultWord s d j x
  unfolding span_or span_of absent option_words default_code
  default_word n m = by x.definition.default refl k.default k.default_place k.default_length k.default_is
    where
      by : (o : Option Word) → x.definition.default ≡ o → AllIn s (option_words o) → get_or d (j * 19 + 10) 0 ≡ (span_or o).place → get_or d (j * 19 + 11) 0 ≡ (span_or o).length
          → get_or d (j * 19 + 18) 0 ≡ default_code o → DefaultWord s d j x
      by none e a p l c = absurd (n l)
      by (some t) e a p l c = record { word = t; takes = ap taken e ∙ taken_some t (λ q. m (c ∙ q)); in_text = a.0; place = p; length = l; coded = c }

-- Statements -------------------------------------------------------------------------------------------------------------------------------

-- A block of nothing.
pub nothing_at : {s d e o st : List ℕ} {z : Sizes} {f : File} → Given s d e o st z f → BlockAt s st 0 0 done
unfolding statements_in statement_rows
nothing_at {f = f} g =
    let h = g.statements_fit in
    record {
      rows = all_statement_rows f.objects 0;
      holds = subst (λ t. Holds 2049 7 t (all_statement_rows f.objects 0)) (sym g.in_statements) (statements_held f (omega arith));
      block = record { front = []; rest = all_statement_rows f.objects 0; whole = refl; place = refl };
      words = none_in;
      after = refl;
    }

-- The row of an object, and its block.
pub record KeptObject (s o st : List ℕ) (i : ℕ) (front : List Object) (x : Object) : Type 0 where
  pub kind : get_or o (i * 10 + 0) 0 ≡ kind_number x.kind
  pub name : get_or o (i * 10 + 3) 0 ≡ x.name.place
  pub from : get_or o (i * 10 + 8) 0 ≡ statement_count front
  pub till : get_or o (i * 10 + 9) 0 ≡ statement_count front + statements_in x.statements
  pub block : BlockAt s st (statement_count front) (statement_count front + statements_in x.statements) x.statements

pub kept_object : {s d e o st : List ℕ} {z : Sizes} {f : File} {i : ℕ} (front : List Object) (x : Object) (rest : List Object) → Given s d e o st z f
    → f.objects ≡ front ++ (x ∷ rest) → length front ≡ i → KeptObject s o st i front x
unfolding object_cells
kept_object {s} {d} {e} {o} {st} {z} {f} {i} front x rest g w p =
    let T = g.tables in
    let c = T.objects in
    let h = T.objects_fit in
    let k = g.statements_fit in
    let l : length f.objects ≤ 257 = omega arith in
    let a : AllIn s (object_words f.objects) = subst (λ q. AllIn s (object_words q.objects)) (sym T.situation.syntax_of) (objects_in s T.situation.derivation) in
    let b : (m : ℕ) → m < 10 → get_or o (i * 10 + m) 0 ≡ get_or (object_cells x (statement_count front)) m 0 =
    λ m q. ap (λ n. get_or o (n * 10 + m) 0) (sym p) ∙ object_cell s f front x rest w o T.in_objects l m q in
    record {
      kind = b 0 (omega arith);
      name = b 3 (omega arith);
      from = b 8 (omega arith);
      till = b 9 (omega arith);
      block = object_block s f front x rest w st g.in_statements (omega arith) a;
    }
