-- What is known of each scope, definition and value of a text, from the specs down: theorems for callers of the lookups. Assumes nothing.
use mathlib.Core.Path.{◌≡◌, refl, sym, ◌∙◌, ap, ap₂, subst}
use mathlib.Core.List.{List, [], ◌∷◌, ◌++◌, append_assoc, append-nil}
use mathlib.Core.Bool.{Bool, true, false}
use mathlib.Core.Option.{Option, none, some}
use Prim.Native.Nat.{ℕ, suc, ◌+◌}
use native.Mathlib.Omega.{arith}
use lib.ListN.{length}
use Rattle.token.specs.Find.{pick}
use Rattle.grammar.specs.Grammar.{Kind, file, ◌▸◌, ∎, ◌⟶◌, Trees, tokens as tree-tokens}
use Rattle.grammar.specs.Terminals.{tokens}
use Rattle.grammar.proofs.Uniqueness.{none≢some}
use Rattle.meaning.specs.Kinds.{kind_number, same_kind}
use Rattle.meaning.specs.Syntax.{Word, Definition, Definitions, no_more, define, Values, no_value, value, Defined, Spec, File, is_enum}
use Rattle.meaning.specs.Words.{alike}
use Rattle.meaning.specs.Actions.{syntax}
use Rattle.meaning.specs.Normal.{part}
use Rattle.meaning.specs.Scopes.{Under, find_definition, find_value, under, definitions_or, of_kind}
use Rattle.meaning.specs.Defining.{all_definition_rows}
use Rattle.meaning.proofs.Order.{Ordered, InOrder, sub_front, sub_all, ordered_sub}
use Rattle.meaning.proofs.Settled.{text_ordered}
use Rattle.meaning.specs.Merging.{merge}
use Rattle.meaning.proofs.Merges.{syntax_merged}
use Rattle.meaning.proofs.Sites.{bound_words, option_words, definition_words, value_words, spec_words, object_words}
use Rattle.meaning.proofs.Numbering.{numbered, Counts, N, definition_numbers, numbers_under, spec_numbers}
use Rattle.meaning.proofs.Standing.{Scope, Deep, deep_more, DeepValues, more_values, DeepSpecs, more_specs, scopes, counts_back, counts_head}
use Rattle.layout.specs.Kept.{Entry, list_key, entries, entries_under, spec_entries, spec_choices, kind_place}
use Rattle.scopes.specs.Situations.{Situation, HasDefinition, this_definition, later_definition, HasValue, this_value, later_value, HasSpec, this_spec, later_spec, Stands, under_kind, under_value, ScopeAt, no_scope, scope, Nth, RowOf, ReadAt}
use Rattle.scopes.proofs.Forms.{NotEmpty, Formed, AllFormed, more_formed, AllFormedUnder, more_under}
use Rattle.scopes.specs.Promises.{place_found}
use Rattle.scopes.proofs.Chains.{Chain, text_chain}
use Rattle.scopes.proofs.Forming.{FormedSpecs, formed}
use Rattle.scopes.proofs.Goodness.{Good, Goods, good_front, good_back, later_words, version_read, syntax_good, syntax_order, spec_order, spec_good}
use Rattle.meaning.proofs.Runs.{Ends, ends}
use Rattle.scopes.proofs.Lists.{Own}
use Rattle.scopes.proofs.Lists as lists

-- Entries -----------------------------------------------------------------------------------------------------------------------------------

-- The numbers of entries.
unfoldable pub rows_of : List Entry → List ℕ
rows_of [] = []
rows_of (x ∷ xs) = x.definition.row ∷ rows_of xs

pub rows_append : (a b : List Entry) → rows_of (a ++ b) ≡ rows_of a ++ rows_of b
unfolding rows_of
rows_append [] b = refl
rows_append (x ∷ a) b = ap (λ (l : List ℕ). x.definition.row ∷ l) (rows_append a b)

mutual
  unfolding entries definition_numbers rows_of

  entry_numbers : (ds : Definitions) (u : Word) (o : ℕ) → rows_of (entries ds u o) ≡ definition_numbers ds
  entry_numbers no_more u o = refl
  entry_numbers (define d vs ds) u o =
      rows_append (entries_under vs (list_key vs)) (record { under = u; outer = o; definition = d; values = vs } ∷ entries ds u o)
      ∙ ap₂ (λ (a b : List ℕ). a ++ (d.row ∷ b)) (numbers_of_under vs (list_key vs)) (entry_numbers ds u o)

  numbers_of_under : (vs : Values) (o : ℕ) → rows_of (entries_under vs o) ≡ numbers_under vs
  numbers_of_under no_value o = refl
  numbers_of_under (value w e us vs) o =
      rows_append (entries us w o) (entries_under vs o) ∙ ap₂ ◌++◌ (entry_numbers us w o) (numbers_of_under vs o)

spec_entry_numbers : (xs : List Spec) → rows_of (spec_entries xs) ≡ spec_numbers xs
unfolding spec_entries spec_numbers rows_of
spec_entry_numbers [] = refl
spec_entry_numbers (x ∷ xs) = rows_append (entries x.definitions x.word 0) (spec_entries xs) ∙ ap₂ ◌++◌ (entry_numbers x.definitions x.word 0) (spec_entry_numbers xs)

-- An entry's number is its place.
pub rows_length : (a : List Entry) → length (rows_of a) ≡ length a
unfolding rows_of
rows_length [] = refl
rows_length (x ∷ a) = ap suc (rows_length a)

-- Part of the entries E.
pub record Within (E part : List Entry) : Type 0 where
  pub front : List Entry
  pub rest : List Entry
  pub whole : E ≡ front ++ (part ++ rest)

within_front : {E : List Entry} (a b : List Entry) → Within E (a ++ b) → Within E a
within_front a b w = record { front = w.front; rest = b ++ w.rest; whole = w.whole ∙ ap (λ (l : List Entry). w.front ++ l) (append_assoc a b w.rest) }

within_back : {E : List Entry} (a b : List Entry) → Within E (a ++ b) → Within E b
within_back a b w =
    record { front = w.front ++ a; rest = w.rest; whole = w.whole ∙ ap (λ (l : List Entry). w.front ++ l) (append_assoc a b w.rest) ∙ sym (append_assoc w.front a (b ++ w.rest)) }

within_nth : {E : List Entry} (x : Entry) (b : List Entry) → Counts 0 (rows_of E) → Within E (x ∷ b) → Nth E x.definition.row x
unfolding rows_of
within_nth {E} x b c w =
    let e : rows_of E ≡ rows_of w.front ++ (x.definition.row ∷ rows_of (b ++ w.rest)) = ap rows_of w.whole ∙ rows_append w.front (x ∷ (b ++ w.rest)) in
    let k = subst (Counts 0) e c in
    let m : length w.front ≡ 0 + length (rows_of w.front) = omega (arith, rows_length w.front) in
    let h = counts_head (counts_back (rows_of w.front) k m) in
    record { front = w.front; rest = b ++ w.rest; whole = w.whole; place = sym h }

-- Facts -------------------------------------------------------------------------------------------------------------------------------------

-- What is known of some definitions, and of some values.
pub record Facts (s : List ℕ) (f : File) (u : Word) (o : ℕ) (ds : Definitions) : Type 0 where
  pub deep : Deep (all_definition_rows f.specs) ds
  pub lists : lists.Deep s (spec_choices f.specs) ds
  pub formed : AllFormed s ds
  pub good : Goods s (definition_words ds)
  pub within : Within (spec_entries f.specs) (entries ds u o)

pub record ValueFacts (s : List ℕ) (f : File) (o : ℕ) (vs : Values) : Type 0 where
  pub deep : DeepValues (all_definition_rows f.specs) vs
  pub lists : lists.DeepValues s (spec_choices f.specs) vs
  pub formed : AllFormedUnder s vs
  pub good : Goods s (value_words vs)
  pub within : Within (spec_entries f.specs) (entries_under vs o)

-- What is known of a definition that stands under a word.
pub record DefinitionFacts (s : List ℕ) (f : File) (u : Word) (o : ℕ) (x : Defined) : Type 0 where
  pub formed : Formed s x.definition x.values
  pub typed : ReadAt s x.definition.word x.definition.word.place x.definition.word.length
  pub own : is_enum x.definition.type ≡ true → NotEmpty x.values → Own s (spec_choices f.specs) x.values
  pub name : Good s x.definition.name
  pub default : Goods s (option_words x.definition.default)
  pub values : ValueFacts s f (list_key x.values) x.values
  pub rest : List Entry
  pub within : Within (spec_entries f.specs) (record { under = u; outer = o; definition = x.definition; values = x.values } ∷ rest)

this_facts : (s : List ℕ) (f : File) (u : Word) (o : ℕ) (d : Definition) (vs : Values) (ds : Definitions) → Facts s f u o (define d vs ds)
    → DefinitionFacts s f u o (record { definition = d; values = vs })
unfolding entries definition_words
this_facts s f u o d vs ds k = by k.deep k.lists k.formed
  where
    w : List Word
    w = d.name ∷ option_words d.default

    g : Goods s (value_words vs ++ (d.name ∷ option_words d.default))
    g = good_back s (bound_words d.bounds) (value_words vs ++ (d.name ∷ option_words d.default))
        (good_front s (bound_words d.bounds ++ (value_words vs ++ (d.name ∷ option_words d.default))) (definition_words ds) k.good.1)

    n : Goods s (d.name ∷ option_words d.default)
    n = good_back s (value_words vs) (d.name ∷ option_words d.default) g

    by : Deep (all_definition_rows f.specs) (define d vs ds) → lists.Deep s (spec_choices f.specs) (define d vs ds) → AllFormed s (define d vs ds)
        → DefinitionFacts s f u o (record { definition = d; values = vs })
    by (deep_more a b) (lists.deep_more p q r) (more_formed h t i j) =
        record {
          formed = h;
          typed = t;
          own = p;
          name = n.0;
          default = n.1;
          values = record {
            deep = a;
            lists = q;
            formed = i;
            good = good_front s (value_words vs) (d.name ∷ option_words d.default) g;
            within = within_front (entries_under vs (list_key vs)) (record { under = u; outer = o; definition = d; values = vs } ∷ entries ds u o) k.within;
          };
          rest = entries ds u o;
          within = within_back (entries_under vs (list_key vs)) (record { under = u; outer = o; definition = d; values = vs } ∷ entries ds u o) k.within;
        }

later_facts : (s : List ℕ) (f : File) (u : Word) (o : ℕ) (d : Definition) (vs : Values) (ds : Definitions) → Facts s f u o (define d vs ds) → Facts s f u o ds
unfolding entries definition_words
later_facts s f u o d vs ds k = by k.deep k.lists k.formed
  where
    by : Deep (all_definition_rows f.specs) (define d vs ds) → lists.Deep s (spec_choices f.specs) (define d vs ds) → AllFormed s (define d vs ds) → Facts s f u o ds
    by (deep_more a b) (lists.deep_more p q r) (more_formed h t i j) =
        record {
          deep = b;
          lists = r;
          formed = j;
          good = good_back s (bound_words d.bounds ++ (value_words vs ++ (d.name ∷ option_words d.default))) (definition_words ds) k.good.1;
          within = within_back (record { under = u; outer = o; definition = d; values = vs } ∷ []) (entries ds u o)
              (within_back (entries_under vs (list_key vs)) (record { under = u; outer = o; definition = d; values = vs } ∷ entries ds u o) k.within);
        }

definition_facts : {s : List ℕ} {f : File} {u : Word} {o : ℕ} {ds : Definitions} {x : Defined} → HasDefinition ds x → Facts s f u o ds → DefinitionFacts s f u o x
definition_facts {s} {f} {u} {o} (this_definition {d} {vs} {ds}) k = this_facts s f u o d vs ds k
definition_facts {s} {f} {u} {o} (later_definition {d} {vs} {ds} h) k = definition_facts h (later_facts s f u o d vs ds k)

-- A value's scope.
value_facts : {s : List ℕ} {f : File} {o : ℕ} {vs : Values} {v : Under} → HasValue vs v → ValueFacts s f o vs
    → Facts s f v.word o v.definitions × Scope (all_definition_rows f.specs) v.word v.definitions
unfolding entries value_words
value_facts {s} {f} {o} (this_value {w} {e} {us} {vs}) k = by k.deep k.lists k.formed
  where
    by : DeepValues (all_definition_rows f.specs) (value w e us vs) → lists.DeepValues s (spec_choices f.specs) (value w e us vs) → AllFormedUnder s (value w e us vs)
        → Facts s f w o us × Scope (all_definition_rows f.specs) w us
    by (more_values a b c) (lists.more_values p q) (more_under h i) =
        (record { deep = b; lists = p; formed = h; good = good_front s (definition_words us) (value_words vs) k.good.1; within = within_front (entries us w o) (entries_under vs o) k.within }, a)
value_facts {s} {f} {o} (later_value {w} {e} {us} {vs} {x} h) k = value_facts h (by k.deep k.lists k.formed)
  where
    by : DeepValues (all_definition_rows f.specs) (value w e us vs) → lists.DeepValues s (spec_choices f.specs) (value w e us vs) → AllFormedUnder s (value w e us vs)
        → ValueFacts s f o vs
    by (more_values a b c) (lists.more_values p q) (more_under h i) =
        record { deep = c; lists = q; formed = i; good = good_back s (definition_words us) (value_words vs) k.good.1; within = within_back (entries us w o) (entries_under vs o) k.within }

-- The specs.
pub record SpecFacts (s : List ℕ) (f : File) (xs : List Spec) : Type 0 where
  pub deep : DeepSpecs (all_definition_rows f.specs) xs
  pub lists : lists.DeepSpecs s (spec_choices f.specs) xs
  pub formed : FormedSpecs s xs
  pub good : Goods s (spec_words xs)
  pub within : Within (spec_entries f.specs) (spec_entries xs)

spec_facts : {s : List ℕ} {f : File} {xs : List Spec} {x : Spec} → HasSpec xs x → SpecFacts s f xs
    → Facts s f x.word 0 x.definitions × Scope (all_definition_rows f.specs) x.word x.definitions
unfolding spec_entries spec_words
spec_facts {s} {f} (this_spec {x} {xs}) k = by k.deep k.lists
  where
    by : DeepSpecs (all_definition_rows f.specs) (x ∷ xs) → lists.DeepSpecs s (spec_choices f.specs) (x ∷ xs)
        → Facts s f x.word 0 x.definitions × Scope (all_definition_rows f.specs) x.word x.definitions
    by (more_specs a b c) (lists.more_specs p q) =
        (record { deep = b; lists = p; formed = k.formed.0; good = good_front s (definition_words x.definitions) (spec_words xs) k.good.1; within = within_front (entries x.definitions x.word 0) (spec_entries xs) k.within }, a)
spec_facts {s} {f} (later_spec {x} {y} {xs} h) k = spec_facts h (by k.deep k.lists)
  where
    by : DeepSpecs (all_definition_rows f.specs) (y ∷ xs) → lists.DeepSpecs s (spec_choices f.specs) (y ∷ xs) → SpecFacts s f xs
    by (more_specs a b c) (lists.more_specs p q) =
        record { deep = c; lists = q; formed = k.formed.1; good = good_back s (definition_words y.definitions) (spec_words xs) k.good.1; within = within_back (entries y.definitions y.word 0) (spec_entries xs) k.within }

-- The text ------------------------------------------------------------------------------------------------------------------------------------

-- What is known of a whole text.
pub record Whole (s : List ℕ) (f : File) : Type 0 where
  pub version : ReadAt s f.version f.version.place f.version.length
  pub good : Goods s (later_words f)
  pub order : InOrder 1 (later_words f)
  pub facts : SpecFacts s f f.specs
  pub numbers : N file f
  pub merged : f.objects ≡ merge f.parts
  pub rows : Counts 0 (rows_of (spec_entries f.specs))

whole_tree : (s : List ℕ) (t : Trees ◌⟶◌ (file ▸ ∎)) → tree-tokens t ≡ tokens s → Whole s (syntax s t)
whole_tree s t e =
    let f = syntax s t in
    let c : Chain s 0 (tree-tokens t) = subst (Chain s 0) (sym e) (text_chain s) in
    let o : Ordered 0 (tree-tokens t) = subst (Ordered 0) (sym e) (text_ordered s) in
    let g = syntax_good s t 0 c o in
    let r = spec_order s t o in
    let b = ends (spec_words f.specs) 1 r in
    let n = numbered s t in
    record {
      version = version_read s t 0 c;
      good = g;
      order = syntax_order s t o;
      facts = record {
        deep = scopes s t o;
        lists = lists.deep_specs f.specs 1 b.hi s (spec_choices f.specs) [] refl b.run n.0.1 (spec_good s f g) (λ x p q. tt);
        formed = formed s t c;
        good = spec_good s f g;
        within = record { front = []; rest = []; whole = sym (append-nil (spec_entries f.specs)) };
      };
      numbers = n;
      merged = syntax_merged s t;
      rows = subst (Counts 0) (sym (spec_entry_numbers f.specs)) n.0.0;
    }

pub whole : {s : List ℕ} {f : File} → Situation s f → Whole s f
whole {s} k = subst (Whole s) (sym k.syntax_of) (whole_tree s k.derivation.tree k.derivation.leaves)

-- The words of a text's specs are in order.
pub spec_run : {s : List ℕ} {f : File} → Situation s f → Ends 1 (spec_words f.specs)
unfolding later_words
spec_run {s} {f} k = ends (spec_words f.specs) 1 (ordered_sub (sub_front (sub_all (spec_words f.specs)) (f.cpu ∷ object_words f.parts)) 1 (whole k).order)

spec_word : {s : List ℕ} {xs : List Spec} {x : Spec} → HasSpec xs x → Goods s (spec_words xs) → Good s x.word
unfolding spec_words
spec_word this_spec g = g.0
spec_word {s} (later_spec {y = y} {xs} h) g = spec_word h (good_back s (definition_words y.definitions) (spec_words xs) g.1)

pub value_word : {s : List ℕ} {vs : Values} {v : Under} → HasValue vs v → Goods s (value_words vs) → Good s v.word
unfolding value_words
value_word this_value g = g.0
value_word {s} (later_value {us = us} {vs} h) g = value_word h (good_back s (definition_words us) (value_words vs) g.1)

-- A scope of the text, with the key of the list that its word is a value of.
pub record ScopeFacts (s : List ℕ) (f : File) (u : Word) (ds : Definitions) : Type 0 where
  pub outer : ℕ
  pub facts : Facts s f u outer ds
  pub scope : Scope (all_definition_rows f.specs) u ds
  pub good : Good s u

pub scope_facts : {s : List ℕ} {f : File} {u : Word} {ds : Definitions} → Situation s f → Stands f.specs u ds → ScopeFacts s f u ds
scope_facts k (under_kind h) = let r = spec_facts h (whole k).facts in record { outer = 0; facts = r.0; scope = r.1; good = spec_word h (whole k).facts.good }
scope_facts k (under_value {x = x} p h v) =
    let a = scope_facts k p in
    let r = value_facts v (definition_facts h a.facts).values in
    record { outer = list_key x.values; facts = r.0; scope = r.1; good = value_word v (definition_facts h a.facts).values.good }

-- Theorems for callers ----------------------------------------------------------------------------------------------------------------------

-- A definition of a scope has the row that its number tells.
pub row_of_definition : {s : List ℕ} {f : File} {u : Word} {ds : Definitions} {x : Defined} → Situation s f → Stands f.specs u ds → HasDefinition ds x → RowOf f x.definition.row x
row_of_definition {u = u} {x = x} k p h =
    let a = scope_facts k p in
    let d = definition_facts h a.facts in
    record { under = u; outer = a.outer; nth = within_nth _ d.rest (whole k).rows d.within }

-- What a lookup finds is a definition of the scope, or a value of the list.
pub found_definition : (ds : Definitions) (t : Word) {x : Defined} → find_definition ds t ≡ some x → HasDefinition ds x
unfolding find_definition
found_definition no_more t e = absurd (none≢some e)
found_definition (define d vs ds) t {x} e = by (alike d.name t) e (found_definition ds t)
  where
    by : (b : Bool) → pick b (some (record { definition = d; values = vs })) (find_definition ds t) ≡ some x → (find_definition ds t ≡ some x → HasDefinition ds x) → HasDefinition (define d vs ds) x
    by true h ih = let y : Defined = record { definition = d; values = vs } in let q : y ≡ x = cc in subst (λ z. HasDefinition (define d vs ds) z) q this_definition
    by false h ih = later_definition (ih h)

pub found_value : (vs : Values) (t : Word) {v : Under} → find_value vs t ≡ some v → HasValue vs v
unfolding find_value
found_value no_value t e = absurd (none≢some e)
found_value (value w n us vs) t {v} e = by (alike w t) e (found_value vs t)
  where
    by : (b : Bool) → pick b (some (record { word = w; number = n; definitions = us })) (find_value vs t) ≡ some v → (find_value vs t ≡ some v → HasValue vs v) → HasValue (value w n us vs) v
    by true h ih = let y : Under = record { word = w; number = n; definitions = us } in let q : y ≡ v = cc in subst (λ z. HasValue (value w n us vs) z) q this_value
    by false h ih = later_value (ih h)

-- Where an entry comes from.
pub data In (x : Entry) : List Entry → Type 0 where
  here : {y : Entry} {l : List Entry} → y ≡ x → In x (y ∷ l)
  there : {y : Entry} {l : List Entry} → In x l → In x (y ∷ l)

in_empty : {x : Entry} {l : List Entry} → In x l → length l ≡ 0 → ⊥
in_empty (here e) z = omega arith
in_empty (there m) z = omega arith

in_none : {x : Entry} → In x [] → ⊥
in_none m = in_empty m refl

in_back : (x : Entry) (a b : List Entry) → In x b → In x (a ++ b)
in_back x [] b m = m
in_back x (y ∷ a) b m = there (in_back x a b m)

pub nth_in : {l : List Entry} {j : ℕ} {x : Entry} → Nth l j x → In x l
nth_in {x = x} n = subst (In x) (sym n.whole) (in_back x n.front (x ∷ n.rest) (here refl))

data Either (x : Entry) (a b : List Entry) : Type 0 where
  in_first : In x a → Either x a b
  in_second : In x b → Either x a b

in_either : (x : Entry) (a b : List Entry) → In x (a ++ b) → Either x a b
in_either x [] b m = in_second m
in_either x (y ∷ a) b (here e) = in_first (here e)
in_either x (y ∷ a) b (there m) = by (in_either x a b m)
  where
    by : Either x a b → Either x (y ∷ a) b
    by (in_first n) = in_first (there n)
    by (in_second n) = in_second n

pub record Origin (xs : List Spec) (x : Entry) : Type 0 where
  pub definitions : Definitions
  pub stands : Stands xs x.under definitions
  pub has : HasDefinition definitions (record { definition = x.definition; values = x.values })

by_two : (xs : List Spec) (x : Entry) (a b : List Entry) → (In x a → Origin xs x) → (In x b → Origin xs x) → Either x a b → Origin xs x
by_two xs x a b f g (in_first m) = f m
by_two xs x a b f g (in_second m) = g m

by_either : (xs : List Spec) (x : Entry) (a : List Entry) (y : Entry) (b : List Entry) → (In x a → Origin xs x) → Origin xs y → (In x b → Origin xs x) → Either x a (y ∷ b) → Origin xs x
by_either xs x a y b f o g (in_first m) = f m
by_either xs x a y b f o g (in_second (here e)) = subst (Origin xs) e o
by_either xs x a y b f o g (in_second (there m)) = g m

mutual
  unfolding entries

  origin : (xs : List Spec) (x : Entry) (ds₀ ds : Definitions) (u : Word) (o : ℕ) → Stands xs u ds₀ → ((y : Defined) → HasDefinition ds y → HasDefinition ds₀ y)
      → In x (entries ds u o) → Origin xs x
  origin xs x ds₀ no_more u o p lift m = absurd (in_none m)
  origin xs x ds₀ (define d vs ds) u o p lift m =
      by_either xs x (entries_under vs (list_key vs)) (record { under = u; outer = o; definition = d; values = vs }) (entries ds u o)
      (λ n. origin_under xs x vs (list_key vs) (λ v h. under_value p (lift (record { definition = d; values = vs }) this_definition) h) n)
      (record { definitions = ds₀; stands = p; has = lift (record { definition = d; values = vs }) this_definition })
      (λ n. origin xs x ds₀ ds u o p (λ y h. lift y (later_definition h)) n)
      (in_either x (entries_under vs (list_key vs)) (record { under = u; outer = o; definition = d; values = vs } ∷ entries ds u o) m)

  origin_under : (xs : List Spec) (x : Entry) (vs : Values) (o : ℕ) → ((v : Under) → HasValue vs v → Stands xs v.word v.definitions) → In x (entries_under vs o) → Origin xs x
  origin_under xs x no_value o st m = absurd (in_none m)
  origin_under xs x (value w e us vs) o st m =
      by_two xs x (entries us w o) (entries_under vs o)
      (λ n. origin xs x us us w o (st (record { word = w; number = e; definitions = us }) this_value) (λ y h. h) n)
      (λ n. origin_under xs x vs o (λ v h. st v (later_value h)) n)
      (in_either x (entries us w o) (entries_under vs o) m)

origin_specs : (all : List Spec) (x : Entry) (xs : List Spec) → ((y : Spec) → HasSpec xs y → HasSpec all y) → In x (spec_entries xs) → Origin all x
unfolding spec_entries
origin_specs all x [] lift m = absurd (in_none m)
origin_specs all x (y ∷ ys) lift m =
    by_two all x (entries y.definitions y.word 0) (spec_entries ys)
    (λ n. origin all x y.definitions y.definitions y.word 0 (under_kind (lift y this_spec)) (λ z h. h) n)
    (λ n. origin_specs all x ys (λ z h. lift z (later_spec h)) n)
    (in_either x (entries y.definitions y.word 0) (spec_entries ys) m)

-- Each entry's definition is one of a scope that stands under the entry's word.
pub entry_origin : (xs : List Spec) (x : Entry) → In x (spec_entries xs) → Origin xs x
entry_origin xs x m = origin_specs xs x xs (λ y h. h) m

-- What is known of a row's definition.
pub record RowFacts (s : List ℕ) (f : File) (x : Entry) : Type 0 where
  pub origin : Origin f.specs x
  pub scope : ScopeFacts s f x.under origin.definitions
  pub facts : DefinitionFacts s f x.under scope.outer (record { definition = x.definition; values = x.values })

pub entry_facts : {s : List ℕ} {f : File} {x : Entry} → Situation s f → In x (spec_entries f.specs) → RowFacts s f x
entry_facts {f = f} {x} k m =
    let o = entry_origin f.specs x m in
    let c = scope_facts k o.stands in
    record { origin = o; scope = c; facts = definition_facts o.has c.facts }

-- The scope under the value that a word is: going down from a row.
pub scope_under : {s : List ℕ} {f : File} {j : ℕ} {x : Defined} (t : Word) → Situation s f → RowOf f j x → ScopeAt f (place_found (find_value x.values t)) (under x.values t)
unfolding place_found under definitions_or
scope_under {s} {f} {j} {x} t k r =
    let o = entry_origin f.specs (record { under = r.under; outer = r.outer; definition = x.definition; values = x.values }) (nth_in r.nth) in
    by (find_value x.values t) refl o.stands o.has
  where
    by : {u : Word} {ds : Definitions} (v : Option Under) → find_value x.values t ≡ v → Stands f.specs u ds → HasDefinition ds x → ScopeAt f (place_found v) (definitions_or v)
    by none e p h = no_scope
    by (some v) e p h = scope refl (under_value p h (found_value x.values t e))

by_kind : (f : File) (x : Spec) (p : ℕ) (ds : Definitions) (b : Bool) → HasSpec f.specs x → ScopeAt f p ds → ScopeAt f (pick b x.word.place p) (pick b x.definitions ds)
by_kind f x p ds true h r = scope refl (under_kind h)
by_kind f x p ds false h r = r

go_kind : (f : File) (k : Kind) (xs : List Spec) → ((y : Spec) → HasSpec xs y → HasSpec f.specs y) → ScopeAt f (kind_place (kind_number k) xs) (of_kind k xs)
unfolding kind_place of_kind same_kind
go_kind f k [] lift = no_scope
go_kind f k (x ∷ xs) lift = by_kind f x (kind_place (kind_number k) xs) (of_kind k xs) (same_kind k x.kind) (lift x this_spec) (go_kind f k xs (λ y h. lift y (later_spec h)))

-- The scope of a kind.
pub scope_of_kind : (f : File) (k : Kind) → ScopeAt f (kind_place (kind_number k) f.specs) (of_kind k f.specs)
scope_of_kind f k = go_kind f k f.specs (λ y h. h)
