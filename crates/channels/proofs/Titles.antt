-- The name of the attribute in the row of a definition, for each resolved value. Assumes nothing.
use mathlib.Core.Path.{◌≡◌, sym, ◌∙◌, ap, subst}
use mathlib.Core.List.{List, [], ◌∷◌, ◌++◌, append_assoc}
use mathlib.Core.Bool.{Bool, true, false}
use mathlib.Core.Option.{some}
use Prim.Native.Nat.{ℕ, zero, suc, ◌+◌}
use native.Mathlib.Omega.{arith}
use lib.ListN.{length, length-append}
use Rattle.token.specs.Find.{pick}
use Rattle.grammar.specs.Grammar.{Kind}
use Rattle.meaning.specs.Syntax.{Word, Definition, Definitions, no_more, define, Values, no_value, value, Spec, Object}
use Rattle.meaning.specs.Words.{alike}
use Rattle.meaning.specs.Kinds.{same_kind}
use Rattle.meaning.specs.Scopes.{of_kind, find_value, definitions_or, under}
use Rattle.meaning.specs.Defining.{DefinitionRow, definition_row, definition_rows, definition_rows_under, all_definition_rows}
use Rattle.meaning.specs.Resolving.{Taken, Resolved, end, resolved, take_value}
use Rattle.meaning.proofs.Lookups.{InText}
use Rattle.meaning.proofs.Numbering.{Counts, counts_more, definition_numbers, numbers_under, spec_numbers, length_definitions, length_under}
use Rattle.meaning.proofs.Sites.{definition_words, value_words, spec_words}
use Rattle.meaning.proofs.Standing.{length_rows, length_rows_under}
use Rattle.reads_back.proofs.RestatingScopes.{Takes, Settled, settled, none_of, one_of, More, again, no_more_of}
use Rattle.reads_back.proofs.SameNamesText.{parts, definition_text, list_text}
use Rattle.channels.specs.Rows.{name_at}
use Rattle.channels.proofs.Accepting.{counts_split}

-- Rows behind others.
name_behind : (s : List ℕ) (A B : List DefinitionRow) (i n : ℕ) → n ≡ length A + i → name_at s n (A ++ B) ≡ name_at s i B
unfolding name_at
name_behind s [] B i n e = ap (λ m. name_at s m B) (let z : n ≡ i = omega arith in z)
name_behind s (r ∷ A) B i zero e = absurd (let z : ◌≡◌ {A = ℕ} 0 1 = omega arith in omega arith)
name_behind s (r ∷ A) B i (suc n) e = name_behind s A B i n (omega arith)

-- The row of each definition has its name.
mutual
  pub data Titled (s : List ℕ) (R : List DefinitionRow) : Definitions → Type 0 where
    no_titles : Titled s R no_more
    titles : {d : Definition} {vs : Values} {ds : Definitions} → name_at s d.row R ≡ d.name.bytes → TitledUnder s R vs → Titled s R ds → Titled s R (define d vs ds)

  pub data TitledUnder (s : List ℕ) (R : List DefinitionRow) : Values → Type 0 where
    none_under : TitledUnder s R no_value
    more_under : {w : Word} {e : ℕ} {us : Definitions} {vs : Values} → Titled s R us → TitledUnder s R vs → TitledUnder s R (value w e us vs)

at_one : (s : List ℕ) (A : List DefinitionRow) (r : DefinitionRow) (B : List DefinitionRow) (n : ℕ) → n ≡ length A → name_at s n (A ++ (r ∷ B)) ≡ name_at s 0 (r ∷ B)
at_one s A r B n e = name_behind s A (r ∷ B) 0 n (omega arith)

-- So it is where they are numbered from the rows A on.
module _ (s : List ℕ) where
  -- A definition, with those under it and behind it.
  rest : (A B : List DefinitionRow) (d : Definition) (vs : Values) (ds : Definitions) (u : Word) → d.name.bytes ≡ name_at s 0 (definition_row u d ∷ [])
      → Counts (length A + length (numbers_under vs)) (d.row ∷ definition_numbers ds) → length (numbers_under vs) ≡ length (definition_rows_under vs)
      → A ++ (definition_rows_under vs ++ ((definition_row u d ∷ definition_rows ds u) ++ B)) ≡ A ++ ((definition_rows_under vs ++ (definition_row u d ∷ definition_rows ds u)) ++ B)
      → TitledUnder s (A ++ ((definition_rows_under vs ++ (definition_row u d ∷ definition_rows ds u)) ++ B)) vs
      → (Counts (length (A ++ (definition_rows_under vs ++ (definition_row u d ∷ [])))) (definition_numbers ds)
      → Titled s ((A ++ (definition_rows_under vs ++ (definition_row u d ∷ []))) ++ (definition_rows ds u ++ B)) ds)
      → Titled s (A ++ ((definition_rows_under vs ++ (definition_row u d ∷ definition_rows ds u)) ++ B)) (define d vs ds)
  unfolding name_at definition_row
  rest A B d vs ds u n (counts_more e c) m z h f =
      let U = definition_rows_under vs in
      let r = definition_row u d in
      let D = definition_rows ds u in
      let l = length-append A U in
      let k = length-append A (U ++ (r ∷ [])) in
      let j = length-append U (r ∷ []) in
      let w : (A ++ (U ++ (r ∷ []))) ++ (D ++ B) ≡ A ++ ((U ++ (r ∷ D)) ++ B) =
      append_assoc A (U ++ (r ∷ [])) (D ++ B) ∙ ap (A ++◌) (append_assoc U (r ∷ []) (D ++ B)) ∙ z in
      let q : (A ++ U) ++ (r ∷ (D ++ B)) ≡ A ++ ((U ++ (r ∷ D)) ++ B) = append_assoc A U (r ∷ (D ++ B)) ∙ z in
      titles (sym (ap (name_at s d.row) q) ∙ at_one s (A ++ U) r (D ++ B) d.row (omega arith) ∙ sym n) h
      (subst (λ R. Titled s R ds) w (f (subst (λ i. Counts i (definition_numbers ds)) (let y : suc (length A + length (numbers_under vs)) ≡ length (A ++ (U ++ (r ∷ []))) = omega arith in y) c)))

  mutual
    unfolding definition_rows definition_numbers name_at definition_row

    titled_rows : (A B : List DefinitionRow) (ds : Definitions) (u : Word) → Counts (length A) (definition_numbers ds) → InText s (definition_words ds)
        → Titled s (A ++ (definition_rows ds u ++ B)) ds
    titled_rows A B no_more u c h = no_titles
    titled_rows A B (define d vs ds) u c h =
        let U = definition_rows_under vs in
        let r = definition_row u d in
        let D = definition_rows ds u in
        let t = definition_text s d vs ds h in
        let k = counts_split (numbers_under vs) (d.row ∷ definition_numbers ds) (length A) c in
        let m : length (numbers_under vs) ≡ length U = length_under vs ∙ sym (length_rows_under vs) in
        let z : A ++ (U ++ ((r ∷ D) ++ B)) ≡ A ++ ((U ++ (r ∷ D)) ++ B) = ap (A ++◌) (sym (append_assoc U (r ∷ D) B)) in
        rest A B d vs ds u t.name k.1 m z (subst (λ R. TitledUnder s R vs) z (titled_under A ((r ∷ D) ++ B) vs k.0 t.values))
        (λ l. titled_rows (A ++ (U ++ (r ∷ []))) B ds u l t.rest)

    titled_under : (A B : List DefinitionRow) (vs : Values) → Counts (length A) (numbers_under vs) → InText s (value_words vs) → TitledUnder s (A ++ (definition_rows_under vs ++ B)) vs
    titled_under A B no_value c h = none_under
    titled_under A B (value w e us vs) c h =
        let D = definition_rows us w in
        let U = definition_rows_under vs in
        let t = list_text s w e us vs h in
        let k = counts_split (definition_numbers us) (numbers_under vs) (length A) c in
        let m : length (definition_numbers us) ≡ length D = length_definitions us ∙ sym (length_rows us w) in
        let l = length-append A D in
        more_under (subst (λ R. Titled s R us) (ap (A ++◌) (sym (append_assoc D U B))) (titled_rows A (U ++ B) us w k.0 t.1))
        (subst (λ R. TitledUnder s R vs) (append_assoc A D (U ++ B) ∙ ap (A ++◌) (sym (append_assoc D U B)))
        (titled_under (A ++ D) B vs (subst (λ n. Counts n (numbers_under vs)) (let z : length A + length (definition_numbers us) ≡ length (A ++ D) = omega arith in z) k.1) t.2))

  -- Those of each kind.
  specs_titled : (A : List DefinitionRow) (xs : List Spec) (k : Kind) → Counts (length A) (spec_numbers xs) → InText s (spec_words xs) → Titled s (A ++ all_definition_rows xs) (of_kind k xs)
  unfolding all_definition_rows spec_numbers spec_words of_kind
  specs_titled A [] k c h = no_titles
  specs_titled A (x ∷ xs) k c h =
      let D = definition_rows x.definitions x.word in
      let t = parts s (definition_words x.definitions) (spec_words xs) h.1 in
      let j = counts_split (definition_numbers x.definitions) (spec_numbers xs) (length A) c in
      let m : length (definition_numbers x.definitions) ≡ length D = length_definitions x.definitions ∙ sym (length_rows x.definitions x.word) in
      let l = length-append A D in
      go (same_kind k x.kind) (titled_rows A (all_definition_rows xs) x.definitions x.word j.0 t.0)
      (subst (λ R. Titled s R (of_kind k xs)) (append_assoc A D (all_definition_rows xs))
      (specs_titled (A ++ D) xs k (subst (λ n. Counts n (spec_numbers xs)) (let z : length A + length (definition_numbers x.definitions) ≡ length (A ++ D) = omega arith in z) j.1) t.1))
    where
      go : (b : Bool) → Titled s (A ++ (definition_rows x.definitions x.word ++ all_definition_rows xs)) x.definitions
          → Titled s (A ++ (definition_rows x.definitions x.word ++ all_definition_rows xs)) (of_kind k xs)
          → Titled s (A ++ (definition_rows x.definitions x.word ++ all_definition_rows xs)) (pick b x.definitions (of_kind k xs))
      go true p q = p
      go false p q = q

  pub kind_titled : (xs : List Spec) (k : Kind) → Counts 0 (spec_numbers xs) → InText s (spec_words xs) → Titled s (all_definition_rows xs) (of_kind k xs)
  kind_titled xs k c h = specs_titled [] xs k c h

-- Resolved values ------------------------------------------------------------------------------------------------------------------------------

-- The row of the definition of each value has its name.
abbrev pub ValuesTitled : List ℕ → List DefinitionRow → Resolved → Type 0
ValuesTitled s R end = Unit {0}
ValuesTitled s R (resolved t us rest) = (name_at s t.definition.row R ≡ t.definition.name.bytes) × ValuesTitled s R us × ValuesTitled s R rest

module _ (s : List ℕ) (R : List DefinitionRow) (os : List Object) where
  found_titled : (vs : Values) (t : Word) → TitledUnder s R vs → Titled s R (definitions_or (find_value vs t))
  unfolding find_value definitions_or
  found_titled no_value t none_under = no_titles
  found_titled (value w e us vs) t (more_under p q) = go (alike w t) (found_titled vs t q)
    where
      go : (b : Bool) → Titled s R (definitions_or (find_value vs t)) → Titled s R (definitions_or (pick b (some (record { word = w; number = e; definitions = us })) (find_value vs t)))
      go true h = p
      go false h = h

  under_titled : (vs : Values) (t : Word) → TitledUnder s R vs → Titled s R (under vs t)
  unfolding under
  under_titled vs t h = found_titled vs t h

  taken_titled : {d : Definition} {vs : Values} {t : Word} {x : Taken} → Takes os d vs t x → name_at s d.row R ≡ d.name.bytes → name_at s x.definition.row R ≡ x.definition.name.bytes
  unfolding take_value
  taken_titled h e = subst (λ (y : Taken). name_at s y.definition.row R ≡ y.definition.name.bytes) (sym h.is) e

  mutual
    pub settled_titled : {before : List Definition} {ds : Definitions} {r : Resolved} → Settled os before ds r → Titled s R ds → ValuesTitled s R r
    settled_titled settled no_titles = tt
    settled_titled (none_of n p q z) (titles a b c) = settled_titled z c
    settled_titled (one_of {vs = vs} {t = t} n h z m) (titles a b c) = (taken_titled h a, settled_titled z (under_titled vs t b), more_titled m a b c)

    more_titled : {before : List Definition} {d : Definition} {vs : Values} {ds : Definitions} {r : Resolved} → More os before d vs ds r → name_at s d.row R ≡ d.name.bytes → TitledUnder s R vs
        → Titled s R ds → ValuesTitled s R r
    more_titled (again {vs = vs} {t = t} p h z m) a b c = (taken_titled h a, settled_titled z (under_titled vs t b), more_titled m a b c)
    more_titled (no_more_of z) a b c = settled_titled z c
