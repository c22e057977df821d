-- From the table of definitions back to the scopes: the rows that stand under a word are the definitions of its scope, in order and with their
-- numbers. A reader that has filled the table looks names up in it, and finds what the scope has. Assumes nothing.
use mathlib.Core.Path.{◌≡◌, refl, sym, ◌∙◌, ap, ap₂, subst}
use mathlib.Core.List.{List, [], ◌∷◌, ◌++◌, append_assoc, append-nil}
use Prim.Native.Nat.{ℕ, suc, ◌+◌, ◌≤◌, ◌<◌}
use native.Mathlib.Omega.{arith}
use lib.ListN.{length, length-append}
use lib.Dec.{eqb}
use borrow.Author.Tests.{eq-eqb, ne_eqb}
use Rattle.grammar.specs.Grammar.{file, ◌▸◌, ∎, ◌⟶◌, Trees, tokens}
use Rattle.meaning.proofs.Leaves.{words_leaves, leaves_in_order}
use Rattle.meaning.proofs.Numbering.{numbered, Counts, counts_none, counts_more, definition_numbers, numbers_under, spec_numbers, length_definitions, length_under}
use Rattle.meaning.proofs.Order.{Ordered, drop, sub_front, sub_all, ordered_sub}
pub use Rattle.meaning.proofs.Runs.{Run}
use Rattle.meaning.proofs.Runs.{run_le, cut, Out, cuts, ends}
use Rattle.meaning.proofs.Sites.{definition_words, value_words, spec_words, object_words, file_words}
pub use Rattle.meaning.specs.Standing.{Standing}
unfoldable pub use Rattle.meaning.specs.Standing.{standing_if, select, standing}
use Rattle.meaning.specs.Actions.{syntax}
use Rattle.meaning.specs.Defining.{DefinitionRow, definition_row, definition_rows, definition_rows_under, all_definition_rows}
use Rattle.meaning.specs.Syntax.{span_of, Definition, Definitions, no_more, define, Values, no_value, value, Spec, definitions_in, definitions_under, Word}

-- Rows of which none stands under the word at p ----------------------------------------------------------------------------------------------

abbrev pub Free : ℕ → List DefinitionRow → Type 0
Free p [] = Unit {0}
Free p (r ∷ rs) = (r.under.place ≡ p → ⊥) × Free p rs

free_append : (a : List DefinitionRow) (p : ℕ) (b : List DefinitionRow) → Free p a → Free p b → Free p (a ++ b)
free_append [] p b f g = g
free_append (r ∷ a) p b f g = (f.0, free_append a p b f.1 g)

select_free : (p i : ℕ) (a : List DefinitionRow) → Free p a → select p i a ≡ []
unfolding select standing_if
select_free p i [] f = refl
select_free p i (r ∷ a) f = ap (λ b. standing_if b i r ++ select p (suc i) a) (ne_eqb r.under.place p f.0) ∙ select_free p (suc i) a f.1

select_append : (p i : ℕ) (a b : List DefinitionRow) → select p i (a ++ b) ≡ select p i a ++ select p (i + length a) b
unfolding select
select_append p i [] b = let e : i ≡ i + 0 = omega arith in ap (λ k. select p k b) e
select_append p i (r ∷ a) b =
    let e : suc i + length a ≡ i + suc (length a) = omega arith in
    ap (λ l. standing_if (eqb r.under.place p) i r ++ l) (select_append p (suc i) a b ∙ ap (λ k. select p (suc i) a ++ select p k b) e)
    ∙ sym (append_assoc (standing_if (eqb r.under.place p) i r) (select p (suc i) a) (select p (i + suc (length a)) b))

-- Words in order between two places ----------------------------------------------------------------------------------------------------------

mutual
  unfolding definition_rows definition_row span_of definition_words

  free_rows : (ds : Definitions) (u : Word) (lo hi x : ℕ) → Run lo (definition_words ds) hi → (u.place ≡ x → ⊥) → Out x lo hi → Free x (definition_rows ds u)
  free_rows no_more u lo hi x r h o = tt
  free_rows (define d vs ds) u lo hi x r h o =
      let k = cuts d vs ds lo hi r in
      let i = k.low in
      let j = k.next in
      let l = run_le (definition_words ds) k.rest in
      let m = run_le (value_words vs) k.values in
      free_append (definition_rows_under vs) x (definition_row u d ∷ definition_rows ds u)
      (free_under vs k.a k.b x k.values (λ y p q. o y (omega arith) (omega arith)))
      (h, free_rows ds u k.c hi x k.rest h (λ y p q. o y (omega arith) q))

  free_under : (vs : Values) (lo hi x : ℕ) → Run lo (value_words vs) hi → Out x lo hi → Free x (definition_rows_under vs)
  free_under no_value lo hi x r o = tt
  free_under (value w e us vs) lo hi x r o =
      let i = r.0 in
      let k = cut (definition_words us) (value_words vs) (suc w.place) hi r.1 in
      let l = run_le (definition_words us) k.front in
      let m = run_le (value_words vs) k.back in
      free_append (definition_rows us w) x (definition_rows_under vs)
      (free_rows us w (suc w.place) k.mid x k.front (o w.place i (omega arith)) (λ y p q. o y (omega arith) (omega arith)))
      (free_under vs k.mid hi x k.back (λ y p q. o y (omega arith) q))

-- How many rows there are --------------------------------------------------------------------------------------------------------------------

mutual
  unfolding definition_rows definitions_in

  pub length_rows : (ds : Definitions) (u : Word) → length (definition_rows ds u) ≡ definitions_in ds
  length_rows no_more u = refl
  length_rows (define d vs ds) u =
      let a = length-append (definition_rows_under vs) (definition_row u d ∷ definition_rows ds u) in
      let b = length_rows_under vs in
      let c = length_rows ds u in
      omega arith

  pub length_rows_under : (vs : Values) → length (definition_rows_under vs) ≡ definitions_under vs
  length_rows_under no_value = refl
  length_rows_under (value w e us vs) =
      let a = length-append (definition_rows us w) (definition_rows_under vs) in
      let b = length_rows us w in
      let c = length_rows_under vs in
      omega arith

-- The second part of what is counted.
pub counts_back : (a : List ℕ) {b : List ℕ} {n m : ℕ} → Counts n (a ++ b) → m ≡ n + length a → Counts m b
counts_back [] {b} {n} {m} c e = let f : n ≡ m = omega arith in subst (λ k. Counts k b) f c
counts_back (k ∷ a) (counts_more h c) e = counts_back a c (omega arith)

pub counts_front : (a b : List ℕ) {n : ℕ} → Counts n (a ++ b) → Counts n a
counts_front [] b c = counts_none
counts_front (k ∷ a) b (counts_more h c) = counts_more h (counts_front a b c)

pub counts_head : {k n : ℕ} {ks : List ℕ} → Counts n (k ∷ ks) → k ≡ n
counts_head (counts_more h c) = h

pub counts_tail : {k n : ℕ} {ks : List ℕ} → Counts n (k ∷ ks) → Counts (suc n) ks
counts_tail (counts_more h c) = c

-- The rows of a scope ------------------------------------------------------------------------------------------------------------------------

own_scope : (ds : Definitions) (u : Word) (lo hi i : ℕ) → Run lo (definition_words ds) hi → u.place < lo → Counts i (definition_numbers ds)
    → select u.place i (definition_rows ds u) ≡ standing u ds
unfolding definition_rows definition_row span_of definition_numbers select standing standing_if
own_scope no_more u lo hi i r h c = refl
own_scope (define d vs ds) u lo hi i r h c =
    let k = cuts d vs ds lo hi r in
    let x = k.low in
    let y = k.next in
    let z = run_le (value_words vs) k.values in
    let m = i + length (definition_rows_under vs) in
    let l₁ = length_rows_under vs in
    let l₂ = length_under vs in
    let b = counts_back (numbers_under vs) {m = m} c (omega arith) in
    let n : m ≡ d.row = sym (counts_head b) in
    select_append u.place i (definition_rows_under vs) (definition_row u d ∷ definition_rows ds u)
    ∙ ap (λ l. l ++ (standing_if (eqb u.place u.place) m (definition_row u d) ++ select u.place (suc m) (definition_rows ds u)))
    (select_free u.place i (definition_rows_under vs) (free_under vs k.a k.b u.place k.values (λ y p q e. omega arith)))
    ∙ ap (λ t. standing_if t m (definition_row u d) ++ select u.place (suc m) (definition_rows ds u)) (eq-eqb u.place u.place refl)
    ∙ ap₂ (λ j l. record { number = j; row = definition_row u d } ∷ l) n
    (own_scope ds u k.c hi (suc m) k.rest (omega arith) (counts_tail b))

-- In a table R, the rows under the word u are those of the scope ds.
abbrev pub Scope : List DefinitionRow → Word → Definitions → Type 0
Scope R u ds = select u.place 0 R ≡ standing u ds

in_table : (R A B : List DefinitionRow) (ds : Definitions) (u : Word) (lo hi : ℕ) → R ≡ A ++ (definition_rows ds u ++ B)
    → Run lo (definition_words ds) hi → u.place < lo → Counts (length A) (definition_numbers ds) → Free u.place A → Free u.place B → Scope R u ds
in_table R A B ds u lo hi e r h c f g =
    ap (select u.place 0) e
    ∙ select_append u.place 0 A (definition_rows ds u ++ B)
    ∙ ap₂ ◌++◌ (select_free u.place 0 A f)
    (select_append u.place (0 + length A) (definition_rows ds u) B
    ∙ ap₂ ◌++◌ (own_scope ds u lo hi (0 + length A) r h (let z : length A ≡ 0 + length A = omega arith in subst (λ k. Counts k (definition_numbers ds)) z c))
    (select_free u.place (0 + length A + length (definition_rows ds u)) B g)
    ∙ append-nil (standing u ds))

-- So it is for every scope inside: of each value of each definition, the rows under its word are its definitions.
mutual
  pub data Deep (R : List DefinitionRow) : Definitions → Type 0 where
    deep_none : Deep R no_more
    deep_more : {d : Definition} {vs : Values} {ds : Definitions} → DeepValues R vs → Deep R ds → Deep R (define d vs ds)

  pub data DeepValues (R : List DefinitionRow) : Values → Type 0 where
    no_values : DeepValues R no_value
    more_values : {w : Word} {e : ℕ} {us : Definitions} {vs : Values} → Scope R w us → Deep R us → DeepValues R vs → DeepValues R (value w e us vs)

mutual
  unfolding definition_rows definition_row span_of definition_words definition_numbers

  deep : (ds : Definitions) (u : Word) (lo hi : ℕ) (R A B : List DefinitionRow) → R ≡ A ++ (definition_rows ds u ++ B)
      → Run lo (definition_words ds) hi → u.place < lo → Counts (length A) (definition_numbers ds)
      → ((x : ℕ) → lo ≤ x → x < hi → Free x A) → ((x : ℕ) → lo ≤ x → x < hi → Free x B) → Deep R ds
  deep no_more u lo hi R A B e r h c f g = deep_none
  deep (define d vs ds) u lo hi R A B e r h c f g =
      let k = cuts d vs ds lo hi r in
      let k₁ = k.low in
      let k₂ = k.next in
      let k₃ = run_le (value_words vs) k.values in
      let k₄ = run_le (definition_words ds) k.rest in
      let U = definition_rows_under vs in
      let row = definition_row u d in
      let rows = definition_rows ds u in
      let l₁ = length_rows_under vs in
      let l₂ = length_under vs in
      let l₃ = length-append A (U ++ (row ∷ [])) in
      let l₄ = length-append U (row ∷ []) in
      let e₁ : R ≡ A ++ (U ++ (row ∷ (rows ++ B))) = e ∙ ap (λ l. A ++ l) (append_assoc U (row ∷ rows) B) in
      let e₂ : R ≡ (A ++ (U ++ (row ∷ []))) ++ (rows ++ B) = e₁ ∙ simp append_assoc in
      let b = counts_back (numbers_under vs) {m = length A + length (numbers_under vs)} c refl in
      let m : suc (length A + length (numbers_under vs)) ≡ length (A ++ (U ++ (row ∷ []))) = omega arith in
      deep_more
      (deep_values vs k.a k.b R A (row ∷ (rows ++ B)) e₁ k.values (counts_front (numbers_under vs) (d.row ∷ definition_numbers ds) c)
      (λ x p q. f x (omega arith) (omega arith))
      (λ x p q. ((λ z. omega arith), free_append rows x B (free_rows ds u k.c hi x k.rest (λ z. omega arith) (λ y p' q' z. omega arith)) (g x (omega arith) (omega arith)))))
      (deep ds u k.c hi R (A ++ (U ++ (row ∷ []))) B e₂ k.rest (omega arith) (subst (λ n. Counts n (definition_numbers ds)) m (counts_tail b))
      (λ x p q. free_append A x (U ++ (row ∷ [])) (f x (omega arith) (omega arith))
      (free_append U x (row ∷ []) (free_under vs k.a k.b x k.values (λ y p' q' z. omega arith)) ((λ z. omega arith), tt)))
      (λ x p q. g x (omega arith) (omega arith)))

  deep_values : (vs : Values) (lo hi : ℕ) (R A B : List DefinitionRow) → R ≡ A ++ (definition_rows_under vs ++ B)
      → Run lo (value_words vs) hi → Counts (length A) (numbers_under vs)
      → ((x : ℕ) → lo ≤ x → x < hi → Free x A) → ((x : ℕ) → lo ≤ x → x < hi → Free x B) → DeepValues R vs
  deep_values no_value lo hi R A B e r c f g = no_values
  deep_values (value w n us vs) lo hi R A B e r c f g =
      let i = r.0 in
      let k = cut (definition_words us) (value_words vs) (suc w.place) hi r.1 in
      let k₁ = run_le (definition_words us) k.front in
      let k₂ = run_le (value_words vs) k.back in
      let U = definition_rows_under vs in
      let rows = definition_rows us w in
      let l₁ = length_rows us w in
      let l₂ = length_definitions us in
      let l₃ = length-append A rows in
      let e₁ : R ≡ A ++ (rows ++ (U ++ B)) = e ∙ ap (λ l. A ++ l) (append_assoc rows U B) in
      let e₂ : R ≡ (A ++ rows) ++ (U ++ B) = e₁ ∙ sym (append_assoc A rows (U ++ B)) in
      let c₁ = counts_front (definition_numbers us) (numbers_under vs) c in
      let c₂ = counts_back (definition_numbers us) {m = length (A ++ rows)} c (omega arith) in
      more_values
      (in_table R A (U ++ B) us w (suc w.place) k.mid e₁ k.front (omega arith) c₁ (f w.place i (omega arith))
      (free_append U w.place B (free_under vs k.mid hi w.place k.back (λ y p q z. omega arith)) (g w.place i (omega arith))))
      (deep us w (suc w.place) k.mid R A (U ++ B) e₁ k.front (omega arith) c₁
      (λ x p q. f x (omega arith) (omega arith))
      (λ x p q. free_append U x B (free_under vs k.mid hi x k.back (λ y p' q' z. omega arith)) (g x (omega arith) (omega arith))))
      (deep_values vs k.mid hi R (A ++ rows) B e₂ k.back c₂
      (λ x p q. free_append A x rows (f x (omega arith) (omega arith)) (free_rows us w (suc w.place) k.mid x k.front (λ z. omega arith) (λ y p' q' z. omega arith)))
      (λ x p q. g x (omega arith) (omega arith)))

-- The integer table ----------------------------------------------------------------------------------------------------------------------------

free_specs : (xs : List Spec) (lo hi x : ℕ) → Run lo (spec_words xs) hi → Out x lo hi → Free x (all_definition_rows xs)
unfolding all_definition_rows spec_words
free_specs [] lo hi x r o = tt
free_specs (y ∷ ys) lo hi x r o =
    let i = r.0 in
    let k = cut (definition_words y.definitions) (spec_words ys) (suc y.word.place) hi r.1 in
    let l = run_le (definition_words y.definitions) k.front in
    let m = run_le (spec_words ys) k.back in
    free_append (definition_rows y.definitions y.word) x (all_definition_rows ys)
    (free_rows y.definitions y.word (suc y.word.place) k.mid x k.front (o y.word.place i (omega arith)) (λ z p q. o z (omega arith) (omega arith)))
    (free_specs ys k.mid hi x k.back (λ z p q. o z (omega arith) q))

pub data DeepSpecs (R : List DefinitionRow) : List Spec → Type 0 where
  no_specs : DeepSpecs R []
  more_specs : {x : Spec} {xs : List Spec} → Scope R x.word x.definitions → Deep R x.definitions → DeepSpecs R xs → DeepSpecs R (x ∷ xs)

deep_specs : (xs : List Spec) (lo hi : ℕ) (R A : List DefinitionRow) → R ≡ A ++ all_definition_rows xs
    → Run lo (spec_words xs) hi → Counts (length A) (spec_numbers xs) → ((x : ℕ) → lo ≤ x → x < hi → Free x A) → DeepSpecs R xs
unfolding all_definition_rows spec_words spec_numbers
deep_specs [] lo hi R A e r c f = no_specs
deep_specs (y ∷ ys) lo hi R A e r c f =
    let w = y.word in
    let us = y.definitions in
    let i = r.0 in
    let k = cut (definition_words us) (spec_words ys) (suc w.place) hi r.1 in
    let k₁ = run_le (definition_words us) k.front in
    let k₂ = run_le (spec_words ys) k.back in
    let rows = definition_rows us w in
    let rest = all_definition_rows ys in
    let l₁ = length_rows us w in
    let l₂ = length_definitions us in
    let l₃ = length-append A rows in
    let e₂ : R ≡ (A ++ rows) ++ rest = e ∙ sym (append_assoc A rows rest) in
    let c₁ = counts_front (definition_numbers us) (spec_numbers ys) c in
    let c₂ = counts_back (definition_numbers us) {m = length (A ++ rows)} c (omega arith) in
    more_specs
    (in_table R A rest us w (suc w.place) k.mid e k.front (omega arith) c₁ (f w.place i (omega arith))
    (free_specs ys k.mid hi w.place k.back (λ z p q d. omega arith)))
    (deep us w (suc w.place) k.mid R A rest e k.front (omega arith) c₁
    (λ x p q. f x (omega arith) (omega arith))
    (λ x p q. free_specs ys k.mid hi x k.back (λ z p' q' d. omega arith)))
    (deep_specs ys k.mid hi R (A ++ rows) e₂ k.back c₂
    (λ x p q. free_append A x rows (f x (omega arith) (omega arith)) (free_rows us w (suc w.place) k.mid x k.front (λ z. omega arith) (λ y p' q' z. omega arith))))

-- In the table of a text's definitions, the rows under a kind's word are the definitions of its spec, and those under a value's word, at any
-- depth, the definitions under that value; in order, and with their numbers.
pub scopes : (s : List ℕ) (t : Trees ◌⟶◌ (file ▸ ∎)) → Ordered 0 (tokens t) → DeepSpecs (all_definition_rows (syntax s t).specs) (syntax s t).specs
unfolding file_words
scopes s t o =
    let f = syntax s t in
    let w = ordered_sub (words_leaves s t) 0 (leaves_in_order s t o) in
    let v = ordered_sub (drop {t = f.version} (sub_front (sub_all (spec_words f.specs)) (f.cpu ∷ object_words f.parts))) 0 w in
    let e = ends (spec_words f.specs) 0 v in
    deep_specs f.specs 0 e.hi (all_definition_rows f.specs) [] refl e.run (numbered s t).0.0 (λ x p q. tt)
