-- Each kept enumerator, with the row found by its list's key, is its row of the lent table. Assumes nothing.
use mathlib.Core.Path.{◌≡◌, refl, sym, ◌∙◌, ap, ap₂, subst}
use mathlib.Core.List.{List, [], ◌∷◌, ◌++◌, append_assoc}
use mathlib.Core.Bool.{Bool, true, false}
use Prim.Native.Nat.{ℕ, suc, ◌≤◌, ◌<◌}
use native.Mathlib.Omega.{arith}
use lib.ListN.{length, length-append}
use Rattle.meaning.specs.Syntax.{Word, span_of, Definition, Definitions, no_more, define, Values, no_value, value, Spec, is_enum}
use Rattle.meaning.specs.Defining.{enumerator_row, enumerator_rows, enumerator_rows_of, all_enumerator_rows}
use Rattle.meaning.specs.Cells.{cells, enumerator_cells}
use Rattle.meaning.proofs.Numbering.{Counts, definition_numbers, numbers_under, spec_numbers, length_definitions, length_under}
use Rattle.meaning.proofs.Standing.{Run, counts_back, counts_front, counts_head, counts_tail}
use Rattle.meaning.proofs.Sites.{definition_words, value_words, spec_words}
use Rattle.layout.specs.Kept.{Entry, Choice, list_key, entries, entries_under, spec_entries, choice_if, choices, choices_of, spec_choices}
use Rattle.layout.proofs.Lengths.{length_entries, length_entries_under}
use Rattle.meaning.proofs.Runs.{run_le, cut, cuts}
use Rattle.copying.proofs.Rooms.{cells_append}
use Rattle.copying.proofs.Keys.{NoKey, no_key_append, key_out, no_key_in, no_key_under}

-- The entries E, and the row that is found by a key.
module _ (E : List Entry) (row : ℕ → ℕ) (found : (a : List Entry) (x : Entry) (b : List Entry) → E ≡ a ++ (x ∷ b) → NoKey (list_key x.values) a → row (list_key x.values) ≡ length a) where
  -- What is stored of an enumerator.
  unfoldable pub choice_row : Choice → List ℕ
  choice_row x = row x.list ∷ x.word.place ∷ x.word.length ∷ []

  -- The list vs, where it has a value, is found by its key.
  abbrev Tells : Values → ℕ → ℕ → Type 0
  Tells no_value k n = Unit {0}
  Tells (value w e us vs) k n = row k ≡ n

  tells_all : (vs : Values) (k n : ℕ) → row k ≡ n → Tells vs k n
  tells_all no_value k n e = tt
  tells_all (value w i us vs) k n e = e

  one : (b : Bool) (k n : ℕ) (w : Word) → row k ≡ n → cells choice_row (choice_if b k w) ≡ cells enumerator_cells (enumerator_row b n w)
  unfolding choice_if enumerator_row enumerator_cells choice_row cells span_of
  one true k n w e = ap (λ (i : ℕ). i ∷ w.place ∷ w.length ∷ []) e
  one false k n w e = refl

  -- None of the entries before has a key from lo up to hi.
  abbrev Before : List Entry → ℕ → ℕ → Type 0
  Before A lo hi = (x : ℕ) → lo ≤ x → x < hi → NoKey x A

  -- An attribute is found by the key of its list.
  own : (d : Definition) (vs : Values) (u : Word) (o : ℕ) (A B : List Entry) (lo hi : ℕ)
      → E ≡ (A ++ entries_under vs (list_key vs)) ++ (record { under = u; outer = o; definition = d; values = vs } ∷ B)
      → length (A ++ entries_under vs (list_key vs)) ≡ d.row → Run lo (value_words vs) hi → 0 < lo → Before A lo hi → Tells vs (list_key vs) d.row
  unfolding list_key value_words entries
  own d no_value u o A B lo hi e n r h f = tt
  own d (value w i us vs) u o A B lo hi e n r h f =
      let p = r.0 in
      let l = run_le (definition_words us ++ value_words vs) r.1 in
      let k = cut (definition_words us) (value_words vs) (suc w.place) hi r.1 in
      let m = run_le (definition_words us) k.front in
      found (A ++ (entries us w w.place ++ entries_under vs w.place)) (record { under = u; outer = o; definition = d; values = value w i us vs }) B e
      (no_key_append A w.place (entries us w w.place ++ entries_under vs w.place) (f w.place p (omega arith))
      (no_key_append (entries us w w.place) w.place (entries_under vs w.place)
      (no_key_in us w w.place (suc w.place) k.mid w.place k.front (omega arith) (λ y a b z. omega arith))
      (no_key_under vs w.place k.mid hi w.place k.back (omega arith) (λ y a b z. omega arith))))
      ∙ n

  -- The enumerators of a scope; and of a list with the key k, whose attribute has row n. A are the entries before theirs.
  mutual
    unfolding choices enumerator_rows entries definition_words definition_numbers cells

    rows : (ds : Definitions) (u : Word) (o : ℕ) (A B : List Entry) (lo hi : ℕ) → E ≡ A ++ (entries ds u o ++ B) → Run lo (definition_words ds) hi → 0 < lo
        → Counts (length A) (definition_numbers ds) → Before A lo hi → cells choice_row (choices ds) ≡ cells enumerator_cells (enumerator_rows ds)
    rows no_more u o A B lo hi e r h c f = refl
    rows (define d vs ds) u o A B lo hi e r h c f =
        let b = is_enum d.type in
        let key = list_key vs in
        let k = cuts d vs ds lo hi r in
        let k₁ = k.low in
        let k₂ = k.next in
        let k₃ = run_le (value_words vs) k.values in
        let k₄ = run_le (definition_words ds) k.rest in
        let U = entries_under vs key in
        let x : Entry = record { under = u; outer = o; definition = d; values = vs } in
        let R = entries ds u o in
        let l₁ = length_entries_under vs key in
        let l₂ = length_under vs in
        let l₃ = length-append A U in
        let l₄ = length-append (A ++ U) (x ∷ []) in
        let e₁ : E ≡ A ++ (U ++ (x ∷ (R ++ B))) = e ∙ ap (λ (l : List Entry). A ++ l) (append_assoc U (x ∷ R) B) in
        let e₂ : E ≡ (A ++ U) ++ (x ∷ (R ++ B)) = e₁ ∙ sym (append_assoc A U (x ∷ (R ++ B))) in
        let e₃ : E ≡ ((A ++ U) ++ (x ∷ [])) ++ (R ++ B) = e₂ ∙ sym (append_assoc (A ++ U) (x ∷ []) (R ++ B)) in
        let c₁ = counts_front (numbers_under vs) (d.row ∷ definition_numbers ds) c in
        let c₂ = counts_back (numbers_under vs) {m = length (A ++ U)} c (omega arith) in
        let n : length (A ++ U) ≡ d.row = sym (counts_head c₂) in
        let m : suc (length (A ++ U)) ≡ length ((A ++ U) ++ (x ∷ [])) = omega arith in
        let f₁ : Before A k.a k.b = λ y p q. f y (omega arith) (omega arith) in
        cells_append choice_row (choices_of vs b key) (choices ds)
        ∙ ap₂ ◌++◌
        (rows_of vs b key d.row key A (x ∷ (R ++ B)) k.a k.b e₁ k.values (omega arith) c₁ f₁ (own d vs u o A (R ++ B) k.a k.b e₂ n k.values (omega arith) f₁))
        (rows ds u o ((A ++ U) ++ (x ∷ [])) B k.c hi e₃ k.rest (omega arith) (subst (λ (i : ℕ). Counts i (definition_numbers ds)) m (counts_tail c₂))
        (λ y p q. no_key_append (A ++ U) y (x ∷ [])
        (no_key_append A y U (f y (omega arith) (omega arith)) (no_key_under vs key k.a k.b y k.values (omega arith) (λ z p' q' t. omega arith)))
        (key_out vs k.a k.b y k.values (omega arith) (λ z p' q' t. omega arith), tt)))
        ∙ sym (cells_append enumerator_cells (enumerator_rows_of vs b d.row) (enumerator_rows ds))

    rows_of : (vs : Values) (b : Bool) (k n o : ℕ) (A B : List Entry) (lo hi : ℕ) → E ≡ A ++ (entries_under vs o ++ B) → Run lo (value_words vs) hi → 0 < lo
        → Counts (length A) (numbers_under vs) → Before A lo hi → Tells vs k n → cells choice_row (choices_of vs b k) ≡ cells enumerator_cells (enumerator_rows_of vs b n)
    rows_of no_value b k n o A B lo hi e r h c f t = refl
    rows_of (value w i us vs) b k n o A B lo hi e r h c f t =
        let p = r.0 in
        let q = cut (definition_words us) (value_words vs) (suc w.place) hi r.1 in
        let q₁ = run_le (definition_words us) q.front in
        let q₂ = run_le (value_words vs) q.back in
        let R = entries us w o in
        let U = entries_under vs o in
        let l₁ = length_entries us w o in
        let l₂ = length_definitions us in
        let l₃ = length-append A R in
        let e₁ : E ≡ A ++ (R ++ (U ++ B)) = e ∙ ap (λ (l : List Entry). A ++ l) (append_assoc R U B) in
        let e₂ : E ≡ (A ++ R) ++ (U ++ B) = e₁ ∙ sym (append_assoc A R (U ++ B)) in
        let c₁ = counts_front (definition_numbers us) (numbers_under vs) c in
        let c₂ = counts_back (definition_numbers us) {m = length (A ++ R)} c (omega arith) in
        cells_append choice_row (choice_if b k w) (choices us ++ choices_of vs b k)
        ∙ ap₂ ◌++◌ (one b k n w t)
        (cells_append choice_row (choices us) (choices_of vs b k)
        ∙ ap₂ ◌++◌
        (rows us w o A (U ++ B) (suc w.place) q.mid e₁ q.front (omega arith) c₁ (λ y g g'. f y (omega arith) (omega arith)))
        (rows_of vs b k n o (A ++ R) B q.mid hi e₂ q.back (omega arith) c₂
        (λ y g g'. no_key_append A y R (f y (omega arith) (omega arith)) (no_key_in us w o (suc w.place) q.mid y q.front (omega arith) (λ z p' q' s. omega arith)))
        (tells_all vs k n t))
        ∙ sym (cells_append enumerator_cells (enumerator_rows us) (enumerator_rows_of vs b n)))
        ∙ sym (cells_append enumerator_cells (enumerator_row b n w) (enumerator_rows us ++ enumerator_rows_of vs b n))

  pub spec_choice_rows : (xs : List Spec) (A : List Entry) (lo hi : ℕ) → E ≡ A ++ spec_entries xs → Run lo (spec_words xs) hi → 0 < lo
      → Counts (length A) (spec_numbers xs) → Before A lo hi → cells choice_row (spec_choices xs) ≡ cells enumerator_cells (all_enumerator_rows xs)
  unfolding spec_choices all_enumerator_rows spec_entries spec_words spec_numbers cells
  spec_choice_rows [] A lo hi e r h c f = refl
  spec_choice_rows (x ∷ xs) A lo hi e r h c f =
      let us = x.definitions in
      let w = x.word in
      let p = r.0 in
      let q = cut (definition_words us) (spec_words xs) (suc w.place) hi r.1 in
      let q₁ = run_le (definition_words us) q.front in
      let q₂ = run_le (spec_words xs) q.back in
      let R = entries us w 0 in
      let l₁ = length_entries us w 0 in
      let l₂ = length_definitions us in
      let l₃ = length-append A R in
      let e₂ : E ≡ (A ++ R) ++ spec_entries xs = e ∙ sym (append_assoc A R (spec_entries xs)) in
      let c₁ = counts_front (definition_numbers us) (spec_numbers xs) c in
      let c₂ = counts_back (definition_numbers us) {m = length (A ++ R)} c (omega arith) in
      cells_append choice_row (choices us) (spec_choices xs)
      ∙ ap₂ ◌++◌
      (rows us w 0 A (spec_entries xs) (suc w.place) q.mid e q.front (omega arith) c₁ (λ y g g'. f y (omega arith) (omega arith)))
      (spec_choice_rows xs (A ++ R) q.mid hi e₂ q.back (omega arith) c₂
      (λ y g g'. no_key_append A y R (f y (omega arith) (omega arith)) (no_key_in us w 0 (suc w.place) q.mid y q.front (omega arith) (λ z p' q' s. omega arith))))
      ∙ sym (cells_append enumerator_cells (enumerator_rows us) (all_enumerator_rows xs))
