-- From the rows of enumerators back to the lists: what a search by the key of a list finds is what the list has. Assumes nothing.
use mathlib.Core.Path.{◌≡◌, refl, sym, ◌∙◌, ap, ap₂, subst}
use mathlib.Core.List.{List, [], ◌∷◌, ◌++◌, append_assoc}
use mathlib.Core.Bool.{Bool, true, false}
use mathlib.Core.Option.{Option, none, some}
use Prim.Native.Nat.{ℕ, suc, ◌+◌, ◌≤◌, ◌<◌}
use native.Mathlib.Omega.{arith}
use lib.ListN.{length, length-append}
use lib.Dec.{eqb}
use borrow.Author.Tests.{eq-eqb}
use Rattle.token.specs.Find.{pick, both}
use Rattle.token.specs.Words.{same}
use Rattle.token.specs.Tokens.{part_of}
use Rattle.std.specs.Prelude.{Some, None}
use Rattle.rows.proofs.Walks.{first, first_append}
use Rattle.meaning.specs.Syntax.{Word, Definition, Definitions, no_more, define, Values, no_value, value, Spec, is_enum}
use Rattle.meaning.specs.Words.{alike}
use Rattle.meaning.specs.Scopes.{Under, find_value}
use Rattle.meaning.proofs.Numbering.{Counts, number_if, enumerator_numbers, enumerator_numbers_of, spec_enumerator_numbers, length_if, length_enumerators, length_enumerators_of}
use Rattle.meaning.proofs.Standing.{Run, counts_back, counts_front, counts_head, counts_tail}
use Rattle.meaning.proofs.Sites.{bound_words, option_words, definition_words, value_words, spec_words}
use Rattle.layout.specs.Kept.{Choice, list_key, choice_if, choices, choices_of, spec_choices}
use Rattle.layout.proofs.Lengths.{length_choice, length_choices, length_choices_of}
use Rattle.scopes.specs.Situations.{NoneOf}
use Rattle.scopes.proofs.Forms.{NotEmpty, at_least_one}
use Rattle.scopes.specs.Promises.{number_found}
use Rattle.scopes.proofs.Goodness.{Goods, good_front, good_back}
use Rattle.meaning.proofs.Runs.{run_le, cut, Out, cuts}
use Rattle.scopes.proofs.Finding.{is_choice, none_chosen, none_first, first_one, none_one, one_append}

pub none_append : (a : List Choice) (k : ℕ) (b : List Choice) → NoneOf k a → NoneOf k b → NoneOf k (a ++ b)
none_append [] k b f g = g
none_append (r ∷ a) k b f g = (f.0, none_append a k b f.1 g)

pub none_if : (b : Bool) (o : ℕ) (w : Word) (x : ℕ) → (o ≡ x → ⊥) → NoneOf x (choice_if b o w)
unfolding choice_if
none_if true o w x h = (h, tt)
none_if false o w x h = tt

-- The key of a list is the place of its first word.
by_key : (vs : Values) (b : Bool) (lo hi x : ℕ) → Run lo (value_words vs) hi → Out x lo hi
    → ((list_key vs ≡ x → ⊥) → NoneOf x (choices_of vs b (list_key vs))) → NoneOf x (choices_of vs b (list_key vs))
unfolding list_key choices_of value_words
by_key no_value b lo hi x r o f = tt
by_key (value w e us vs) b lo hi x r o f = let a = r.0 in let c = run_le (definition_words us ++ value_words vs) r.1 in f (o w.place a (omega arith))

mutual
  unfolding choices definition_words

  pub none_in : (ds : Definitions) (lo hi x : ℕ) → Run lo (definition_words ds) hi → Out x lo hi → NoneOf x (choices ds)
  none_in no_more lo hi x r o = tt
  none_in (define d vs ds) lo hi x r o =
      let k = cuts d vs ds lo hi r in
      let i = k.low in
      let j = k.next in
      let l = run_le (definition_words ds) k.rest in
      let m = run_le (value_words vs) k.values in
      none_append (choices_of vs (is_enum d.type) (list_key vs)) x (choices ds)
      (by_key vs (is_enum d.type) k.a k.b x k.values (λ y p q. o y (omega arith) (omega arith))
      (λ h. none_of vs (is_enum d.type) (list_key vs) k.a k.b x k.values h (λ y p q. o y (omega arith) (omega arith))))
      (none_in ds k.c hi x k.rest (λ y p q. o y (omega arith) q))

  pub none_of : (vs : Values) (b : Bool) (key lo hi x : ℕ) → Run lo (value_words vs) hi → (key ≡ x → ⊥) → Out x lo hi → NoneOf x (choices_of vs b key)
  none_of no_value b key lo hi x r h o = tt
  none_of (value w e us vs) b key lo hi x r h o =
      let i = r.0 in
      let k = cut (definition_words us) (value_words vs) (suc w.place) hi r.1 in
      let l = run_le (definition_words us) k.front in
      let m = run_le (value_words vs) k.back in
      none_append (choice_if b key w) x (choices us ++ choices_of vs b key) (none_if b key w x h)
      (none_append (choices us) x (choices_of vs b key)
      (none_in us (suc w.place) k.mid x k.front (λ y p q. o y (omega arith) (omega arith)))
      (none_of vs b key k.mid hi x k.back h (λ y p q. o y (omega arith) q)))

-- A search by its key in a list's own rows, and some more with other keys.
own_rows : (s : List ℕ) (key at len : ℕ) (t : Word) → t.bytes ≡ part_of s at len → (vs : Values) (B : List Choice) (lo hi i : ℕ)
    → Run lo (value_words vs) hi → key ≤ lo → Counts i (enumerator_numbers_of vs true) → Goods s (value_words vs) → NoneOf key B
    → first (is_choice s key at len) Some None i (choices_of vs true key ++ B) ≡ number_found (find_value vs t)
unfolding choices choice_if find_value number_found first is_choice value_words enumerator_numbers number_if alike
own_rows s key at len t q no_value B lo hi i r h c g n = none_first (is_choice s key at len) (λ j. true) i B (none_chosen s key at len B n)
own_rows s key at len t q (value w e us vs) B lo hi i r h c g n =
    let a = r.0 in
    let k = cut (definition_words us) (value_words vs) (suc w.place) hi r.1 in
    let l = run_le (definition_words us) k.front in
    let l₁ = length_choices us in
    let l₂ = length_enumerators us in
    let i' = suc i + length (choices us) in
    let x : both (eqb key key) (same (part_of s w.place w.length) (part_of s at len)) ≡ same w.bytes t.bytes =
    ap (λ b. both b (same (part_of s w.place w.length) (part_of s at len))) (eq-eqb key key refl) ∙ ap₂ same (sym g.0.read.bytes) (sym q) in
    let y = none_in us (suc w.place) k.mid key k.front (λ z p q' d. omega arith) in
    let assoc = append_assoc (choices us) (choices_of vs true key) B in
    ap (λ b. pick b (Some i) (first (is_choice s key at len) Some None (suc i) ((choices us ++ choices_of vs true key) ++ B))) x
    ∙ ap (λ m. pick (same w.bytes t.bytes) (Some i) m)
    (ap (first (is_choice s key at len) Some None (suc i)) assoc
    ∙ first_append (is_choice s key at len) Some None (suc i) (choices us) (choices_of vs true key ++ B) (none_chosen s key at len (choices us) y)
    ∙ own_rows s key at len t q vs B k.mid hi i' k.back (omega arith) (counts_back (enumerator_numbers us) (counts_tail c) (omega arith))
    (good_back s (definition_words us) (value_words vs) g.1) n)
    ∙ go (same w.bytes t.bytes) (sym (counts_head c))
  where
    go : (b : Bool) → i ≡ e → pick b (Some i) (number_found (find_value vs t)) ≡ number_found (pick b (some (record { word = w; number = e; definitions = us })) (find_value vs t))
    go true z = ap Some z
    go false z = refl

-- The row itself of a value.
unfoldable pub chosen : ℕ → Option Under → Option Choice
chosen key none = none
chosen key (some v) = some (record { list = key; word = v.word })

own_words : (s : List ℕ) (key at len : ℕ) (t : Word) → t.bytes ≡ part_of s at len → (vs : Values) (B : List Choice) (lo hi : ℕ)
    → Run lo (value_words vs) hi → key ≤ lo → Goods s (value_words vs) → NoneOf key B
    → first_one (is_choice s key at len) (choices_of vs true key ++ B) ≡ chosen key (find_value vs t)
unfolding choices choice_if find_value chosen first_one is_choice value_words alike
own_words s key at len t q no_value B lo hi r h g n = none_one (is_choice s key at len) B (none_chosen s key at len B n)
own_words s key at len t q (value w e us vs) B lo hi r h g n =
    let a = r.0 in
    let k = cut (definition_words us) (value_words vs) (suc w.place) hi r.1 in
    let l = run_le (definition_words us) k.front in
    let x : both (eqb key key) (same (part_of s w.place w.length) (part_of s at len)) ≡ same w.bytes t.bytes =
    ap (λ b. both b (same (part_of s w.place w.length) (part_of s at len))) (eq-eqb key key refl) ∙ ap₂ same (sym g.0.read.bytes) (sym q) in
    let y = none_in us (suc w.place) k.mid key k.front (λ z p q' d. omega arith) in
    let assoc = append_assoc (choices us) (choices_of vs true key) B in
    let c : Choice = record { list = key; word = w } in
    ap (λ b. pick b (some c) (first_one (is_choice s key at len) ((choices us ++ choices_of vs true key) ++ B))) x
    ∙ ap (λ m. pick (same w.bytes t.bytes) (some c) m)
    (ap (first_one (is_choice s key at len)) assoc
    ∙ one_append (is_choice s key at len) (choices us) (choices_of vs true key ++ B) (none_chosen s key at len (choices us) y)
    ∙ own_words s key at len t q vs B k.mid hi k.back (omega arith) (good_back s (definition_words us) (value_words vs) g.1) n)
    ∙ go (same w.bytes t.bytes)
  where
    go : (b : Bool) → pick b (some (record { list = key; word = w })) (chosen key (find_value vs t)) ≡ chosen key (pick b (some (record { word = w; number = e; definitions = us })) (find_value vs t))
    go true = refl
    go false = refl

-- In the rows C, a search by the key of the list vs finds what the list has.
pub record Own (s : List ℕ) (C : List Choice) (vs : Values) : Type 0 where
  pub number : (at len : ℕ) (t : Word) → t.bytes ≡ part_of s at len → first (is_choice s (list_key vs) at len) Some None 0 C ≡ number_found (find_value vs t)
  pub word : (at len : ℕ) (t : Word) → t.bytes ≡ part_of s at len → first_one (is_choice s (list_key vs) at len) C ≡ chosen (list_key vs) (find_value vs t)

own_in : (s : List ℕ) (vs : Values) (C A B : List Choice) (lo hi : ℕ) → NotEmpty vs → C ≡ A ++ (choices_of vs true (list_key vs) ++ B) → Run lo (value_words vs) hi
    → Counts (length A) (enumerator_numbers_of vs true) → NoneOf (list_key vs) A → NoneOf (list_key vs) B → Goods s (value_words vs) → Own s C vs
unfolding list_key value_words
own_in s (value w e us vs) C A B lo hi at_least_one q r c f g h = record {
  number = λ at len t z.
      let key = w.place in
      let m : 0 + length A ≡ length A = omega arith in
      ap (first (is_choice s key at len) Some None 0) q
      ∙ first_append (is_choice s key at len) Some None 0 A (choices_of (value w e us vs) true key ++ B) (none_chosen s key at len A f)
      ∙ ap (λ k. first (is_choice s key at len) Some None k (choices_of (value w e us vs) true key ++ B)) m
      ∙ own_rows s key at len t z (value w e us vs) B key hi (length A) (omega arith, r.1) (omega arith) c h g;
  word = λ at len t z.
      let key = w.place in
      ap (first_one (is_choice s key at len)) q
      ∙ one_append (is_choice s key at len) A (choices_of (value w e us vs) true key ++ B) (none_chosen s key at len A f)
      ∙ own_words s key at len t z (value w e us vs) B key hi (omega arith, r.1) (omega arith) h g;
}
own_in s no_value C A B lo hi x7 q r c f g h = elim x7 [ ]

-- So it is for every ENUM, at any depth.
mutual
  pub data Deep (s : List ℕ) (C : List Choice) : Definitions → Type 0 where
    deep_none : Deep s C no_more
    deep_more : {d : Definition} {vs : Values} {ds : Definitions} → (is_enum d.type ≡ true → NotEmpty vs → Own s C vs) → DeepValues s C vs → Deep s C ds
        → Deep s C (define d vs ds)

  pub data DeepValues (s : List ℕ) (C : List Choice) : Values → Type 0 where
    no_values : DeepValues s C no_value
    more_values : {w : Word} {e : ℕ} {us : Definitions} {vs : Values} → Deep s C us → DeepValues s C vs → DeepValues s C (value w e us vs)

-- The key does not lie behind the first word.
abbrev pub KeyBefore : Values → ℕ → Type 0
KeyBefore no_value key = Unit {0}
KeyBefore (value w e us vs) key = key ≤ w.place

key_first : (vs : Values) → KeyBefore vs (list_key vs)
unfolding list_key
key_first no_value = tt
key_first (value w e us vs) = omega arith

pub key_next : (vs : Values) (key lo hi : ℕ) → Run lo (value_words vs) hi → key ≤ lo → KeyBefore vs key
unfolding value_words
key_next no_value key lo hi r h = tt
key_next (value w e us vs) key lo hi r h = let a = r.0 in omega arith

own_free : (vs : Values) → NotEmpty vs → (lo hi : ℕ) → Run lo (value_words vs) hi → (l : List Choice) → ((x : ℕ) → lo ≤ x → x < hi → NoneOf x l) → NoneOf (list_key vs) l
unfolding list_key value_words
own_free (value w e us vs) at_least_one lo hi r l f = let a = run_le (definition_words us ++ value_words vs) r.1 in f w.place r.0 (omega arith)
own_free no_value x3 lo hi r l f = elim x3 [ ]

mutual
  unfolding choices definition_words enumerator_numbers

  deep : (ds : Definitions) (lo hi : ℕ) (s : List ℕ) (C A B : List Choice) → C ≡ A ++ (choices ds ++ B) → Run lo (definition_words ds) hi
      → Counts (length A) (enumerator_numbers ds) → Goods s (definition_words ds)
      → ((x : ℕ) → lo ≤ x → x < hi → NoneOf x A) → ((x : ℕ) → lo ≤ x → x < hi → NoneOf x B) → Deep s C ds
  deep no_more lo hi s C A B e r c h f g = deep_none
  deep (define d vs ds) lo hi s C A B e r c h f g =
      let b = is_enum d.type in
      let k = cuts d vs ds lo hi r in
      let k₁ = k.low in
      let k₂ = k.next in
      let k₃ = run_le (value_words vs) k.values in
      let k₄ = run_le (definition_words ds) k.rest in
      let F = choices_of vs b (list_key vs) in
      let rest = choices ds in
      let l₁ = length_choices_of vs b (list_key vs) in
      let l₂ = length_enumerators_of vs b in
      let l₃ = length-append A F in
      let e₁ : C ≡ A ++ (F ++ (rest ++ B)) = e ∙ ap (λ l. A ++ l) (append_assoc F rest B) in
      let e₂ : C ≡ (A ++ F) ++ (rest ++ B) = e₁ ∙ sym (append_assoc A F (rest ++ B)) in
      let c₁ = counts_front (enumerator_numbers_of vs b) (enumerator_numbers ds) c in
      let c₂ = counts_back (enumerator_numbers_of vs b) {m = length (A ++ F)} c (omega arith) in
      let w = d.name ∷ option_words d.default in
      let h₁ = good_front s (bound_words d.bounds ++ (value_words vs ++ w)) (definition_words ds) h.1 in
      let h₂ = good_front s (value_words vs) w (good_back s (bound_words d.bounds) (value_words vs ++ w) h₁) in
      let h₃ = good_back s (bound_words d.bounds ++ (value_words vs ++ w)) (definition_words ds) h.1 in
      deep_more
      (λ t n. own_in s vs C A (rest ++ B) k.a k.b n (e₁ ∙ ap (λ q. A ++ (choices_of vs q (list_key vs) ++ (rest ++ B))) t) k.values
      (subst (λ q. Counts (length A) (enumerator_numbers_of vs q)) t c₁)
      (own_free vs n k.a k.b k.values A (λ x p q. f x (omega arith) (omega arith)))
      (own_free vs n k.a k.b k.values (rest ++ B) (λ x p q. none_append rest x B (none_in ds k.c hi x k.rest (λ y p' q' z. omega arith)) (g x (omega arith) (omega arith))))
      h₂)
      (deep_values vs b (list_key vs) k.a k.b s C A (rest ++ B) e₁ k.values c₁ h₂ (key_first vs) (λ x p q. f x (omega arith) (omega arith))
      (λ x p q. none_append rest x B (none_in ds k.c hi x k.rest (λ y p' q' z. omega arith)) (g x (omega arith) (omega arith))))
      (deep ds k.c hi s C (A ++ F) B e₂ k.rest c₂ h₃
      (λ x p q. none_append A x F (f x (omega arith) (omega arith))
      (by_key vs b k.a k.b x k.values (λ y p' q' z. omega arith) (λ n. none_of vs b (list_key vs) k.a k.b x k.values n (λ y p' q' z. omega arith))))
      (λ x p q. g x (omega arith) (omega arith)))

  deep_values : (vs : Values) (b : Bool) (key lo hi : ℕ) (s : List ℕ) (C A B : List Choice) → C ≡ A ++ (choices_of vs b key ++ B) → Run lo (value_words vs) hi
      → Counts (length A) (enumerator_numbers_of vs b) → Goods s (value_words vs) → KeyBefore vs key
      → ((x : ℕ) → lo ≤ x → x < hi → NoneOf x A) → ((x : ℕ) → lo ≤ x → x < hi → NoneOf x B) → DeepValues s C vs
  deep_values no_value b key lo hi s C A B e r c h p f g = no_values
  deep_values (value w j us vs) b key lo hi s C A B e r c h p f g =
      let i = r.0 in
      let k = cut (definition_words us) (value_words vs) (suc w.place) hi r.1 in
      let k₁ = run_le (definition_words us) k.front in
      let k₂ = run_le (value_words vs) k.back in
      let own = choice_if b key w in
      let rows = choices us in
      let F = choices_of vs b key in
      let l₁ = length_choice b key w in
      let l₂ = length_if b j in
      let l₃ = length-append A own in
      let l₄ = length-append A (own ++ rows) in
      let l₅ = length-append own rows in
      let l₆ = length_choices us in
      let l₇ = length_enumerators us in
      let e₁ : C ≡ (A ++ own) ++ (rows ++ (F ++ B)) = e ∙ simp append_assoc in
      let e₂ : C ≡ (A ++ (own ++ rows)) ++ (F ++ B) = e₁ ∙ simp append_assoc in
      let c₁ = counts_back (number_if b j) {m = length (A ++ own)} c (omega arith) in
      let c₂ = counts_front (enumerator_numbers us) (enumerator_numbers_of vs b) c₁ in
      let c₃ = counts_back (enumerator_numbers us) {m = length (A ++ (own ++ rows))} c₁ (omega arith) in
      more_values
      (deep us (suc w.place) k.mid s C (A ++ own) (F ++ B) e₁ k.front c₂ (good_front s (definition_words us) (value_words vs) h.1)
      (λ x p' q. none_append A x own (f x (omega arith) (omega arith)) (none_if b key w x (λ z. omega arith)))
      (λ x p' q. none_append F x B (none_of vs b key k.mid hi x k.back (λ z. omega arith) (λ y p'' q'' z. omega arith)) (g x (omega arith) (omega arith))))
      (deep_values vs b key k.mid hi s C (A ++ (own ++ rows)) B e₂ k.back c₃ (good_back s (definition_words us) (value_words vs) h.1) (key_next vs key k.mid hi k.back (omega arith))
      (λ x p' q. none_append A x (own ++ rows) (f x (omega arith) (omega arith))
      (none_append own x rows (none_if b key w x (λ z. omega arith)) (none_in us (suc w.place) k.mid x k.front (λ y p'' q'' z. omega arith))))
      (λ x p' q. g x (omega arith) (omega arith)))

pub data DeepSpecs (s : List ℕ) (C : List Choice) : List Spec → Type 0 where
  no_specs : DeepSpecs s C []
  more_specs : {x : Spec} {xs : List Spec} → Deep s C x.definitions → DeepSpecs s C xs → DeepSpecs s C (x ∷ xs)

pub none_specs : (xs : List Spec) (lo hi x : ℕ) → Run lo (spec_words xs) hi → Out x lo hi → NoneOf x (spec_choices xs)
unfolding spec_choices spec_words
none_specs [] lo hi x r o = tt
none_specs (y ∷ ys) lo hi x r o =
    let i = r.0 in
    let k = cut (definition_words y.definitions) (spec_words ys) (suc y.word.place) hi r.1 in
    let l = run_le (definition_words y.definitions) k.front in
    let m = run_le (spec_words ys) k.back in
    none_append (choices y.definitions) x (spec_choices ys)
    (none_in y.definitions (suc y.word.place) k.mid x k.front (λ z p q. o z (omega arith) (omega arith)))
    (none_specs ys k.mid hi x k.back (λ z p q. o z (omega arith) q))

pub deep_specs : (xs : List Spec) (lo hi : ℕ) (s : List ℕ) (C A : List Choice) → C ≡ A ++ spec_choices xs → Run lo (spec_words xs) hi
    → Counts (length A) (spec_enumerator_numbers xs) → Goods s (spec_words xs) → ((x : ℕ) → lo ≤ x → x < hi → NoneOf x A) → DeepSpecs s C xs
unfolding spec_choices spec_words spec_enumerator_numbers
deep_specs [] lo hi s C A e r c h f = no_specs
deep_specs (y ∷ ys) lo hi s C A e r c h f =
    let us = y.definitions in
    let w = y.word in
    let i = r.0 in
    let k = cut (definition_words us) (spec_words ys) (suc w.place) hi r.1 in
    let k₁ = run_le (definition_words us) k.front in
    let k₂ = run_le (spec_words ys) k.back in
    let l₁ = length_choices us in
    let l₂ = length_enumerators us in
    let l₃ = length-append A (choices us) in
    let e₂ : C ≡ (A ++ choices us) ++ spec_choices ys = e ∙ sym (append_assoc A (choices us) (spec_choices ys)) in
    more_specs
    (deep us (suc w.place) k.mid s C A (spec_choices ys) e k.front (counts_front (enumerator_numbers us) (spec_enumerator_numbers ys) c)
    (good_front s (definition_words us) (spec_words ys) h.1)
    (λ x p q. f x (omega arith) (omega arith))
    (λ x p q. none_specs ys k.mid hi x k.back (λ z p' q' d. omega arith)))
    (deep_specs ys k.mid hi s C (A ++ choices us) e₂ k.back (counts_back (enumerator_numbers us) c (omega arith))
    (good_back s (definition_words us) (spec_words ys) h.1)
    (λ x p q. none_append A x (choices us) (f x (omega arith) (omega arith)) (none_in us (suc w.place) k.mid x k.front (λ y p' q' z. omega arith))))
