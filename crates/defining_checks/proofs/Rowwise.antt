-- The stage of 6 to 9 and 21 to 23 row by row: of its faults, found along the definitions as they stand, the one that answers is that of the rows, each with
-- the rows before it. Assumes nothing.
use mathlib.Core.Path.{◌≡◌, refl, sym, ◌∙◌, ap, ap₂}
use mathlib.Core.List.{List, [], ◌∷◌, ◌++◌, append-nil}
use mathlib.Core.Bool.{Bool, true, false, false≢true}
use mathlib.Core.Option.{Option}
use Prim.Native.Nat.{ℕ, suc, ◌≤◌, ◌<◌}
use native.Mathlib.Omega.{arith}
use lib.ListN.{length, length-append}
use borrow.Author.Tests.{eq-eqb, ne_eqb}
use Rattle.token.specs.Find.{pick}
use Rattle.meaning.specs.Syntax.{Word, Definition, Definitions, no_more, define, Values, no_value, value, Spec, is_enum}
use Rattle.meaning.specs.Words.{among}
use Rattle.meaning.specs.Scopes.{heads}
use Rattle.meaning.specs.Faults.{Fault, faults_if, sooner, first}
use Rattle.meaning.specs.Defining.{range_faults, default_faults, name_faults, word_faults, scope_faults, value_faults, specified, spec_faults}
use Rattle.meaning.proofs.Sooner.{sooner_comm, sooner_assoc, first_append}
use Rattle.meaning.proofs.Numbering.{Counts, number_if, enumerator_numbers, enumerator_numbers_of, spec_enumerator_numbers, length_enumerators, length_enumerators_of}
use Rattle.meaning.proofs.Standing.{Run, counts_back, counts_front, counts_head}
use Rattle.meaning.proofs.Sites.{definition_words, value_words, spec_words}
use Rattle.layout.specs.Kept.{Entry, Choice, list_key, entries, entries_under, spec_entries, choice_if, choices, choices_of, spec_choices}
use Rattle.scopes.specs.Situations.{NoneOf}
use Rattle.scopes.proofs.Lists.{none_append, none_in, none_of, none_if}
use Rattle.scopes.specs.Listing.{each}
use Rattle.defining_checks.specs.Listing.{under_of, others_of, others_for, row_name_faults, word_if, list_of, choice_faults}
use Rattle.scopes.proofs.Firsts.{each_append}
use Rattle.defining_checks.proofs.Telling.{Apart, AllApart, more_apart, AllApartUnder, more_under, ApartSpecs}
use Rattle.defining_checks.proofs.Clearing.{Clear, clear_append, clear_in, clear_list, under_clear, others_clear, list_none, under_append, others_append, list_append, under_more, others_for_more, under_own, others_own, own_heads}
use Rattle.meaning.proofs.Runs.{run_le, cut, Out, cuts}
use Rattle.layout.proofs.Lengths.{length_choices, length_choices_of}

-- 21 at the bounds; 7, 8 and 9 at the name; 22 or 23 at the default.
unfoldable pub row_faults : List Entry → Entry → List Fault
row_faults before x =
    range_faults x.definition.type x.definition.bounds
    ++ (row_name_faults before x ++ default_faults x.definition x.values x.definition.default)

-- 8 at each kind word that comes a second time.
unfoldable pub again_faults : (before : List Spec) → List Spec → List Fault
again_faults before [] = []
again_faults before (x ∷ xs) = faults_if (specified x before) x.word 8 ++ again_faults (before ++ (x ∷ [])) xs

-- The earlier of many, in another order ------------------------------------------------------------------------------------------------------

left_swap : (a b c : Option Fault) → sooner a (sooner b c) ≡ sooner b (sooner a c)
left_swap a b c = sym (sooner_assoc a b c) ∙ ap (λ x. sooner x c) (sooner_comm a b) ∙ sooner_assoc b a c

right_swap : (a b c : Option Fault) → sooner (sooner a b) c ≡ sooner (sooner a c) b
right_swap a b c = sooner_assoc a b c ∙ ap (sooner a) (sooner_comm b c) ∙ sym (sooner_assoc a c b)

interchange : (a b c d : Option Fault) → sooner (sooner a b) (sooner c d) ≡ sooner (sooner a c) (sooner b d)
interchange a b c d = sooner_assoc a b (sooner c d) ∙ ap (sooner a) (left_swap b c d) ∙ sym (sooner_assoc a c (sooner b d))

no_two : first [] ≡ sooner (first []) (first [])
unfolding first sooner
no_two = refl

-- A definition's faults, those of its values and those behind it.
join_definition : (rg vf nf df sf ru rr kv kd : List Fault) → first vf ≡ sooner (first ru) (first kv) → first sf ≡ sooner (first rr) (first kd)
    → first ((rg ++ (vf ++ (nf ++ df))) ++ sf) ≡ sooner (first (ru ++ ((rg ++ (nf ++ df)) ++ rr))) (first (kv ++ kd))
join_definition rg vf nf df sf ru rr kv kd e h =
    let n = nf ++ df in
    let m = sooner (first rg) (first n) in
    let a : first (rg ++ (vf ++ n)) ≡ sooner (sooner (first ru) m) (first kv) =
    first_append rg (vf ++ n) ∙ ap (sooner (first rg)) (first_append vf n ∙ ap (λ x. sooner x (first n)) e ∙ right_swap (first ru) (first kv) (first n))
    ∙ sym (sooner_assoc (first rg) (sooner (first ru) (first n)) (first kv)) ∙ ap (λ x. sooner x (first kv)) (left_swap (first rg) (first ru) (first n)) in
    let b : first (ru ++ ((rg ++ n) ++ rr)) ≡ sooner (sooner (first ru) m) (first rr) =
    first_append ru ((rg ++ n) ++ rr) ∙ ap (sooner (first ru)) (first_append (rg ++ n) rr ∙ ap (λ x. sooner x (first rr)) (first_append rg n)) ∙ sym (sooner_assoc (first ru) m (first rr)) in
    first_append (rg ++ (vf ++ n)) sf ∙ ap₂ sooner a h ∙ interchange (sooner (first ru) m) (first kv) (first rr) (first kd)
    ∙ sym (ap₂ sooner b (first_append kv kd))

-- A value's fault, those of its scope and those of the values behind it.
join_value : (wf sf vf hw re ru kd kv : List Fault) → first wf ≡ first hw → first sf ≡ sooner (first re) (first kd) → first vf ≡ sooner (first ru) (first kv)
    → first ((wf ++ sf) ++ vf) ≡ sooner (first (re ++ ru)) (first (hw ++ (kd ++ kv)))
join_value wf sf vf hw re ru kd kv e h i =
    let a : first (wf ++ sf) ≡ sooner (first re) (sooner (first hw) (first kd)) = first_append wf sf ∙ ap₂ sooner e h ∙ left_swap (first hw) (first re) (first kd) in
    let b : first (hw ++ (kd ++ kv)) ≡ sooner (sooner (first hw) (first kd)) (first kv) =
    first_append hw (kd ++ kv) ∙ ap (sooner (first hw)) (first_append kd kv) ∙ sym (sooner_assoc (first hw) (first kd) (first kv)) in
    first_append (wf ++ sf) vf ∙ ap₂ sooner a i ∙ interchange (first re) (sooner (first hw) (first kd)) (first ru) (first kv) ∙ sym (ap₂ sooner (first_append re ru) b)

-- A spec's fault, those of its scope and those of the specs behind it.
join_spec : (af sf xf ag re rs kd ks : List Fault) → first sf ≡ sooner (first re) (first kd) → first xf ≡ sooner (first ag) (sooner (first rs) (first ks))
    → first ((af ++ sf) ++ xf) ≡ sooner (first (af ++ ag)) (sooner (first (re ++ rs)) (first (kd ++ ks)))
join_spec af sf xf ag re rs kd ks e h =
    first_append (af ++ sf) xf ∙ ap₂ sooner (first_append af sf ∙ ap (sooner (first af)) e) h
    ∙ interchange (first af) (sooner (first re) (first kd)) (first ag) (sooner (first rs) (first ks))
    ∙ ap₂ sooner (sym (first_append af ag)) (interchange (first re) (first kd) (first rs) (first ks) ∙ sym (ap₂ sooner (first_append re rs) (first_append kd ks)))

-- A list's key ---------------------------------------------------------------------------------------------------------------------------------

-- What the rows A and C before some values of the list with the key have of it: for another value the definitions `others`, and of an ENUM the
-- words `before`.
pub record Keyed (key lo hi : ℕ) (A : List Entry) (C : List Choice) (b : Bool) (before : List Word) (others : List Definition) : Type 0 where
  pub positive : 0 < key
  pub elsewhere : (p : ℕ) → lo ≤ p → p < hi → others_of key p A ≡ others
  pub listed : b ≡ true → list_of key C ≡ before

-- So it is where there are values; the key does not lie behind the first of them.
abbrev KeyedFor : Values → (key lo hi : ℕ) → List Entry → List Choice → Bool → List Word → List Definition → Type 0
KeyedFor no_value key lo hi A C b before others = Unit {0}
KeyedFor (value w e us vs) key lo hi A C b before others = (key ≤ w.place) × Keyed key lo hi A C b before others

keyed_first : (vs : Values) (lo hi : ℕ) (A : List Entry) (C : List Choice) (b : Bool) → Run lo (value_words vs) hi → 0 < lo
    → ((x : ℕ) → lo ≤ x → x < hi → Clear x A) → ((x : ℕ) → lo ≤ x → x < hi → NoneOf x C) → KeyedFor vs (list_key vs) lo hi A C b [] []
unfolding list_key value_words
keyed_first no_value lo hi A C b r z f g = tt
keyed_first (value w e us vs) lo hi A C b r z f g =
    let i = r.0 in
    let m = run_le (definition_words us ++ value_words vs) r.1 in (
      omega arith,
      record {
        positive = omega arith;
        elsewhere = λ p h k. others_clear w.place p A (f w.place i (omega arith));
        listed = λ t. list_none w.place C (g w.place i (omega arith));
      },
    )

keyed_next : (vs : Values) (key lo hi : ℕ) (A : List Entry) (C : List Choice) (b : Bool) (before : List Word) (others : List Definition)
    → Run lo (value_words vs) hi → key ≤ lo → Keyed key lo hi A C b before others → KeyedFor vs key lo hi A C b before others
unfolding value_words
keyed_next no_value key lo hi A C b before others r h k = tt
keyed_next (value w e us vs) key lo hi A C b before others r h k = let i = r.0 in (omega arith, k)

-- The fault at a value's word.
word_rows : (b : Bool) (key e : ℕ) (w : Word) (C : List Choice) (before : List Word) → (b ≡ true → list_of key C ≡ before) → (b ≡ false → among w before ≡ false)
    → (b ≡ true → e ≡ length C) → first (word_faults b e w before) ≡ first (each choice_faults C (choice_if b key w))
unfolding choice_if each choice_faults word_faults faults_if
word_rows true key e w C before h i j =
    ap first (ap₂ (λ (n : ℕ) (l : List Word). word_faults true n w l) (j refl) (sym (h refl)) ∙ sym (append-nil (word_faults true (length C) w (list_of key C))))
word_rows false key e w C before h i j = ap (λ c. first (faults_if c w 8)) (i refl)

apart_head : (b : Bool) (w : Word) (e : ℕ) (us : Definitions) (vs : Values) (before : List Word) → (b ≡ false → Apart before (value w e us vs)) → b ≡ false → among w before ≡ false
apart_head b w e us vs before h z = (h z).0

number_head : (b : Bool) (e n : ℕ) (l : List ℕ) → Counts n (number_if b e ++ l) → b ≡ true → e ≡ n
unfolding number_if
number_head true e n l c z = counts_head c
number_head false e n l c z = absurd (false≢true z)

word_own : (b : Bool) (key : ℕ) (w : Word) → b ≡ true → list_of key (choice_if b key w) ≡ w ∷ []
unfolding choice_if list_of word_if
word_own true key w z = ap (λ c. word_if c w ++ []) (eq-eqb key key refl)
word_own false key w z = absurd (false≢true z)

length_choice : (b : Bool) (o : ℕ) (w : Word) (e : ℕ) → length (choice_if b o w) ≡ length (number_if b e)
unfolding choice_if number_if
length_choice true o w e = refl
length_choice false o w e = refl

-- The values of a definition, where there are any.
pub none_list : (vs : Values) (b : Bool) (lo hi x : ℕ) → Run lo (value_words vs) hi → Out x lo hi → NoneOf x (choices_of vs b (list_key vs))
unfolding list_key choices_of value_words
none_list no_value b lo hi x r o = tt
none_list (value w e us vs) b lo hi x r o =
    let i = r.0 in
    let c = run_le (definition_words us ++ value_words vs) r.1 in
    none_of (value w e us vs) b w.place lo hi x r (o w.place i (omega arith)) o

for_positive : (key p : ℕ) (A : List Entry) → 0 < key → others_for key p A ≡ others_of key p A
unfolding others_for
for_positive key p A h = ap (λ b. pick b [] (others_of key p A)) (ne_eqb key 0 (λ e. omega arith))

-- The faults along the definitions ----------------------------------------------------------------------------------------------------------

mutual
  unfolding scope_faults entries choices definition_words enumerator_numbers each row_faults row_name_faults heads

  scope_rows : (ds : Definitions) (u : Word) (o lo hi : ℕ) (A : List Entry) (C : List Choice) (others before : List Definition)
      → Run lo (definition_words ds) hi → u.place < lo → o ≤ u.place → under_of u.place A ≡ before → others_for o u.place A ≡ others
      → ((x : ℕ) → lo ≤ x → x < hi → Clear x A) → ((x : ℕ) → lo ≤ x → x < hi → NoneOf x C) → Counts (length C) (enumerator_numbers ds) → AllApart ds
      → first (scope_faults ds others before) ≡ sooner (first (each row_faults A (entries ds u o))) (first (each choice_faults C (choices ds)))
  scope_rows no_more u o lo hi A C others before r h i e₁ e₂ f g c t = no_two
  scope_rows (define d vs ds) u o lo hi A C others before r h i e₁ e₂ f g c (more_apart t₁ t₂ t₃) =
      let b = is_enum d.type in
      let k = cuts d vs ds lo hi r in
      let k₁ = k.low in
      let k₂ = k.next in
      let k₃ = run_le (value_words vs) k.values in
      let k₄ = run_le (definition_words ds) k.rest in
      let U = entries_under vs (list_key vs) in
      let x : Entry = record { under = u; outer = o; definition = d; values = vs } in
      let E = entries ds u o in
      let K = choices_of vs b (list_key vs) in
      let l₁ = length_choices_of vs b (list_key vs) in
      let l₂ = length_enumerators_of vs b in
      let l₃ = length-append C K in
      let a₁ = under_more u.place A U e₁ (clear_list vs k.a k.b u.place k.values (λ y p q z. omega arith)) in
      let a₂ = others_for_more o u.place A U e₂ (others_clear o u.place U (clear_list vs k.a k.b o k.values (λ y p q z. omega arith))) in
      let b₁ : under_of u.place ((A ++ U) ++ (x ∷ [])) ≡ before ++ (d ∷ []) = under_append u.place (A ++ U) (x ∷ []) ∙ ap₂ ◌++◌ a₁ (under_own x) in
      let b₂ : others_for o u.place ((A ++ U) ++ (x ∷ [])) ≡ others = others_for_more o u.place (A ++ U) (x ∷ []) a₂ (others_own o x) in
      let v = value_rows vs (list_key vs) b k.a k.b A C [] [] k.values
      (keyed_first vs k.a k.b A C b k.values (omega arith) (λ y p q. f y (omega arith) (omega arith)) (λ y p q. g y (omega arith) (omega arith)))
      t₁ (λ y p q. f y (omega arith) (omega arith)) (λ y p q. g y (omega arith) (omega arith)) (counts_front (enumerator_numbers_of vs b) (enumerator_numbers ds) c) t₂ in
      let w = scope_rows ds u o k.c hi ((A ++ U) ++ (x ∷ [])) (C ++ K) others (before ++ (d ∷ [])) k.rest (omega arith) i b₁ b₂
      (λ y p q. clear_append (A ++ U) y (x ∷ []) (clear_append A y U (f y (omega arith) (omega arith)) (clear_list vs k.a k.b y k.values (λ v p' q' z. omega arith)))
      (((λ z. omega arith), (λ z. omega arith)), tt))
      (λ y p q. none_append C y K (g y (omega arith) (omega arith)) (none_list vs b k.a k.b y k.values (λ v p' q' z. omega arith)))
      (counts_back (enumerator_numbers_of vs b) c (omega arith)) t₃ in
      let n : name_faults d others before ≡ name_faults d (others_for o u.place (A ++ U)) (under_of u.place (A ++ U)) = ap₂ (name_faults d) (sym a₂) (sym a₁) in
      let rg = range_faults d.type d.bounds in
      let df = default_faults d vs d.default in
      ap (λ m. first ((rg ++ (value_faults vs b [] [] ++ (m ++ df))) ++ scope_faults ds others (before ++ (d ∷ [])))) n
      ∙ join_definition rg (value_faults vs b [] []) (name_faults d (others_for o u.place (A ++ U)) (under_of u.place (A ++ U))) df (scope_faults ds others (before ++ (d ∷ [])))
      (each row_faults A U) (each row_faults ((A ++ U) ++ (x ∷ [])) E) (each choice_faults C K) (each choice_faults (C ++ K) (choices ds)) v w
      ∙ sym (ap₂ (λ p q. sooner (first p) (first q)) (each_append row_faults A U (x ∷ E)) (each_append choice_faults C K (choices ds)))

  value_rows : (vs : Values) (key : ℕ) (b : Bool) (lo hi : ℕ) (A : List Entry) (C : List Choice) (before : List Word) (others : List Definition)
      → Run lo (value_words vs) hi → KeyedFor vs key lo hi A C b before others → (b ≡ false → Apart before vs)
      → ((x : ℕ) → lo ≤ x → x < hi → Clear x A) → ((x : ℕ) → lo ≤ x → x < hi → NoneOf x C) → Counts (length C) (enumerator_numbers_of vs b) → AllApartUnder vs
      → first (value_faults vs b before others) ≡ sooner (first (each row_faults A (entries_under vs key))) (first (each choice_faults C (choices_of vs b key)))
  value_rows no_value key b lo hi A C before others r h a f g c t = no_two
  value_rows (value w e us vs) key b lo hi A C before others r h a f g c (more_under t₁ t₂) =
      let i = r.0 in
      let k = cut (definition_words us) (value_words vs) (suc w.place) hi r.1 in
      let k₁ = run_le (definition_words us) k.front in
      let k₂ = run_le (value_words vs) k.back in
      let y = h.1 in
      let y₀ = h.0 in
      let z₀ = y.positive in
      let own = choice_if b key w in
      let E = entries us w key in
      let D = choices us in
      let K = choices_of vs b key in
      let l₁ = length_choice b key w e in
      let l₂ = length-append C own in
      let l₃ = length-append (C ++ own) D in
      let l₄ = length_choices us in
      let l₅ = length_enumerators us in
      let c₁ = counts_back (number_if b e) {m = length (C ++ own)} c (omega arith) in
      let c₂ = counts_front (enumerator_numbers us) (enumerator_numbers_of vs b) c₁ in
      let c₃ = counts_back (enumerator_numbers us) {m = length ((C ++ own) ++ D)} c₁ (omega arith) in
      let p₁ = word_rows b key e w C before y.listed (apart_head b w e us vs before a) (number_head b e (length C) (enumerator_numbers us ++ enumerator_numbers_of vs b) c) in
      let p₂ = scope_rows us w key (suc w.place) k.mid A (C ++ own) others [] k.front (omega arith) y₀
      (under_clear w.place A (f w.place i (omega arith))) (for_positive key w.place A z₀ ∙ y.elsewhere w.place i (omega arith))
      (λ x p q. f x (omega arith) (omega arith)) (λ x p q. none_append C x own (g x (omega arith) (omega arith)) (none_if b key w x (λ z. omega arith))) c₂ t₁ in
      let q : Keyed key k.mid hi (A ++ E) ((C ++ own) ++ D) b (before ++ (w ∷ [])) (others ++ heads us) = record {
        positive = z₀;
        elsewhere = λ x p q. others_append key x A E ∙ ap₂ ◌++◌ (y.elsewhere x (omega arith) q) (own_heads us w key x (suc w.place) k.mid k.front (omega arith) (λ z. omega arith));
        listed = λ z.
            list_append key (C ++ own) D
            ∙ ap₂ ◌++◌ (list_append key C own ∙ ap₂ ◌++◌ (y.listed z) (word_own b key w z)) (list_none key D (none_in us (suc w.place) k.mid key k.front (λ v p q z. omega arith)))
            ∙ append-nil (before ++ (w ∷ []));
      } in
      let p₃ = value_rows vs key b k.mid hi (A ++ E) ((C ++ own) ++ D) (before ++ (w ∷ [])) (others ++ heads us) k.back
      (keyed_next vs key k.mid hi (A ++ E) ((C ++ own) ++ D) b (before ++ (w ∷ [])) (others ++ heads us) k.back (omega arith) q) (λ z. (a z).1)
      (λ x p q. clear_append A x E (f x (omega arith) (omega arith)) (clear_in us w key (suc w.place) k.mid x k.front (λ z. omega arith) (λ z. omega arith) (λ v p' q' z. omega arith)))
      (λ x p q. none_append (C ++ own) x D (none_append C x own (g x (omega arith) (omega arith)) (none_if b key w x (λ z. omega arith)))
      (none_in us (suc w.place) k.mid x k.front (λ v p' q' z. omega arith)))
      c₃ t₂ in
      join_value (word_faults b e w before) (scope_faults us others []) (value_faults vs b (before ++ (w ∷ [])) (others ++ heads us))
      (each choice_faults C own) (each row_faults A E) (each row_faults (A ++ E) (entries_under vs key)) (each choice_faults (C ++ own) D) (each choice_faults ((C ++ own) ++ D) K) p₁ p₂ p₃
      ∙ sym (ap₂ (λ p q. sooner (first p) (first q)) (each_append row_faults A E (entries_under vs key))
      (each_append choice_faults C own (D ++ K) ∙ ap (λ l. each choice_faults C own ++ l) (each_append choice_faults (C ++ own) D K)))

-- Along the specs: 8 at their words, and the rows.
spec_rows : (xs : List Spec) (lo hi : ℕ) (A : List Entry) (C : List Choice) (before : List Spec) → Run lo (spec_words xs) hi → 0 < lo
    → ((x : ℕ) → lo ≤ x → x < hi → Clear x A) → ((x : ℕ) → lo ≤ x → x < hi → NoneOf x C) → Counts (length C) (spec_enumerator_numbers xs) → ApartSpecs xs
    → first (spec_faults before xs) ≡ sooner (first (again_faults before xs)) (sooner (first (each row_faults A (spec_entries xs))) (first (each choice_faults C (spec_choices xs))))
unfolding spec_faults again_faults spec_entries spec_choices spec_words spec_enumerator_numbers each others_for
spec_rows [] lo hi A C before r z f g c t = no_two ∙ ap (sooner (first [])) no_two
spec_rows (y ∷ ys) lo hi A C before r z f g c t =
    let us = y.definitions in
    let w = y.word in
    let i = r.0 in
    let k = cut (definition_words us) (spec_words ys) (suc w.place) hi r.1 in
    let k₁ = run_le (definition_words us) k.front in
    let k₂ = run_le (spec_words ys) k.back in
    let E = entries us w 0 in
    let D = choices us in
    let l₁ = length-append C D in
    let l₂ = length_choices us in
    let l₃ = length_enumerators us in
    let p₁ = scope_rows us w 0 (suc w.place) k.mid A C [] [] k.front (omega arith) (omega arith) (under_clear w.place A (f w.place i (omega arith))) refl
    (λ x p q. f x (omega arith) (omega arith)) (λ x p q. g x (omega arith) (omega arith)) (counts_front (enumerator_numbers us) (spec_enumerator_numbers ys) c) t.0 in
    let p₂ = spec_rows ys k.mid hi (A ++ E) (C ++ D) (before ++ (y ∷ [])) k.back (omega arith)
    (λ x p q. clear_append A x E (f x (omega arith) (omega arith)) (clear_in us w 0 (suc w.place) k.mid x k.front (λ v. omega arith) (λ v. omega arith) (λ v p' q' e. omega arith)))
    (λ x p q. none_append C x D (g x (omega arith) (omega arith)) (none_in us (suc w.place) k.mid x k.front (λ v p' q' e. omega arith)))
    (counts_back (enumerator_numbers us) c (omega arith)) t.1 in
    join_spec (faults_if (specified y before) w 8) (scope_faults us [] []) (spec_faults (before ++ (y ∷ [])) ys) (again_faults (before ++ (y ∷ [])) ys)
    (each row_faults A E) (each row_faults (A ++ E) (spec_entries ys)) (each choice_faults C D) (each choice_faults (C ++ D) (spec_choices ys)) p₁ p₂
    ∙ sym (ap₂ (λ p q. sooner (first (faults_if (specified y before) w 8 ++ again_faults (before ++ (y ∷ [])) ys)) (sooner (first p) (first q)))
    (each_append row_faults A E (spec_entries ys)) (each_append choice_faults C D (spec_choices ys)))

-- All of them.
pub all_rows : (xs : List Spec) (lo hi : ℕ) → Run lo (spec_words xs) hi → 0 < lo → Counts 0 (spec_enumerator_numbers xs) → ApartSpecs xs
    → first (spec_faults [] xs) ≡ sooner (first (again_faults [] xs)) (sooner (first (each row_faults [] (spec_entries xs))) (first (each choice_faults [] (spec_choices xs))))
all_rows xs lo hi r z c t = spec_rows xs lo hi [] [] [] r z (λ x p q. tt) (λ x p q. tt) c t
