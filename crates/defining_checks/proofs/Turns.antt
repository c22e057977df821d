-- What the functions over one row and over all rows cite, and the whole stage. Assumes nothing.
use mathlib.Core.Path.{◌≡◌, refl, sym, ◌∙◌, ap, ap₂, subst}
use mathlib.Core.List.{List, [], ◌∷◌, ◌++◌, append_assoc}
use mathlib.Core.Bool.{Bool, true, false, not}
use Prim.Native.Nat.{ℕ, ◌+◌, ◌*◌, ◌≤◌, ◌<◌, min}
use native.Mathlib.Omega.{arith}
use lib.ListN.{length, get_or}
use lib.Dec.{eqb, ltb}
use borrow.Author.Tests.{eq-eqb, lt-ltb}
use Rattle.std.specs.Prelude.{Option, Some, None, is_some, unwrap_or}
use Rattle.std.specs.Bool.{then_some}
use Rattle.token.specs.Find.{pick, both, either}
use Rattle.token.specs.Words.{same, bytes_of}
use Rattle.token.specs.Tokens.{part_of}
use Rattle.rows.specs.Found.{Found}
use Rattle.std.specs.Prelude.{Some, None}
use Rattle.rows.proofs.Walks.{any_of}
use Rattle.rows.specs.Search.{find_named, is_found}
use Rattle.indexes.specs.Indexing.{Indexed, Makes, By, Fits, Through}
use Rattle.rows.specs.Order.{MaybeFault, before, fault_if, sooner}
use Rattle.rows.proofs.Searches.{first_any}
use Rattle.meaning.specs.Syntax.{Word, Definitions, no_more, define, Values, no_value, value, Spec, File, is_enum}
use Rattle.meaning.specs.Words.{alike, among}
use Rattle.meaning.specs.Faults.{faults_if, first}
use Rattle.meaning.specs.Defining.{range_faults, defined_in, differs, name_faults, word_faults}
use Rattle.meaning.proofs.Sites.{bound_words, option_words, definition_words, value_words, spec_words}
use Rattle.layout.specs.Kept.{Entry, Choice, list_key, choice_if, choices, choices_of, spec_entries, spec_choices, kept_definitions, choice_cells, definition_cells}
use Rattle.scopes.specs.Situations.{Situation, Nth}
use Rattle.scopes.specs.Promises.{fault_of, RangeFault}
use Rattle.scopes.proofs.Goodness.{Good, Goods, good_front, good_back, spec_good}
use Rattle.scopes.proofs.Rooms.{definition_cell, choice_cell, nth_low, split}
use Rattle.scopes.proofs.Finding.{is_choice, find_in_enumerators, same_sym}
use Rattle.scopes.proofs.Descents.{whole}
use Rattle.scopes.specs.Listing.{each}
use Rattle.defining_checks.specs.Listing.{others_for, under_of, row_name_faults, judged_faults, kept_row_faults, word_if, list_of, choice_faults}
use Rattle.defining_checks.specs.Promises.{Room, one_too_many, first_again, NewTypeFault, NameFault, DefaultFault, RowFault, RowsFault, EnumeratorFault, EnumeratorsFault, version_code, DefinitionFaults}
use Rattle.defining_checks.proofs.Naming.{AgainFault, again_is}
use Rattle.scopes.proofs.Firsts.{real_append, real_if, fault_append, fault_one, each_snoc, real_each}
use Rattle.defining_checks.proofs.Reaching.{last_of}
use Rattle.defining_checks.proofs.Covers.{row_is}
use Rattle.rows.proofs.Orders.{found_some, found_none, none_sooner}
use Rattle.defining_checks.proofs.Stages.{real_range, real_judged, real_row_name, real_row, real_choice, stage_is}

-- A row of a definition --------------------------------------------------------------------------------------------------------------------------

eight_first : (p : ℕ) (b : Bool) → sooner (Some (record { number = 8; place = p })) (fault_if b 9 p) ≡ Some (record { number = 8; place = p })
unfolding sooner before fault_if
eight_first p true = ap (λ t. Some (pick (pick t false (ltb p p)) (record { number = 9; place = p }) (record { number = 8; place = p }))) (eq-eqb p p refl)
eight_first p false = refl

cell_name : (f : File) (d : List ℕ) (j : ℕ) (x : Entry) → d ≡ kept_definitions f → Nth (spec_entries f.specs) j x → j < 513 → get_or d (j * 19 + 2) 0 ≡ x.definition.name.place
unfolding definition_cells
cell_name f d j x hd q l = definition_cell f d j 2 x hd q l (omega arith)

module _ (s d : List ℕ) (j at : ℕ) (a : MaybeFault) (e : at ≡ get_or d (j * 19 + 2) 0) (ha : a ≡ fault_if (eqb j 512) 7 at) where
  name_is : (b c r : MaybeFault) (f : File) (x : Entry) → Situation s f → d ≡ kept_definitions f → (q : Nth (spec_entries f.specs) j x) → j < 513
      → b ≡ fault_if (defined_in x.definition.name (under_of x.under.place q.front)) 8 x.definition.name.place
      → c ≡ fault_if (differs x.definition (others_for x.outer x.under.place q.front)) 9 x.definition.name.place
      → r ≡ sooner a (sooner b c) → r ≡ fault_of (first (row_name_faults q.front x))
  unfolding definition_cells row_name_faults name_faults
  name_is b c r f x st hd q l hb hc hr =
      let y = x.definition in
      let u = under_of x.under.place q.front in
      let o = others_for x.outer x.under.place q.front in
      let n : at ≡ y.name.place = e ∙ definition_cell f d j 2 x hd q l (omega arith) in
      let k : j ≡ y.row = sym (row_is q.front x q.rest (whole st).rows q.whole ∙ q.place) in
      let W₇ = faults_if (eqb y.row 512) y.name 7 in
      let W₈ = faults_if (defined_in y.name u) y.name 8 in
      let W₉ = faults_if (differs y o) y.name 9 in
      let g₇ : a ≡ fault_of (first W₇) = ha ∙ ap₂ (λ (i p : ℕ). fault_if (eqb i 512) 7 p) k n ∙ sym (fault_one (eqb y.row 512) y.name 7) in
      let g₈ : b ≡ fault_of (first W₈) = hb ∙ sym (fault_one (defined_in y.name u) y.name 8) in
      let g₉ : c ≡ fault_of (first W₉) = hc ∙ sym (fault_one (differs y o) y.name 9) in
      let r₈ = real_if (defined_in y.name u) y.name 8 (omega arith) in
      let r₉ = real_if (differs y o) y.name 9 (omega arith) in
      hr ∙ ap₂ sooner g₇ (ap₂ sooner g₈ g₉ ∙ sym (fault_append W₈ W₉ r₈ r₉))
      ∙ sym (fault_append W₇ (W₈ ++ W₉) (real_if (eqb y.row 512) y.name 7 (omega arith)) (real_append W₈ W₉ r₈ r₉))

  again_at : (z : Found) → z ≡ first_again s d j → AgainFault s d j (fault_if (is_found z) 8 at)
  unfolding first_again
  again_at z k =
      again_is s d j (get_or d (j * 19 + 0) 0) at (get_or d (j * 19 + 3) 0) z (fault_if (is_found z) 8 at) refl e refl
      (k ∙ ap (λ p. find_named s d 19 j 0 (get_or d (j * 19 + 0) 0) 2 p (get_or d (j * 19 + 3) 0) 0) (sym e)) refl

  -- Where an earlier row has the name, 9 does not come before 8.
  pub name_again : (z : Found) (i : ℕ) (r : MaybeFault) → z ≡ Some i → r ≡ sooner a (Some (record { number = 8; place = at })) → z ≡ first_again s d j → NameFault s d j r
  name_again z i r h hr k f x st hd q l =
      let y = x.definition in
      let D = differs y (others_for x.outer x.under.place q.front) in
      let n : at ≡ y.name.place = e ∙ cell_name f d j x hd q l in
      name_is (Some (record { number = 8; place = at })) (fault_if D 9 at) r f x st hd q l
      (found_some z i 8 at h ∙ again_at z k f x st hd q l) (ap (fault_if D 9) n) (hr ∙ ap (sooner a) (sym (eight_first at D)))

  pub name_new : (z : Found) (c r : MaybeFault) → z ≡ None → r ≡ sooner a c → z ≡ first_again s d j → NewTypeFault s d j c → NameFault s d j r
  name_new z c r h hr k hc f x st hd q l =
      let y = x.definition in
      let t = hc (sym k ∙ h) f x st hd q l in
      name_is None c r f x st hd q l
      (found_none z 8 at h ∙ again_at z k f x st hd q l) t
      (hr ∙ ap (sooner a) (sym (none_sooner c)))

pub row_all : (s d e xe : List ℕ) (full : Bool) (limit j : ℕ) (a b c t r : MaybeFault) → RangeFault s d j a → NameFault s d j b → DefaultFault s d e xe full limit j c
    → t ≡ sooner b c → r ≡ sooner a t → RowFault s d e xe full limit j r
unfolding kept_row_faults
row_all s d e xe full limit j a b c t r ha hb hc ht hr f m x st hd he hx room q l =
    let y = x.definition in
    let rg = range_faults y.type y.bounds in
    let nf = row_name_faults q.front x in
    let jf = judged_faults full limit y x.values in
    let ga : a ≡ fault_of (first rg) = ha f (record { definition = y; values = x.values }) st hd (record { under = x.under; outer = x.outer; nth = q }) l in
    let rn = real_row_name q.front x in
    let rj = real_judged full limit y x.values in
    hr ∙ ap₂ sooner ga (ht ∙ ap₂ sooner (hb f x st hd q l) (hc f m x st hd he hx room q l) ∙ sym (fault_append nf jf rn rj))
    ∙ sym (fault_append rg (nf ++ jf) (real_range y.type y.bounds) (real_append nf jf rn rj))

-- Rows one after the other.
module _ (s d e xe : List ℕ) (full : Bool) (limit : ℕ) where
  pub rows_start : RowsFault s d e xe full limit 0 None
  unfolding each first fault_of
  rows_start f m [] rest st hd he hx room w n l = refl
  rows_start f m (x ∷ front) rest st hd he hx room w n l = absurd (omega (arith, n))

  pub rows_more : (j : ℕ) (best x r : MaybeFault) → RowsFault s d e xe full limit j best → RowFault s d e xe full limit j x → r ≡ sooner best x → RowsFault s d e xe full limit (j + 1) r
  rows_more j best x r h k z f m front rest st hd he hx room w n l =
      let a = last_of front j (omega (arith, n)) in
      let v : spec_entries f.specs ≡ a.front ++ (a.last ∷ rest) = w ∙ ap (λ i. i ++ rest) a.whole ∙ append_assoc a.front (a.last ∷ []) rest in
      let R = kept_row_faults full limit in
      let b = h f m a.front (a.last ∷ rest) st hd he hx room v a.many (omega (arith, l)) in
      let c = k f m a.last st hd he hx room (record { front = a.front; rest = rest; whole = v; place = a.many }) (omega (arith, l)) in
      z ∙ ap₂ sooner b c
      ∙ sym (ap (λ i. fault_of (first (each R [] i))) a.whole ∙ ap (λ i. fault_of (first i)) (each_snoc R a.front a.last)
      ∙ fault_append (each R [] a.front) (R a.front a.last) (real_each R (real_row full limit) [] a.front) (real_row full limit a.front a.last))

  pub rows_end : (j n : ℕ) (best : MaybeFault) → j ≤ n → n ≤ j → RowsFault s d e xe full limit j best → RowsFault s d e xe full limit n best
  rows_end j n best h k r = let i : j ≡ n = omega (arith, h, k) in subst (λ (x : ℕ). RowsFault s d e xe full limit x best) i r

-- A row of an enumerator -------------------------------------------------------------------------------------------------------------------------

abbrev GoodChoices : List ℕ → List Choice → Type 0
GoodChoices s [] = Unit {0}
GoodChoices s (x ∷ xs) = Good s x.word × GoodChoices s xs

good_append : (s : List ℕ) (a b : List Choice) → GoodChoices s a → GoodChoices s b → GoodChoices s (a ++ b)
good_append s [] b g h = h
good_append s (x ∷ a) b g h = (g.0, good_append s a b g.1 h)

choices_front : (s : List ℕ) (a b : List Choice) → GoodChoices s (a ++ b) → GoodChoices s a
choices_front s [] b g = tt
choices_front s (x ∷ a) b g = (g.0, choices_front s a b g.1)

choices_back : (s : List ℕ) (a b : List Choice) → GoodChoices s (a ++ b) → GoodChoices s b
choices_back s [] b g = g
choices_back s (x ∷ a) b g = choices_back s a b g.1

good_if : (s : List ℕ) (b : Bool) (o : ℕ) (w : Word) → Good s w → GoodChoices s (choice_if b o w)
unfolding choice_if
good_if s true o w g = (g, tt)
good_if s false o w g = tt

mutual
  unfolding choices definition_words

  good_choices : (s : List ℕ) (ds : Definitions) → Goods s (definition_words ds) → GoodChoices s (choices ds)
  good_choices s no_more g = tt
  good_choices s (define d vs ds) g =
      let w = d.name ∷ option_words d.default in
      let h = good_front s (bound_words d.bounds ++ (value_words vs ++ w)) (definition_words ds) g.1 in
      good_append s (choices_of vs (is_enum d.type) (list_key vs)) (choices ds)
      (good_choices_of s vs (is_enum d.type) (list_key vs) (good_front s (value_words vs) w (good_back s (bound_words d.bounds) (value_words vs ++ w) h)))
      (good_choices s ds (good_back s (bound_words d.bounds ++ (value_words vs ++ w)) (definition_words ds) g.1))

  good_choices_of : (s : List ℕ) (vs : Values) (b : Bool) (o : ℕ) → Goods s (value_words vs) → GoodChoices s (choices_of vs b o)
  good_choices_of s no_value b o g = tt
  good_choices_of s (value w e us vs) b o g =
      good_append s (choice_if b o w) (choices us ++ choices_of vs b o) (good_if s b o w g.0)
      (good_append s (choices us) (choices_of vs b o) (good_choices s us (good_front s (definition_words us) (value_words vs) g.1))
      (good_choices_of s vs b o (good_back s (definition_words us) (value_words vs) g.1)))

good_specs : (s : List ℕ) (xs : List Spec) → Goods s (spec_words xs) → GoodChoices s (spec_choices xs)
unfolding spec_choices spec_words
good_specs s [] g = tt
good_specs s (x ∷ xs) g =
    good_append s (choices x.definitions) (spec_choices xs) (good_choices s x.definitions (good_front s (definition_words x.definitions) (spec_words xs) g.1))
    (good_specs s xs (good_back s (definition_words x.definitions) (spec_words xs) g.1))

choice_any : (s : List ℕ) (x : Choice) → Good s x.word → (l : List Choice) → GoodChoices s l
    → any_of (is_choice s x.list x.word.place x.word.length) l ≡ among x.word (list_of x.list l)
unfolding any_of is_choice among list_of word_if alike
choice_any s x g [] h = refl
choice_any s x g (y ∷ l) h =
    ap₂ either (ap (both (eqb y.list x.list)) (ap₂ same (sym h.0.read.bytes) (sym g.read.bytes) ∙ same_sym y.word.bytes x.word.bytes)) (choice_any s x g l h.1)
    ∙ by (eqb y.list x.list)
  where
    by : (b : Bool) → either (both b (same x.word.bytes y.word.bytes)) (among x.word (list_of x.list l)) ≡ among x.word (word_if b y.word ++ list_of x.list l)
    by true = refl
    by false = refl

pub enumerator_is : (s e : List ℕ) (j u at len : ℕ) (a b : MaybeFault) (z : Found) (r : MaybeFault) → u ≡ get_or e (j * 3 + 0) 0 → at ≡ get_or e (j * 3 + 1) 0 → len ≡ get_or e (j * 3 + 2) 0
    → a ≡ fault_if (eqb j 1024) 7 at → z ≡ find_named s e 3 j 0 u 1 at len 0 → b ≡ fault_if (is_found z) 8 at → r ≡ sooner a b → EnumeratorFault s e j r
unfolding choice_cells choice_faults word_faults
enumerator_is s e j u at len a b z r e₀ e₁ e₂ ha k hb hr f x st he q l =
    let c₀ : u ≡ x.list = e₀ ∙ choice_cell f e j 0 x he q l (omega arith) in
    let c₁ : at ≡ x.word.place = e₁ ∙ choice_cell f e j 1 x he q l (omega arith) in
    let c₂ : len ≡ x.word.length = e₂ ∙ choice_cell f e j 2 x he q l (omega arith) in
    let p = is_choice s x.list x.word.place x.word.length in
    let g = subst (GoodChoices s) q.whole (good_specs s f.specs (spec_good s f (whole st).good)) in
    let w = among x.word (list_of x.list q.front) in
    let v : is_found z ≡ w =
    ap is_found (k ∙ ap (λ y. find_named s e 3 j 0 y 1 at len 0) c₀ ∙ ap₂ (λ a b. find_named s e 3 j 0 x.list 1 a b 0) c₁ c₂
    ∙ find_in_enumerators f s e q.front (x ∷ q.rest) j x.list x.word.place x.word.length he q.whole (sym q.place) (omega arith))
    ∙ first_any p 0 q.front
    ∙ choice_any s x (choices_back s q.front (x ∷ q.rest) g).0 q.front (choices_front s q.front (x ∷ q.rest) g) in
    let t = both true (eqb (length q.front) 1024) in
    let W₇ = faults_if t x.word 7 in
    let W₈ = faults_if w x.word 8 in
    let g₇ : a ≡ fault_of (first W₇) = ha ∙ ap₂ (λ (i n : ℕ). fault_if (eqb i 1024) 7 n) (sym q.place) c₁ ∙ sym (fault_one t x.word 7) in
    let g₈ : b ≡ fault_of (first W₈) = hb ∙ ap₂ (λ (i : Bool) (n : ℕ). fault_if i 8 n) v c₁ ∙ sym (fault_one w x.word 8) in
    hr ∙ ap₂ sooner g₇ g₈ ∙ sym (fault_append W₇ W₈ (real_if t x.word 7 (omega arith)) (real_if w x.word 8 (omega arith)))

module _ (s e : List ℕ) where
  pub choices_start : EnumeratorsFault s e 0 None
  unfolding each first fault_of
  choices_start f [] rest st he w n l = refl
  choices_start f (x ∷ front) rest st he w n l = absurd (omega (arith, n))

  pub choices_more : (j : ℕ) (best x r : MaybeFault) → EnumeratorsFault s e j best → EnumeratorFault s e j x → r ≡ sooner best x → EnumeratorsFault s e (j + 1) r
  choices_more j best x r h k z f front rest st he w n l =
      let a = last_of front j (omega (arith, n)) in
      let v : spec_choices f.specs ≡ a.front ++ (a.last ∷ rest) = w ∙ ap (λ i. i ++ rest) a.whole ∙ append_assoc a.front (a.last ∷ []) rest in
      let b = h f a.front (a.last ∷ rest) st he v a.many (omega (arith, l)) in
      let c = k f a.last st he (record { front = a.front; rest = rest; whole = v; place = a.many }) (omega (arith, l)) in
      z ∙ ap₂ sooner b c
      ∙ sym (ap (λ i. fault_of (first (each choice_faults [] i))) a.whole ∙ ap (λ i. fault_of (first i)) (each_snoc choice_faults a.front a.last)
      ∙ fault_append (each choice_faults [] a.front) (choice_faults a.front a.last) (real_each choice_faults real_choice [] a.front) (real_choice a.front a.last))

  pub choices_end : (j n : ℕ) (best : MaybeFault) → j ≤ n → n ≤ j → EnumeratorsFault s e j best → EnumeratorsFault s e n best
  choices_end j n best h k r = let i : j ≡ n = omega (arith, h, k) in subst (λ (x : ℕ). EnumeratorsFault s e x best) i r

-- The stage ------------------------------------------------------------------------------------------------------------------------------------

pub version_is : (s : List ℕ) (at len : ℕ) (p q : List ℕ) (b : Bool) (r : MaybeFault) → p ≡ part_of s at len → q ≡ bytes_of "\"2.5\"" → b ≡ same p q → r ≡ fault_if (not b) 6 at → r ≡ version_code s at len
unfolding version_code
version_is s at len p q b r e f h k = k ∙ ap (λ (x : Bool). fault_if (not x) 6 at) (h ∙ ap₂ same e f)

-- Where the enumerator stands that is one too many.
pub too_many_is : (e : List ℕ) (m p : ℕ) → p ≡ get_or e (1024 * 3 + 1) 0 → then_some (ltb 1024 m) p ≡ one_too_many e m
unfolding one_too_many
too_many_is e m p q = by (ltb 1024 m)
  where
    by : (b : Bool) → then_some b p ≡ pick b (Some (get_or e (1024 * 3 + 1) 0)) None
    by true = ap (λ i. Some i) q
    by false = refl

is_there_one : (e : List ℕ) (m : ℕ) → is_some (one_too_many e m) ≡ ltb 1024 m
unfolding one_too_many
is_there_one e m = by (ltb 1024 m)
  where
    by : (b : Bool) → is_some (pick b (Some (get_or e (1024 * 3 + 1) 0)) None) ≡ b
    by true = refl
    by false = refl

stands_at : (e : List ℕ) (m : ℕ) → 1024 < m → unwrap_or (one_too_many e m) 0 ≡ get_or e (1024 * 3 + 1) 0
unfolding one_too_many
stands_at e m h = ap (λ b. unwrap_or (pick b (Some (get_or e (1024 * 3 + 1) 0)) None) 0) (lt-ltb 1024 m h)

pub stage_code : (s d e xe : List ℕ) (n m at len again kept lent half : ℕ) (top : Option ℕ) (rows : ℕ) (v a r c x y z : MaybeFault) → kept ≡ min m 1025
    → Fits kept lent half → Makes s e 3 lent 0 1 half xe → top ≡ one_too_many e m
    → rows ≡ min n 513 → v ≡ version_code s at len → a ≡ fault_if (not (eqb again 0)) 8 again
    → RowsFault s d e xe (is_some top) (unwrap_or top 0) rows r → Through (By s e 3 0 1 xe) kept (EnumeratorsFault s e kept c) → x ≡ sooner r c → y ≡ sooner a x → z ≡ sooner v y
    → DefinitionFaults s d e n m at len again z
unfolding Makes version_code choice_cells
stage_code s d e xe n m at len again kept lent half top rows v a r c x y z hk hf hi ht hw hv ha hr hc hs hy hz f st hd he hn hm h₁ h₂ hg =
    let e₀ = hf.index in
    let e₁ = hf.beside in
    let hx : Indexed s e 3 kept 0 1 xe = subst (λ (i : ℕ). Indexed s e 3 i 0 1 xe) (sym e₀) (hi (omega (arith, e₀, e₁))) in
    let E = spec_entries f.specs in
    let C = spec_choices f.specs in
    let room : Room f kept (is_some top) (unwrap_or top 0) = record {
      many = omega (arith, hk, hm);
      over = ap is_some ht ∙ is_there_one e m ∙ ap (ltb 1024) hm;
      edge = λ i q. ap (λ o. unwrap_or o 0) ht ∙ stands_at e m (let l = nth_low q in omega (arith, l, hm)) ∙ choice_cell f e 1024 1 i he q (omega arith) (omega arith);
    } in
    let p = split E rows (omega (arith, hw, hn)) in
    let q = split C kept (omega (arith, hk, hm)) in
    let pm = p.many in
    let qm = q.many in
    let g : v ≡ fault_if (not (same f.version.bytes (bytes_of "\"2.5\""))) 6 f.version.place =
    hv ∙ ap₂ (λ (i j : ℕ). fault_if (not (same (part_of s i j) (bytes_of "\"2.5\""))) 6 i) h₁ h₂
    ∙ ap (λ (i : List ℕ). fault_if (not (same i (bytes_of "\"2.5\""))) 6 f.version.place) (sym (whole st).version.bytes) in
    hz ∙ ap (sooner v) (hy ∙ ap (sooner a) hs)
    ∙ stage_is f kept (is_some top) (unwrap_or top 0) p.front p.rest q.front q.rest again v a r c st room p.whole (omega (arith, pm, hw, hn)) q.whole (omega (arith, qm, hk, hm)) hg g ha
    (hr f kept p.front p.rest st hd he hx room p.whole p.many (omega (arith, hw)))
    (hc.holds kept (record { index = hx }) (omega (arith, hk)) (omega arith) f q.front q.rest st he q.whole q.many (omega (arith, hk)))
