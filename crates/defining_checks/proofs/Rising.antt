-- Where the faults of rows lie: those of a row behind the names of the rows before it. Assumes nothing.
use mathlib.Core.Path.{◌≡◌, sym, ap, subst}
use mathlib.Core.List.{List, [], ◌∷◌, ◌++◌}
use mathlib.Core.Bool.{Bool, true, false, not}
use mathlib.Core.Option.{Option, none, some}
use mathlib.Core.Logic.{⊎_elim}
use Prim.Native.Nat.{ℕ, suc, ◌≤◌}
use native.Mathlib.Omega.{arith}
use lib.ListN.{length}
use lib.Dec.{eqb}
use Rattle.token.specs.Find.{both}
use Rattle.grammar.specs.Grammar.{Integer}
use Rattle.meaning.specs.Syntax.{Word, AttributeType, integer, string, boolean, enum, float, reference, Bounds, no_bounds, from_to, one_of, Definition, Definitions, no_more, define, Values, no_value, value, Spec, is_enum}
use Rattle.meaning.specs.Words.{num_at_most, in_type, among}
use Rattle.meaning.specs.Scopes.{sort_of, fits}
use Rattle.meaning.specs.Faults.{Fault, faults_if}
use Rattle.meaning.specs.Defining.{outside, bound_faults, low_faults, range_faults, default_wrong, default_number, default_faults, defined_in, differs, name_faults, word_faults}
use Rattle.meaning.proofs.Standing.{Run}
use Rattle.meaning.proofs.Sites.{bound_words, option_words, definition_words, value_words, spec_words}
use Rattle.layout.specs.Kept.{Entry, Choice, list_key, entries, entries_under, spec_entries, choice_if, choices, choices_of, spec_choices}
use Rattle.scopes.proofs.Forms.{Formed, an_integer, a_string, a_boolean, an_enum, a_float, a_reference, AllFormed, none_formed, more_formed, AllFormedUnder, none_under, more_under}
use Rattle.scopes.proofs.Forming.{FormedSpecs}
use Rattle.scopes.specs.Listing.{each}
use Rattle.defining_checks.specs.Listing.{others_for, under_of, row_name_faults, list_of, choice_faults}
use Rattle.defining_checks.proofs.Rowwise.{row_faults}
use Rattle.scopes.proofs.Firsts.{Has, has_none, has_split, in_if}
use Rattle.meaning.proofs.Runs.{run_le, cut, Cuts, cuts}

-- Where faults lie -----------------------------------------------------------------------------------------------------------------------------

-- At a word, if there is one.
pub if_at : {g : Fault} (b : Bool) (t : Word) (n : ℕ) → Has g (faults_if b t n) → (g.place ≡ t.place) × (g.number ≡ n)
if_at b t n m = let e = (in_if b t n m).1 in (sym (ap (λ (x : Fault). x.place) e), sym (ap (λ (x : Fault). x.number) e))

in_outside : {g : Fault} (i : Integer) (ts : List Word) (lo hi : ℕ) → Run lo ts hi → Has g (outside i ts) → lo ≤ g.place
unfolding outside
in_outside i [] lo hi r m = absurd (has_none m)
in_outside {g} i (t ∷ ts) lo hi r m =
    let a = r.0 in
    ⊎_elim (λ n. let e = (if_at (not (in_type i t.number)) t 21 n).0 in omega (arith, a, e))
    (λ n. let k = in_outside i ts (suc t.place) hi r.1 n in omega (arith, a, k))
    (has_split (faults_if (not (in_type i t.number)) t 21) (outside i ts) m)

in_bounds : {g : Fault} (i : Integer) (b : Bounds) (lo hi : ℕ) → Run lo (bound_words b) hi → Has g (bound_faults i b) → lo ≤ g.place
unfolding bound_faults bound_words
in_bounds i no_bounds lo hi r m = absurd (has_none m)
in_bounds {g} i (from_to a b) lo hi r m =
    let h = r.0 in
    ⊎_elim (λ n. let e = (if_at (not (num_at_most a.number b.number)) a 21 n).0 in omega (arith, h, e)) (λ n. in_outside i (a ∷ b ∷ []) lo hi r n)
    (has_split (faults_if (not (num_at_most a.number b.number)) a 21) (outside i (a ∷ b ∷ [])) m)
in_bounds i (one_of ts) lo hi r m = in_outside i ts lo hi r m

in_low : {g : Fault} (b : Bounds) (lo hi : ℕ) → Run lo (bound_words b) hi → Has g (low_faults b) → lo ≤ g.place
unfolding low_faults bound_words
in_low no_bounds lo hi r m = absurd (has_none m)
in_low {g} (from_to a b) lo hi r m = let h = r.0 in let e = (if_at (not (num_at_most a.float b.float)) a 21 m).0 in omega (arith, h, e)
in_low (one_of ts) lo hi r m = absurd (has_none m)

in_range : {g : Fault} (y : AttributeType) (b : Bounds) (lo hi : ℕ) → Run lo (bound_words b) hi → Has g (range_faults y b) → lo ≤ g.place
unfolding range_faults
in_range (integer i) b lo hi r m = in_bounds i b lo hi r m
in_range string b lo hi r m = absurd (has_none m)
in_range boolean b lo hi r m = absurd (has_none m)
in_range enum b lo hi r m = absurd (has_none m)
in_range float b lo hi r m = in_low b lo hi r m
in_range (reference k) b lo hi r m = absurd (has_none m)

in_name : {g : Fault} (d : Definition) (others before : List Definition) → Has g (name_faults d others before) → g.place ≡ d.name.place
unfolding name_faults
in_name {g} d others before m =
    ⊎_elim (λ n. (if_at (eqb d.row 512) d.name 7 n).0)
    (λ n. ⊎_elim (λ i. (if_at (defined_in d.name before) d.name 8 i).0) (λ i. (if_at (differs d others) d.name 9 i).0)
    (has_split (faults_if (defined_in d.name before) d.name 8) (faults_if (differs d others) d.name 9) n))
    (has_split (faults_if (eqb d.row 512) d.name 7) (faults_if (defined_in d.name before) d.name 8 ++ faults_if (differs d others) d.name 9) m)

pub in_default : {g : Fault} (d : Definition) (vs : Values) (o : Option Word) (lo hi : ℕ) → Run lo (option_words o) hi → Has g (default_faults d vs o) → lo ≤ g.place
unfolding default_faults option_words
in_default d vs none lo hi r m = absurd (has_none m)
in_default {g} d vs (some t) lo hi r m =
    let h = r.0 in
    let e = (if_at (default_wrong (sort_of t.class) (fits d vs t)) t (default_number (sort_of t.class)) m).0 in
    omega (arith, h, e)

-- The rows of definitions --------------------------------------------------------------------------------------------------------------------

-- The faults of a row lie at or behind p.
abbrev pub Behind : ℕ → Entry → Type 0
Behind p x = (before : List Entry) (g : Fault) → Has g (row_faults before x) → p ≤ g.place

-- The faults of each row, and its name, lie behind the names of the rows before it.
abbrev pub Rise : ℕ → List Entry → ℕ → Type 0
Rise lo [] hi = lo ≤ hi
Rise lo (x ∷ xs) hi = (Behind lo x × (lo ≤ x.definition.name.place)) × Rise (suc x.definition.name.place) xs hi

pub rise_from : (l : List Entry) (lo mid hi : ℕ) → lo ≤ mid → Rise mid l hi → Rise lo l hi
rise_from [] lo mid hi h r = omega arith
rise_from (x ∷ l) lo mid hi h r =
    let a = r.0.1 in
    (((λ before g m. let k = r.0.0 before g m in omega (arith, h, k)), omega (arith, h, a)), r.1)

rise_append : (a b : List Entry) (lo mid hi : ℕ) → Rise lo a mid → Rise mid b hi → Rise lo (a ++ b) hi
rise_append [] b lo mid hi r q = rise_from b lo mid hi r q
rise_append (x ∷ a) b lo mid hi r q = (r.0, rise_append a b (suc x.definition.name.place) mid hi r.1 q)

pub rise_back : (a : List Entry) (x : Entry) (b : List Entry) (lo hi : ℕ) → Rise lo (a ++ (x ∷ b)) hi → Rise (suc x.definition.name.place) b hi
rise_back [] x b lo hi r = r.1
rise_back (y ∷ a) x b lo hi r = rise_back a x b (suc y.definition.name.place) hi r.1

pub rise_each : {g : Fault} (l p : List Entry) (lo hi : ℕ) → Rise lo l hi → Has g (each row_faults p l) → lo ≤ g.place
unfolding each
rise_each [] p lo hi r m = absurd (has_none m)
rise_each {g} (x ∷ l) p lo hi r m =
    let a = r.0.1 in
    ⊎_elim (λ n. r.0.0 p g n) (λ n. let k = rise_each l (p ++ (x ∷ [])) (suc x.definition.name.place) hi r.1 n in omega (arith, a, k))
    (has_split (row_faults p x) (each row_faults (p ++ (x ∷ [])) l) m)

-- A row behind whose range no rows stand, or which has no faults there.
behind_row : (x : Entry) (lo b c : ℕ) → ((g : Fault) → Has g (range_faults x.definition.type x.definition.bounds) → lo ≤ g.place) → lo ≤ b
    → Run b (x.definition.name ∷ option_words x.definition.default) c → Behind lo x
unfolding row_faults row_name_faults
behind_row x lo b c f h r before g m =
    let d = x.definition in
    let a = r.0 in
    let nf = name_faults d (others_for x.outer x.under.place before) (under_of x.under.place before) in
    ⊎_elim (λ n. f g n)
    (λ n. ⊎_elim (λ i. let e = in_name d (others_for x.outer x.under.place before) (under_of x.under.place before) i in omega (arith, h, a, e))
    (λ i. let k = in_default d x.values d.default (suc d.name.place) c r.1 i in omega (arith, h, a, k))
    (has_split nf (default_faults d x.values d.default) n))
    (has_split (range_faults d.type d.bounds) (nf ++ default_faults d x.values d.default) m)

module _ (s : List ℕ) (u : Word) (o : ℕ) (d : Definition) (ds : Definitions) (E : List Entry) (lo hi : ℕ) where
  no_range : (vs : Values) (y : AttributeType) → d.type ≡ y → ((b : Bounds) (g : Fault) → Has g (range_faults y b) → ⊥) → (k : Cuts lo d vs ds hi)
      → Rise k.a (entries_under vs (list_key vs)) k.b → Rise k.c E hi → Rise lo (entries_under vs (list_key vs) ++ (record { under = u; outer = o; definition = d; values = vs } ∷ E)) hi
  no_range vs y e f k p q =
      let x : Entry = record { under = u; outer = o; definition = d; values = vs } in
      let a = k.low in
      let n = k.named.0 in
      let m = run_le (option_words d.default) k.named.1 in
      rise_append (entries_under vs (list_key vs)) (x ∷ E) lo k.b hi (rise_from (entries_under vs (list_key vs)) lo k.a k.b a p) (
        (behind_row x k.b k.b k.c (λ g h. absurd (f d.bounds g (subst (λ t. Has g (range_faults t d.bounds)) e h))) (omega arith) k.named, n),
        rise_from E (suc d.name.place) k.c hi (omega (arith, m)) q,
      )

  rise_definition : (vs : Values) → Formed s d vs → lo ≤ d.word.place → (k : Cuts lo d vs ds hi) → Rise k.a (entries_under vs (list_key vs)) k.b → Rise k.c E hi
      → Rise lo (entries_under vs (list_key vs) ++ (record { under = u; outer = o; definition = d; values = vs } ∷ E)) hi
  unfolding entries_under range_faults
  rise_definition vs (an_integer i e c r) h k p q =
      let x : Entry = record { under = u; outer = o; definition = d; values = no_value } in
      let a = k.low in
      let b = run_le (value_words no_value) k.values in
      let n = k.named.0 in
      let m = run_le (option_words d.default) k.named.1 in (
        (
          behind_row x lo k.b k.c (λ g m. let j = in_range d.type d.bounds (suc d.word.place) k.a k.bounds m in omega (arith, h, j)) (omega (arith, a, b)) k.named,
          omega (arith, a, b, n),
        ),
        rise_from E (suc d.name.place) k.c hi (omega (arith, m)) q,
      )
  rise_definition vs (a_float e c r) h k p q =
      let x : Entry = record { under = u; outer = o; definition = d; values = no_value } in
      let a = k.low in
      let b = run_le (value_words no_value) k.values in
      let n = k.named.0 in
      let m = run_le (option_words d.default) k.named.1 in (
        (
          behind_row x lo k.b k.c (λ g m. let j = in_range d.type d.bounds (suc d.word.place) k.a k.bounds m in omega (arith, h, j)) (omega (arith, a, b)) k.named,
          omega (arith, a, b, n),
        ),
        rise_from E (suc d.name.place) k.c hi (omega (arith, m)) q,
      )
  rise_definition vs (a_string e c r) h k p q = no_range vs string e (λ b g m. has_none m) k p q
  rise_definition vs (a_boolean e c r t) h k p q = no_range vs boolean e (λ b g m. has_none m) k p q
  rise_definition vs (an_enum e c r t) h k p q = no_range vs enum e (λ b g m. has_none m) k p q
  rise_definition vs (a_reference i e c r) h k p q = no_range vs (reference i) e (λ b g m. has_none m) k p q

mutual
  unfolding entries definition_words

  rise_in : (s : List ℕ) (ds : Definitions) (u : Word) (o lo hi : ℕ) → Run lo (definition_words ds) hi → AllFormed s ds → Rise lo (entries ds u o) hi
  rise_in s no_more u o lo hi r none_formed = r
  rise_in s (define d vs ds) u o lo hi r (more_formed h t p q) =
      let k = cuts d vs ds lo hi r in
      rise_definition s u o d ds (entries ds u o) lo hi vs h r.0 k (rise_under s vs (list_key vs) k.a k.b k.values p) (rise_in s ds u o k.c hi k.rest q)

  rise_under : (s : List ℕ) (vs : Values) (key lo hi : ℕ) → Run lo (value_words vs) hi → AllFormedUnder s vs → Rise lo (entries_under vs key) hi
  rise_under s no_value key lo hi r none_under = r
  rise_under s (value w e us vs) key lo hi r (more_under p q) =
      let i = r.0 in
      let k = cut (definition_words us) (value_words vs) (suc w.place) hi r.1 in
      rise_append (entries us w key) (entries_under vs key) lo k.mid hi
      (rise_from (entries us w key) lo (suc w.place) k.mid (omega arith) (rise_in s us w key (suc w.place) k.mid k.front p)) (rise_under s vs key k.mid hi k.back q)

pub rise_specs : (s : List ℕ) (xs : List Spec) (lo hi : ℕ) → Run lo (spec_words xs) hi → FormedSpecs s xs → Rise lo (spec_entries xs) hi
unfolding spec_entries spec_words
rise_specs s [] lo hi r t = r
rise_specs s (y ∷ ys) lo hi r t =
    let i = r.0 in
    let k = cut (definition_words y.definitions) (spec_words ys) (suc y.word.place) hi r.1 in
    rise_append (entries y.definitions y.word 0) (spec_entries ys) lo k.mid hi
    (rise_from (entries y.definitions y.word 0) lo (suc y.word.place) k.mid (omega arith)
    (rise_in s y.definitions y.word 0 (suc y.word.place) k.mid k.front t.0))
    (rise_specs s ys k.mid hi k.back t.1)

-- The rows of enumerators ----------------------------------------------------------------------------------------------------------------------

-- Their words are in order.
abbrev pub Ascend : ℕ → List Choice → ℕ → Type 0
Ascend lo [] hi = lo ≤ hi
Ascend lo (c ∷ cs) hi = (lo ≤ c.word.place) × Ascend (suc c.word.place) cs hi

pub ascend_le : (l : List Choice) (lo hi : ℕ) → Ascend lo l hi → lo ≤ hi
ascend_le [] lo hi r = r
ascend_le (c ∷ l) lo hi r = let a = r.0 in let b = ascend_le l (suc c.word.place) hi r.1 in omega (arith, a, b)

ascend_from : (l : List Choice) (lo mid hi : ℕ) → lo ≤ mid → Ascend mid l hi → Ascend lo l hi
ascend_from [] lo mid hi h r = omega arith
ascend_from (c ∷ l) lo mid hi h r = let a = r.0 in (omega (arith, h, a), r.1)

ascend_append : (a b : List Choice) (lo mid hi : ℕ) → Ascend lo a mid → Ascend mid b hi → Ascend lo (a ++ b) hi
ascend_append [] b lo mid hi r q = ascend_from b lo mid hi r q
ascend_append (c ∷ a) b lo mid hi r q = (r.0, ascend_append a b (suc c.word.place) mid hi r.1 q)

pub ascend_back : (a : List Choice) (c : Choice) (b : List Choice) (lo hi : ℕ) → Ascend lo (a ++ (c ∷ b)) hi → Ascend (suc c.word.place) b hi
ascend_back [] c b lo hi r = r.1
ascend_back (d ∷ a) c b lo hi r = ascend_back a c b (suc d.word.place) hi r.1

in_word : {g : Fault} (b : Bool) (e : ℕ) (w : Word) (before : List Word) → Has g (word_faults b e w before) → g.place ≡ w.place
unfolding word_faults
in_word b e w before m =
    ⊎_elim (λ n. (if_at (both b (eqb e 1024)) w 7 n).0) (λ n. (if_at (among w before) w 8 n).0) (has_split (faults_if (both b (eqb e 1024)) w 7) (faults_if (among w before) w 8) m)

pub ascend_each : {g : Fault} (l p : List Choice) (lo hi : ℕ) → Ascend lo l hi → Has g (each choice_faults p l) → lo ≤ g.place
unfolding each choice_faults
ascend_each [] p lo hi r m = absurd (has_none m)
ascend_each {g} (c ∷ l) p lo hi r m =
    let a = r.0 in
    ⊎_elim (λ n. let e = in_word true (length p) c.word (list_of c.list p) n in omega (arith, a, e))
    (λ n. let k = ascend_each l (p ++ (c ∷ [])) (suc c.word.place) hi r.1 n in omega (arith, a, k))
    (has_split (choice_faults p c) (each choice_faults (p ++ (c ∷ [])) l) m)

ascend_if : (b : Bool) (o : ℕ) (w : Word) (lo : ℕ) → lo ≤ w.place → Ascend lo (choice_if b o w) (suc w.place)
unfolding choice_if
ascend_if true o w lo h = (h, omega arith)
ascend_if false o w lo h = omega arith

mutual
  unfolding choices definition_words

  pub ascend_in : (ds : Definitions) (lo hi : ℕ) → Run lo (definition_words ds) hi → Ascend lo (choices ds) hi
  ascend_in no_more lo hi r = r
  ascend_in (define d vs ds) lo hi r =
      let k = cuts d vs ds lo hi r in
      let a = k.low in
      let b = k.next in
      let K = choices_of vs (is_enum d.type) (list_key vs) in
      ascend_append K (choices ds) lo k.b hi (ascend_from K lo k.a k.b a (ascend_of vs (is_enum d.type) (list_key vs) k.a k.b k.values))
      (ascend_from (choices ds) k.b k.c hi b (ascend_in ds k.c hi k.rest))

  pub ascend_of : (vs : Values) (b : Bool) (key lo hi : ℕ) → Run lo (value_words vs) hi → Ascend lo (choices_of vs b key) hi
  ascend_of no_value b key lo hi r = r
  ascend_of (value w e us vs) b key lo hi r =
      let k = cut (definition_words us) (value_words vs) (suc w.place) hi r.1 in
      ascend_append (choice_if b key w) (choices us ++ choices_of vs b key) lo (suc w.place) hi (ascend_if b key w lo r.0)
      (ascend_append (choices us) (choices_of vs b key) (suc w.place) k.mid hi (ascend_in us (suc w.place) k.mid k.front) (ascend_of vs b key k.mid hi k.back))

pub ascend_specs : (xs : List Spec) (lo hi : ℕ) → Run lo (spec_words xs) hi → Ascend lo (spec_choices xs) hi
unfolding spec_choices spec_words
ascend_specs [] lo hi r = r
ascend_specs (y ∷ ys) lo hi r =
    let i = r.0 in
    let k = cut (definition_words y.definitions) (spec_words ys) (suc y.word.place) hi r.1 in
    ascend_append (choices y.definitions) (spec_choices ys) lo k.mid hi
    (ascend_from (choices y.definitions) lo (suc y.word.place) k.mid (omega arith) (ascend_in y.definitions (suc y.word.place) k.mid k.front))
    (ascend_specs ys k.mid hi k.back)
