-- The laws of dropping: the verdict on a statement, and the marks after a statement, a block, all objects, by the rows. Assumes nothing.
use mathlib.Core.Path.{◌≡◌, refl, sym, ◌∙◌, ap, subst}
use mathlib.Core.List.{List, [], ◌∷◌, ◌++◌, append_assoc, append-nil}
use mathlib.Core.Bool.{Bool, true, false, not, false≢true}
use mathlib.Core.Option.{Option, none, some, none-ne-some}
use Prim.Native.Nat.{ℕ, suc, ◌+◌, ◌*◌, ◌≤◌, ◌<◌}
use native.Mathlib.Omega.{arith}
use lib.ListN.{length, length-append, get_or, set}
use Rattle.token.specs.Find.{pick, both}
use Rattle.token.proofs.Find.{by_test}
use Rattle.grammar.specs.Grammar.{Kind}
use Rattle.std.specs.Prelude.{Some, None, is_some, Ok, Err}
use Rattle.rows.specs.declared.Fault.{Fault}
use Rattle.rows.specs.Order.{MaybeFault}
use Rattle.rows.specs.Found.{Found}
use Rattle.std.specs.Prelude.{Some, None}
use Rattle.meaning.specs.Merging.{then}
use Rattle.meaning.specs.Syntax.{Word, AttributeType, integer, string, boolean, enum, float, reference, Definitions, Defined, Statement, Statements, done, state, Object, File, statements_in}
use Rattle.meaning.specs.Words.{among}
use Rattle.meaning.specs.Kinds.{kind_number}
use Rattle.meaning.specs.Faults.{first, faults_if, ahead, sooner, Fault as Refusal}
use Rattle.meaning.specs.Scopes.{Sort, a_number, a_string, a_truth, an_auto, a_no_default, a_name, a_float, sort_of, names, find_definition, under, of_kind}
use Rattle.meaning.specs.Judging.{reference_faults, brace_faults, faults_as, own_faults}
use Rattle.meaning.proofs.Entries.{then_assoc}
use Rattle.layout.specs.Kept.{statement_cells, statement_count, kind_place}
use Rattle.blocks.specs.Blocks.{BlockAt, row_after}
use Rattle.blocks.proofs.Ranges.{first_cell, first_after, inside_at, in_then, then_done, back_at}
use Rattle.scopes.specs.Situations.{ScopeAt}
use Rattle.scopes.specs.Given.{Given, Places}
use Rattle.scopes.specs.Promises.{fault_of, FindsDefinition, FindsWord}
use Rattle.scopes.specs.declared.Sizes.{Sizes}
use Rattle.scopes.proofs.Descents.{scope_of_kind}
use Rattle.scopes.proofs.Firsts.{none_there}
use Rattle.amounts.specs.Promises.{Notes}
use Rattle.lookups.specs.Names.{Named}
use Rattle.lookups.proofs.Attributes.{kept_object}
use Rattle.judging.specs.Names.{Blank}
use Rattle.judging.specs.Promises.{Again, ValueFault}
use Rattle.judging.proofs.Judgements.{row_nothing, row_found_as, own_at, looked_up, stated_as, value_scope}
use Rattle.dropping.specs.Drops.{Drop, drop_if, stated_again, or_inside, dropped, drops, drops_of, all_drops, scatter}
use Rattle.dropping.specs.Promises.{Prepared, number_of, verdict, scope_inside, VerdictOn, passes, faulty, Scoped, Verdicts, DropsOne, DropsBlock, DropsObject, DropsAll}
use Rattle.dropping.proofs.Scattering.{scatter_append}

-- The faults of a value are 15 and 18, above 14 ----------------------------------------------------------------------------------------------

data High : List Refusal → Type 0 where
  no_fault : High []
  a_fault : {f : Refusal} {fs : List Refusal} → 14 < f.number → High fs → High (f ∷ fs)

high_if : (b : Bool) (t : Word) (n : ℕ) → 14 < n → High (faults_if b t n)
unfolding faults_if
high_if true t n h = a_fault h no_fault
high_if false t n h = no_fault

high_append : {a b : List Refusal} → High a → High b → High (a ++ b)
high_append no_fault q = q
high_append (a_fault h p) q = a_fault h (high_append p q)

high_reference : (os : List Object) (k : Kind) (y : Sort) (t : Word) → High (reference_faults os k y t)
unfolding reference_faults
high_reference os k a_number t = high_if true t 15 (omega arith)
high_reference os k a_string t = high_if true t 15 (omega arith)
high_reference os k a_truth t = high_if true t 15 (omega arith)
high_reference os k an_auto t = high_if true t 15 (omega arith)
high_reference os k a_no_default t = high_if true t 15 (omega arith)
high_reference os k a_float t = high_if true t 15 (omega arith)
high_reference os k a_name t = high_if _ t 18 (omega arith)

high_brace : (o : Option Word) → High (brace_faults o)
unfolding brace_faults
high_brace none = no_fault
high_brace (some t) = high_if true t 15 (omega arith)

high_type : (y : AttributeType) (os : List Object) (x : Statement) (d : Defined) → High (faults_as y os x d)
unfolding faults_as
high_type (integer i) os x d = high_if _ x.value 15 (omega arith)
high_type string os x d = high_if _ x.value 15 (omega arith)
high_type boolean os x d = high_if _ x.value 15 (omega arith)
high_type enum os x d = high_if _ x.value 15 (omega arith)
high_type float os x d = high_if _ x.value 15 (omega arith)
high_type (reference k) os x d = high_append (high_reference os k (sort_of x.value.class) x.value) (high_brace x.brace)

abbrev HighOne : Option Refusal → Type 0
HighOne none = Unit {0}
HighOne (some f) = 14 < f.number

high_sooner : (f : Refusal) (o : Option Refusal) → 14 < f.number → HighOne o → HighOne (sooner (some f) o)
unfolding sooner
high_sooner f none h q = h
high_sooner f (some g) h q = by_test (λ (x : Refusal). 14 < x.number) (ahead f g) f g (λ _. h) (λ _. q)

high_one : (fs : List Refusal) → High fs → HighOne (first fs)
unfolding first
high_one [] no_fault = tt
high_one (f ∷ fs) (a_fault h p) = high_sooner f (first fs) h (high_one fs p)

sooner_number : (f : Refusal) (o : Option Refusal) (n : ℕ) → 14 < f.number → HighOne o → number_of (sooner (some f) o) ≡ some n → 14 < n
unfolding sooner number_of
sooner_number f none n h q e = let z : f.number ≡ n = cc in omega (arith, h, z)
sooner_number f (some g) n h q e =
    let z : (pick (ahead f g) f g).number ≡ n = cc in
    let k : 14 < (pick (ahead f g) f g).number = by_test (λ (x : Refusal). 14 < x.number) (ahead f g) f g (λ _. h) (λ _. q) in
    omega (arith, k, z)

high_number : (f : Refusal) (fs : List Refusal) (n : ℕ) → 14 < f.number → High fs → number_of (first (f ∷ fs)) ≡ some n → 14 < n
unfolding first
high_number f fs n h p e = sooner_number f (first fs) n h (high_one fs p) e

some_number : (f : Refusal) (o : Option Refusal) → number_of (sooner (some f) o) ≡ none → ⊥
unfolding sooner number_of
some_number f none e = none-ne-some _ (sym e)
some_number f (some g) e = none-ne-some _ (sym e)

first_number : (f : Refusal) (fs : List Refusal) → number_of (first (f ∷ fs)) ≡ none → ⊥
unfolding first
first_number f fs e = some_number f (first fs) e

-- The drops of one statement, by the verdict -------------------------------------------------------------------------------------------------

module _ (x : Statement) (us : Definitions) (k : Definitions → List Drop) where
  abbrev ruled : Bool → List Refusal → Option ℕ
  ruled b l = pick b (some 14) (number_of (first l))

  abbrev left_over : Bool → List Refusal → List Drop
  left_over b l = or_inside (faults_if b x.name 14 ++ l) b x us k

  sound_by : (b : Bool) (l : List Refusal) → ruled b l ≡ none → left_over b l ≡ k us
  unfolding or_inside faults_if
  sound_by true l h = absurd (none-ne-some _ (sym h))
  sound_by false [] h = refl
  sound_by false (f ∷ fs) h = absurd (first_number f fs h)

  drop_by : (b : Bool) (l : List Refusal) (n : ℕ) → High l → ruled b l ≡ some n → n ≤ 14 → left_over b l ≡ drop_if true x.name n
  unfolding or_inside faults_if first number_of
  drop_by true l n q e h = let z : 14 ≡ n = cc in ap (drop_if true x.name) z
  drop_by false [] n q e h = absurd (none-ne-some _ e)
  drop_by false (f ∷ fs) n (a_fault j q) e h = let m = high_number f fs n j q e in absurd (omega (arith, h, m))

  none_by : (b : Bool) (l : List Refusal) (n : ℕ) → ruled b l ≡ some n → 14 < n → left_over b l ≡ []
  unfolding or_inside faults_if drop_if first number_of
  none_by true l n e h = absurd (let z : 14 ≡ n = cc in omega (arith, h, z))
  none_by false [] n e h = absurd (none-ne-some _ e)
  none_by false (f ∷ fs) n e h = refl

  -- with nothing in the braces the value's faults do not matter
  alone_by : (b : Bool) (l : List Refusal) → ((u : Definitions) → k u ≡ []) → left_over b l ≡ drop_if b x.name 14
  unfolding or_inside faults_if drop_if
  alone_by true l h = refl
  alone_by false [] h = h us
  alone_by false (f ∷ fs) h = refl

module _ (os : List Object) (x : Statement) (before : List Word) (k : Definitions → List Drop) where
  alone : (d : Defined) → ((u : Definitions) → k u ≡ []) → dropped (some d) os x before k ≡ drop_if (stated_again d x before) x.name 14
  unfolding dropped own_faults stated_again
  alone d h = alone_by x (under d.values x.value) k (both (not d.definition.list) (among x.name before)) (faults_as d.definition.type os x d) h

  sound : (o : Option Defined) → verdict o os x before ≡ none → dropped o os x before k ≡ k (scope_inside o x)
  unfolding verdict dropped scope_inside own_faults stated_again
  sound none h = absurd (none-ne-some _ (sym h))
  sound (some d) h = sound_by x (under d.values x.value) k (both (not d.definition.list) (among x.name before)) (faults_as d.definition.type os x d) h

  at_fault : (o : Option Defined) (n : ℕ) → verdict o os x before ≡ some n → n ≤ 14 → dropped o os x before k ≡ drop_if true x.name n
  unfolding verdict dropped own_faults stated_again
  at_fault none n e h = let z : 13 ≡ n = cc in ap (drop_if true x.name) z
  at_fault (some d) n e h =
      drop_by x (under d.values x.value) k (both (not d.definition.list) (among x.name before)) (faults_as d.definition.type os x d) n
      (high_type d.definition.type os x d) e h

  stays : (o : Option Defined) (n : ℕ) → verdict o os x before ≡ some n → 14 < n → dropped o os x before k ≡ []
  unfolding verdict dropped own_faults stated_again
  stays none n e h = absurd (let z : 13 ≡ n = cc in omega (arith, h, z))
  stays (some d) n e h = none_by x (under d.values x.value) k (both (not d.definition.list) (among x.name before)) (faults_as d.definition.type os x d) n e h

-- The number of a fault that is told.
told_number : (o : Option Refusal) (g : Fault) → fault_of o ≡ Some g → number_of o ≡ some g.number
unfolding fault_of number_of
told_number none g e = absurd (false≢true (ap is_some e))
told_number (some x) g e = let z : record { number = x.number; place = x.place } ≡ g = cc in ap (λ (y : Fault). some y.number) z

-- The verdict --------------------------------------------------------------------------------------------------------------------------------

module _ (s d e o st : List ℕ) (z : Sizes) (key m k v name size : ℕ) (pn : name ≡ get_or st (k * 7 + 0) 0) (ps : size ≡ get_or st (k * 7 + 1) 0) where
  pub verdict_undefined : FindsDefinition s d z.definitions key name size None → Verdicts s d e o st z key m k v (Err 13)
  unfolding verdict
  verdict_undefined g f ds before x inside rest c b p =
      let a = own_at before b p in
      let h = row_nothing (find_definition ds x.name) (looked_up None pn ps c.given c.scope a g) in
      faulty (ap (λ t. verdict t f.objects x (names before)) h)

  pub verdict_again : (j : ℕ) (r : Bool) → FindsDefinition s d z.definitions key name size (Some j) → Again s d e o st z m k v j r → r ≡ true
      → Verdicts s d e o st z key m k v (Err 14)
  unfolding verdict stated_again stated_as
  verdict_again j r g w h f ds before x inside rest c b p =
      let a = own_at before b p in
      let y = row_found_as (find_definition ds x.name) j (looked_up (Some j) pn ps c.given c.scope a g) in
      let i = w f x y.defined before (stated_as j y.defined c.given c.scope a y.is y.row) b p in
      let n = number_of (first (faults_as y.defined.definition.type f.objects x y.defined)) in
      faulty (ap (λ t. verdict t f.objects x (names before)) y.is ∙ ap (λ q. pick q (some 14) n) (sym i ∙ h))

  module _ (j at len u : ℕ) (r : Bool) (g : MaybeFault) (p : FindsDefinition s d z.definitions key name size (Some j)) (w : Again s d e o st z m k v j r) (h : r ≡ false)
      (pa : at ≡ get_or st (k * 7 + 2) 0) (pl : len ≡ get_or st (k * 7 + 3) 0) (i : FindsWord s d e z.enumerators j at len u) (l : ValueFault s d e o st z k j g) where
    pub verdict_value : (q : Fault) → g ≡ Some q → Verdicts s d e o st z key m k v (Err q.number)
    unfolding verdict stated_again stated_as
    verdict_value q n f ds before x inside rest c b t =
        let a = own_at before b t in
        let y = row_found_as (find_definition ds x.name) j (looked_up (Some j) pn ps c.given c.scope a p) in
        let sa = stated_as j y.defined c.given c.scope a y.is y.row in
        let again = w f x y.defined before sa b t in
        let o' = first (faults_as y.defined.definition.type f.objects x y.defined) in
        faulty (ap (λ t. verdict t f.objects x (names before)) y.is ∙ ap (λ q. pick q (some 14) (number_of o')) (sym again ∙ h) ∙ told_number o' q (sym (l f x y.defined sa) ∙ n))

    pub verdict_none : g ≡ None → Verdicts s d e o st z key m k v (Ok u)
    unfolding verdict scope_inside stated_again stated_as number_of
    verdict_none n f ds before x inside rest c b t =
        let a = own_at before b t in
        let y = row_found_as (find_definition ds x.name) j (looked_up (Some j) pn ps c.given c.scope a p) in
        let sa = stated_as j y.defined c.given c.scope a y.is y.row in
        let again = w f x y.defined before sa b t in
        let o' = first (faults_as y.defined.definition.type f.objects x y.defined) in
        passes
        (ap (λ t. verdict t f.objects x (names before)) y.is ∙ ap (λ q. pick q (some 14) (number_of o')) (sym again ∙ h) ∙ ap number_of (none_there o' (sym (l f x y.defined sa) ∙ n)))
        (subst (λ t. ScopeAt f u (scope_inside t x)) (sym y.is) (value_scope sa at len u pa pl i))

-- A statement with nothing in its braces -----------------------------------------------------------------------------------------------------

no_rows : (ss : Statements) → statements_in ss ≡ 0 → (os : List Object) (us : Definitions) → drops ss os us [] ≡ []
unfolding drops statements_in
no_rows done h os us = refl
no_rows (state x inside rest) h os us = absurd (omega (arith, h))

module _ (s d e o st : List ℕ) (z : Sizes) (key m k v name size : ℕ) (pn : name ≡ get_or st (k * 7 + 0) 0) (ps : size ≡ get_or st (k * 7 + 1) 0) (l l' : List ℕ) where
  pub alone_undefined : FindsDefinition s d z.definitions key name size None → l' ≡ set l name 13 → DropsOne s d e o st z key m k (k + 1) v l l'
  unfolding scatter dropped drop_if statement_cells
  alone_undefined g w f ds before x inside rest c b p q =
      let a = own_at before b p in
      let h = row_nothing (find_definition ds x.name) (looked_up None pn ps c.given c.scope a g) in
      let at : name ≡ x.name.place = pn ∙ first_cell a 0 (omega arith) in
      w
      ∙ ap (λ u. set l u 13) at
      ∙ sym (ap (λ t. scatter l (dropped t f.objects x (names before) (λ us. drops inside f.objects us []))) h)

  module _ (j : ℕ) (r : Bool) (g : FindsDefinition s d z.definitions key name size (Some j)) (w : Again s d e o st z m k v j r) where
    by_again : (f : File) (ds : Definitions) (before : Statements) (x : Statement) (inside rest : Statements) → Scoped s d e o st z key f ds
        → BlockAt s st m v (then before (state x inside rest)) → k ≡ m + statements_in before → k + 1 ≡ suc k + statements_in inside
        → dropped (find_definition ds x.name) f.objects x (names before) (λ us. drops inside f.objects us []) ≡ drop_if r x.name 14
    unfolding stated_again stated_as
    by_again f ds before x inside rest c b p q =
        let a = own_at before b p in
        let y = row_found_as (find_definition ds x.name) j (looked_up (Some j) pn ps c.given c.scope a g) in
        let i = w f x y.defined before (stated_as j y.defined c.given c.scope a y.is y.row) b p in
        let none : statements_in inside ≡ 0 = omega arith in
        let K : Definitions → List Drop = λ us. drops inside f.objects us [] in
        ap (λ t. dropped t f.objects x (names before) K) y.is
        ∙ alone f.objects x (names before) K y.defined (no_rows inside none f.objects)
        ∙ ap (λ (t : Bool). drop_if t x.name 14) (sym i)

    pub alone_again : r ≡ true → l' ≡ set l name 14 → DropsOne s d e o st z key m k (k + 1) v l l'
    unfolding scatter drop_if statement_cells
    alone_again h t f ds before x inside rest c b p q =
        let at : name ≡ x.name.place = pn ∙ first_cell (own_at before b p) 0 (omega arith) in
        t
        ∙ ap (λ u. set l u 14) at
        ∙ ap (λ (y : Bool). scatter l (drop_if y x.name 14)) (sym h)
        ∙ ap (scatter l) (sym (by_again f ds before x inside rest c b p q))

    pub alone_kept : r ≡ false → l' ≡ l → DropsOne s d e o st z key m k (k + 1) v l l'
    unfolding scatter drop_if
    alone_kept h t f ds before x inside rest c b p q =
        t ∙ ap (λ (y : Bool). scatter l (drop_if y x.name 14)) (sym h) ∙ ap (scatter l) (sym (by_again f ds before x inside rest c b p q))

pub one_alone : (s d e o st : List ℕ) (z : Sizes) (key m k n v : ℕ) (l l' : List ℕ) → n ≡ k + 1 → DropsOne s d e o st z key m k (k + 1) v l l'
    → DropsOne s d e o st z key m k n v l l'
one_alone s d e o st z key m k n v l l' p w = subst (λ a. DropsOne s d e o st z key m k a v l l') (sym p) w

-- One statement ------------------------------------------------------------------------------------------------------------------------------

module _ (s d e o st : List ℕ) (z : Sizes) (key m k n v : ℕ) where
  pub one_inside : (u : ℕ) → Verdicts s d e o st z key m k v (Ok u) → (l l' : List ℕ) → DropsBlock s d e o st z u (k + 1) n l l' → DropsOne s d e o st z key m k n v l l'
  one_inside u w l l' g f ds before x inside rest c b p q = by (w f ds before x inside rest c b p)
    where
      K : Definitions → List Drop
      K us = drops inside f.objects us []

      by : VerdictOn f (find_definition ds x.name) x (names before) (Ok u) → l' ≡ scatter l (dropped (find_definition ds x.name) f.objects x (names before) K)
      by (passes h r) =
          let a = own_at before b p in
          let t = find_definition ds x.name in
          let k₁ : suc k ≡ k + 1 = omega arith in
          let bi : BlockAt s st (k + 1) n inside = subst (λ u. BlockAt s st u n inside) k₁ (subst (λ u. BlockAt s st (suc k) u inside) (sym q) (inside_at a)) in
          g f (scope_inside t x) inside (record { given = c.given; scope = r }) bi ∙ ap (scatter l) (sym (sound f.objects x (names before) K t h))

  module _ (r : ℕ) (w : Verdicts s d e o st z key m k v (Err r)) where
    told : {f : File} {o : Option Defined} {x : Statement} {before : List Word} → VerdictOn f o x before (Err r) → verdict o f.objects x before ≡ some r
    told (faulty e) = e

    pub one_kept : (l : List ℕ) → 14 < r → DropsOne s d e o st z key m k n v l l
    unfolding scatter
    one_kept l h f ds before x inside rest c b p q =
        let t = find_definition ds x.name in
        ap (scatter l) (sym (stays f.objects x (names before) (λ us. drops inside f.objects us []) t r (told (w f ds before x inside rest c b p)) h))

    pub one_marked : (l l' : List ℕ) (name : ℕ) → name ≡ get_or st (k * 7 + 0) 0 → r ≤ 14 → l' ≡ set l name r → DropsOne s d e o st z key m k n v l l'
    unfolding scatter drop_if statement_cells
    one_marked l l' name pn h g f ds before x inside rest c b p q =
        let a = own_at before b p in
        let t = find_definition ds x.name in
        let at : name ≡ x.name.place = pn ∙ first_cell a 0 (omega arith) in
        g
        ∙ ap (λ u. set l u r) at
        ∙ ap (scatter l) (sym (at_fault f.objects x (names before) (λ us. drops inside f.objects us []) t r (told (w f ds before x inside rest c b p)) h))

-- A block ------------------------------------------------------------------------------------------------------------------------------------

-- An empty one.
pub block_empty : (s d e o st : List ℕ) (z : Sizes) (key m n : ℕ) (l : List ℕ) → n ≤ m → DropsBlock s d e o st z key m n l l
unfolding statements_in drops scatter
block_empty s d e o st z key m n l h f ds done c t = refl
block_empty s d e o st z key m n l h f ds (state x inside rest) c t = let q = t.after in absurd (omega arith)

-- The loop over a block's own statements: the drops of those in front are put into the marks l₀.
pub record Gone (m k : ℕ) (f : File) (ds : Definitions) (ss : Statements) (l₀ l : List ℕ) : Type 0 where
  pub front : Statements
  pub rest : Statements
  pub whole : ss ≡ then front rest
  pub row : k ≡ m + statements_in front
  pub marks : l ≡ scatter l₀ (drops front f.objects ds [])

abbrev pub Dropping : (s d e o st : List ℕ) → Sizes → (key m n k : ℕ) → (l₀ l : List ℕ) → Type 0
Dropping s d e o st z key m n k l₀ l =
    (f : File) (ds : Definitions) (ss : Statements) → Scoped s d e o st z key f ds → BlockAt s st m n ss → Gone m k f ds ss l₀ l

drops_then : (a b : Statements) (os : List Object) (ds : Definitions) (ns : List Word) → drops (then a b) os ds ns ≡ drops a os ds ns ++ drops b os ds (ns ++ names a)
unfolding then drops names
drops_then done b os ds ns = ap (drops b os ds) (sym (append-nil ns))
drops_then (state x inside rest) b os ds ns =
    let l = dropped (find_definition ds x.name) os x ns (λ us. drops inside os us []) in
    ap (λ r. l ++ r) (drops_then rest b os ds (ns ++ (x.name ∷ [])))
    ∙ ap (λ r. l ++ (drops rest os ds (ns ++ (x.name ∷ [])) ++ drops b os ds r)) (append_assoc ns (x.name ∷ []) (names rest))
    ∙ sym (append_assoc l (drops rest os ds (ns ++ (x.name ∷ []))) (drops b os ds (ns ++ (x.name ∷ names rest))))

module _ (s d e o st : List ℕ) (z : Sizes) (key m n : ℕ) where
  pub dropping_start : (l : List ℕ) → Dropping s d e o st z key m n m l l
  unfolding then statements_in drops scatter
  dropping_start l f ds ss c b = record { front = done; rest = ss; whole = refl; row = omega arith; marks = refl }

  dropping_more : (k : ℕ) (l₀ l l' : List ℕ) → k < n → DropsOne s d e o st z key m k (row_after st k n) n l l' → Dropping s d e o st z key m n k l₀ l
      → Dropping s d e o st z key m n (row_after st k n) l₀ l'
  unfolding then statements_in drops
  dropping_more k l₀ l l' h w i f ds ss c b = go (i f ds ss c b).front (i f ds ss c b).rest (i f ds ss c b).whole (i f ds ss c b).row (i f ds ss c b).marks
    where
      go : (front rest : Statements) → ss ≡ then front rest → k ≡ m + statements_in front → l ≡ scatter l₀ (drops front f.objects ds [])
          → Gone m (row_after st k n) f ds ss l₀ l'
      go front done p q t =
          let u = b.after in
          let u' = ap statements_in p in
          let u'' = in_then front done in
          absurd (omega arith)
      go front (state x inside rest) p q t =
          let b' : BlockAt s st m n (then front (state x inside rest)) = subst (BlockAt s st m n) p b in
          let bb : BlockAt s st k n (state x inside rest) = subst (λ u. BlockAt s st u n (state x inside rest)) (sym q) (back_at front (state x inside rest) b') in
          let a = first_after bb in
          let v = w f ds front x inside rest c b' q a in
          let j = dropped (find_definition ds x.name) f.objects x (names front) (λ us. drops inside f.objects us []) in
          let one : drops (state x inside done) f.objects ds (names front) ≡ j = append-nil j in
          let u = in_then front (state x inside done) in
          record {
            front = then front (state x inside done);
            rest = rest;
            whole = p ∙ sym (then_assoc front (state x inside done) rest);
            row = omega arith;
            marks = v
                ∙ ap (λ r. scatter r j) t
                ∙ sym (scatter_append l₀ (drops front f.objects ds []) j)
                ∙ ap (λ r. scatter l₀ (drops front f.objects ds [] ++ r)) (sym one)
                ∙ ap (scatter l₀) (sym (drops_then front (state x inside done) f.objects ds []));
          }

  pub dropping_step : (k next : ℕ) (l₀ l l' : List ℕ) → next ≡ row_after st k n → k < n → DropsOne s d e o st z key m k next n l l'
      → Dropping s d e o st z key m n k l₀ l → Dropping s d e o st z key m n next l₀ l'
  dropping_step k next l₀ l l' p h w i =
      subst (λ a. Dropping s d e o st z key m n a l₀ l') (sym p)
      (dropping_more k l₀ l l' h (subst (λ a. DropsOne s d e o st z key m k a n l l') p w) i)

  pub dropping_end : (k : ℕ) (l₀ l : List ℕ) → n ≤ k → Dropping s d e o st z key m n k l₀ l → DropsBlock s d e o st z key m n l₀ l
  unfolding statements_in
  dropping_end k l₀ l h i f ds ss c b = go (i f ds ss c b).front (i f ds ss c b).rest (i f ds ss c b).whole (i f ds ss c b).row (i f ds ss c b).marks
    where
      go : (front rest : Statements) → ss ≡ then front rest → k ≡ m + statements_in front → l ≡ scatter l₀ (drops front f.objects ds [])
          → l ≡ scatter l₀ (drops ss f.objects ds [])
      go front done p q t = t ∙ ap (λ r. scatter l₀ (drops r f.objects ds [])) (sym (p ∙ then_done front))
      go front (state x inside rest) p q t =
          let u = b.after in
          let u' = ap statements_in p in
          let u'' = in_then front (state x inside rest) in
          absurd (omega arith)

-- All objects --------------------------------------------------------------------------------------------------------------------------------

pub object_by : (s d e o st : List ℕ) (z : Sizes) (ps : List ℕ) (i kind key m n : ℕ) (l l' : List ℕ)
    → kind ≡ get_or o (i * 10 + 0) 0 → key ≡ get_or ps kind 0 → m ≡ get_or o (i * 10 + 8) 0 → n ≡ get_or o (i * 10 + 9) 0
    → DropsBlock s d e o st z key m n l l' → DropsObject s d e o st z ps i l l'
object_by s d e o st z ps i kind key m n l l' pk py pm pn g f front x rest c pl w q =
    let R = kept_object front x rest c w q in
    let kind_is : kind ≡ kind_number x.kind = pk ∙ R.kind in
    let key_is : key ≡ kind_place (kind_number x.kind) f.specs = py ∙ ap (λ a. get_or ps a 0) kind_is ∙ pl.place x.kind in
    let m-is : m ≡ statement_count front = pm ∙ R.from in
    let n_is : n ≡ statement_count front + statements_in x.statements = pn ∙ R.till in
    g f (of_kind x.kind f.specs) x.statements
    (record { given = c; scope = subst (λ a. ScopeAt f a (of_kind x.kind f.specs)) (sym key_is) (scope_of_kind f x.kind) })
    (subst (λ a. BlockAt s st a n x.statements) (sym m-is) (subst (λ a. BlockAt s st (statement_count front) a x.statements) (sym n_is) R.block))

objects_append : (f : File) (a : List Object) (x : Object)
    → drops_of f (a ++ (x ∷ [])) ≡ drops_of f a ++ drops x.statements f.objects (of_kind x.kind f.specs) []
unfolding drops_of
objects_append f [] x = append-nil (drops x.statements f.objects (of_kind x.kind f.specs) [])
objects_append f (y ∷ a) x =
    let l = drops y.statements f.objects (of_kind y.kind f.specs) [] in
    ap (λ r. l ++ r) (objects_append f a x) ∙ sym (append_assoc l (drops_of f a) (drops x.statements f.objects (of_kind x.kind f.specs) []))

-- The loop over the objects: the drops of those in front are put into the marks l₀.
pub record GoneObjects (i : ℕ) (f : File) (l₀ l : List ℕ) : Type 0 where
  pub front : List Object
  pub rest : List Object
  pub whole : f.objects ≡ front ++ rest
  pub row : length front ≡ i
  pub marks : l ≡ scatter l₀ (drops_of f front)

abbrev pub DroppingObjects : (s d e o st : List ℕ) → Sizes → (ps : List ℕ) → ℕ → (l₀ l : List ℕ) → Type 0
DroppingObjects s d e o st z ps i l₀ l = (f : File) → Given s d e o st z f → Places f ps → GoneObjects i f l₀ l

module _ (s d e o st : List ℕ) (z : Sizes) (ps : List ℕ) where
  pub objects_start : (l : List ℕ) → DroppingObjects s d e o st z ps 0 l l
  unfolding drops_of scatter
  objects_start l f c pl = record { front = []; rest = f.objects; whole = refl; row = refl; marks = refl }

  pub objects_more : (i : ℕ) (l₀ l l' : List ℕ) → i < z.objects → DropsObject s d e o st z ps i l l' → DroppingObjects s d e o st z ps i l₀ l
      → DroppingObjects s d e o st z ps (i + 1) l₀ l'
  objects_more i l₀ l l' h w v f c pl = go (v f c pl).front (v f c pl).rest (v f c pl).whole (v f c pl).row (v f c pl).marks
    where
      go : (front rest : List Object) → f.objects ≡ front ++ rest → length front ≡ i → l ≡ scatter l₀ (drops_of f front) → GoneObjects (i + 1) f l₀ l'
      go front [] p q t =
          let u = c.tables.objects in
          let u' = ap (λ (a : List Object). length a) (p ∙ append-nil front) in
          absurd (omega arith)
      go front (x ∷ rest) p q t =
          let j = drops x.statements f.objects (of_kind x.kind f.specs) [] in
          let u = length-append front (x ∷ []) in
          record {
            front = front ++ (x ∷ []);
            rest = rest;
            whole = p ∙ sym (append_assoc front (x ∷ []) rest);
            row = omega arith;
            marks = w f front x rest c pl p q
                ∙ ap (λ r. scatter r j) t
                ∙ sym (scatter_append l₀ (drops_of f front) j)
                ∙ ap (scatter l₀) (sym (objects_append f front x));
          }

  pub objects_end : (i : ℕ) (l₀ l : List ℕ) → z.objects ≤ i → DroppingObjects s d e o st z ps i l₀ l → DropsAll s d e o st z ps l₀ l
  unfolding all_drops
  objects_end i l₀ l h v f c pl = go (v f c pl).front (v f c pl).rest (v f c pl).whole (v f c pl).row (v f c pl).marks
    where
      go : (front rest : List Object) → f.objects ≡ front ++ rest → length front ≡ i → l ≡ scatter l₀ (drops_of f front) → l ≡ scatter l₀ (drops_of f f.objects)
      go front [] p q t = t ∙ ap (λ r. scatter l₀ (drops_of f r)) (sym (p ∙ append-nil front))
      go front (x ∷ rest) p q t =
          let u = c.tables.objects in
          let u' = ap (λ (a : List Object). length a) p in
          let u'' = length-append front (x ∷ rest) in
          absurd (omega arith)

-- The ranges are noted.
pub prepared_by : (s d e o st : List ℕ) (z : Sizes) (x k₀ k : List ℕ) → Named s d e o st z x → Blank k₀ → Notes s d k₀ k → Prepared s d e o st z x k
prepared_by s d e o st z x k₀ k n b t = record { known = t (length k₀) b.room b.blank; named = n }
