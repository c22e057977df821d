-- What is asked for: the search's list of ways is what the two trees tell. Assumes nothing.
use mathlib.Core.Path.{◌≡◌, refl, ◌∙◌, ap, subst}
use mathlib.Core.List.{List, [], ◌∷◌, ◌++◌}
use mathlib.Core.Option.{Option, none, some}
use Rattle.grammar.specs.Grammar.{Kind}
use Rattle.grammar.proofs.Uniqueness.{none≢some}
use Rattle.meaning.specs.Syntax.{Word, Definition, Definitions, no_more, define, Values, no_value, value, Defined, Spec, File}
use Rattle.meaning.specs.Scopes.{Under, find_value, find_definition}
use Rattle.scopes.specs.Situations.{HasDefinition, this_definition, later_definition, HasValue, this_value, later_value, HasSpec, this_spec, later_spec}
use Rattle.standard.specs.Asking.{Step, Asked, asked_in, asked_under, asked, Scope, scope_of, into_value, into_list, into, and_then, along}
use Rattle.standard.specs.Conforming.{Asks, of_kind, under}
use Rattle.standard.proofs.Members.{Has, here, later, has_left, has_right, has_none, split_by, first_or}

-- Ways ---------------------------------------------------------------------------------------------------------------------------------------

some_is : {A : Type 0} {x y : A} → some x ≡ some y → x ≡ y
some_is e = cc

abbrev step : Word → Word → Step
step a w = record { attribute = a; value = w }

abbrev way : Kind → List Step → Defined → Asked
way k p x = record { kind = k; path = p; wanted = x }

abbrev scope : Under → Scope
scope z = record { word = z.word; definitions = z.definitions }

pub along_on : (x : Scope) (ps : List Step) (q : Step) {u v : Scope} → along x ps ≡ some u → into u q ≡ some v → along x (ps ++ (q ∷ [])) ≡ some v
unfolding along and_then
along_on x [] q {u} {v} e h = let d : x ≡ u = some_is e in ap (λ o. and_then o (λ y. some y)) (ap (λ y. into y q) d ∙ h)
along_on x (p ∷ ps) q {u} {v} e h = by (into x p) e (λ y k. along_on y ps q k h)
  where
    by : (o : Option Scope) → and_then o (λ y. along y ps) ≡ some u → ((y : Scope) → along y ps ≡ some u → along y (ps ++ (q ∷ [])) ≡ some v)
        → and_then o (λ y. along y (ps ++ (q ∷ []))) ≡ some v
    by none k ih = absurd (none≢some k)
    by (some y) k ih = ih y k

pub record Before (x : Scope) (ps : List Step) (q : Step) (v : Scope) : Type 0 where
  pub scope : Scope
  pub leads : along x ps ≡ some scope
  pub enters : into scope q ≡ some v

pub along_off : (x : Scope) (ps : List Step) (q : Step) {v : Scope} → along x (ps ++ (q ∷ [])) ≡ some v → Before x ps q v
unfolding along and_then
along_off x [] q {v} e = by (into x q) refl e
  where
    by : (o : Option Scope) → into x q ≡ o → and_then o (λ y. some y) ≡ some v → Before x [] q v
    by none g k = absurd (none≢some k)
    by (some y) g k = record { scope = x; leads = refl; enters = g ∙ k }
along_off x (p ∷ ps) q {v} e = by (into x p) refl e (λ y k. along_off y ps q k)
  where
    by : (o : Option Scope) → into x p ≡ o → and_then o (λ y. along y (ps ++ (q ∷ []))) ≡ some v → ((y : Scope) → along y (ps ++ (q ∷ [])) ≡ some v → Before y ps q v)
        → Before x (p ∷ ps) q v
    by none g k ih = absurd (none≢some k)
    by (some y) g k ih = let b = ih y k in record { scope = b.scope; leads = ap (λ o. and_then o (λ z. along z ps)) g ∙ b.leads; enters = b.enters }

pub into_is : (u : Scope) (n w : Word) {d : Defined} {z : Under} → find_definition u.definitions n ≡ some d → find_value d.values w ≡ some z
    → into u (step n w) ≡ some (scope z)
unfolding into into_list into_value
into_is u n w e q = ap (λ o. into_list o w) e ∙ ap into_value q

pub record Entered (u : Scope) (n w : Word) (v : Scope) : Type 0 where
  pub definition : Defined
  pub value : Under
  pub there : find_definition u.definitions n ≡ some definition
  pub listed : find_value definition.values w ≡ some value
  pub scope_is : record { word = value.word; definitions = value.definitions } ≡ v

pub into_off : (u : Scope) (n w : Word) {v : Scope} → into u (step n w) ≡ some v → Entered u n w v
unfolding into into_list into_value
into_off u n w {v} e = by (find_definition u.definitions n) refl e
  where
    of_list : (d : Defined) → find_definition u.definitions n ≡ some d → (o : Option Under) → find_value d.values w ≡ o → into_value o ≡ some v → Entered u n w v
    of_list d g none h k = absurd (none≢some k)
    of_list d g (some z) h k = record { definition = d; value = z; there = g; listed = h; scope_is = some_is k }

    by : (o : Option Defined) → find_definition u.definitions n ≡ o → into_list o w ≡ some v → Entered u n w v
    by none g k = absurd (none≢some k)
    by (some d) g k = of_list d g (find_value d.values w) refl k

-- All that the trees ask for is on the list ----------------------------------------------------------------------------------------------------

asked_here : (ds : Definitions) (k : Kind) (p : List Step) {x : Defined} → HasDefinition ds x → Has (way k p x) (asked_in ds k p)
unfolding asked_in
asked_here (define d vs ds) k p this_definition = has_right (asked_under vs k p d.name) here
asked_here (define d vs ds) k p (later_definition h) = has_right (asked_under vs k p d.name) (later (asked_here ds k p h))
asked_here no_more k p x3 = elim x3 [ ]

asked_value : (vs : Values) (k : Kind) (p : List Step) (n : Word) {v : Under} {y : Defined} → HasValue vs v → HasDefinition v.definitions y
    → Has (way k (p ++ (step n v.word ∷ [])) y) (asked_under vs k p n)
unfolding asked_in
asked_value (value w e us vs) k p n this_value j = has_left (asked_under vs k p n) (asked_here us k (p ++ (step n w ∷ [])) j)
asked_value (value w e us vs) k p n (later_value h) j = has_right (asked_in us k (p ++ (step n w ∷ []))) (asked_value vs k p n h j)
asked_value no_value k p n {v = v} {y = y} x'' j = elim x'' [ ]

abbrev below : Asked → Under → Defined → Asked
below a v y = way a.kind (a.path ++ (step a.wanted.definition.name v.word ∷ [])) y

at_itself : (d : Definition) (vs : Values) (ds : Definitions) (k : Kind) (p : List Step) (a : Asked) (v : Under) (y : Defined) → way k p (record { definition = d; values = vs }) ≡ a
    → HasValue a.wanted.values v → HasDefinition v.definitions y → Has (below a v y) (asked_in (define d vs ds) k p)
unfolding asked_in
at_itself d vs ds k p a v y e i j =
    subst (λ (b : Asked). HasValue b.wanted.values v → Has (below b v y) (asked_in (define d vs ds) k p)) e
    (λ l. has_left (way k p (record { definition = d; values = vs }) ∷ asked_in ds k p) (asked_value vs k p d.name l j)) i

mutual
  unfolding asked_in

  deep_in : (ds : Definitions) (k : Kind) (p : List Step) (a : Asked) (v : Under) (y : Defined) → Has a (asked_in ds k p) → HasValue a.wanted.values v
      → HasDefinition v.definitions y → Has (below a v y) (asked_in ds k p)
  deep_in no_more k p a v y h i j = absurd (has_none h refl)
  deep_in (define d vs ds) k p a v y h i j =
      let w = way k p (record { definition = d; values = vs }) in
      split_by (asked_under vs k p d.name) (w ∷ asked_in ds k p) h
      (λ m. has_left (w ∷ asked_in ds k p) (deep_under vs k p d.name a v y m i j))
      (λ m. first_or m
      (λ e. at_itself d vs ds k p a v y e i j)
      (λ n. has_right (asked_under vs k p d.name) (later (deep_in ds k p a v y n i j))))

  deep_under : (vs : Values) (k : Kind) (p : List Step) (n : Word) (a : Asked) (v : Under) (y : Defined) → Has a (asked_under vs k p n) → HasValue a.wanted.values v
      → HasDefinition v.definitions y → Has (below a v y) (asked_under vs k p n)
  deep_under no_value k p n a v y h i j = absurd (has_none h refl)
  deep_under (value w e us vs) k p n a v y h i j =
      split_by (asked_in us k (p ++ (step n w ∷ []))) (asked_under vs k p n) h
      (λ m. has_left (asked_under vs k p n) (deep_in us k (p ++ (step n w ∷ [])) a v y m i j))
      (λ m. has_right (asked_in us k (p ++ (step n w ∷ []))) (deep_under vs k p n a v y m i j))

asked_spec : (gs : List Spec) {g : Spec} {x : Defined} → HasSpec gs g → HasDefinition g.definitions x → Has (way g.kind [] x) (asked gs)
unfolding asked
asked_spec (g ∷ gs) this_spec i = has_left (asked gs) (asked_here g.definitions g.kind [] i)
asked_spec (g ∷ gs) (later_spec h) i = has_right (asked_in g.definitions g.kind []) (asked_spec gs h i)
asked_spec [] {g = g} x4 i = elim x4 [ ]

deep : (gs : List Spec) (a : Asked) (v : Under) (y : Defined) → Has a (asked gs) → HasValue a.wanted.values v → HasDefinition v.definitions y → Has (below a v y) (asked gs)
unfolding asked
deep [] a v y h i j = absurd (has_none h refl)
deep (g ∷ gs) a v y h i j =
    split_by (asked_in g.definitions g.kind []) (asked gs) h
    (λ m. has_left (asked gs) (deep_in g.definitions g.kind [] a v y m i j))
    (λ m. has_right (asked_in g.definitions g.kind []) (deep gs a v y m i j))

-- A way of the list that leads to the scope u, and asks there for x.
pub record Reached (gs : List Spec) (f : File) (x : Defined) (u : Scope) : Type 0 where
  pub kind : Kind
  pub path : List Step
  pub listed : Has (record { kind = kind; path = path; wanted = x }) (asked gs)
  pub leads : along (scope_of f kind) path ≡ some u

pub reached : {gs : List Spec} {f : File} {x : Defined} {u : Scope} → Asks gs f x u → Reached gs f x u
unfolding along
reached {gs} (of_kind {g = g} h i) = record { kind = g.kind; path = []; listed = asked_spec gs h i; leads = refl }
reached {gs} {f} (under {x = x} {y = y} {d = d} {u = u} {v = v} {z = z} a e i q j) =
    let r = reached a in
    record {
      kind = r.kind;
      path = r.path ++ (step x.definition.name v.word ∷ []);
      listed = deep gs (way r.kind r.path x) v y r.listed i j;
      leads = along_on (scope_of f r.kind) r.path (step x.definition.name v.word) r.leads (into_is u x.definition.name v.word e q);
    }

-- All that is on the list the trees ask for ----------------------------------------------------------------------------------------------------

module _ (gs : List Spec) (f : File) where
  -- Where the way p from the kind k leads, x is asked for.
  abbrev Due : Kind → List Step → Defined → Type 0
  Due k p x = (u : Scope) → along (scope_of f k) p ≡ some u → Asks gs f x u

  due_under : (k : Kind) (p : List Step) (x y : Defined) (v : Under) → HasValue x.values v → HasDefinition v.definitions y → Due k p x
      → Due k (p ++ (step x.definition.name v.word ∷ [])) y
  due_under k p x y v h j t u e =
      let b = along_off (scope_of f k) p (step x.definition.name v.word) e in
      let n = into_off b.scope x.definition.name v.word b.enters in
      subst (Asks gs f y) n.scope_is (under (t b.scope b.leads) n.there h n.listed j)

  mutual
    unfolding asked_in

    in_due : (ds : Definitions) (k : Kind) (p : List Step) (a : Asked) → ((x : Defined) → HasDefinition ds x → Due k p x) → Has a (asked_in ds k p) → Due a.kind a.path a.wanted
    in_due no_more k p a t h = absurd (has_none h refl)
    in_due (define d vs ds) k p a t h =
        let x : Defined = record { definition = d; values = vs } in
        split_by (asked_under vs k p d.name) (way k p x ∷ asked_in ds k p) h
        (λ m. under_due vs k p x a (t x this_definition) (λ v i. i) m)
        (λ m. first_or m
        (λ e. subst (λ (b : Asked). Due b.kind b.path b.wanted) e (t x this_definition))
        (λ n. in_due ds k p a (λ y i. t y (later_definition i)) n))

    under_due : (vs : Values) (k : Kind) (p : List Step) (x : Defined) (a : Asked) → Due k p x → ((v : Under) → HasValue vs v → HasValue x.values v)
        → Has a (asked_under vs k p x.definition.name) → Due a.kind a.path a.wanted
    under_due no_value k p x a t i h = absurd (has_none h refl)
    under_due (value w e us vs) k p x a t i h =
        let v : Under = record { word = w; number = e; definitions = us } in
        split_by (asked_in us k (p ++ (step x.definition.name w ∷ []))) (asked_under vs k p x.definition.name) h
        (λ m. in_due us k (p ++ (step x.definition.name w ∷ [])) a (λ y j. due_under k p x y v (i v this_value) j t) m)
        (λ m. under_due vs k p x a t (λ z j. i z (later_value j)) m)

  first_due : (g : Spec) (x : Defined) → HasSpec gs g → HasDefinition g.definitions x → Due g.kind [] x
  unfolding along
  first_due g x h i u e = subst (Asks gs f x) (some_is e) (of_kind h i)

  spec_due : (hs : List Spec) → ((g : Spec) → HasSpec hs g → HasSpec gs g) → (a : Asked) → Has a (asked hs) → Due a.kind a.path a.wanted
  unfolding asked
  spec_due [] t a h = absurd (has_none h refl)
  spec_due (g ∷ hs) t a h =
      split_by (asked_in g.definitions g.kind []) (asked hs) h
      (λ m. in_due g.definitions g.kind [] a (λ x i. first_due g x (t g this_spec) i) m)
      (λ m. spec_due hs (λ x i. t x (later_spec i)) a m)

  pub due : (a : Asked) → Has a (asked gs) → (u : Scope) → along (scope_of f a.kind) a.path ≡ some u → Asks gs f a.wanted u
  due a h u e = spec_due gs (λ g i. i) a h u e
