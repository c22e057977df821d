-- Where no stage has a fault, the resolved values of a scope are settled. Assumes nothing.
use mathlib.Core.Path.{◌≡◌, refl, sym, ◌∙◌, ap}
use mathlib.Core.List.{List, [], ◌∷◌, ◌++◌}
use mathlib.Core.Bool.{Bool, true, false, false≢true}
use mathlib.Core.Option.{Option, none, some}
use Prim.Native.Nat.{ℕ}
use Rattle.token.specs.Find.{pick, either}
use Rattle.meaning.specs.Syntax.{Word, Definition, Definitions, no_more, define, Values, no_value, value, Statements, done, state, Object, is_enum}
use Rattle.meaning.specs.Words.{choose, alike, among}
use Rattle.meaning.specs.Scopes.{sort_of, find_value, definitions_or, under, heads, names}
use Rattle.meaning.specs.Defining.{defined_in, default_faults, scope_faults, value_faults}
use Rattle.meaning.specs.Judging.{is_no_default, taken_by, taken, lacking, lacks, lacks_under, judge}
use Rattle.meaning.specs.Resolving.{Resolved, resolved, take_value, entries, default_entry, resolve, resolve_under}
use Rattle.meaning.proofs.Unders.{lacks_there}
use Rattle.reads_back.proofs.SameWords.{by_choose, among_first, among_behind, alike_bytes, bytes_alike, alike_turned, among_bytes}
use Rattle.reads_back.proofs.RestatingScopes.{Last, whole, behind, find_this, Settled, settled, none_of, one_of, More, again, no_more_of}
use Rattle.reads_back.proofs.RestatingPlain.{Plain, AllPlain, AllPlainUnder, plain_first, plain_inside, plain_rest, plain_under, plain_others}
use Rattle.reads_back.proofs.RestatingFaultless.{free_definition, free_value, free_lack, free_lacks, free_list, default_taking, free_statement, free_rest, again_list}

-- What is under a value of a list vs, by a function f of the value and the statements in its braces.
abbrev Inner : List Object → Values → (Word → Statements → Resolved) → Type 0
Inner os vs f = (t : Word) (ss : Statements) → lacks (under vs t) (names ss) ≡ false → judge ss os (under vs t) [] ≡ [] → Settled os [] (under vs t) (f t ss)

among_last : (u : Word) (l : List Word) (t : Word) → u.bytes ≡ t.bytes → among u (l ++ (t ∷ [])) ≡ true
unfolding among
among_last u l t e = among_behind u l (t ∷ []) (ap (λ b. either b false) (bytes_alike u t e))

-- Under the first of some values, or under another.
under_either : (us : Definitions) (vs : Values) (w : Word) (n : ℕ) (t : Word) (os : List Object) (ss : Statements)
    → (lacks us (names ss) ≡ false → judge ss os us [] ≡ [] → Settled os [] us (resolve us os ss))
    → (lacks (under vs t) (names ss) ≡ false → judge ss os (under vs t) [] ≡ [] → Settled os [] (under vs t) (resolve_under vs os t ss))
    → lacks (under (value w n us vs) t) (names ss) ≡ false → judge ss os (under (value w n us vs) t) [] ≡ []
    → Settled os [] (under (value w n us vs) t) (resolve_under (value w n us vs) os t ss)
unfolding resolve under definitions_or find_value choose
under_either us vs w n t os ss p q = go (alike w t)
  where
    in_it : Bool → Definitions
    in_it b = definitions_or (pick b (some (record { word = w; number = n; definitions = us })) (find_value vs t))

    go : (b : Bool) → lacks (in_it b) (names ss) ≡ false → judge ss os (in_it b) [] ≡ []
        → Settled os [] (in_it b) (choose b (λ _. resolve us os ss) (λ _. resolve_under vs os t ss))
    go true = p
    go false = q

-- The default that an attribute takes is its own.
taken_default : (o : Option Word) {t : Word} → taken o ≡ some t → o ≡ some t
unfolding taken taken_by
taken_default none e = e
taken_default (some u) {t} e = go (is_no_default (sort_of u.class)) e
  where
    go : (b : Bool) → taken_by b u ≡ some t → some u ≡ some t
    go true h = absurd (let z : ◌≡◌ {A = Bool} false true = cc in false≢true z)
    go false h = h

-- The entries of an attribute that is stated, where the values of the definitions behind it are `rest`.
module _ {os : List Object} {all : Definitions} {before : List Definition} {d : Definition} {vs : Values} {ds : Definitions} (f : Word → Statements → Resolved) (rest : Resolved)
    (z : Last all before (define d vs ds)) (n : defined_in d.name before ≡ false) (p : Plain d.type d.default vs) (inner : Inner os vs f)
    (s : Settled os (before ++ (d ∷ [])) ds rest) where
  more_entries : (ss : Statements) (l : List Word) → among d.name l ≡ true → judge ss os all l ≡ [] → More os before d vs ds (entries ss os d vs f rest)
  unfolding entries choose
  more_entries done l h e = no_more_of s
  more_entries (state x inside more) l h e =
      go (alike x.name d.name) refl (more_entries more (l ++ (x.name ∷ [])) (among_first d.name l (x.name ∷ []) h) (free_rest os x inside more all l e))
    where
      go : (b : Bool) → alike x.name d.name ≡ b → More os before d vs ds (entries more os d vs f rest)
          → More os before d vs ds (choose b (λ _. resolved (take_value true os d vs x.value) (f x.value inside) (entries more os d vs f rest)) (λ _. entries more os d vs f rest))
      go true q m =
          let i = alike_bytes x.name d.name q in
          let y = free_statement os x inside more all d vs l p (find_this x.name z n i) e in
          again (again_list d.list (among x.name l) y.again (among_bytes x.name d.name l i ∙ h))
          (record { stated = true; is = refl; origin = λ e. absurd (false≢true (sym e)); taking = y.taking })
          (inner x.value inside y.lacks_none y.judged_none) m
      go false q m = m

  some_entries : (ss : Statements) (l : List Word) → among d.name (names ss) ≡ true → judge ss os all l ≡ [] → Settled os before (define d vs ds) (entries ss os d vs f rest)
  unfolding entries choose names among
  some_entries done l h e = absurd (false≢true h)
  some_entries (state x inside more) l h e =
      go (alike x.name d.name) refl (λ i. some_entries more (l ++ (x.name ∷ [])) i (free_rest os x inside more all l e))
    where
      later : (b : Bool) → b ≡ false → either b (among d.name (names more)) ≡ true → among d.name (names more) ≡ true
      later true q i = absurd (false≢true (sym q))
      later false q i = i

      go : (b : Bool) → alike x.name d.name ≡ b → (among d.name (names more) ≡ true → Settled os before (define d vs ds) (entries more os d vs f rest))
          → Settled os before (define d vs ds) (choose b (λ _. resolved (take_value true os d vs x.value) (f x.value inside) (entries more os d vs f rest)) (λ _. entries more os d vs f rest))
      go true q k =
          let i = alike_bytes x.name d.name q in
          let y = free_statement os x inside more all d vs l p (find_this x.name z n i) e in
          one_of n (record { stated = true; is = refl; origin = λ e. absurd (false≢true (sym e)); taking = y.taking })
          (inner x.value inside y.lacks_none y.judged_none)
          (more_entries more (l ++ (x.name ∷ [])) (among_last d.name l x.name (sym i)) (free_rest os x inside more all l e))
      go false q k = k (later (alike d.name x.name) (alike_turned x.name d.name q) h)

  -- An attribute that is not stated.
  default_settled : default_faults d vs d.default ≡ [] → lacking (taken d.default) d.list (λ t. lacks_under vs t) ≡ false
      → Settled os before (define d vs ds) (default_entry (taken d.default) os d vs f rest)
  unfolding default_entry lacking names judge
  default_settled e h = go (taken d.default) refl h
    where
      go : (o : Option Word) → taken d.default ≡ o → lacking o d.list (λ t. lacks_under vs t) ≡ false → Settled os before (define d vs ds) (default_entry o os d vs f rest)
      go none q i = none_of n (free_list (taken d.default) d.list (λ t. lacks_under vs t) h q) q s
      go (some t) q i =
          one_of n (record { stated = false; is = refl; origin = λ _. taken_default d.default q; taking = default_taking os d vs t p e q })
          (inner t done (sym (lacks_there vs t) ∙ i) refl) (no_more_of s)

-- Scopes -----------------------------------------------------------------------------------------------------------------------------------

mutual
  unfolding resolve under definitions_or find_value choose

  -- The statements ss of a scope, of which ds are the last definitions, resolve to settled values.
  pub settle : {all : Definitions} (os : List Object) (ds : Definitions) (others before : List Definition) (ss : Statements) → Last all before ds → scope_faults ds others before ≡ []
      → AllPlain ds → lacks ds (names ss) ≡ false → judge ss os all [] ≡ [] → Settled os before ds (resolve ds os ss)
  settle os no_more others before ss z e p h j = settled
  settle os (define d vs ds) others before ss z e p h j =
      let y = free_definition d vs ds others before e in
      let f : Word → Statements → Resolved = λ t us. resolve_under vs os t us in
      let inner : Inner os vs f = λ t us i k. settle_under os vs (is_enum d.type) [] [] t us y.inside (plain_inside p) i k in
      let s = settle os ds others (before ++ (d ∷ [])) ss (behind z) y.rest (plain_rest p) (free_lacks d vs ds (names ss) h) j in
      by_choose (Settled os before (define d vs ds)) (among d.name (names ss)) _ _
      (λ i. some_entries f (resolve ds os ss) z y.name (plain_first p) inner s ss [] i j)
      (λ i. default_settled f (resolve ds os ss) z y.name (plain_first p) inner s y.default (free_lack d vs ds (names ss) h i))

  settle_under : (os : List Object) (vs : Values) (b : Bool) (before : List Word) (others : List Definition) (t : Word) (ss : Statements) → value_faults vs b before others ≡ []
      → AllPlainUnder vs → lacks (under vs t) (names ss) ≡ false → judge ss os (under vs t) [] ≡ [] → Settled os [] (under vs t) (resolve_under vs os t ss)
  settle_under os no_value b before others t ss e p h j = settled
  settle_under os (value w n us vs) b before others t ss e p h j =
      let y = free_value w n us vs b before others e in
      under_either us vs w n t os ss
      (λ i k. settle os us others [] ss whole y.0 (plain_under p) i k)
      (λ i k. settle_under os vs b (before ++ (w ∷ [])) (others ++ heads us) t ss y.1 (plain_others p) i k) h j
