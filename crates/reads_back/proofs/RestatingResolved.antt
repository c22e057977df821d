-- The statements of a scope's resolved values resolve to the same values. Assumes nothing.
use mathlib.Core.Path.{◌≡◌, refl, sym, ◌∙◌, ap, ap₂, subst}
use mathlib.Core.List.{List, [], ◌∷◌, ◌++◌}
use mathlib.Core.Bool.{Bool, true, false, false≢true}
use mathlib.Core.Option.{none}
use Prim.Native.Nat.{ℕ, suc, ◌+◌}
use Rattle.meaning.proofs.Entries.{then_assoc}
use Rattle.meaning.specs.Merging.{then}
use Rattle.token.specs.Find.{either}
use Rattle.token.proofs.Bytes.{neither_first, neither_second, not_true}
use Rattle.meaning.specs.Syntax.{Word, Definition, Definitions, define, Values, value, Statement, Statements, done, state, Object}
use Rattle.meaning.specs.Words.{choose, alike, among}
use Rattle.meaning.specs.Scopes.{sort_of, under, names}
use Rattle.meaning.specs.Defining.{defined_in}
use Rattle.meaning.specs.Judging.{taken}
use Rattle.meaning.specs.Resolving.{Value, number, truth, auto, string, float, enumerator, object, Taken, Resolved, resolved, valued, take_value, entries, default_entry, resolve, resolve_under, how_many_values}
use Rattle.meaning.specs.Normal.{written}
use Rattle.meaning.proofs.Unplaced.{unplaced_word}
use Rattle.meaning.proofs.Unders.{resolves_under}
use Rattle.reads_back.proofs.Restated.{restated_word, restated, brace_after}
use Rattle.reads_back.proofs.SameWords.{neither, alike_bytes, bytes_alike, alike_turned, among_append, defined_append, defined_bytes, among_behind, Stated, stated_none, stated_more, stated_one}
use Rattle.reads_back.proofs.SameValues.{float_in, SameTaken, Same, same_end, same_more}
use Rattle.reads_back.proofs.RestatingScopes.{Takes, Settled, settled, none_of, one_of, More, again, no_more_of}
use Rattle.reads_back.proofs.RestatingValues.{SameObjects, value_word, written_kept, under_kept, value_kept}

-- Statements one behind the other ----------------------------------------------------------------------------------------------------------

names_then : (a b : Statements) → names (then a b) ≡ names a ++ names b
unfolding names then
names_then done b = refl
names_then (state x inside rest) b = ap (x.name ∷◌) (names_then rest b)

entries_then : (a b : Statements) (os : List Object) (d : Definition) (vs : Values) (f : Word → Statements → Resolved) (rest : Resolved)
    → entries (then a b) os d vs f rest ≡ entries a os d vs f (entries b os d vs f rest)
unfolding entries then
entries_then done b os d vs f rest = refl
entries_then (state x inside more) b os d vs f rest =
    ap (λ r. choose (alike x.name d.name) (λ _. resolved (take_value true os d vs x.value) (f x.value inside) r) (λ _. r)) (entries_then more b os d vs f rest)

-- A block that does not state d has no entry of it.
entries_none : (ss : Statements) (os : List Object) (d : Definition) (vs : Values) (f : Word → Statements → Resolved) (rest : Resolved)
    → among d.name (names ss) ≡ false → entries ss os d vs f rest ≡ rest
unfolding entries names among choose
entries_none done os d vs f rest e = refl
entries_none (state x inside more) os d vs f rest e =
    ap (λ b. choose b (λ _. resolved (take_value true os d vs x.value) (f x.value inside) (entries more os d vs f rest)) (λ _. entries more os d vs f rest))
    (alike_turned d.name x.name (neither_first (alike d.name x.name) (among d.name (names more)) e))
    ∙ entries_none more os d vs f rest (neither_second (alike d.name x.name) (among d.name (names more)) e)

-- Names ------------------------------------------------------------------------------------------------------------------------------------

-- The statement of a value t of the attribute d, with what is under it.
unfoldable pub restatement : ℕ → List Object → Definition → Values → Word → Resolved → Statement
restatement k os d vs t us = record { number = k; name = unplaced_word d.name; value = value_word os d vs t; brace = brace_after us }

-- It is the first statement of resolved values of which the first is that of t.
pub restated_first : {os : List Object} {d : Definition} {vs : Values} {t : Word} {x : Taken} (h : Takes os d vs t x) (us r : Resolved) (k : ℕ)
    → restated (resolved x us r) k ≡ state (restatement k os d vs t us) (restated us (suc k)) (restated r (suc k + how_many_values us))
unfolding restated take_value restatement value_word
restated_first {os} {d} {vs} {t} h us r k = ap (λ y. restated (resolved y us r) k) h.is

-- The name of the attribute d.
pub restatement_name : (k : ℕ) (os : List Object) (d : Definition) (vs : Values) (t : Word) (us : Resolved) → (restatement k os d vs t us).name.bytes ≡ d.name.bytes
unfolding restatement unplaced_word
restatement_name k os d vs t us = refl

-- Two words of which one is defined and the other not.
apart : (u t : Word) (l : List Definition) → defined_in u l ≡ true → defined_in t l ≡ false → u.bytes ≡ t.bytes → ⊥
apart u t l p q e = false≢true (sym q ∙ sym (defined_bytes u t l e) ∙ p)

defined_more : (t : Word) (l : List Definition) (d : Definition) → defined_in t l ≡ true → defined_in t (l ++ (d ∷ [])) ≡ true
defined_more t l d e = defined_append t l (d ∷ []) ∙ ap (λ b. either b (defined_in t (d ∷ []))) e

defined_self : (l : List Definition) (d : Definition) → defined_in d.name (l ++ (d ∷ [])) ≡ true
unfolding defined_in
defined_self l d =
    defined_append d.name l (d ∷ []) ∙ go (defined_in d.name l)
  where
    here : defined_in d.name (d ∷ []) ≡ true
    here = ap (λ b. either b false) (bytes_alike d.name d.name refl)

    go : (b : Bool) → either b (defined_in d.name (d ∷ [])) ≡ true
    go true = refl
    go false = here

other_name : {os : List Object} {d : Definition} {vs : Values} {t : Word} {x : Taken} (u : Word) (h : Takes os d vs t x) (us r : Resolved) (k : ℕ)
    → (u.bytes ≡ d.name.bytes → ⊥) → among u (names (restated r (suc k + how_many_values us))) ≡ false
    → among u (names (restated (resolved x us r) k)) ≡ false
unfolding names among
other_name {os} {d} {vs} {t} u h us r k n e =
    ap (λ ss. among u (names ss)) (restated_first h us r k)
    ∙ neither (not_true (alike u (restatement k os d vs t us).name) (λ i. n (alike_bytes u _ i ∙ restatement_name k os d vs t us))) e

-- The first statement states its attribute.
pub states_it : {os : List Object} {d : Definition} {vs : Values} {t : Word} {x : Taken} (h : Takes os d vs t x) (us r : Resolved) (k : ℕ)
    → among d.name (names (restated (resolved x us r) k)) ≡ true
unfolding names among
states_it {os} {d} {vs} {t} h us r k =
    ap (λ ss. among d.name (names ss)) (restated_first h us r k)
    ∙ ap (λ c. either c (among d.name (names (restated r (suc k + how_many_values us))))) (bytes_alike d.name _ (sym (restatement_name k os d vs t us)))

mutual
  unfolding restated names among

  -- A name defined before is stated by none of the definitions behind.
  other_names : {os : List Object} {before : List Definition} {ds : Definitions} {r : Resolved} (u : Word) (k : ℕ) → Settled os before ds r
      → defined_in u before ≡ true → among u (names (restated r k)) ≡ false
  other_names u k settled e = refl
  other_names u k (none_of {before} {d} n p q s) e = other_names u k s (defined_more u before d e)
  other_names {os} u k (one_of {before} {d} {vs} {ds} {x} {t} {us} {r} n h s m) e =
      other_name u h us r k (λ i. apart u d.name before e n i) (other_more u _ m n e)

  other_more : {os : List Object} {before : List Definition} {d : Definition} {vs : Values} {ds : Definitions} {r : Resolved} (u : Word) (k : ℕ) → More os before d vs ds r
      → defined_in d.name before ≡ false → defined_in u before ≡ true → among u (names (restated r k)) ≡ false
  other_more {os} u k (again {before} {d} {vs} {ds} {x} {t} {us} {r} l h s m) n e =
      other_name u h us r k (λ i. apart u d.name before e n i) (other_more u _ m n e)
  other_more u k (no_more_of {before} {d} s) n e = other_names u k s (defined_more u before d e)

-- Resolving --------------------------------------------------------------------------------------------------------------------------------

-- One statement more, of the attribute d.
unfoldable one_more : Statements → Statement → Statements → Statements
one_more front x inside = then front (state x inside done)

stated_then : (before : List Definition) (d : Definition) (front : Statements) (x : Statement) (inside : Statements) → x.name.bytes ≡ d.name.bytes
    → Stated (before ++ (d ∷ [])) (names front) → Stated (before ++ (d ∷ [])) (names (one_more front x inside))
unfolding one_more names
stated_then before d front x inside q h u e = ap (among u) (names_then front (state x inside done)) ∙ stated_one before d (names front) x.name q h u e

one_then : (front : Statements) (x : Statement) (inside rest : Statements) → then front (state x inside rest) ≡ then (one_more front x inside) rest
unfolding one_more then
one_then front x inside rest = sym (then_assoc front (state x inside done) rest)

-- A float that is written keeps its amount.
float_kept : (v : Value) (t : Word) → float_in v (restated_word v t) ≡ float_in v t
unfolding float_in restated_word unplaced_word
float_kept (number n) t = refl
float_kept (truth b) t = refl
float_kept auto t = refl
float_kept string t = refl
float_kept float t = refl
float_kept (enumerator e) t = refl
float_kept (object o) t = refl

module _ {os os' : List Object} (same-objects : SameObjects os os') where
  same_taken : {d : Definition} {vs : Values} {t : Word} {x : Taken} → Takes os d vs t x → SameTaken (take_value true os' d vs (value_word os d vs t)) x
  unfolding take_value value_word
  same_taken {d} {vs} {t} h =
      let v = value_kept same-objects d vs t h.taking in
      subst (λ x. SameTaken (take_value true os' d vs (value_word os d vs t)) x) (sym h.is) (record {
        states = refl;
        definition = refl;
        value = v;
        writes = ap (λ x. written x (value_word os d vs t)) v ∙ written_kept (valued (sort_of t.class) os d vs t) t;
        floats = ap (λ x. float_in x (value_word os d vs t)) v ∙ float_kept (valued (sort_of t.class) os d vs t) t;
      })

  -- The entry that the statement of a value gives.
  same_entry : {d : Definition} {vs : Values} {t : Word} {x : Taken} (us r : Resolved) (k : ℕ) (f : Word → Statements → Resolved) (rest : Resolved) → Takes os d vs t x
      → Same (f (value_word os d vs t) (restated us (suc k))) us → Same (entries (restated r (suc k + how_many_values us)) os' d vs f rest) r
      → Same (entries (restated (resolved x us r) k) os' d vs f rest) (resolved x us r)
  unfolding entries choose restatement
  same_entry {d} {vs} {t} {x} us r k f rest h p q =
      let e : alike (unplaced_word d.name) d.name ≡ true = bytes_alike _ d.name (restatement_name k os d vs t us) in
      subst (λ z. Same z (resolved x us r))
      (sym (ap (λ ss. entries ss os' d vs f rest) (restated_first h us r k)
      ∙ ap (λ c. choose c (λ _. resolved (take_value true os' d vs (value_word os d vs t)) (f (value_word os d vs t) (restated us (suc k))) (entries (restated r (suc k + how_many_values us)) os' d vs f rest))
      (λ _. entries (restated r (suc k + how_many_values us)) os' d vs f rest)) e))
      (same_more (same_taken h) p q)

  -- What is under it.
  same_under : {d : Definition} {vs : Values} {t : Word} {x : Taken} (us : Resolved) (k : ℕ) → Takes os d vs t x → Same (resolve (under vs t) os' (restated us k)) us
      → Same (resolve_under vs os' (value_word os d vs t) (restated us k)) us
  same_under {d} {vs} {t} us k h p =
      subst (λ z. Same z us) (sym (resolves_under vs os' (value_word os d vs t) (restated us k) ∙ ap (λ ds. resolve ds os' (restated us k)) (under_kept d vs t h.taking))) p

  unstated : (d : Definition) (vs : Values) (ds : Definitions) (ss : Statements) → among d.name (names ss) ≡ false → taken d.default ≡ none
      → resolve (define d vs ds) os' ss ≡ resolve ds os' ss
  unfolding resolve choose default_entry
  unstated d vs ds ss e q =
      ap₂ (λ b o. choose b (λ _. entries ss os' d vs (λ t us. resolve_under vs os' t us) (resolve ds os' ss))
      (λ _. default_entry o os' d vs (λ t us. resolve_under vs os' t us) (resolve ds os' ss))) e q

  is_stated : (d : Definition) (vs : Values) (ds : Definitions) (ss : Statements) → among d.name (names ss) ≡ true
      → resolve (define d vs ds) os' ss ≡ entries ss os' d vs (λ t us. resolve_under vs os' t us) (resolve ds os' ss)
  unfolding resolve choose
  is_stated d vs ds ss e =
      ap (λ b. choose b (λ _. entries ss os' d vs (λ t us. resolve_under vs os' t us) (resolve ds os' ss))
      (λ _. default_entry (taken d.default) os' d vs (λ t us. resolve_under vs os' t us) (resolve ds os' ss))) e

  not_among : (u : Word) (front back : Statements) → among u (names front) ≡ false → among u (names back) ≡ false → among u (names (then front back)) ≡ false
  not_among u front back p q = ap (among u) (names_then front back) ∙ among_append u (names front) (names back) ∙ neither p q

  is_among : (u : Word) (front back : Statements) → among u (names back) ≡ true → among u (names (then front back)) ≡ true
  is_among u front back e = ap (among u) (names_then front back) ∙ among_behind u (names front) (names back) e

  mutual
    unfolding resolve then names

    -- The statements of a scope's values, behind those of the definitions before, resolve to the same values.
    resolve_restated : {before : List Definition} {ds : Definitions} {r : Resolved} → Settled os before ds r → (front : Statements) (k : ℕ) (ss : Statements)
        → Stated before (names front) → ss ≡ then front (restated r k) → Same (resolve ds os' ss) r
    resolve_restated settled front k ss f e = same_end
    resolve_restated {r} (none_of {before} {d} {vs} {ds} n l q s) front k ss f e =
        subst (λ z. Same z r)
        (sym (unstated d vs ds ss
        (ap (λ z. among d.name (names z)) e
        ∙ not_among d.name front (restated r k) (f d.name n) (other_names d.name k s (defined_self before d))) q))
        (resolve_restated s front k ss (stated_more before d (names front) f) e)
    resolve_restated (one_of {before} {d} {vs} {ds} {x = v} {t} {us} {r} n h s m) front k ss f e =
        let x = restatement k os d vs t us in
        let i = restated us (suc k) in
        let j = suc k + how_many_values us in
        let z = restated (resolved v us r) k in
        let g : Word → Statements → Resolved = λ t us. resolve_under vs os' t us in
        let rest = resolve ds os' ss in
        let q : ss ≡ then (one_more front x i) (restated r j) = e ∙ ap (then front) (restated_first h us r k) ∙ one_then front x i (restated r j) in
        let y = same_entry us r k g rest h
        (same_under us (suc k) h (resolve_restated s done (suc k) i (stated_none []) refl))
        (more_restated m n (one_more front x i) j ss (stated_then before d front x i (restatement_name k os d vs t us) (stated_more before d (names front) f)) q) in
        subst (λ w. Same w (resolved v us r))
        (sym (is_stated d vs ds ss (ap (λ w. among d.name (names w)) e ∙ is_among d.name front z (states_it h us r k))
        ∙ ap (λ w. entries w os' d vs g rest) e
        ∙ entries_then front z os' d vs g rest
        ∙ entries_none front os' d vs g (entries z os' d vs g rest) (f d.name n))) y

    more_restated : {before : List Definition} {d : Definition} {vs : Values} {ds : Definitions} {r : Resolved} → More os before d vs ds r → defined_in d.name before ≡ false
        → (front : Statements) (k : ℕ) (ss : Statements) → Stated (before ++ (d ∷ [])) (names front) → ss ≡ then front (restated r k)
        → Same (entries (restated r k) os' d vs (λ t us. resolve_under vs os' t us) (resolve ds os' ss)) r
    more_restated (again {before} {d} {vs} {ds} {x = v} {t} {us} {r} l h s m) n front k ss f e =
        let x = restatement k os d vs t us in
        let i = restated us (suc k) in
        let j = suc k + how_many_values us in
        let g : Word → Statements → Resolved = λ t us. resolve_under vs os' t us in
        let q : ss ≡ then (one_more front x i) (restated r j) = e ∙ ap (then front) (restated_first h us r k) ∙ one_then front x i (restated r j) in
        same_entry us r k g (resolve ds os' ss) h
        (same_under us (suc k) h (resolve_restated s done (suc k) i (stated_none []) refl))
        (more_restated m n (one_more front x i) j ss (stated_then before d front x i (restatement_name k os d vs t us) f) q)
    more_restated {r} (no_more_of {before} {d} {vs} {ds} s) n front k ss f e =
        subst (λ z. Same z r) (sym (entries_none (restated r k) os' d vs (λ t us. resolve_under vs os' t us) (resolve ds os' ss) (other_names d.name k s (defined_self before d))))
        (resolve_restated s front k ss f e)

  -- The statements of a scope's values resolve to the same values.
  pub restated_resolves : {ds : Definitions} {r : Resolved} (k : ℕ) → Settled os [] ds r → Same (resolve ds os' (restated r k)) r
  unfolding then names
  restated_resolves {r} k s = resolve_restated s done k (restated r k) (stated_none []) refl
