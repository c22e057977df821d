-- The statements of a scope's resolved values have no fault of 13 to 16 and 18. Assumes nothing.
use mathlib.Core.Path.{◌≡◌, refl, sym, ◌∙◌, ap, ap₂}
use mathlib.Core.List.{List, [], ◌∷◌, ◌++◌, append_assoc}
use mathlib.Core.Bool.{Bool, true, false, not}
use mathlib.Core.Option.{Option, none, some}
use Prim.Native.Nat.{ℕ, suc, ◌+◌}
use Rattle.token.specs.Find.{both}
use Rattle.meaning.specs.Syntax.{Word, Definition, Definitions, no_more, define, Values, no_value, Defined, Statement, Object}
use Rattle.meaning.specs.Words.{among}
use Rattle.meaning.specs.Faults.{Fault, faults_if}
use Rattle.meaning.specs.Scopes.{find_value, definitions_or, under, find_definition, names}
use Rattle.meaning.specs.Defining.{defined_in}
use Rattle.meaning.specs.Judging.{taken, lacking, lacks, lacks_under, faults_as, own_faults, and_inside, judged, judge}
use Rattle.meaning.specs.Resolving.{Taken, Resolved, end, resolved, how_many_values}
use Rattle.reads_back.proofs.Restated.{restated, brace_after}
use Rattle.reads_back.proofs.SameWords.{neither, among_bytes, among_behind, Stated, stated_none, stated_more, stated_one}
use Rattle.reads_back.proofs.RestatingScopes.{Last, whole, behind, find_this, Takes, Settled, settled, none_of, one_of, More, again, no_more_of, nothing_there}
use Rattle.reads_back.proofs.RestatingValues.{SameObjects, value_word, under_kept, faults_kept}
use Rattle.reads_back.proofs.RestatingResolved.{restatement, restated_first, restatement_name, states_it}

-- What must be stated ----------------------------------------------------------------------------------------------------------------------

both_false : (a b : Bool) → b ≡ false → both a b ≡ false
both_false true b e = e
both_false false b e = refl

-- An attribute that is stated lacks nothing, and neither does a list without a default.
lacks_stated : (d : Definition) (vs : Values) (ds : Definitions) (ns : List Word) → among d.name ns ≡ true → lacks ds ns ≡ false → lacks (define d vs ds) ns ≡ false
unfolding lacks
lacks_stated d vs ds ns e h = neither (ap (λ b. both (not b) (lacking (taken d.default) d.list (λ t. lacks_under vs t))) e) h

lacks_list : (d : Definition) (vs : Values) (ds : Definitions) (ns : List Word) → d.list ≡ true → taken d.default ≡ none → lacks ds ns ≡ false
    → lacks (define d vs ds) ns ≡ false
unfolding lacks lacking
lacks_list d vs ds ns l q h =
    neither (both_false (not (among d.name ns)) (lacking (taken d.default) d.list (λ t. lacks_under vs t))
    (ap₂ (λ o b. lacking o b (λ t. lacks_under vs t)) q l)) h

-- The names behind the first.
names_first : {os : List Object} {d : Definition} {vs : Values} {t : Word} {x : Taken} (h : Takes os d vs t x) (us r : Resolved) (k : ℕ) (l : List Word)
    → l ++ names (restated (resolved x us r) k) ≡ (l ++ ((restatement k os d vs t us).name ∷ [])) ++ names (restated r (suc k + how_many_values us))
unfolding names
names_first {os} {d} {vs} {t} h us r k l =
    ap (λ ss. l ++ names ss) (restated_first h us r k)
    ∙ sym (append_assoc l ((restatement k os d vs t us).name ∷ []) (names (restated r (suc k + how_many_values us))))

mutual
  unfolding lacks

  lacks_restated : {os : List Object} {before : List Definition} {ds : Definitions} {r : Resolved} → Settled os before ds r → (l : List Word) (k : ℕ) (ns : List Word)
      → ns ≡ l ++ names (restated r k) → lacks ds ns ≡ false
  lacks_restated settled l k ns e = refl
  lacks_restated (none_of {d} {vs} {ds} n p q s) l k ns e = lacks_list d vs ds ns p q (lacks_restated s l k ns e)
  lacks_restated {os} (one_of {d} {vs} {ds} {x} {t} {us} {r} n h s m) l k ns e =
      lacks_stated d vs ds ns (ap (among d.name) e ∙ among_behind d.name l (names (restated (resolved x us r) k)) (states_it h us r k))
      (lacks_more m (l ++ ((restatement k os d vs t us).name ∷ [])) (suc k + how_many_values us) ns (e ∙ names_first h us r k l))

  lacks_more : {os : List Object} {before : List Definition} {d : Definition} {vs : Values} {ds : Definitions} {r : Resolved} → More os before d vs ds r
      → (l : List Word) (k : ℕ) (ns : List Word) → ns ≡ l ++ names (restated r k) → lacks ds ns ≡ false
  lacks_more {os} (again {d} {vs} {t} {us} {r} p h s m) l k ns e =
      lacks_more m (l ++ ((restatement k os d vs t us).name ∷ [])) (suc k + how_many_values us) ns (e ∙ names_first h us r k l)
  lacks_more (no_more_of s) l k ns e = lacks_restated s l k ns e

-- 16.
pub restated_lacks : {os : List Object} {before : List Definition} {ds : Definitions} {r : Resolved} (k : ℕ) → Settled os before ds r → lacks ds (names (restated r k)) ≡ false
restated_lacks {r} k s = lacks_restated s [] k (names (restated r k)) refl

-- Statements -------------------------------------------------------------------------------------------------------------------------------

no_brace : (vs : Values) (t : Word) (us : Resolved) → (under vs t ≡ no_more → us ≡ end) → vs ≡ no_value → brace_after us ≡ none
unfolding under find_value definitions_or brace_after
no_brace vs t us h e = ap brace_after (h (ap (λ v. under v t) e))

module _ {os os' : List Object} (same-objects : SameObjects os os') where
  -- A statement without faults of its own, of a definition that is found.
  one_judged : (x : Statement) (d : Definition) (vs : Values) (o : Option Defined) (l ns : List Word) (us : Definitions) (k : Definitions → List Fault)
      → o ≡ some (record { definition = d; values = vs }) → both (not d.list) (among x.name l) ≡ false
      → faults_as d.type os' x (record { definition = d; values = vs }) ≡ [] → under vs x.value ≡ us → lacks us ns ≡ false → k us ≡ []
      → judged o os' x l ns k ≡ []
  unfolding judged own_faults and_inside faults_if
  one_judged x d vs o l ns us k p a f q m i =
      ap (λ z. judged z os' x l ns k) p
      ∙ ap₂ (λ b fs. and_inside (faults_if b x.name 14 ++ fs) x (under vs x.value) ns k) a f
      ∙ ap (λ z. faults_if (lacks z ns) x.value 16 ++ k z) q
      ∙ ap₂ (λ b fs. faults_if b x.value 16 ++ fs) m i

  restatement_value : (k : ℕ) (d : Definition) (vs : Values) (t : Word) (us : Resolved) → (restatement k os d vs t us).value ≡ value_word os d vs t
  unfolding restatement
  restatement_value k d vs t us = refl

  restatement_brace : (k : ℕ) (d : Definition) (vs : Values) (t : Word) (us : Resolved) → (restatement k os d vs t us).brace ≡ brace_after us
  unfolding restatement
  restatement_brace k d vs t us = refl

  judge_first : {d : Definition} {vs : Values} {t : Word} {x : Taken} (all : Definitions) (h : Takes os d vs t x) (us r : Resolved) (k : ℕ) (l : List Word)
      → find_definition all (restatement k os d vs t us).name ≡ some (record { definition = d; values = vs })
      → both (not d.list) (among (restatement k os d vs t us).name l) ≡ false
      → Settled os [] (under vs t) us
      → judge (restated us (suc k)) os' (under vs t) [] ≡ []
      → judge (restated r (suc k + how_many_values us)) os' all (l ++ ((restatement k os d vs t us).name ∷ [])) ≡ []
      → judge (restated (resolved x us r) k) os' all l ≡ []
  unfolding judge
  judge_first {d} {vs} {t} all h us r k l p a s i j =
      let y = restatement k os d vs t us in
      ap (λ ss. judge ss os' all l) (restated_first h us r k)
      ∙ ap₂ ◌++◌
      (one_judged y d vs (find_definition all y.name) l (names (restated us (suc k))) (under vs t) (λ z. judge (restated us (suc k)) os' z []) p a
      (faults_kept same-objects d vs t y h.taking (restatement_value k d vs t us)
      (λ e. restatement_brace k d vs t us ∙ no_brace vs t us (λ q. nothing_there q s) e))
      (ap (under vs) (restatement_value k d vs t us) ∙ under_kept d vs t h.taking) (restated_lacks (suc k) s) i)
      j

  mutual
    unfolding restated judge

    judge_restated : {all : Definitions} {before : List Definition} {ds : Definitions} {r : Resolved} → Last all before ds → Settled os before ds r → (l : List Word) (k : ℕ)
        → Stated before l → judge (restated r k) os' all l ≡ []
    judge_restated z settled l k f = refl
    judge_restated z (none_of {before} {d} n p q s) l k f = judge_restated (behind z) s l k (stated_more before d l f)
    judge_restated {all} z (one_of {before} {d} {vs} {ds} {t} {us} {r} n h s m) l k f =
        let q = restatement_name k os d vs t us in
        let y = (restatement k os d vs t us).name in
        judge_first all h us r k l (find_this y z n q)
        (both_false (not d.list) (among y l) (among_bytes y d.name l q ∙ f d.name n)) s
        (judge_restated whole s [] (suc k) (stated_none []))
        (judge_more z m n (l ++ (y ∷ [])) _ (stated_one before d l y q (stated_more before d l f)))

    judge_more : {all : Definitions} {before : List Definition} {d : Definition} {vs : Values} {ds : Definitions} {r : Resolved} → Last all before (define d vs ds)
        → More os before d vs ds r → defined_in d.name before ≡ false → (l : List Word) (k : ℕ) → Stated (before ++ (d ∷ [])) l → judge (restated r k) os' all l ≡ []
    judge_more {all} z (again {before} {d} {vs} {ds} {t} {us} {r} p h s m) n l k f =
        let q = restatement_name k os d vs t us in
        let y = (restatement k os d vs t us).name in
        judge_first all h us r k l (find_this y z n q) (ap (λ b. both (not b) (among y l)) p) s
        (judge_restated whole s [] (suc k) (stated_none []))
        (judge_more z m n (l ++ (y ∷ [])) _ (stated_one before d l y q f))
    judge_more z (no_more_of s) n l k f = judge_restated (behind z) s l k f

  -- 13, 14, 15 and 18.
  pub restated_judged : {ds : Definitions} {r : Resolved} (k : ℕ) → Settled os [] ds r → judge (restated r k) os' ds [] ≡ []
  restated_judged k s = judge_restated whole s [] k (stated_none [])
