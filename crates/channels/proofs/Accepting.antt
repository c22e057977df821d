-- Where two neighbouring objects change places, no stage has a new fault. Assumes nothing.
use mathlib.Core.Path.{◌≡◌, refl, sym, ◌∙◌, ap, ap₂, subst}
use mathlib.Core.List.{List, [], ◌∷◌, ◌++◌}
use mathlib.Core.Bool.{Bool, false, not}
use mathlib.Core.Option.{Option, none, some}
use Prim.Native.Nat.{ℕ, suc, ◌+◌, ◌≤◌}
use native.Mathlib.Omega.{arith}
use lib.ListN.{length, length-append}
use lib.Dec.{eqb, ltb}
use borrow.Author.Tests.{ne_eqb}
use Rattle.grammar.specs.Grammar.{Kind}
use Rattle.token.specs.Find.{both}
use Rattle.meaning.specs.Syntax.{Word, AttributeType, integer, string, boolean, enum, float, reference, Definitions, Defined, Statement, Statements, done, state, Object, File, statements_in}
use Rattle.meaning.specs.Words.{among}
use Rattle.meaning.specs.Kinds.{fewest}
use Rattle.meaning.specs.Faults.{Fault, faults_if}
use Rattle.meaning.specs.Scopes.{Sort, a_number, a_string, a_truth, an_auto, a_no_default, a_name, a_float, sort_of, of_kind, under, find_definition, names}
use Rattle.meaning.specs.Applying.{too_few, statement_faults}
use Rattle.meaning.specs.Judging.{lacks, reference_faults, brace_faults, faults_as, own_faults, and_inside, judged, judge, judge_object, judge_objects}
use Rattle.meaning.specs.Resolving.{Resolved, end, resolved, resolve, object_values, all_values, how_many_values, how_many_in_all}
use Rattle.meaning.proofs.Rooms.{nothing_front, nothing_back, not_faulty}
use Rattle.meaning.proofs.Numbering.{Counts, counts_none, counts_more, statement_numbers, all_statement_numbers, length_statements}
use Rattle.channels.specs.Channels.{View, nothing, item}
use Rattle.channels.proofs.Ideals.{unnumbered_statement, unnumbered, names_unnumbered, ideal, resolve_ideal}
use Rattle.channels.proofs.Twins.{Twin, Twins, no_twins, more_twins, Swapped, swapped, behind, Agree}

-- 11 -----------------------------------------------------------------------------------------------------------------------------------------

pub counts_split : (a b : List ℕ) (n : ℕ) → Counts n (a ++ b) → Counts n a × Counts (n + length a) b
counts_split [] b n c = (counts_none, subst (λ m. Counts m b) (let z : n ≡ n + 0 = omega arith in z) c)
counts_split (k ∷ a) b n (counts_more e c) =
    let r = counts_split a b (suc n) c in
    (counts_more e r.0, subst (λ m. Counts m b) (let z : suc n + length a ≡ n + suc (length a) = omega arith in z) r.1)

-- Statements numbered from k on, of which the last is at most number 2,047.
pub few_statements : (ss : Statements) (k : ℕ) → Counts k (statement_numbers ss) → k + length (statement_numbers ss) ≤ 2048 → statement_faults ss ≡ []
unfolding statement_faults statement_numbers faults_if
few_statements done k c h = refl
few_statements (state x inside rest) k (counts_more e c) h =
    let r = counts_split (statement_numbers inside) (statement_numbers rest) (suc k) c in
    let l = length-append (statement_numbers inside) (statement_numbers rest) in
    let p : eqb x.number 2048 ≡ false = ne_eqb x.number 2048 (λ q. omega arith) in
    ap₂ ◌++◌ (ap₂ (λ b l. faults_if b x.name 11 ++ l) p (few_statements inside (suc k) r.0 (omega arith)))
    (few_statements rest (suc k + length (statement_numbers inside)) r.1 (omega arith))

-- How many there are.
unnumbered_in : (ss : Statements) → statements_in (unnumbered ss) ≡ statements_in ss
unfolding statements_in unnumbered
unnumbered_in done = refl
unnumbered_in (state x inside rest) = ap₂ (λ a b. suc (a + b)) (unnumbered_in inside) (unnumbered_in rest)

pub twin_statements : {x y : Object} → Twin x y → length (statement_numbers x.statements) ≡ length (statement_numbers y.statements)
twin_statements {x} {y} h =
    length_statements x.statements ∙ sym (unnumbered_in x.statements) ∙ ap statements_in h.statements ∙ unnumbered_in y.statements
    ∙ sym (length_statements y.statements)

pub record AsMany (xs ys : List Object) : Type 0 where
  pub objects : length xs ≡ length ys
  pub statements : length (all_statement_numbers xs) ≡ length (all_statement_numbers ys)

pub as_many_more : {x y : Object} {xs ys : List Object} → Twin x y → AsMany xs ys → AsMany (x ∷ xs) (y ∷ ys)
unfolding all_statement_numbers
as_many_more {x} {y} {xs} {ys} h r =
    let p = twin_statements h in
    let q = r.statements in
    let a = length-append (statement_numbers x.statements) (all_statement_numbers xs) in
    let b = length-append (statement_numbers y.statements) (all_statement_numbers ys) in
    record { objects = ap suc r.objects; statements = omega arith }

pub twins_many : {xs ys : List Object} → Twins xs ys → AsMany xs ys
twins_many no_twins = record { objects = refl; statements = refl }
twins_many (more_twins h p) = as_many_more h (twins_many p)

pub swapped_many : {xs ys : List Object} → Swapped xs ys → AsMany xs ys
unfolding all_statement_numbers
swapped_many (swapped {x} {y} {x'} {y'} {xs} {ys} h i p) =
    let r = twins_many p in
    let u = twin_statements h in
    let v = twin_statements i in
    let q = r.statements in
    let a = length-append (statement_numbers x.statements) (all_statement_numbers (y ∷ xs)) in
    let b = length-append (statement_numbers y.statements) (all_statement_numbers xs) in
    let c = length-append (statement_numbers y'.statements) (all_statement_numbers (x' ∷ ys)) in
    let d = length-append (statement_numbers x'.statements) (all_statement_numbers ys) in
    record { objects = ap (λ n. suc (suc n)) r.objects; statements = omega arith }
swapped_many (behind h p) = as_many_more h (swapped_many p)

-- No kind has too few objects.
pub agree_few : {xs ys : List Object} (ks : List Kind) (cpu : Word) → Agree xs ys → too_few ks xs cpu ≡ too_few ks ys cpu
unfolding too_few
agree_few [] cpu e = refl
agree_few (k ∷ ks) cpu e = ap₂ ◌++◌ (ap (λ n. faults_if (ltb n (fewest k)) cpu 17) (e.many k)) (agree_few ks cpu e)

-- 13 to 16 and 18 ----------------------------------------------------------------------------------------------------------------------------

-- A statement is judged by the objects that are there, and not by its number.
module _ {os qs : List Object} (e : Agree os qs) where
  reference_same : (k : Kind) (o : Sort) (t : Word) → reference_faults os k o t ≡ reference_faults qs k o t
  unfolding reference_faults
  reference_same k a_number t = refl
  reference_same k a_string t = refl
  reference_same k a_truth t = refl
  reference_same k an_auto t = refl
  reference_same k a_no_default t = refl
  reference_same k a_float t = refl
  reference_same k a_name t = ap (λ b. faults_if (not b) t 18) (e.there k t)

  as_same : (y : AttributeType) (x : Statement) (d : Defined) → faults_as y os x d ≡ faults_as y qs (unnumbered_statement x) d
  unfolding faults_as unnumbered_statement
  as_same (integer i) x d = refl
  as_same string x d = refl
  as_same boolean x d = refl
  as_same enum x d = refl
  as_same float x d = refl
  as_same (reference k) x d = ap (◌++ brace_faults x.brace) (reference_same k (sort_of x.value.class) x.value)

  own_same : (x : Statement) (d : Defined) (l : List Word) → own_faults os x d l ≡ own_faults qs (unnumbered_statement x) d l
  unfolding own_faults unnumbered_statement
  own_same x d l = ap (faults_if (both (not d.definition.list) (among x.name l)) x.name 14 ++◌) (as_same d.definition.type x d)

  inside_same : (fs : List Fault) (x : Statement) (us : Definitions) (ns : List Word) (f g : Definitions → List Fault) → f us ≡ g us
      → and_inside fs x us ns f ≡ and_inside fs (unnumbered_statement x) us ns g
  unfolding and_inside unnumbered_statement
  inside_same [] x us ns f g h = ap (faults_if (lacks us ns) x.value 16 ++◌) h
  inside_same (a ∷ fs) x us ns f g h = refl

  judged_same : (o : Option Defined) (x : Statement) (l ns ms : List Word) (f g : Definitions → List Fault) → ns ≡ ms → ((us : Definitions) → f us ≡ g us)
      → judged o os x l ns f ≡ judged o qs (unnumbered_statement x) l ms g
  unfolding judged unnumbered_statement
  judged_same none x l ns ms f g p h = refl
  judged_same (some d) x l ns ms f g p h =
      ap₂ (λ fs m. and_inside fs x (under d.values x.value) m f) (own_same x d l) p
      ∙ inside_same (own_faults qs (unnumbered_statement x) d l) x (under d.values x.value) ms f g (h (under d.values x.value))

  judge_same : (ss : Statements) (ds : Definitions) (l : List Word) → judge ss os ds l ≡ judge (unnumbered ss) qs ds l
  unfolding judge unnumbered unnumbered_statement
  judge_same done ds l = refl
  judge_same (state x inside rest) ds l =
      ap₂ ◌++◌
      (judged_same (find_definition ds x.name) x l (names inside) (names (unnumbered inside)) (λ us. judge inside os us []) (λ us. judge (unnumbered inside) qs us [])
      (sym (names_unnumbered inside)) (λ us. judge_same inside us []))
      (judge_same rest ds (l ++ (x.name ∷ [])))

agree_same : {xs : List Object} → Agree xs xs
agree_same = record { many = λ k. refl; there = λ k t. refl }

-- Twins are judged alike.
module _ {os qs : List Object} (e : Agree os qs) where
  twin_judged : (ss us : Statements) (ds : Definitions) → unnumbered ss ≡ unnumbered us → judge ss os ds [] ≡ judge us qs ds []
  twin_judged ss us ds h = judge_same e ss ds [] ∙ ap (λ z. judge z qs ds []) h ∙ sym (judge_same agree_same us ds [])

twin_names : (ss us : Statements) → unnumbered ss ≡ unnumbered us → names ss ≡ names us
twin_names ss us h = sym (names_unnumbered ss) ∙ ap names h ∙ names_unnumbered us

none_if : (b c : Bool) (t u : Word) (n : ℕ) → b ≡ c → faults_if b t n ≡ [] → faults_if c u n ≡ []
unfolding faults_if
none_if b c t u n e h = ap (λ z. faults_if z u n) (sym e ∙ not_faulty b t n h)

module _ (f g : File) (same-specs : f.specs ≡ g.specs) (e : Agree f.objects g.objects) where
  object_judged : {x y : Object} (ds ds' : Definitions) → Twin x y → ds ≡ ds' → judge_object f x ds ≡ [] → judge_object g y ds' ≡ []
  unfolding judge_object
  object_judged {x} {y} ds ds' h q j =
      let a = faults_if (lacks ds (names x.statements)) x.name 16 in
      let b = judge x.statements f.objects ds [] in
      ap₂ ◌++◌
      (none_if _ _ x.name y.name 16 (ap₂ lacks q (twin_names x.statements y.statements h.statements)) (nothing_front a b j))
      (sym (twin_judged e x.statements y.statements ds' h.statements) ∙ ap (λ z. judge x.statements f.objects z []) (sym q) ∙ nothing_back a b j)

  scope_same : {x y : Object} → Twin x y → of_kind x.kind f.specs ≡ of_kind y.kind g.specs
  scope_same h = ap₂ of_kind h.kind same-specs

  pub twins_judged : {xs ys : List Object} → Twins xs ys → judge_objects f xs ≡ [] → judge_objects g ys ≡ []
  unfolding judge_objects
  twins_judged no_twins j = refl
  twins_judged (more_twins {x} {y} {xs} {ys} h p) j =
      let a = judge_object f x (of_kind x.kind f.specs) in
      let b = judge_objects f xs in
      ap₂ ◌++◌ (object_judged _ _ h (scope_same h) (nothing_front a b j)) (twins_judged p (nothing_back a b j))

  pub swapped_judged : {xs ys : List Object} → Swapped xs ys → judge_objects f xs ≡ [] → judge_objects g ys ≡ []
  unfolding judge_objects
  swapped_judged (swapped {x} {y} {x'} {y'} {xs} {ys} h i p) j =
      let a = judge_object f x (of_kind x.kind f.specs) in
      let b = judge_object f y (of_kind y.kind f.specs) in
      let c = judge_objects f xs in
      ap₂ ◌++◌ (object_judged _ _ i (scope_same i) (nothing_front b c (nothing_back a (b ++ c) j)))
      (ap₂ ◌++◌ (object_judged _ _ h (scope_same h) (nothing_front a (b ++ c) j)) (twins_judged p (nothing_back b c (nothing_back a (b ++ c) j))))
  swapped_judged (behind {x} {y} {xs} {ys} h p) j =
      let a = judge_object f x (of_kind x.kind f.specs) in
      let b = judge_objects f xs in
      ap₂ ◌++◌ (object_judged _ _ h (scope_same h) (nothing_front a b j)) (swapped_judged p (nothing_back a b j))

-- 19 -----------------------------------------------------------------------------------------------------------------------------------------

unfoldable how_many_items : View → ℕ
how_many_items nothing = 0
how_many_items (item i us rest) = suc (how_many_items us + how_many_items rest)

items_many : (r : Resolved) → how_many_items (ideal r) ≡ how_many_values r
unfolding how_many_items ideal how_many_values
items_many end = refl
items_many (resolved t us rest) = ap₂ (λ a b. suc (a + b)) (items_many us) (items_many rest)

module _ (f g : File) (same-specs : f.specs ≡ g.specs) where
  -- Twins show the same alone.
  pub twin_ideal : {x y : Object} → Twin x y → ideal (object_values f x) ≡ ideal (object_values g y)
  unfolding object_values
  twin_ideal {x} {y} h =
      resolve_ideal (of_kind x.kind f.specs) f.objects x.statements
      ∙ ap₂ (λ ds ss. ideal (resolve ds [] ss)) (ap₂ of_kind h.kind same-specs) h.statements
      ∙ sym (resolve_ideal (of_kind y.kind g.specs) g.objects y.statements)

  twin_values : {x y : Object} → Twin x y → how_many_values (object_values f x) ≡ how_many_values (object_values g y)
  twin_values {x} {y} h = sym (items_many (object_values f x)) ∙ ap how_many_items (twin_ideal h) ∙ items_many (object_values g y)

  pub twins_values : {xs ys : List Object} → Twins xs ys → how_many_in_all (all_values f xs) ≡ how_many_in_all (all_values g ys)
  unfolding all_values how_many_in_all
  twins_values no_twins = refl
  twins_values (more_twins h p) = ap₂ ◌+◌ (twin_values h) (twins_values p)

  pub swapped_values : {xs ys : List Object} → Swapped xs ys → how_many_in_all (all_values f xs) ≡ how_many_in_all (all_values g ys)
  unfolding all_values how_many_in_all
  swapped_values (swapped h i p) = let a = twin_values h in let b = twin_values i in let c = twins_values p in omega arith
  swapped_values (behind h p) = ap₂ ◌+◌ (twin_values h) (swapped_values p)
