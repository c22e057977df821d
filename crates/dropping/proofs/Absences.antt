-- Where no statement is at fault none is dropped, and every drop has the number 13 or 14. Assumes nothing.
use mathlib.Core.Path.{◌≡◌, refl, ap, ap₂}
use mathlib.Core.List.{List, [], ◌∷◌, ◌++◌}
use mathlib.Core.Bool.{Bool, true, false}
use mathlib.Core.Option.{Option, none, some}
use mathlib.Core.Logic.{◌⊎◌, inl, inr}
use native.Mathlib.Omega.{arith}
use lib.ListN.{length}
use Rattle.meaning.specs.Syntax.{Word, Definitions, Defined, Statement, Statements, done, state, Object, File}
use Rattle.meaning.specs.Faults.{Fault, faults_if, first}
use Rattle.meaning.specs.Scopes.{names, under, find_definition, of_kind}
use Rattle.meaning.specs.Judging.{lacks, own_faults, and_inside, judged, judge, judge_object, judge_objects, statement_stage}
use Rattle.meaning.proofs.Rooms.{nothing_front, nothing_back, no_first}
use Rattle.dropping.specs.Drops.{Drop, drop_if, stated_again, or_inside, dropped, drops, drops_of, all_drops}

-- No fault, no drop ------------------------------------------------------------------------------------------------------------------------

not_empty : (f : Fault) (fs : List Fault) → f ∷ fs ≡ [] → ⊥
not_empty f fs e = let l : length (f ∷ fs) ≡ 0 = ap (λ (a : List Fault). length a) e in omega (arith, l)

module _ (k : Definitions → List Fault) (k' : Definitions → List Drop) (i : (us : Definitions) → k us ≡ [] → k' us ≡ []) where
  none_inside : (l : List Fault) (b : Bool) (x : Statement) (us : Definitions) (ns : List Word) → and_inside l x us ns k ≡ [] → or_inside l b x us k' ≡ []
  unfolding and_inside or_inside
  none_inside [] b x us ns h = i us (nothing_back (faults_if (lacks us ns) x.value 16) (k us) h)
  none_inside (f ∷ fs) b x us ns h = absurd (not_empty f fs h)

  none_dropped : (o : Option Defined) (os : List Object) (x : Statement) (before ns : List Word) → judged o os x before ns k ≡ [] → dropped o os x before k' ≡ []
  unfolding judged dropped faults_if
  none_dropped none os x before ns h = absurd (not_empty _ _ h)
  none_dropped (some d) os x before ns h = none_inside (own_faults os x d before) (stated_again d x before) x (under d.values x.value) ns h

pub no_drops : (ss : Statements) (os : List Object) (ds : Definitions) (before : List Word) → judge ss os ds before ≡ [] → drops ss os ds before ≡ []
unfolding judge drops
no_drops done os ds before h = refl
no_drops (state x inside rest) os ds before h =
    let j = judged (find_definition ds x.name) os x before (names inside) (λ us. judge inside os us []) in
    let r = judge rest os ds (before ++ (x.name ∷ [])) in
    ap₂ (λ (a b : List Drop). a ++ b)
    (none_dropped (λ us. judge inside os us []) (λ us. drops inside os us []) (λ us e. no_drops inside os us [] e)
    (find_definition ds x.name) os x before (names inside) (nothing_front j r h))
    (no_drops rest os ds (before ++ (x.name ∷ [])) (nothing_back j r h))

no_drops_of : (f : File) (xs : List Object) → judge_objects f xs ≡ [] → drops_of f xs ≡ []
unfolding judge_objects judge_object drops_of
no_drops_of f [] h = refl
no_drops_of f (x ∷ xs) h =
    let ds = of_kind x.kind f.specs in
    let a = faults_if (lacks ds (names x.statements)) x.name 16 in
    let b = judge x.statements f.objects ds [] in
    let r = judge_objects f xs in
    ap₂ (λ (a b : List Drop). a ++ b)
    (no_drops x.statements f.objects ds [] (nothing_back a b (nothing_front (a ++ b) r h)))
    (no_drops_of f xs (nothing_back (a ++ b) r h))

pub no_drops_at_all : (f : File) → statement_stage f ≡ [] → all_drops f ≡ []
unfolding statement_stage all_drops
no_drops_at_all f h = no_drops_of f f.objects h

pub no_fault_no_drops : (f : File) → first (statement_stage f) ≡ none → all_drops f ≡ []
no_fault_no_drops f h = no_drops_at_all f (no_first (statement_stage f) h)

-- Numbers ----------------------------------------------------------------------------------------------------------------------------------

-- So it is of each drop.
pub data Each (P : Drop → Type 0) : List Drop → Type 0 where
  each_none : Each P []
  each_more : {x : Drop} {xs : List Drop} → P x → Each P xs → Each P (x ∷ xs)

pub each_append : {P : Drop → Type 0} {a b : List Drop} → Each P a → Each P b → Each P (a ++ b)
each_append each_none q = q
each_append (each_more h p) q = each_more h (each_append p q)

-- 13 or 14.
abbrev pub Number : Drop → Type 0
Number x = (x.number ≡ 13) ⊎ (x.number ≡ 14)

module _ (k : Definitions → List Drop) (i : (us : Definitions) → Each Number (k us)) where
  inside_numbers : (l : List Fault) (b : Bool) (x : Statement) (us : Definitions) → Each Number (or_inside l b x us k)
  unfolding or_inside drop_if
  inside_numbers [] b x us = i us
  inside_numbers (f ∷ fs) true x us = each_more (inr refl) each_none
  inside_numbers (f ∷ fs) false x us = each_none

  dropped_numbers : (o : Option Defined) (os : List Object) (x : Statement) (before : List Word) → Each Number (dropped o os x before k)
  unfolding dropped drop_if
  dropped_numbers none os x before = each_more (inl refl) each_none
  dropped_numbers (some d) os x before = inside_numbers (own_faults os x d before) (stated_again d x before) x (under d.values x.value)

pub drop_numbers : (ss : Statements) (os : List Object) (ds : Definitions) (before : List Word) → Each Number (drops ss os ds before)
unfolding drops
drop_numbers done os ds before = each_none
drop_numbers (state x inside rest) os ds before =
    each_append (dropped_numbers (λ us. drops inside os us []) (λ us. drop_numbers inside os us []) (find_definition ds x.name) os x before)
    (drop_numbers rest os ds (before ++ (x.name ∷ [])))

numbers_of : (f : File) (xs : List Object) → Each Number (drops_of f xs)
unfolding drops_of
numbers_of f [] = each_none
numbers_of f (x ∷ xs) = each_append (drop_numbers x.statements f.objects (of_kind x.kind f.specs) []) (numbers_of f xs)

pub all_numbers : (f : File) → Each Number (all_drops f)
unfolding all_drops
all_numbers f = numbers_of f f.objects
