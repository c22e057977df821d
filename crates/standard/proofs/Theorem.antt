-- THE THEOREM: nothing is told exactly where the implementation is as the standard asks for; and what is told is the least finding. Assumes nothing.
use mathlib.Core.Path.{◌≡◌, refl, sym, ◌∙◌, ap, subst}
use mathlib.Core.List.{List, [], ◌∷◌}
use mathlib.Core.Bool.{Bool, true, false, false≢true}
use mathlib.Core.Option.{Option, none, some}
use mathlib.Core.Logic.{◌↔◌}
use Prim.Native.Nat.{ℕ}
use native.Mathlib.Omega.{arith}
use lib.Dec.{ltb, leb, eqb}
use borrow.Author.Tests.{ltb-true, ltb-false, eqb-true, eqb-false, leb-true, leb-false}
use Rattle.grammar.proofs.Uniqueness.{none≢some}
use Rattle.token.specs.Find.{pick, both, either}
use Rattle.meaning.specs.Syntax.{Defined, Spec, File}
use Rattle.meaning.specs.Scopes.{find_definition}
use Rattle.standard.specs.Asking.{Asked, asked, Scope, scope_of, along, differs, Finding, finding_if, found, in_scope, finding, findings_of, findings, not_behind, earlier, foremost}
use Rattle.standard.specs.Conforming.{Asks, Conforms, NotBehind, left_of, smaller, not_after}
use Rattle.standard.proofs.Members.{Has, here, later, no_cons, none_left, none_right, none_both}
use Rattle.standard.proofs.Agreeing.{Fair, agrees}
use Rattle.standard.proofs.Ways.{reached, due}

-- Nothing is told ----------------------------------------------------------------------------------------------------------------------------

some_not_none : {A : Type 0} {x : A} → some x ≡ none → ⊥
some_not_none e = none≢some (sym e)

earlier_some : (x : Finding) (o : Option Finding) → earlier (some x) o ≡ none → ⊥
unfolding earlier
earlier_some x none e = some_not_none e
earlier_some x (some y) e = some_not_none e

pub nothing_found : (l : List Finding) → foremost l ≡ none → l ≡ []
unfolding foremost
nothing_found [] e = refl
nothing_found (x ∷ l) e = absurd (earlier_some x (foremost l) e)

each_empty : (f : File) (l : List Asked) {a : Asked} → findings_of f l ≡ [] → Has a l → finding f a ≡ []
unfolding findings_of
each_empty f (a ∷ l) e here = none_left (finding f a) (findings_of f l) e
each_empty f (a ∷ l) e (later h) = each_empty f l (none_right (finding f a) (findings_of f l) e) h
each_empty f [] {a = a} e x'' = elim x'' [ ]

all_empty : (f : File) (l : List Asked) → ((a : Asked) → Has a l → finding f a ≡ []) → findings_of f l ≡ []
unfolding findings_of
all_empty f [] t = refl
all_empty f (a ∷ l) t = none_both (finding f a) (findings_of f l) (t a here) (all_empty f l (λ b h. t b (later h)))

if_empty : (b : Bool) (p n a : ℕ) → finding_if b p n a ≡ [] → b ≡ false
unfolding finding_if
if_empty true p n a e = absurd (no_cons _ _ e)
if_empty false p n a e = refl

empty_if : (b : Bool) (p n a : ℕ) → b ≡ false → finding_if b p n a ≡ []
unfolding finding_if
empty_if true p n a e = absurd (false≢true (sym e))
empty_if false p n a e = refl

-- At the scope u, x is found as it should be.
found_absent : (u : Scope) (x : Defined) → in_scope x (some u) ≡ [] → find_definition u.definitions x.definition.name ≡ none → ⊥
unfolding in_scope found
found_absent u x e h =
    let q : finding_if true u.word.place 25 x.definition.row ≡ [] = sym (ap (found u.word x) h) ∙ e in
    false≢true (sym (if_empty true u.word.place 25 x.definition.row q))

found_same : (u : Scope) (x d : Defined) → in_scope x (some u) ≡ [] → find_definition u.definitions x.definition.name ≡ some d → differs x d ≡ false
unfolding in_scope found
found_same u x d e h =
    let q : finding_if (differs x d) d.definition.name.place 26 x.definition.row ≡ [] = sym (ap (found u.word x) h) ∙ e in
    if_empty (differs x d) d.definition.name.place 26 x.definition.row q

reached_empty : (gs : List Spec) (f : File) {x : Defined} {u : Scope} → findings gs f ≡ [] → Asks gs f x u → in_scope x (some u) ≡ []
unfolding findings finding
reached_empty gs f {x} {u} e a = let r = reached a in sym (ap (in_scope x) r.leads) ∙ each_empty f (asked gs) e r.listed

-- All that is compared is fair.
abbrev pub AllFair : List Spec → File → Type 0
AllFair gs f = (x d : Defined) (u : Scope) → Asks gs f x u → find_definition u.definitions x.definition.name ≡ some d → Fair x d

conforming : (gs : List Spec) (f : File) → AllFair gs f → findings gs f ≡ [] → Conforms gs f
conforming gs f q e = record {
  there = λ x u a h. found_absent u x (reached_empty gs f e a) h;
  same = λ x d u a h. (agrees x d (q x d u a h)).0 (found_same u x d (reached_empty gs f e a) h);
}

well_found : (gs : List Spec) (f : File) → AllFair gs f → Conforms gs f → (u : Scope) (x : Defined) → Asks gs f x u → (o : Option Defined) → find_definition u.definitions x.definition.name ≡ o
    → found u.word x o ≡ []
unfolding found
well_found gs f q c u x a none e = absurd (c.there x u a e)
well_found gs f q c u x a (some d) e = empty_if (differs x d) d.definition.name.place 26 x.definition.row ((agrees x d (q x d u a e)).1 (c.same x d u a e))

asked_well : (gs : List Spec) (f : File) → AllFair gs f → Conforms gs f → (a : Asked) → Has a (asked gs) → (o : Option Scope) → along (scope_of f a.kind) a.path ≡ o → in_scope a.wanted o ≡ []
unfolding in_scope
asked_well gs f q c a h none e = refl
asked_well gs f q c a h (some u) e =
    well_found gs f q c u a.wanted (due gs f a h u e) (find_definition u.definitions a.wanted.definition.name) refl

nothing_wrong : (gs : List Spec) (f : File) → AllFair gs f → Conforms gs f → findings gs f ≡ []
unfolding findings finding
nothing_wrong gs f q c = all_empty f (asked gs) (λ a h. asked_well gs f q c a h (along (scope_of f a.kind) a.path) refl)

none_foremost : (l : List Finding) → l ≡ [] → foremost l ≡ none
unfolding foremost
none_foremost l e = ap foremost e

pub nothing_told : (gs : List Spec) (f : File) → AllFair gs f → (foremost (findings gs f) ≡ none) ↔ Conforms gs f
nothing_told gs f q = (
  (λ e. conforming gs f q (nothing_found (findings gs f) e)),
  (λ c. none_foremost (findings gs f) (nothing_wrong gs f q c)),
)

-- What is told is the least --------------------------------------------------------------------------------------------------------------------

-- x is the one of a list that is told.
pub record Least (l : List Finding) (x : Finding) : Type 0 where
  pub is_one : Has x l
  pub least : (y : Finding) → Has y l → not_behind x y ≡ true

by_tests : (a b : Finding) (l e n m i : Bool) → ltb a.place b.place ≡ l → eqb a.place b.place ≡ e → ltb a.number b.number ≡ n
    → eqb a.number b.number ≡ m → leb a.attribute b.attribute ≡ i → either l (both e (either n (both m i))) ≡ true → NotBehind a b
by_tests a b true e n m i p q r t u h = left_of (ltb-true a.place b.place p)
by_tests a b false true true m i p q r t u h = smaller (eqb-true a.place b.place q) (ltb-true a.number b.number r)
by_tests a b false true false true true p q r t u h = not_after (eqb-true a.place b.place q) (eqb-true a.number b.number t) (leb-true a.attribute b.attribute u)
by_tests a b false true false true false p q r t u h = absurd (false≢true h)
by_tests a b false true false false i p q r t u h = absurd (false≢true h)
by_tests a b false false n m i p q r t u h = absurd (false≢true h)

pub le_of : (a b : Finding) → not_behind a b ≡ true → NotBehind a b
unfolding not_behind
le_of a b h = by_tests a b _ _ _ _ _ refl refl refl refl refl h

to_tests : (a b : Finding) (l e n m i : Bool) → ltb a.place b.place ≡ l → eqb a.place b.place ≡ e → ltb a.number b.number ≡ n
    → eqb a.number b.number ≡ m → leb a.attribute b.attribute ≡ i → NotBehind a b → either l (both e (either n (both m i))) ≡ true
to_tests a b true e n m i p q r t u h = refl
to_tests a b false true true m i p q r t u h = refl
to_tests a b false true false true true p q r t u h = refl
to_tests a b false true false true false p q r t u (left_of h) = let x = ltb-false a.place b.place p in absurd (omega arith)
to_tests a b false true false true false p q r t u (smaller g h) = let x = ltb-false a.number b.number r in absurd (omega arith)
to_tests a b false true false true false p q r t u (not_after g k h) = let x = leb-false a.attribute b.attribute u in absurd (omega arith)
to_tests a b false true false false i p q r t u (left_of h) = let x = ltb-false a.place b.place p in absurd (omega arith)
to_tests a b false true false false i p q r t u (smaller g h) = let x = ltb-false a.number b.number r in absurd (omega arith)
to_tests a b false true false false i p q r t u (not_after g k h) = absurd (eqb-false a.number b.number t k)
to_tests a b false false n m i p q r t u (left_of h) = let x = ltb-false a.place b.place p in absurd (omega arith)
to_tests a b false false n m i p q r t u (smaller g h) = absurd (eqb-false a.place b.place q g)
to_tests a b false false n m i p q r t u (not_after g k h) = absurd (eqb-false a.place b.place q g)

pub of_le : (a b : Finding) → NotBehind a b → not_behind a b ≡ true
unfolding not_behind
of_le a b h = to_tests a b _ _ _ _ _ refl refl refl refl refl h

le_trans : {a b c : Finding} → NotBehind a b → NotBehind b c → NotBehind a c
le_trans (left_of h) (left_of i) = left_of (omega arith)
le_trans (left_of h) (smaller e i) = left_of (omega arith)
le_trans (left_of h) (not_after e f i) = left_of (omega arith)
le_trans (smaller d h) (left_of i) = left_of (omega arith)
le_trans (smaller d h) (smaller e i) = smaller (d ∙ e) (omega arith)
le_trans (smaller d h) (not_after e f i) = smaller (d ∙ e) (omega arith)
le_trans (not_after d g h) (left_of i) = left_of (omega arith)
le_trans (not_after d g h) (smaller e i) = smaller (d ∙ e) (omega arith)
le_trans (not_after d g h) (not_after e f i) = not_after (d ∙ e) (g ∙ f) (omega arith)

le_refl : (a : Finding) → NotBehind a a
le_refl a = not_after refl refl (omega arith)

-- What is behind has the other in front of it.
not_le : (a b : Finding) → not_behind a b ≡ false → NotBehind b a
unfolding not_behind
not_le a b h = by (ltb a.place b.place) (eqb a.place b.place) (ltb a.number b.number) (eqb a.number b.number) (leb a.attribute b.attribute) refl refl refl refl refl h
  where
    by : (l e n m i : Bool) → ltb a.place b.place ≡ l → eqb a.place b.place ≡ e → ltb a.number b.number ≡ n
        → eqb a.number b.number ≡ m → leb a.attribute b.attribute ≡ i → either l (both e (either n (both m i))) ≡ false → NotBehind b a
    by true e n m i p q r t u g = absurd (false≢true (sym g))
    by false true true m i p q r t u g = absurd (false≢true (sym g))
    by false true false true true p q r t u g = absurd (false≢true (sym g))
    by false true false true false p q r t u g = let x = leb-false a.attribute b.attribute u in not_after (sym (eqb-true a.place b.place q)) (sym (eqb-true a.number b.number t)) (omega arith)
    by false true false false i p q r t u g = let x = ltb-false a.number b.number r in let y = eqb-false a.number b.number t in smaller (sym (eqb-true a.place b.place q)) (omega (arith, y))
    by false false n m i p q r t u g = let x = ltb-false a.place b.place p in let y = eqb-false a.place b.place q in left_of (omega (arith, y))

is_some : {A : Type 0} {x y : A} → some x ≡ some y → x ≡ y
is_some e = cc

least_of_one : (x : Finding) → Least (x ∷ []) x
least_of_one x = record { is_one = here; least = λ y h. of_le x y (only y h) }
  where
    empty : {y : Finding} → Has y [] → ⊥
    empty h = no-members h refl
      where
        no-members : {y : Finding} {l : List Finding} → Has y l → l ≡ [] → ⊥
        no-members here e = no_cons _ _ e
        no-members (later m) e = no_cons _ _ e

    only : (y : Finding) → Has y (x ∷ []) → NotBehind x y
    only y here = le_refl x
    only y (later h) = absurd (empty h)

pub least_told : (l : List Finding) (x : Finding) → foremost l ≡ some x → Least l x
unfolding foremost earlier
least_told [] x e = absurd (none≢some e)
least_told (y ∷ l) x e = by (foremost l) refl e (λ z g. least_told l z g)
  where
    when : (z : Finding) → Least l z → (b : Bool) → not_behind y z ≡ b → pick b y z ≡ x → Least (y ∷ l) x
    when z k true g q = subst (Least (y ∷ l)) q (record { is_one = here; least = λ v h. of_le y v (left v h) })
      where
        left : (v : Finding) → Has v (y ∷ l) → NotBehind y v
        left v here = le_refl y
        left v (later m) = le_trans (le_of y z g) (le_of z v (k.least v m))
    when z k false g q = subst (Least (y ∷ l)) q (record { is_one = later k.is_one; least = λ v h. of_le z v (left v h) })
      where
        left : (v : Finding) → Has v (y ∷ l) → NotBehind z v
        left v here = not_le y z g
        left v (later m) = le_of z v (k.least v m)

    by : (o : Option Finding) → foremost l ≡ o → earlier (some y) o ≡ some x → ((z : Finding) → foremost l ≡ some z → Least l z) → Least (y ∷ l) x
    by none g q ih = subst (Least (y ∷ l)) (is_some q) (subst (λ m. Least (y ∷ m) y) (sym (nothing_found l g)) (least_of_one y))
    by (some z) g q ih = when z (ih z g) (not_behind y z) refl (is_some q)
