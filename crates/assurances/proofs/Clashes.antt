-- 24 over parts and over objects is one answer: the statement of specs/Names. Assumes nothing.
use mathlib.Core.Path.{◌≡◌, refl, sym, ◌∙◌, ap, ap₂, subst}
use mathlib.Core.List.{List, [], ◌∷◌, ◌++◌}
use mathlib.Core.Bool.{Bool, true, false, not, false≢true}
use Prim.Native.Nat.{ℕ, suc}
use native.Mathlib.Omega.{arith}
use lib.Dec.{eqb}
use borrow.Author.Tests.{eq-eqb}
use Rattle.token.specs.Find.{both, either}
use Rattle.token.specs.Words.{same}
use Rattle.token.proofs.Bytes.{both_true, both_second, either_true, either_false, neither_first, neither_second, eqb_sym}
use Rattle.token.proofs.Codes.{same_self, same_equal}
use Rattle.meaning.specs.Syntax.{Word, Object}
use Rattle.meaning.specs.Words.{alike, choose}
use Rattle.meaning.specs.Kinds.{kinds, kind_number, same_kind}
use Rattle.meaning.specs.Actions.{syntax}
use Rattle.meaning.specs.Merging.{same_object, used, merged, merge_from, merge}
use Rattle.meaning.specs.Faults.{Fault, faults_if, sooner, first}
use Rattle.meaning.specs.Applying.{too_few, each_object, each_part, elsewhere, each_name, object_faults}
use Rattle.meaning.proofs.Settled.{text_ordered}
use Rattle.meaning.proofs.Leaves.{words_leaves, leaves_in_order}
use Rattle.meaning.proofs.Sites.{spec_words, statement_words, object_words, file_words}
use Rattle.meaning.proofs.Order.{Ordered, InOrder, Sub, sub_nil, keep, drop, sub_behind, sub_all, ordered_sub, At, nowhere, at_append, at_only, at_rises, foremost, rises_first}
use Rattle.meaning.proofs.Sooner.{first_append}
use Rattle.meaning.proofs.Merges.{Alike, same_alike, used_more, used_none, elsewhere_append, syntax_merged}
use Rattle.reads_back.proofs.MergedAgain.{elsewhere_merged, merged_elsewhere}
use Rattle.assurances.specs.Names.{object_faults_of_objects, PartsOrObjects}

-- The names stand in order ---------------------------------------------------------------------------------------------------------------------

unfoldable object_names : List Object → List Word
object_names [] = []
object_names (x ∷ xs) = x.name ∷ object_names xs

names_sub : (xs : List Object) → Sub (object_names xs) (object_words xs)
unfolding object_names object_words
names_sub [] = sub_nil
names_sub (x ∷ xs) = drop (keep (sub_behind (statement_words x.statements) (names_sub xs)))

merge_sub : (before xs : List Object) (n : ℕ) → Sub (object_names (merge_from before xs n)) (object_names xs)
unfolding object_names merge_from merged choose
merge_sub before [] n = sub_nil
merge_sub before (x ∷ xs) n = go (used x before) (merge_sub (before ++ (x ∷ [])) xs n) (merge_sub (before ++ (x ∷ [])) xs (suc n))
  where
    go : (b : Bool) → Sub (object_names (merge_from (before ++ (x ∷ [])) xs n)) (object_names xs) → Sub (object_names (merge_from (before ++ (x ∷ [])) xs (suc n))) (object_names xs)
        → Sub (object_names (choose b (λ _. merge_from (before ++ (x ∷ [])) xs n) (λ _. merged x n xs ∷ merge_from (before ++ (x ∷ [])) xs (suc n)))) (x.name ∷ object_names xs)
    go true p q = drop p
    go false p q = keep q

names_at : (before xs : List Object) → At 0 (object_names xs) (each_name before xs)
unfolding object_names each_name
names_at before [] = nowhere
names_at before (x ∷ xs) = at_append (at_only (elsewhere x before) 24 x.name [] (omega arith)) (names_at (before ++ (x ∷ [])) xs)

-- Names used by another kind ---------------------------------------------------------------------------------------------------------------------

-- Whether y has x's name and another kind.
unfoldable other : Object → Object → Bool
other x y = both (not (same_kind x.kind y.kind)) (alike y.name x.name)

only_other : (x y : Object) → elsewhere x (y ∷ []) ≡ other x y
unfolding elsewhere other
only_other x y = either_false (both (not (same_kind x.kind y.kind)) (alike y.name x.name))

other_back : (x y : Object) → other x y ≡ true → other y x ≡ true
unfolding other same_kind alike
other_back x y e =
    let k = not (eqb (kind_number x.kind) (kind_number y.kind)) in
    let t = same y.name.bytes x.name.bytes in
    let q = same_equal y.name.bytes x.name.bytes (both_second k t e) in
    ap₂ both (ap not (eqb_sym (kind_number y.kind) (kind_number x.kind)) ∙ both_true k t e) (ap (λ (b : List ℕ). same x.name.bytes b) q ∙ same_self x.name.bytes)

two_ways : (a b : Bool) → (a ≡ true → b ≡ true) → (b ≡ true → a ≡ true) → a ≡ b
two_ways true b f g = sym (f refl)
two_ways false true f g = g refl
two_ways false false f g = refl

other_swap : (x y : Object) → other x y ≡ other y x
other_swap x y = two_ways (other x y) (other y x) (other_back x y) (other_back y x)

other_self : (x : Object) → other x x ≡ false
unfolding other same_kind
other_self x = ap (λ (b : Bool). both (not b) (alike x.name x.name)) (eq-eqb (kind_number x.kind) (kind_number x.kind) refl)

-- By kind and name alone.
other_alike : (y x v : Object) → Alike x v → other y x ≡ other y v
unfolding other same_kind alike
other_alike y x v a = ap₂ (λ (k : ℕ) (t : List ℕ). both (not (eqb (kind_number y.kind) k)) (same t y.name.bytes)) a.kinds a.names

elsewhere_alike : (x y : Object) (l : List Object) → Alike x y → elsewhere x l ≡ elsewhere y l
unfolding elsewhere same_kind alike
elsewhere_alike x y [] a = refl
elsewhere_alike x y (z ∷ l) a =
    ap₂ either (ap₂ (λ (k : ℕ) (t : List ℕ). both (not (eqb k (kind_number z.kind))) (same z.name.bytes t)) a.kinds a.names) (elsewhere_alike x y l a)

-- Each of some parts has a name that no part of l has with another kind.
abbrev AllClear : List Object → List Object → Type 0
AllClear l [] = Unit {0}
AllClear l (v ∷ vs) = (elsewhere v l ≡ false) × AllClear l vs

clear_behind : (l : List Object) (x : Object) (vs : List Object) → AllClear l vs → elsewhere x vs ≡ false → AllClear (l ++ (x ∷ [])) vs
unfolding elsewhere other
clear_behind l x [] h e = tt
clear_behind l x (v ∷ vs) h e = (
  elsewhere_append v l (x ∷ []) ∙ ap₂ either h.0 (only_other v x ∙ other_swap v x ∙ neither_first (other x v) (elsewhere x vs) e),
  clear_behind l x vs h.1 (neither_second (other x v) (elsewhere x vs) e),
)

clear_append : (l : List Object) (x : Object) (vs : List Object) → AllClear l vs → elsewhere x l ≡ false → AllClear l (vs ++ (x ∷ []))
clear_append l x [] h e = (e, tt)
clear_append l x (v ∷ vs) h e = (h.0, clear_append l x vs h.1 e)

-- With one more that is clear.
clear_more : (l : List Object) (x : Object) → AllClear l l → elsewhere x l ≡ false → AllClear (l ++ (x ∷ [])) (l ++ (x ∷ []))
clear_more l x h e =
    clear_append (l ++ (x ∷ [])) x l (clear_behind l x l h e) (elsewhere_append x l (x ∷ []) ∙ ap₂ either e (only_other x x ∙ other_self x))

-- A further part is clear, where the parts before it are.
used_clear : (x : Object) (l vs : List Object) → AllClear l vs → used x vs ≡ true → elsewhere x l ≡ false
used_clear x l [] h e = absurd (false≢true (sym (used_none x) ∙ e))
used_clear x l (v ∷ vs) h e = go (same_object x v) refl (sym (used_more x v vs) ∙ e) (λ k. used_clear x l vs h.1 k)
  where
    go : (b : Bool) → same_object x v ≡ b → either b (used x vs) ≡ true → (used x vs ≡ true → elsewhere x l ≡ false) → elsewhere x l ≡ false
    go true q k f = elsewhere_alike x v l (same_alike x v q) ∙ h.0
    go false q k f = f k

-- A further part clashes with nothing that its object does not clash with.
used_other : (y x : Object) (l : List Object) → used x l ≡ true → other y x ≡ true → elsewhere y l ≡ true
unfolding elsewhere other
used_other y x [] u e = absurd (false≢true (sym (used_none x) ∙ u))
used_other y x (v ∷ l) u e = go (same_object x v) refl (sym (used_more x v l) ∙ u) (λ k. used_other y x l k e)
  where
    go : (b : Bool) → same_object x v ≡ b → either b (used x l) ≡ true → (used x l ≡ true → elsewhere y l ≡ true) → either (other y v) (elsewhere y l) ≡ true
    go true q k f = ap (λ (b : Bool). either b (elsewhere y l)) (sym (other_alike y x v (same_alike x v q)) ∙ e)
    go false q k f = ap (either (other y v)) (f k) ∙ either_true (other y v)

same_used : (y x : Object) (l : List Object) → used x l ≡ true → elsewhere y (l ++ (x ∷ [])) ≡ elsewhere y l
same_used y x l u = elsewhere_append y l (x ∷ []) ∙ ap (either (elsewhere y l)) (only_other y x) ∙ go (elsewhere y l) (other y x) (used_other y x l u)
  where
    go : (a b : Bool) → (b ≡ true → a ≡ true) → either a b ≡ a
    go true b f = refl
    go false true f = sym (f refl)
    go false false f = refl

-- Parts and objects ---------------------------------------------------------------------------------------------------------------------------------

-- Some objects have the names and kinds of some parts.
abbrev Same : List Object → List Object → Type 0
Same os before = (y : Object) → elsewhere y os ≡ elsewhere y before

same_merged : (os before : List Object) (x : Object) (n : ℕ) (xs : List Object) → Same os before → Same (os ++ (merged x n xs ∷ [])) (before ++ (x ∷ []))
same_merged os before x n xs c y =
    elsewhere_append y os (merged x n xs ∷ []) ∙ ap₂ either (c y) (merged_elsewhere y x n xs) ∙ sym (elsewhere_append y before (x ∷ []))

-- Where the parts before are clear, the first that is at fault is the first of its object.
foremost_same : (before os xs : List Object) (n : ℕ) → Same os before → AllClear before before → foremost (each_name os (merge_from before xs n)) ≡ foremost (each_name before xs)
unfolding merge_from merged each_name choose faults_if foremost
foremost_same before os [] n c h = refl
foremost_same before os (x ∷ xs) n c h =
    go (used x before) refl (elsewhere x before) refl
    (λ c' h'. foremost_same (before ++ (x ∷ [])) os xs n c' h')
    (λ c' h'. foremost_same (before ++ (x ∷ [])) (os ++ (merged x n xs ∷ [])) xs (suc n) c' h')
  where
    go : (u : Bool) → used x before ≡ u → (e : Bool) → elsewhere x before ≡ e
        → (Same os (before ++ (x ∷ [])) → AllClear (before ++ (x ∷ [])) (before ++ (x ∷ [])) → foremost (each_name os (merge_from (before ++ (x ∷ [])) xs n)) ≡ foremost (each_name (before ++ (x ∷ [])) xs))
        → (Same (os ++ (merged x n xs ∷ [])) (before ++ (x ∷ [])) → AllClear (before ++ (x ∷ [])) (before ++ (x ∷ []))
        → foremost (each_name (os ++ (merged x n xs ∷ [])) (merge_from (before ++ (x ∷ [])) xs (suc n))) ≡ foremost (each_name (before ++ (x ∷ [])) xs))
        → foremost (each_name os (choose u (λ _. merge_from (before ++ (x ∷ [])) xs n) (λ _. merged x n xs ∷ merge_from (before ++ (x ∷ [])) xs (suc n))))
        ≡ foremost (faults_if e x.name 24 ++ each_name (before ++ (x ∷ [])) xs)
    go true u true e f g = absurd (false≢true (sym (used_clear x before before h u) ∙ e))
    go true u false e f g = f (λ y. c y ∙ sym (same_used y x before u)) (clear_more before x h e)
    go false u true e f g =
        ap (λ (b : Bool). foremost (faults_if b x.name 24 ++ each_name (os ++ (merged x n xs ∷ [])) (merge_from (before ++ (x ∷ [])) xs (suc n)))) (elsewhere_merged x n xs os ∙ c x ∙ e)
    go false u false e f g =
        ap (λ (b : Bool). foremost (faults_if b x.name 24 ++ each_name (os ++ (merged x n xs ∷ [])) (merge_from (before ++ (x ∷ [])) xs (suc n)))) (elsewhere_merged x n xs os ∙ c x ∙ e)
        ∙ g (same_merged os before x n xs c) (clear_more before x h e)

names_first : (xs : List Object) (p : ℕ) → InOrder p (object_words xs) → first (each_name [] xs) ≡ first (each_name [] (merge xs))
unfolding merge
names_first xs p o =
    let i = ordered_sub (names_sub xs) p o in
    let j = ordered_sub (merge_sub [] xs 0) p i in
    rises_first (each_name [] xs) (at_rises p (names_at [] xs) i) ∙ sym (foremost_same [] [] xs 0 (λ y. refl) tt)
    ∙ sym (rises_first (each_name [] (merge_from [] xs 0)) (at_rises p (names_at [] (merge_from [] xs 0)) j))

first_same : (a b c : List Fault) → first b ≡ first c → first (a ++ b) ≡ first (a ++ c)
first_same a b c e = first_append a b ∙ ap (sooner (first a)) e ∙ sym (first_append a c)

pub parts_or_objects : PartsOrObjects
unfolding object_faults object_faults_of_objects file_words
parts_or_objects s d =
    let f = syntax s d.tree in
    let o = subst (λ l. Ordered 0 l) (sym d.leaves) (text_ordered s) in
    let y = ordered_sub (words_leaves s d.tree) 0 (leaves_in_order s d.tree o) in
    let z = ordered_sub (sub_behind (f.version ∷ spec_words f.specs) (drop {t = f.cpu} (sub_all (object_words f.parts)))) 0 y in
    let e = names_first f.parts 0 z ∙ ap (λ l. first (each_name [] l)) (sym (syntax_merged s d.tree)) in
    first_same (too_few kinds f.objects f.cpu) _ _ (first_same (each_object [] f.objects) _ _ (first_same (each_part f.parts) _ _ e))
