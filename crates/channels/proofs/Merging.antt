-- Where two neighbouring parts of different objects change places, the merged objects are the same, or two neighbouring ones have changed places.
-- Assumes nothing.
use mathlib.Core.Path.{◌≡◌, refl, sym, ◌∙◌, ap, ap₂, subst₂}
use mathlib.Core.List.{List, [], ◌∷◌, ◌++◌}
use mathlib.Core.Bool.{Bool, true, false, false≢true}
use Prim.Native.Nat.{ℕ, suc}
use Rattle.token.specs.Find.{pick, both, either, is_there}
use Rattle.token.specs.Words.{same}
use Rattle.meaning.specs.Syntax.{Statements, done, state, Object}
use Rattle.meaning.specs.Words.{alike, choose}
use Rattle.meaning.specs.Kinds.{same_kind}
use Rattle.meaning.specs.Scopes.{find_object}
use Rattle.meaning.proofs.Merges.{same_swap}
use Rattle.reads_back.proofs.SameWords.{alike_bytes}
use Rattle.meaning.specs.Merging.{then, same_object, used, continued, merged, merge_from, merge}
use Rattle.channels.proofs.Ideals.{unnumbered_statement, unnumbered}
use Rattle.channels.proofs.Views.{both_first, both_second, kind_equal}
use Rattle.channels.proofs.Twins.{Twin, Twins, no_twins, more_twins, Swapped, swapped, behind, is_it, is_it_both, Agree, agree_none, agree_behind, agree_swapped, there_behind, there_bytes}

-- Parts of which two neighbours, of different objects, have changed places.
pub data PartsSwapped : List Object → List Object → Type 0 where
  now : {x y x' y' : Object} {xs ys : List Object} → same_object x y ≡ false → Twin x x' → Twin y y' → Twins xs ys → PartsSwapped (x ∷ y ∷ xs) (y' ∷ x' ∷ ys)
  on : {x y : Object} {xs ys : List Object} → Twin x y → PartsSwapped xs ys → PartsSwapped (x ∷ xs) (y ∷ ys)

-- The merged objects then.
pub data Rearranged (xs ys : List Object) : Type 0 where
  as_before : Twins xs ys → Rearranged xs ys
  exchanged : Swapped xs ys → Rearranged xs ys

rearranged_more : {x y : Object} {xs ys : List Object} → Twin x y → Rearranged xs ys → Rearranged (x ∷ xs) (y ∷ ys)
rearranged_more h (as_before p) = as_before (more_twins h p)
rearranged_more h (exchanged p) = exchanged (behind h p)

-- Statements ---------------------------------------------------------------------------------------------------------------------------------

then_unnumbered : (a b : Statements) → unnumbered (then a b) ≡ then (unnumbered a) (unnumbered b)
unfolding unnumbered then
then_unnumbered done b = refl
then_unnumbered (state x inside rest) b = ap (state (unnumbered_statement x) (unnumbered inside)) (then_unnumbered rest b)

pub then_same : (a b a' b' : Statements) → unnumbered a ≡ unnumbered a' → unnumbered b ≡ unnumbered b' → unnumbered (then a b) ≡ unnumbered (then a' b')
then_same a b a' b' p q = then_unnumbered a b ∙ ap₂ then p q ∙ sym (then_unnumbered a' b')

-- Tests --------------------------------------------------------------------------------------------------------------------------------------

pub same_is_it : (x y : Object) → same_object x y ≡ is_it x.kind x.name y
unfolding same_object
same_is_it x y = refl

same_twins : {x x' y y' : Object} → Twin x x' → Twin y y' → same_object x y ≡ same_object x' y'
unfolding same_object alike
same_twins {x} {x'} {y} {y'} h i =
    ap₂ (λ k j. both (same_kind k j) (same y.name.bytes x.name.bytes)) h.kind i.kind
    ∙ ap₂ (λ m n. both (same_kind x'.kind y'.kind) (same m n)) i.name h.name

used_twins : {a b : List Object} {x y : Object} → Agree a b → Twin x y → used x a ≡ used y b
unfolding used
used_twins {a} {b} {x} {y} e h = there_bytes x.kind y.kind x.name y.name a h.kind h.name ∙ e.there y.kind y.name

-- A part of another object changes nothing.
used_other : (a : List Object) (x y : Object) → same_object y x ≡ false → used y (a ++ (x ∷ [])) ≡ used y a
unfolding used
used_other a x y e = there_behind y.kind y.name a x ∙ ap (either (is_there (find_object y.kind a y.name))) (sym (same_is_it y x) ∙ e) ∙ either_none (is_there (find_object y.kind a y.name))
  where
    either_none : (b : Bool) → either b false ≡ b
    either_none true = refl
    either_none false = refl

continued_other : (x y : Object) (ys : List Object) → same_object x y ≡ false → continued x (y ∷ ys) ≡ continued x ys
unfolding continued
continued_other x y ys e = ap (λ b. pick b (then y.statements (continued x ys)) (continued x ys)) e

-- An object is not a part of two.
not_both : (z x y : Object) → same_object x y ≡ false → same_object z x ≡ true → same_object z y ≡ true → ⊥
unfolding same_object
not_both z x y e p q =
    let i = kind_equal z.kind x.kind (both_first (same_kind z.kind x.kind) (alike x.name z.name) p) in
    let j = kind_equal z.kind y.kind (both_first (same_kind z.kind y.kind) (alike y.name z.name) q) in
    let u = alike_bytes x.name z.name (both_second (same_kind z.kind x.kind) (alike x.name z.name) p) in
    let v = alike_bytes y.name z.name (both_second (same_kind z.kind y.kind) (alike y.name z.name) q) in
    false≢true (sym e ∙ is_it_both x.kind x.name y (sym i ∙ j) (v ∙ sym u))

-- What continues an object -------------------------------------------------------------------------------------------------------------------

pub pick_unnumbered : (b c : Bool) (p q r t : Statements) → b ≡ c → unnumbered p ≡ unnumbered r → unnumbered q ≡ unnumbered t → unnumbered (pick b p q) ≡ unnumbered (pick c r t)
pick_unnumbered true true p q r t e h i = h
pick_unnumbered true false p q r t e h i = absurd (false≢true (sym e))
pick_unnumbered false true p q r t e h i = absurd (false≢true e)
pick_unnumbered false false p q r t e h i = i

continued_more : {z z' x y : Object} (xs ys : List Object) → Twin z z' → Twin x y → unnumbered (continued z xs) ≡ unnumbered (continued z' ys)
    → unnumbered (continued z (x ∷ xs)) ≡ unnumbered (continued z' (y ∷ ys))
unfolding continued
continued_more {z} {z'} {x} {y} xs ys h i e =
    pick_unnumbered (same_object z x) (same_object z' y) (then x.statements (continued z xs)) (continued z xs) (then y.statements (continued z' ys)) (continued z' ys) (same_twins h i)
    (then_same x.statements (continued z xs) y.statements (continued z' ys) i.statements e) e

continued_twins : {z z' : Object} {xs ys : List Object} → Twin z z' → Twins xs ys → unnumbered (continued z xs) ≡ unnumbered (continued z' ys)
unfolding continued
continued_twins h no_twins = refl
continued_twins h (more_twins {xs = xs} {ys = ys} i p) = continued_more xs ys h i (continued_twins h p)

swap_continued : (z z' x y x' y' : Object) (xs ys : List Object) → same_object x y ≡ false → Twin z z' → Twin x x' → Twin y y' → Twins xs ys
    → unnumbered (continued z (x ∷ y ∷ xs)) ≡ unnumbered (continued z' (y' ∷ x' ∷ ys))
unfolding continued
swap_continued z z' x y x' y' xs ys e h i j p = go (same_object z x) (same_object z y) refl refl
  where
    X : Statements
    X = continued z xs

    Y : Statements
    Y = continued z' ys

    rest : unnumbered X ≡ unnumbered Y
    rest = continued_twins h p

    go : (b c : Bool) → same_object z x ≡ b → same_object z y ≡ c
        → unnumbered (pick (same_object z x) (then x.statements (pick (same_object z y) (then y.statements X) X)) (pick (same_object z y) (then y.statements X) X))
        ≡ unnumbered (pick (same_object z' y') (then y'.statements (pick (same_object z' x') (then x'.statements Y) Y)) (pick (same_object z' x') (then x'.statements Y) Y))
    go true true p q = absurd (not_both z x y e p q)
    go true false p q =
        ap₂ (λ b c. unnumbered (pick b (then x.statements (pick c (then y.statements X) X)) (pick c (then y.statements X) X))) p q
        ∙ then_same x.statements X x'.statements Y i.statements rest
        ∙ sym (ap₂ (λ c b. unnumbered (pick c (then y'.statements (pick b (then x'.statements Y) Y)) (pick b (then x'.statements Y) Y))) (sym (same_twins h j) ∙ q) (sym (same_twins h i) ∙ p))
    go false true p q =
        ap₂ (λ b c. unnumbered (pick b (then x.statements (pick c (then y.statements X) X)) (pick c (then y.statements X) X))) p q
        ∙ then_same y.statements X y'.statements Y j.statements rest
        ∙ sym (ap₂ (λ c b. unnumbered (pick c (then y'.statements (pick b (then x'.statements Y) Y)) (pick b (then x'.statements Y) Y))) (sym (same_twins h j) ∙ q) (sym (same_twins h i) ∙ p))
    go false false p q =
        ap₂ (λ b c. unnumbered (pick b (then x.statements (pick c (then y.statements X) X)) (pick c (then y.statements X) X))) p q
        ∙ rest
        ∙ sym (ap₂ (λ c b. unnumbered (pick c (then y'.statements (pick b (then x'.statements Y) Y)) (pick b (then x'.statements Y) Y))) (sym (same_twins h j) ∙ q) (sym (same_twins h i) ∙ p))

continued_swapped : {z z' : Object} {xs ys : List Object} → Twin z z' → PartsSwapped xs ys → unnumbered (continued z xs) ≡ unnumbered (continued z' ys)
continued_swapped {z} {z'} h (now {x} {y} {x'} {y'} {xs} {ys} e i j p) = swap_continued z z' x y x' y' xs ys e h i j p
continued_swapped h (on {xs = xs} {ys = ys} i p) = continued_more xs ys h i (continued_swapped h p)

merged_twin : {x y : Object} (n m : ℕ) (xs ys : List Object) → Twin x y → unnumbered (continued x xs) ≡ unnumbered (continued y ys) → Twin (merged x n xs) (merged y m ys)
unfolding merged
merged_twin {x} {y} n m xs ys h e = record { kind = h.kind; name = h.name; statements = then_same x.statements (continued x xs) y.statements (continued y ys) h.statements e }

-- Merging ------------------------------------------------------------------------------------------------------------------------------------

pub merge_skip : (before : List Object) (x : Object) (xs : List Object) (n : ℕ) → used x before ≡ true → merge_from before (x ∷ xs) n ≡ merge_from (before ++ (x ∷ [])) xs n
unfolding merge_from choose
merge_skip before x xs n e = ap (λ b. choose b (λ _. merge_from (before ++ (x ∷ [])) xs n) (λ _. merged x n xs ∷ merge_from (before ++ (x ∷ [])) xs (suc n))) e

pub merge_new : (before : List Object) (x : Object) (xs : List Object) (n : ℕ) → used x before ≡ false → merge_from before (x ∷ xs) n ≡ merged x n xs ∷ merge_from (before ++ (x ∷ [])) xs (suc n)
unfolding merge_from choose
merge_new before x xs n e = ap (λ b. choose b (λ _. merge_from (before ++ (x ∷ [])) xs n) (λ _. merged x n xs ∷ merge_from (before ++ (x ∷ [])) xs (suc n))) e

pub merge_twins : {a b xs ys : List Object} (n m : ℕ) → Agree a b → Twins xs ys → Twins (merge_from a xs n) (merge_from b ys m)
unfolding merge_from
merge_twins n m e no_twins = no_twins
merge_twins {a} {b} n m e (more_twins {x} {y} {xs} {ys} h p) =
    go (used x a) refl (λ i j. merge_twins i j (agree_behind e h) p)
  where
    go : (c : Bool) → used x a ≡ c → ((i j : ℕ) → Twins (merge_from (a ++ (x ∷ [])) xs i) (merge_from (b ++ (y ∷ [])) ys j)) → Twins (merge_from a (x ∷ xs) n) (merge_from b (y ∷ ys) m)
    go true q k = subst₂ (λ l r. Twins l r) (sym (merge_skip a x xs n q)) (sym (merge_skip b y ys m (sym (used_twins e h) ∙ q))) (k n m)
    go false q k =
        subst₂ (λ l r. Twins l r) (sym (merge_new a x xs n q)) (sym (merge_new b y ys m (sym (used_twins e h) ∙ q)))
        (more_twins (merged_twin n m xs ys h (continued_twins h p)) (k (suc n) (suc m)))

turned_same : (x y : Object) → same_object x y ≡ false → same_object y x ≡ false
turned_same x y e = same_swap y x ∙ e

module _ (a b : List Object) (x y x' y' : Object) (xs ys : List Object) (n m : ℕ) (agree : Agree a b) (apart : same_object x y ≡ false) (h : Twin x x') (i : Twin y y') (p : Twins xs ys) where
  apart' : same_object x' y' ≡ false
  apart' = sym (same_twins h i) ∙ apart

  after : (j k : ℕ) → Twins (merge_from ((a ++ (x ∷ [])) ++ (y ∷ [])) xs j) (merge_from ((b ++ (y' ∷ [])) ++ (x' ∷ [])) ys k)
  after j k = merge_twins j k (agree_swapped agree h i) p

  y_used : used y (a ++ (x ∷ [])) ≡ used y a
  y_used = used_other a x y (turned_same x y apart)

  x_used : used x' (b ++ (y' ∷ [])) ≡ used x' b
  x_used = used_other b y' x' apart'

  one_twin : (j k : ℕ) → Twin (merged x j (y ∷ xs)) (merged x' k ys)
  one_twin j k = merged_twin j k (y ∷ xs) ys h (ap unnumbered (continued_other x y xs apart) ∙ continued_twins h p)

  other_twin : (j k : ℕ) → Twin (merged y j xs) (merged y' k (x' ∷ ys))
  other_twin j k = merged_twin j k xs (x' ∷ ys) i (continued_twins i p ∙ sym (ap unnumbered (continued_other y' x' ys (turned_same x' y' apart'))))

  merge_now : (c d : Bool) → used x a ≡ c → used y a ≡ d → Rearranged (merge_from a (x ∷ y ∷ xs) n) (merge_from b (y' ∷ x' ∷ ys) m)
  merge_now true true q r =
      as_before (subst₂ (λ l t. Twins l t)
      (sym (merge_skip a x (y ∷ xs) n q ∙ merge_skip (a ++ (x ∷ [])) y xs n (y_used ∙ r)))
      (sym (merge_skip b y' (x' ∷ ys) m (sym (used_twins agree i) ∙ r) ∙ merge_skip (b ++ (y' ∷ [])) x' ys m (x_used ∙ sym (used_twins agree h) ∙ q)))
      (after n m))
  merge_now true false q r =
      as_before (subst₂ (λ l t. Twins l t)
      (sym (merge_skip a x (y ∷ xs) n q ∙ merge_new (a ++ (x ∷ [])) y xs n (y_used ∙ r)))
      (sym (merge_new b y' (x' ∷ ys) m (sym (used_twins agree i) ∙ r) ∙ ap (merged y' m (x' ∷ ys) ∷◌) (merge_skip (b ++ (y' ∷ [])) x' ys (suc m) (x_used ∙ sym (used_twins agree h) ∙ q))))
      (more_twins (other_twin n m) (after (suc n) (suc m))))
  merge_now false true q r =
      as_before (subst₂ (λ l t. Twins l t)
      (sym (merge_new a x (y ∷ xs) n q ∙ ap (merged x n (y ∷ xs) ∷◌) (merge_skip (a ++ (x ∷ [])) y xs (suc n) (y_used ∙ r))))
      (sym (merge_skip b y' (x' ∷ ys) m (sym (used_twins agree i) ∙ r) ∙ merge_new (b ++ (y' ∷ [])) x' ys m (x_used ∙ sym (used_twins agree h) ∙ q)))
      (more_twins (one_twin n m) (after (suc n) (suc m))))
  merge_now false false q r =
      exchanged (subst₂ (λ l t. Swapped l t)
      (sym (merge_new a x (y ∷ xs) n q ∙ ap (merged x n (y ∷ xs) ∷◌) (merge_new (a ++ (x ∷ [])) y xs (suc n) (y_used ∙ r))))
      (sym (merge_new b y' (x' ∷ ys) m (sym (used_twins agree i) ∙ r) ∙ ap (merged y' m (x' ∷ ys) ∷◌) (merge_new (b ++ (y' ∷ [])) x' ys (suc m) (x_used ∙ sym (used_twins agree h) ∙ q))))
      (swapped (one_twin n (suc m)) (other_twin (suc n) m) (after (suc (suc n)) (suc (suc m)))))

pub merge_swapped : {a b xs ys : List Object} (n m : ℕ) → Agree a b → PartsSwapped xs ys → Rearranged (merge_from a xs n) (merge_from b ys m)
merge_swapped {a} {b} n m e (now {x} {y} {x'} {y'} {xs} {ys} q h i p) = merge_now a b x y x' y' xs ys n m e q h i p (used x a) (used y a) refl refl
merge_swapped {a} {b} n m e (on {x} {y} {xs} {ys} h p) = go (used x a) refl (λ i j. merge_swapped i j (agree_behind e h) p)
  where
    go : (c : Bool) → used x a ≡ c → ((i j : ℕ) → Rearranged (merge_from (a ++ (x ∷ [])) xs i) (merge_from (b ++ (y ∷ [])) ys j)) → Rearranged (merge_from a (x ∷ xs) n) (merge_from b (y ∷ ys) m)
    go true q k = subst₂ (λ l r. Rearranged l r) (sym (merge_skip a x xs n q)) (sym (merge_skip b y ys m (sym (used_twins e h) ∙ q))) (k n m)
    go false q k =
        subst₂ (λ l r. Rearranged l r) (sym (merge_new a x xs n q)) (sym (merge_new b y ys m (sym (used_twins e h) ∙ q)))
        (rearranged_more (merged_twin n m xs ys h (continued_swapped h p)) (k (suc n) (suc m)))

-- The objects of exchanged parts.
pub merge_exchanged : {xs ys : List Object} → PartsSwapped xs ys → Rearranged (merge xs) (merge ys)
unfolding merge
merge_exchanged p = merge_swapped 0 0 agree_none p
