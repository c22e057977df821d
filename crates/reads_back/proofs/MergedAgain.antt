-- Merging and normal text: places play no part in it; the objects that are made of parts have kinds and names of their own; and where each part has,
-- merging changes nothing. Assumes nothing.
use mathlib.Core.Path.{◌≡◌, refl, sym, ◌∙◌, ap, ap₂, subst}
use mathlib.Core.List.{List, [], ◌∷◌, ◌++◌, append_assoc}
use mathlib.Core.Bool.{Bool, true, false, not}
use Prim.Native.Nat.{ℕ, suc, ◌+◌}
use Rattle.token.specs.Find.{pick, both, either, bit}
use Rattle.token.proofs.Bytes.{neither_first, neither_second}
use Rattle.meaning.specs.Syntax.{Statements, done, state, Object}
use Rattle.meaning.specs.Words.{alike, choose}
use Rattle.meaning.specs.Kinds.{same_kind}
use Rattle.meaning.specs.Faults.{faults_if}
use Rattle.meaning.specs.Applying.{elsewhere, each_name}
use Rattle.meaning.proofs.Rooms.{nothing_front, nothing_back, not_faulty}
use Rattle.meaning.specs.Merging.{then, same_object, used, further, continued, merged, merge_from, merge}
use Rattle.meaning.specs.Places.{each}
use Rattle.meaning.proofs.Unplaced.{unplaced_word, unplaced_statement, unplaced_statements, unplaced_object, each_append}
use Rattle.meaning.proofs.Merges.{Alike, same_alike, same_swap, then_done, used_more, used_none, used_behind, used_alike, elsewhere_append}

-- Without places -------------------------------------------------------------------------------------------------------------------------------

then_unplaced : (a b : Statements) → unplaced_statements (then a b) ≡ then (unplaced_statements a) (unplaced_statements b)
unfolding then unplaced_statements
then_unplaced done b = refl
then_unplaced (state x inside rest) b = ap (state (unplaced_statement x) (unplaced_statements inside)) (then_unplaced rest b)

same_unplaced : (x y : Object) → same_object (unplaced_object x) (unplaced_object y) ≡ same_object x y
unfolding same_object unplaced_object unplaced_word alike
same_unplaced x y = refl

used_unplaced : (x : Object) (l : List Object) → used (unplaced_object x) (each unplaced_object l) ≡ used x l
unfolding each
used_unplaced x [] = used_none (unplaced_object x) ∙ sym (used_none x)
used_unplaced x (y ∷ l) =
    used_more (unplaced_object x) (unplaced_object y) (each unplaced_object l) ∙ ap₂ either (same_unplaced x y) (used_unplaced x l) ∙ sym (used_more x y l)

further_unplaced : (x : Object) (l : List Object) → further (unplaced_object x) (each unplaced_object l) ≡ further x l
unfolding each further
further_unplaced x [] = refl
further_unplaced x (y ∷ l) = ap₂ (λ (b : Bool) (n : ℕ). bit b + n) (same_unplaced x y) (further_unplaced x l)

statements_of : (y : Object) → (unplaced_object y).statements ≡ unplaced_statements y.statements
unfolding unplaced_object
statements_of y = refl

continued_unplaced : (x : Object) (l : List Object) → continued (unplaced_object x) (each unplaced_object l) ≡ unplaced_statements (continued x l)
unfolding each continued unplaced_statements
continued_unplaced x [] = refl
continued_unplaced x (y ∷ l) =
    ap (λ (b : Bool). pick b (then (unplaced_object y).statements (continued (unplaced_object x) (each unplaced_object l))) (continued (unplaced_object x) (each unplaced_object l))) (same_unplaced x y)
    ∙ go (same_object x y) (continued_unplaced x l)
  where
    go : (b : Bool) → continued (unplaced_object x) (each unplaced_object l) ≡ unplaced_statements (continued x l)
        → pick b (then (unplaced_object y).statements (continued (unplaced_object x) (each unplaced_object l))) (continued (unplaced_object x) (each unplaced_object l))
        ≡ unplaced_statements (pick b (then y.statements (continued x l)) (continued x l))
    go true e = ap₂ then (statements_of y) e ∙ sym (then_unplaced y.statements (continued x l))
    go false e = e

merged_unplaced : (x : Object) (n : ℕ) (l : List Object) → merged (unplaced_object x) n (each unplaced_object l) ≡ unplaced_object (merged x n l)
unfolding merged unplaced_object
merged_unplaced x n l =
    ap₂ (λ (m : ℕ) (ss : Statements). record { row = n; kind = x.kind; word = unplaced_word x.word; name = unplaced_word x.name; block = (unplaced_object x).block; parts = suc m; statements = then (unplaced_statements x.statements) ss })
    (further_unplaced x l) (continued_unplaced x l)
    ∙ ap (λ (ss : Statements). record { row = n; kind = x.kind; word = unplaced_word x.word; name = unplaced_word x.name; block = (unplaced_object x).block; parts = suc (further x l); statements = ss })
    (sym (then_unplaced x.statements (continued x l)))

merge_from_unplaced : (before xs : List Object) (n : ℕ) → merge_from (each unplaced_object before) (each unplaced_object xs) n ≡ each unplaced_object (merge_from before xs n)
unfolding each merge_from choose
merge_from_unplaced before [] n = refl
merge_from_unplaced before (x ∷ xs) n =
    let u = unplaced_object x in
    let us = each unplaced_object xs in
    let b : each unplaced_object before ++ (u ∷ []) ≡ each unplaced_object (before ++ (x ∷ [])) = sym (each_append unplaced_object before (x ∷ [])) in
    ap₂ (λ (t : Bool) (l : List Object). choose t (λ _. merge_from l us n) (λ _. merged u n us ∷ merge_from l us (suc n))) (used_unplaced x before) b
    ∙ go (used x before) (merge_from_unplaced (before ++ (x ∷ [])) xs n) (merge_from_unplaced (before ++ (x ∷ [])) xs (suc n))
  where
    go : (t : Bool) → merge_from (each unplaced_object (before ++ (x ∷ []))) (each unplaced_object xs) n ≡ each unplaced_object (merge_from (before ++ (x ∷ [])) xs n)
        → merge_from (each unplaced_object (before ++ (x ∷ []))) (each unplaced_object xs) (suc n) ≡ each unplaced_object (merge_from (before ++ (x ∷ [])) xs (suc n))
        → choose t (λ _. merge_from (each unplaced_object (before ++ (x ∷ []))) (each unplaced_object xs) n)
        (λ _. merged (unplaced_object x) n (each unplaced_object xs) ∷ merge_from (each unplaced_object (before ++ (x ∷ []))) (each unplaced_object xs) (suc n))
        ≡ each unplaced_object (choose t (λ _. merge_from (before ++ (x ∷ [])) xs n) (λ _. merged x n xs ∷ merge_from (before ++ (x ∷ [])) xs (suc n)))
    go true p q = p
    go false p q = ap₂ ◌∷◌ (merged_unplaced x n xs) q

pub merge_unplaced : (xs : List Object) → merge (each unplaced_object xs) ≡ each unplaced_object (merge xs)
unfolding merge each
merge_unplaced xs = merge_from_unplaced [] xs 0

-- Kinds and names of their own -------------------------------------------------------------------------------------------------------------------

-- No object has the kind and name of one before it.
abbrev pub AllNew : List Object → List Object → Type 0
AllNew before [] = Unit {0}
AllNew before (x ∷ xs) = (used x before ≡ false) × AllNew (before ++ (x ∷ [])) xs

-- The same kinds and names are used in both.
abbrev SameUsed : List Object → List Object → Type 0
SameUsed l m = (z : Object) → used z l ≡ used z m

merged_alike : (x : Object) (n : ℕ) (l : List Object) → Alike (merged x n l) x
unfolding merged
merged_alike x n l = record { kinds = refl; names = refl }

same_merged : (z x : Object) (n : ℕ) (l : List Object) → same_object z (merged x n l) ≡ same_object z x
unfolding same_object merged
same_merged z x n l = refl

new_from : (os before xs : List Object) (n : ℕ) → SameUsed os before → AllNew os (merge_from before xs n)
unfolding merge_from choose
new_from os before [] n h = tt
new_from os before (x ∷ xs) n h =
    go (used x before) refl (λ g. new_from os (before ++ (x ∷ [])) xs n g) (λ g. new_from (os ++ (merged x n xs ∷ [])) (before ++ (x ∷ [])) xs (suc n) g)
  where
    either_used : (z : Object) → used x before ≡ true → used z before ≡ used z (before ++ (x ∷ []))
    either_used z u = sym (used_behind z x before ∙ by (used z before) (same_object z x) (λ e. used_alike z x before (same_alike z x e) ∙ u))
      where
        by : (a b : Bool) → (b ≡ true → a ≡ true) → either a b ≡ a
        by true b f = refl
        by false true f = sym (f refl)
        by false false f = refl

    go : (b : Bool) → used x before ≡ b → (SameUsed os (before ++ (x ∷ [])) → AllNew os (merge_from (before ++ (x ∷ [])) xs n))
        → (SameUsed (os ++ (merged x n xs ∷ [])) (before ++ (x ∷ [])) → AllNew (os ++ (merged x n xs ∷ [])) (merge_from (before ++ (x ∷ [])) xs (suc n)))
        → AllNew os (choose b (λ _. merge_from (before ++ (x ∷ [])) xs n) (λ _. merged x n xs ∷ merge_from (before ++ (x ∷ [])) xs (suc n)))
    go true u p q = p (λ z. h z ∙ either_used z u)
    go false u p q = (
      used_alike (merged x n xs) x os (merged_alike x n xs) ∙ h x ∙ u,
      q (λ z. used_behind z (merged x n xs) os ∙ ap₂ either (h z) (same_merged z x n xs) ∙ sym (used_behind z x before)),
    )

pub merge_new : (xs : List Object) → AllNew [] (merge xs)
unfolding merge
merge_new xs = new_from [] [] xs 0 (λ z. refl)

-- Merging what has kinds and names of its own -----------------------------------------------------------------------------------------------------

-- Parts with rows from n on, of one part each.
abbrev pub Single : ℕ → List Object → Type 0
Single n [] = Unit {0}
Single n (x ∷ xs) = (x.row ≡ n) × (x.parts ≡ 1) × Single (suc n) xs

-- A name that is used by none was not used by one of them.
inside_none : (y x : Object) (a b : List Object) → used y (a ++ (x ∷ b)) ≡ false → same_object x y ≡ false
inside_none y x [] b e = same_swap x y ∙ neither_first (same_object y x) (used y b) (sym (used_more y x b) ∙ e)
inside_none y x (z ∷ a) b e = inside_none y x a b (neither_second (same_object y z) (used y (a ++ (x ∷ b))) (sym (used_more y z (a ++ (x ∷ b))) ∙ e))

module _ (x : Object) where
  no_further : (a b ys : List Object) → AllNew (a ++ (x ∷ b)) ys → (further x ys ≡ 0) × (continued x ys ≡ done)
  unfolding further continued bit
  no_further a b [] h = (refl, refl)
  no_further a b (y ∷ ys) h =
      let e = inside_none y x a b h.0 in
      let r = no_further a (b ++ (y ∷ [])) ys (behind h.1) in (
        ap₂ (λ (t : Bool) (n : ℕ). bit t + n) e r.0,
        ap₂ (λ (t : Bool) (ss : Statements). pick t (then y.statements ss) ss) e r.1,
      )
    where
      behind : AllNew ((a ++ (x ∷ b)) ++ (y ∷ [])) ys → AllNew (a ++ (x ∷ (b ++ (y ∷ [])))) ys
      behind k = subst (λ (l : List Object). AllNew l ys) (append_assoc a (x ∷ b) (y ∷ [])) k

whole_again : (x : Object) (n : ℕ) (l : List Object) → x.row ≡ n → x.parts ≡ 1 → further x l ≡ 0 → continued x l ≡ done → merged x n l ≡ x
unfolding merged
whole_again x n l a b c d =
    ap₂ (λ (m : ℕ) (ss : Statements). record { row = n; kind = x.kind; word = x.word; name = x.name; block = x.block; parts = suc m; statements = then x.statements ss }) c d
    ∙ ap₂ (λ (m k : ℕ). record { row = m; kind = x.kind; word = x.word; name = x.name; block = x.block; parts = k; statements = then x.statements done }) (sym a) (sym b)
    ∙ ap (λ (ss : Statements). record { row = x.row; kind = x.kind; word = x.word; name = x.name; block = x.block; parts = x.parts; statements = ss }) (then_done x.statements)

same_from : (before xs : List Object) (n : ℕ) → AllNew before xs → Single n xs → merge_from before xs n ≡ xs
unfolding merge_from choose
same_from before [] n h s = refl
same_from before (x ∷ xs) n h s =
    let r = no_further x before [] xs h.1 in
    ap (λ (b : Bool). choose b (λ _. merge_from (before ++ (x ∷ [])) xs n) (λ _. merged x n xs ∷ merge_from (before ++ (x ∷ [])) xs (suc n))) h.0
    ∙ ap₂ ◌∷◌ (whole_again x n xs s.0 s.1 r.0 r.1) (same_from (before ++ (x ∷ [])) xs (suc n) h.1 s.2)

pub merge_same : (xs : List Object) → AllNew [] xs → Single 0 xs → merge xs ≡ xs
unfolding merge
merge_same xs h s = same_from [] xs 0 h s

-- Names used by objects of other kinds ---------------------------------------------------------------------------------------------------------------

-- A merged object has the kind and name of its first part.
pub elsewhere_merged : (x : Object) (n : ℕ) (xs os : List Object) → elsewhere (merged x n xs) os ≡ elsewhere x os
unfolding elsewhere merged
elsewhere_merged x n xs [] = refl
elsewhere_merged x n xs (y ∷ os) = ap (either (both (not (same_kind x.kind y.kind)) (alike y.name x.name))) (elsewhere_merged x n xs os)

pub merged_elsewhere : (y x : Object) (n : ℕ) (xs : List Object) → elsewhere y (merged x n xs ∷ []) ≡ elsewhere y (x ∷ [])
unfolding elsewhere merged
merged_elsewhere y x n xs = refl

-- What no part of before has, no object of os has.
abbrev Fewer : List Object → List Object → Type 0
Fewer os before = (y : Object) → elsewhere y before ≡ false → elsewhere y os ≡ false

fewer_old : (os before : List Object) (x : Object) → Fewer os before → Fewer os (before ++ (x ∷ []))
fewer_old os before x c y h = c y (neither_first (elsewhere y before) (elsewhere y (x ∷ [])) (sym (elsewhere_append y before (x ∷ [])) ∙ h))

fewer_new : (os before : List Object) (x : Object) (n : ℕ) (xs : List Object) → Fewer os before → Fewer (os ++ (merged x n xs ∷ [])) (before ++ (x ∷ []))
fewer_new os before x n xs c y h =
    let e = sym (elsewhere_append y before (x ∷ [])) ∙ h in
    elsewhere_append y os (merged x n xs ∷ [])
    ∙ ap₂ either (c y (neither_first (elsewhere y before) (elsewhere y (x ∷ [])) e)) (merged_elsewhere y x n xs ∙ neither_second (elsewhere y before) (elsewhere y (x ∷ [])) e)

names_from : (before os xs : List Object) (n : ℕ) → Fewer os before → each_name before xs ≡ [] → each_name os (merge_from before xs n) ≡ []
unfolding merge_from each_name choose faults_if
names_from before os [] n c e = refl
names_from before os (x ∷ xs) n c e =
    let A = faults_if (elsewhere x before) x.name 24 in
    let B = each_name (before ++ (x ∷ [])) xs in
    let t = elsewhere_merged x n xs os ∙ c x (not_faulty (elsewhere x before) x.name 24 (nothing_front A B e)) in
    let r = nothing_back A B e in
    go (used x before) (names_from (before ++ (x ∷ [])) os xs n (fewer_old os before x c) r)
    (ap₂ ◌++◌ (ap (λ (b : Bool). faults_if b (merged x n xs).name 24) t) (names_from (before ++ (x ∷ [])) (os ++ (merged x n xs ∷ [])) xs (suc n) (fewer_new os before x n xs c) r))
  where
    go : (b : Bool) → each_name os (merge_from (before ++ (x ∷ [])) xs n) ≡ []
        → faults_if (elsewhere (merged x n xs) os) (merged x n xs).name 24 ++ each_name (os ++ (merged x n xs ∷ [])) (merge_from (before ++ (x ∷ [])) xs (suc n)) ≡ []
        → each_name os (choose b (λ _. merge_from (before ++ (x ∷ [])) xs n) (λ _. merged x n xs ∷ merge_from (before ++ (x ∷ [])) xs (suc n))) ≡ []
    go true p q = p
    go false p q = q

pub merge_names : (xs : List Object) → each_name [] xs ≡ [] → each_name [] (merge xs) ≡ []
unfolding merge
merge_names xs e = names_from [] [] xs 0 (λ y h. h) e
