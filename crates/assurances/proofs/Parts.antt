-- Objects in parts: the statements of specs/Parts. Assumes nothing.
use mathlib.Core.Path.{◌≡◌, refl, sym, ◌∙◌, ap, ap₂, subst}
use mathlib.Core.List.{List, [], ◌∷◌, ◌++◌, append_assoc}
use mathlib.Core.Bool.{Bool, true, false, false≢true}
use Prim.Native.Nat.{ℕ, suc, ◌+◌}
use native.Mathlib.Omega.{arith}
use Rattle.token.specs.Find.{pick, either, bit}
use Rattle.token.proofs.Bytes.{neither_first, neither_second}
use Rattle.grammar.specs.Grammar.{Form, file, objects, object, ◌▸◌, ∎, ◌⟶◌, Trees, nil, leaf, node, file_is, application_is, no_object, an_object, an_object_alone, an_object_with}
use Rattle.meaning.specs.Syntax.{span_of, Statements, done, Object, File, statements_in}
use Rattle.meaning.specs.Words.{choose}
use Rattle.meaning.specs.Places.{each}
use Rattle.meaning.specs.Merging.{then, same_object, used, further, continued, merged, merge_from, merge}
use Rattle.meaning.specs.Actions.{means, meaning, syntax}
use Rattle.meaning.specs.Applying.{ObjectRow, object_rows}
use Rattle.meaning.specs.Resolving.{all_values}
use Rattle.meaning.specs.Answers.{Tables, Answer, accepted, tables}
use Rattle.meaning.specs.Reading.{Answers, too_long, not_grammar, meant}
use Rattle.meaning.proofs.Numbering.{Counts, object_numbers, merged_numbers}
use Rattle.meaning.proofs.Standing.{counts_head, counts_tail}
use Rattle.meaning.proofs.Merges.{then_done, Alike, same_alike, alike_object, same_itself, same_swap, used_more, used_none, used_behind, used_alike, syntax_merged}
use Rattle.reads_back.proofs.MergedAgain.{AllNew, merge_new, Single, merge_same}
use Rattle.reads_back.proofs.SameMeaning.{accepted_tables}
use Rattle.assurances.specs.Own.{Row, here, behind}
use Rattle.assurances.specs.Parts.{Distinct, OnePart, Numbered, parts_in, firsts, head, InParts, PartsMerge, TextInParts, row_of, PartRows, RowsOfParts}

-- What is gathered of one kind and name ----------------------------------------------------------------------------------------------------------

-- What f gives of those that have the kind and name of z, put together.
unfoldable gather : {A : Type 0} → A → (A → A → A) → (Object → A) → Object → List Object → A
gather e op f z [] = e
gather e op f z (y ∷ ys) = let r = gather e op f z ys in pick (same_object z y) (op (f y) r) r

continued_gather : (z : Object) (l : List Object) → continued z l ≡ gather done then (λ x. x.statements) z l
unfolding continued gather
continued_gather z [] = refl
continued_gather z (y ∷ l) = ap (λ (r : Statements). pick (same_object z y) (then y.statements r) r) (continued_gather z l)

further_gather : (z : Object) (l : List Object) → further z l ≡ gather 0 ◌+◌ (λ x. 1) z l
unfolding further gather bit
further_gather z [] = refl
further_gather z (y ∷ l) = go (same_object z y) (further z l) (gather 0 ◌+◌ (λ x. 1) z l) (further_gather z l)
  where
    go : (b : Bool) (m n : ℕ) → m ≡ n → bit b + m ≡ pick b (1 + n) n
    go true m n e = omega arith
    go false m n e = omega arith

parts_gather : (z : Object) (l : List Object) → parts_in z l ≡ gather 0 ◌+◌ (λ x. x.parts) z l
unfolding parts_in gather
parts_gather z [] = refl
parts_gather z (y ∷ l) = ap (λ (r : ℕ). pick (same_object z y) (y.parts + r) r) (parts_gather z l)

merged_name : (z x : Object) (n : ℕ) (l : List Object) → same_object z (merged x n l) ≡ same_object z x
unfolding same_object merged
merged_name z x n l = refl

choose_each : {A : Type 0} (h : List Object → A) (u : Bool) (a b : List Object) → h (choose u (λ _. a) (λ _. b)) ≡ pick u (h a) (h b)
unfolding choose
choose_each h true a b = refl
choose_each h false a b = refl

module _ {A : Type 0} (e : A) (op : A → A → A) (unit : (a : A) → op a e ≡ a) where
  gather_alike : (f : Object → A) (z x : Object) (l : List Object) → Alike z x → gather e op f z l ≡ gather e op f x l
  unfolding gather
  gather_alike f z x [] a = refl
  gather_alike f z x (y ∷ l) a = ap₂ (λ (b : Bool) (r : A). pick b (op (f y) r) r) (alike_object z x y a) (gather_alike f z x l a)

  -- Whether the part was used before (u), has the kind and name in question (b), and these were used before (v) and with it (w).
  by_cases : (u b v w : Bool) (x c d r₀ r₁ : A) → w ≡ either v b → (b ≡ true → v ≡ u) → (b ≡ true → d ≡ c) → r₀ ≡ pick w e c → r₁ ≡ pick w e c
      → pick u r₀ (pick b (op (op x d) r₁) r₁) ≡ pick v e (pick b (op x c) c)
  by_cases true true true w x c d r₀ r₁ q h k p₀ p₁ = p₀ ∙ ap (λ (t : Bool). pick t e c) q
  by_cases true true false w x c d r₀ r₁ q h k p₀ p₁ = absurd (false≢true (h refl))
  by_cases false true true w x c d r₀ r₁ q h k p₀ p₁ = absurd (false≢true (sym (h refl)))
  by_cases false true false w x c d r₀ r₁ q h k p₀ p₁ = ap (op (op x d)) (p₁ ∙ ap (λ (t : Bool). pick t e c) q) ∙ unit (op x d) ∙ ap (op x) (k refl)
  by_cases true false true w x c d r₀ r₁ q h k p₀ p₁ = p₀ ∙ ap (λ (t : Bool). pick t e c) q
  by_cases true false false w x c d r₀ r₁ q h k p₀ p₁ = p₀ ∙ ap (λ (t : Bool). pick t e c) q
  by_cases false false true w x c d r₀ r₁ q h k p₀ p₁ = p₁ ∙ ap (λ (t : Bool). pick t e c) q
  by_cases false false false w x c d r₀ r₁ q h k p₀ p₁ = p₁ ∙ ap (λ (t : Bool). pick t e c) q

  module _ (f g : Object → A) (all_of : (x : Object) (n : ℕ) (l : List Object) → g (merged x n l) ≡ op (f x) (gather e op f x l)) where
    gather_object : (z x : Object) (n : ℕ) (xs os : List Object)
        → gather e op g z (merged x n xs ∷ os) ≡ pick (same_object z x) (op (op (f x) (gather e op f x xs)) (gather e op g z os)) (gather e op g z os)
    unfolding gather
    gather_object z x n xs os = ap₂ (λ (b : Bool) (a : A). pick b (op a (gather e op g z os)) (gather e op g z os)) (merged_name z x n xs) (all_of x n xs)

    gather_from : (z : Object) (before xs : List Object) (n : ℕ) → gather e op g z (merge_from before xs n) ≡ pick (used z before) e (gather e op f z xs)
    unfolding merge_from gather
    gather_from z before [] n = go (used z before)
      where
        go : (b : Bool) → e ≡ pick b e e
        go true = refl
        go false = refl
    gather_from z before (x ∷ xs) n =
        let l = before ++ (x ∷ []) in
        choose_each (gather e op g z) (used x before) (merge_from l xs n) (merged x n xs ∷ merge_from l xs (suc n))
        ∙ ap (pick (used x before) (gather e op g z (merge_from l xs n))) (gather_object z x n xs (merge_from l xs (suc n)))
        ∙ by_cases (used x before) (same_object z x) (used z before) (used z l) (f x) (gather e op f z xs) (gather e op f x xs)
        (gather e op g z (merge_from l xs n)) (gather e op g z (merge_from l xs (suc n))) (used_behind z x before)
        (λ h. used_alike z x before (same_alike z x h)) (λ h. sym (gather_alike f z x xs (same_alike z x h))) (gather_from z l xs n) (gather_from z l xs (suc n))

    gather_merge : (z : Object) (xs : List Object) → gather e op g z (merge xs) ≡ gather e op f z xs
    unfolding merge
    gather_merge z xs = gather_from z [] xs 0 ∙ ap (λ (b : Bool). pick b e (gather e op f z xs)) (used_none z)

  -- Where no two have one kind and name, what is gathered of one is its own.
  gather_none : (g : Object → A) (z : Object) (l : List Object) → ((j : ℕ) (y : Object) → Row l j y → same_object z y ≡ false) → gather e op g z l ≡ e
  unfolding gather
  gather_none g z [] h = refl
  gather_none g z (y ∷ l) h =
      ap (λ (b : Bool). pick b (op (g y) (gather e op g z l)) (gather e op g z l)) (h 0 y here) ∙ gather_none g z l (λ j x r. h (suc j) x (behind r))

  gather_own : (g : Object → A) (l : List Object) (n : ℕ) (z : Object) → Distinct l → Row l n z → gather e op g z l ≡ g z
  unfolding gather
  gather_own g _ _ z d (here {rs}) =
      ap₂ (λ (b : Bool) (r : A). pick b (op (g z) r) r) (same_itself z) (gather_none g z rs (λ j y r. d 0 (suc j) z y (omega arith) here (behind r))) ∙ unit (g z)
  gather_own g _ _ z d (behind {q} {rs} {n} r) =
      ap (λ (b : Bool). pick b (op (g q) (gather e op g z rs)) (gather e op g z rs)) (same_swap z q ∙ d 0 (suc n) q z (omega arith) here (behind r))
      ∙ gather_own g rs n z (λ i j x y h a b. d (suc i) (suc j) x y (omega arith) (behind a) (behind b)) r

-- Statements and numbers of parts ------------------------------------------------------------------------------------------------------------------

statements_of : (x : Object) (n : ℕ) (l : List Object) → (merged x n l).statements ≡ then x.statements (gather done then (λ y. y.statements) x l)
unfolding merged
statements_of x n l = ap (then x.statements) (continued_gather x l)

number_of : (x : Object) (n : ℕ) (l : List Object) → (merged x n l).parts ≡ 1 + gather 0 ◌+◌ (λ y. 1) x l
unfolding merged
number_of x n l = let e = further_gather x l in omega arith

no_part_more : (n : ℕ) → n + 0 ≡ n
no_part_more n = omega arith

keeps_statements : (xs : List Object) (z : Object) → continued z (merge xs) ≡ continued z xs
keeps_statements xs z =
    continued_gather z (merge xs) ∙ gather_merge done then then_done (λ x. x.statements) (λ x. x.statements) statements_of z xs ∙ sym (continued_gather z xs)

keeps_numbers : (xs : List Object) (z : Object) → parts_in z (merge xs) ≡ further z xs
keeps_numbers xs z = parts_gather z (merge xs) ∙ gather_merge 0 ◌+◌ no_part_more (λ x. 1) (λ x. x.parts) number_of z xs ∙ sym (further_gather z xs)

-- Kinds and names ------------------------------------------------------------------------------------------------------------------------------------

new_not : (before l : List Object) (j : ℕ) (y : Object) → AllNew before l → Row l j y → used y before ≡ false
new_not before _ _ y h here = h.0
new_not before _ _ y h (behind {q} {rs} {n} r) =
    neither_first (used y before) (same_object y q) (sym (used_behind y q before) ∙ new_not (before ++ (q ∷ [])) rs n y h.1 r)

new_distinct : (before l : List Object) → AllNew before l → Distinct l
new_distinct before _ h i j x y k here here = absurd (omega arith)
new_distinct before _ h i j x y k here (behind {rs} {n} r) =
    same_swap x y ∙ neither_second (used y before) (same_object y x) (sym (used_behind y x before) ∙ new_not (before ++ (x ∷ [])) rs n y h.1 r)
new_distinct before _ h i j x y k (behind r) here = absurd (omega arith)
new_distinct before _ h i j x y k (behind {q} {rs} {n} r) (behind {n = m} p) = new_distinct (before ++ (q ∷ [])) rs h.1 n m x y (omega arith) r p

distinct_new : (before l : List Object) → ((j : ℕ) (y : Object) → Row l j y → used y before ≡ false) → Distinct l → AllNew before l
distinct_new before [] h d = tt
distinct_new before (x ∷ l) h d = (
  h 0 x here,
  distinct_new (before ++ (x ∷ [])) l
      (λ j y r. used_behind y x before ∙ ap₂ either (h (suc j) y (behind r)) (same_swap y x ∙ d 0 (suc j) x y (omega arith) here (behind r)))
      (λ i j y z k a b. d (suc i) (suc j) y z (omega arith) (behind a) (behind b)),
)

-- Rows ------------------------------------------------------------------------------------------------------------------------------------------------

numbered_single : (n : ℕ) (l : List Object) → ((i : ℕ) (x : Object) → Row l i x → OnePart x (n + i)) → Single n l
numbered_single n [] h = tt
numbered_single n (x ∷ l) h = (at_first (h 0 x here).its_row, (h 0 x here).one, numbered_single (suc n) l (λ i y r. at_next y i (h (suc i) y (behind r))))
  where
    at_first : x.row ≡ n + 0 → x.row ≡ n
    at_first e = omega arith

    at_next : (y : Object) (i : ℕ) → OnePart y (n + suc i) → OnePart y (suc n + i)
    at_next y i h = record { its_row = let e = h.its_row in omega arith; one = h.one }

single_numbered : (n : ℕ) (l : List Object) (i : ℕ) (x : Object) → Single n l → Row l i x → OnePart x (n + i)
single_numbered n _ _ x h here = record { its_row = let e = h.0 in omega arith; one = h.1 }
single_numbered n _ _ x h (behind {rs} {n = i} r) =
    let k = single_numbered (suc n) rs i x h.2 r in record { its_row = let e = k.its_row in omega arith; one = k.one }

counts_row : (m : ℕ) (l : List Object) (n : ℕ) (x : Object) → Counts m (object_numbers l) → Row l n x → x.row ≡ m + n
unfolding object_numbers
counts_row m _ _ x c here = let e = counts_head c in omega arith
counts_row m _ _ x c (behind {rs} {n} r) = let e = counts_row (suc m) rs n x (counts_tail c) r in omega arith

-- First parts -----------------------------------------------------------------------------------------------------------------------------------------

heads_from : (before xs : List Object) (n : ℕ) → each head (merge_from before xs n) ≡ each head (firsts before xs)
unfolding merge_from firsts each head choose merged
heads_from before [] n = refl
heads_from before (x ∷ xs) n = go (used x before) (heads_from (before ++ (x ∷ [])) xs n) (heads_from (before ++ (x ∷ [])) xs (suc n))
  where
    go : (b : Bool) → each head (merge_from (before ++ (x ∷ [])) xs n) ≡ each head (firsts (before ++ (x ∷ [])) xs)
        → each head (merge_from (before ++ (x ∷ [])) xs (suc n)) ≡ each head (firsts (before ++ (x ∷ [])) xs)
        → each head (choose b (λ _. merge_from (before ++ (x ∷ [])) xs n) (λ _. merged x n xs ∷ merge_from (before ++ (x ∷ [])) xs (suc n)))
        ≡ each head (pick b (firsts (before ++ (x ∷ [])) xs) (x ∷ firsts (before ++ (x ∷ [])) xs))
    go true p q = p
    go false p q = ap (head x ∷◌) q

first_heads : (xs : List Object) → each head (merge xs) ≡ each head (firsts [] xs)
unfolding merge
first_heads xs = heads_from [] xs 0

-- The laws ----------------------------------------------------------------------------------------------------------------------------------------------

pub parts_merge : PartsMerge
parts_merge xs = record {
  statements = keeps_statements xs;
  numbers = keeps_numbers xs;
  distinct = apart;
  made = λ n x r. record {
    its_row = let e = counts_row 0 (merge xs) n x (merged_numbers xs) r in omega arith;
    number = sym (gather_own 0 ◌+◌ no_part_more (λ y. y.parts) (merge xs) n x apart r) ∙ sym (parts_gather x (merge xs)) ∙ keeps_numbers xs x;
    own_statements = sym (gather_own done then then_done (λ y. y.statements) (merge xs) n x apart r) ∙ sym (continued_gather x (merge xs)) ∙ keeps_statements xs x;
  };
  first_parts = first_heads xs;
  whole = λ d h. merge_same xs (distinct_new [] xs (λ j y r. used_none y) d) (numbered_single 0 xs (λ i x r. from_0 i x (h i x r)));
}
  where
    apart : Distinct (merge xs)
    apart = new_distinct [] (merge xs) (merge_new xs)

    from_0 : (i : ℕ) (x : Object) → OnePart x i → OnePart x (0 + i)
    from_0 i x h = record { its_row = let e = h.its_row in omega arith; one = h.one }

-- Texts -------------------------------------------------------------------------------------------------------------------------------------------------

object_single : {g : Form} (s : List ℕ) (p : object ⟶ g) (us : Trees ◌⟶◌ g) (n k : ℕ) → OnePart (means p (meaning s us) n k) n
unfolding means meaning
object_single s an_object_alone (leaf _ _ (leaf _ _ r)) n k = record { its_row = refl; one = refl }
object_single s an_object_with (leaf _ _ (leaf _ _ (leaf _ _ (node _ ss r)))) n k = record { its_row = refl; one = refl }

-- One more object before the others.
one_before : (x : Object) (xs : List Object) (n : ℕ) → OnePart x n → Single (suc n) xs → Single n (x ∷ xs)
one_before x xs n o r = (o.its_row, o.one, r)

objects_single : {g : Form} (s : List ℕ) (p : objects ⟶ g) (us : Trees ◌⟶◌ g) (n k : ℕ) → Single n (means p (meaning s us) n k)
unfolding means meaning
objects_single s no_object nil n k = tt
objects_single s an_object (node p x (node q xs nil)) n k =
    one_before (means p (meaning s x) n k) _ n (object_single s p x n k) (objects_single s q xs (suc n) (k + statements_in (means p (meaning s x) n k).statements))

parts_single : (s : List ℕ) (t : Trees ◌⟶◌ (file ▸ ∎)) → Single 0 (syntax s t).parts
unfolding syntax means meaning
parts_single s (node file_is (node _ v (node _ i (node application_is (leaf _ _ (leaf _ _ (leaf _ _ (node q os r)))) nil))) nil) = objects_single s q os 0 0

pub text_in_parts : TextInParts
text_in_parts s t = record {
  numbered = numbered;
  in_parts = in_parts;
  no_repeats = λ d. in_parts.whole d numbered;
}
  where
    numbered : Numbered (syntax s t).parts
    numbered n x r =
        let o = single_numbered 0 (syntax s t).parts n x (parts_single s t) r in
        record { its_row = let e = o.its_row in omega arith; one = o.one }

    in_parts : InParts (syntax s t).parts (syntax s t).objects
    in_parts = subst (InParts (syntax s t).parts) (sym (syntax_merged s t)) (parts_merge (syntax s t).parts)

-- Rows of objects ------------------------------------------------------------------------------------------------------------------------------------------

further_append : (x : Object) (a b : List Object) → further x (a ++ b) ≡ further x a + further x b
unfolding further
further_append x [] b = omega arith
further_append x (y ∷ a) b = let e = further_append x a b in omega arith

further_unused : (x : Object) (l : List Object) → used x l ≡ false → further x l ≡ 0
unfolding further bit
further_unused x [] u = refl
further_unused x (y ∷ l) u =
    let v = sym (used_more x y l) ∙ u in
    ap₂ (λ (b : Bool) (n : ℕ). bit b + n) (neither_first (same_object x y) (used x l) v) (further_unused x l (neither_second (same_object x y) (used x l) v))

further_self : (x : Object) (xs : List Object) → further x (x ∷ xs) ≡ 1 + further x xs
unfolding further bit
further_self x xs = ap (λ (b : Bool). bit b + further x xs) (same_itself x)

further_first : (x : Object) (before xs : List Object) → used x before ≡ false → suc (further x xs) ≡ further x (before ++ (x ∷ xs))
further_first x before xs u =
    let a = further_append x before (x ∷ xs) in
    let b = further_unused x before u in
    let c = further_self x xs in
    omega arith

-- The row of the object whose first part is x, of m parts.
abbrev row_with : Object → ℕ → ObjectRow
row_with x m = record { kind = x.kind; word = span_of x.word; name = span_of x.name; block = x.block; parts = m }

rows_from : (before xs : List Object) (n : ℕ) → object_rows (merge_from before xs n) ≡ each (row_of (before ++ xs)) (firsts before xs)
unfolding merge_from firsts each row_of object_rows choose merged
rows_from before [] n = refl
rows_from before (x ∷ xs) n =
    go (used x before) (λ u. further_first x before xs u) (rows_from (before ++ (x ∷ [])) xs n ∙ over) (rows_from (before ++ (x ∷ [])) xs (suc n) ∙ over)
  where
    over : each (row_of ((before ++ (x ∷ [])) ++ xs)) (firsts (before ++ (x ∷ [])) xs) ≡ each (row_of (before ++ (x ∷ xs))) (firsts (before ++ (x ∷ [])) xs)
    over = ap (λ (l : List Object). each (row_of l) (firsts (before ++ (x ∷ [])) xs)) (append_assoc before (x ∷ []) xs)

    go : (b : Bool) → (b ≡ false → suc (further x xs) ≡ further x (before ++ (x ∷ xs)))
        → object_rows (merge_from (before ++ (x ∷ [])) xs n) ≡ each (row_of (before ++ (x ∷ xs))) (firsts (before ++ (x ∷ [])) xs)
        → object_rows (merge_from (before ++ (x ∷ [])) xs (suc n)) ≡ each (row_of (before ++ (x ∷ xs))) (firsts (before ++ (x ∷ [])) xs)
        → object_rows (choose b (λ _. merge_from (before ++ (x ∷ [])) xs n) (λ _. merged x n xs ∷ merge_from (before ++ (x ∷ [])) xs (suc n)))
        ≡ each (row_of (before ++ (x ∷ xs))) (pick b (firsts (before ++ (x ∷ [])) xs) (x ∷ firsts (before ++ (x ∷ [])) xs))
    go true f p q = p
    go false f p q = ap₂ ◌∷◌ (ap (row_with x) (f refl)) q

rows_merge : (xs : List Object) → object_rows (merge xs) ≡ each (row_of xs) (firsts [] xs)
unfolding merge
rows_merge xs = rows_from [] xs 0

rows_are : (f : File) → (tables f (all_values f f.objects)).objects ≡ object_rows f.objects
unfolding tables
rows_are f = refl

by_derivation : {s : List ℕ} {a : Answer} (t : Tables) → Answers s a → a ≡ accepted t → PartRows s t
by_derivation t (too_long k) e = absurd (let z : ◌≡◌ {A = Bool} false true = cc in false≢true z)
by_derivation t (not_grammar a k m q) e = absurd (let z : ◌≡◌ {A = Bool} false true = cc in false≢true z)
by_derivation {s} t (meant w d) e =
    let f = syntax s d.tree in
    record {
      derivation = d;
      rows = sym (ap (λ (u : Tables). u.objects) (accepted_tables f t e)) ∙ rows_are f ∙ ap object_rows (syntax_merged s d.tree) ∙ rows_merge f.parts;
    }

pub rows_of_parts : RowsOfParts
rows_of_parts s t a = by_derivation t a refl
