-- The laws of merging parts into objects: no statement is lost, none is doubled; no two objects have one kind and name; where no kind and name
-- comes twice the parts are the objects; places play no part. Assumes nothing.
use mathlib.Core.Path.{◌≡◌, refl, sym, ◌∙◌, ap, ap₂, subst}
use mathlib.Core.List.{List, [], ◌∷◌, ◌++◌, append_assoc}
use mathlib.Core.Bool.{Bool, true, false, not, false≢true}
use mathlib.Core.Option.{Option, some}
use mathlib.Core.Logic.{◌⊎◌, inl, inr, ⊎_elim}
use Prim.Native.Nat.{ℕ, suc, ◌+◌}
use native.Mathlib.Omega.{arith}
use lib.ListN.{length}
use lib.Dec.{eqb}
use borrow.Author.Tests.{eq-eqb, eqb-true}
use Rattle.token.specs.Find.{pick, both, either, is_there}
use Rattle.token.specs.Words.{same}
use Rattle.token.proofs.Bytes.{both_true, both_second, either_assoc}
use Rattle.token.proofs.Codes.{same_self, same_equal}
use Rattle.meaning.specs.Syntax.{Word, Statements, done, state, Object, statements_in}
use Rattle.meaning.specs.Words.{alike, choose}
use Rattle.meaning.specs.Kinds.{kind_number, same_kind}
use Rattle.meaning.specs.Scopes.{find_object}
use Rattle.meaning.specs.Applying.{elsewhere}
use Rattle.meaning.specs.Actions.{means, meaning, syntax}
use Rattle.grammar.specs.Grammar.{file, ◌▸◌, ∎, ◌⟶◌, Trees, nil, node, file_is}
use Rattle.meaning.proofs.Sites.{option_words, statement_words, object_words}
use Rattle.meaning.specs.Merging.{then, same_object, used, continued, merged, merge_from, merge}

-- Statements one behind the other ------------------------------------------------------------------------------------------------------------

pub then_done : (a : Statements) → then a done ≡ a
unfolding then
then_done done = refl
then_done (state x inside rest) = ap (state x inside) (then_done rest)

pub statements_then : (a b : Statements) → statements_in (then a b) ≡ statements_in a + statements_in b
unfolding then statements_in
statements_then done b = omega arith
statements_then (state x inside rest) b = let e = statements_then rest b in omega arith

-- One kind and name --------------------------------------------------------------------------------------------------------------------------

-- What is compared of two parts.
pub record Alike (x y : Object) : Type 0 where
  pub kinds : kind_number x.kind ≡ kind_number y.kind
  pub names : x.name.bytes ≡ y.name.bytes

pub same_alike : (x y : Object) → same_object x y ≡ true → Alike x y
unfolding same_object same_kind alike
same_alike x y e = record {
  kinds = eqb-true (kind_number x.kind) (kind_number y.kind) (both_true (eqb (kind_number x.kind) (kind_number y.kind)) (same y.name.bytes x.name.bytes) e);
  names = sym (same_equal y.name.bytes x.name.bytes (both_second (eqb (kind_number x.kind) (kind_number y.kind)) (same y.name.bytes x.name.bytes) e));
}

-- The test of a kind and a name is one of the kind's number and the name's bytes.
is_one : ℕ → List ℕ → Object → Bool
is_one k t y = both (eqb k (kind_number y.kind)) (same y.name.bytes t)

pub alike_object : (x y z : Object) → Alike x y → same_object x z ≡ same_object y z
unfolding same_object same_kind alike
alike_object x y z a = ap₂ (λ (k : ℕ) (t : List ℕ). both (eqb k (kind_number z.kind)) (same z.name.bytes t)) a.kinds a.names

alike_swap : {x y : Object} → Alike x y → Alike y x
alike_swap a = record { kinds = sym a.kinds; names = sym a.names }

pub same_itself : (x : Object) → same_object x x ≡ true
unfolding same_object same_kind alike
same_itself x = rw (eq-eqb (kind_number x.kind) (kind_number x.kind) refl, same_self x.name.bytes)

-- Which of two parts comes first makes no difference.
pub same_swap : (x y : Object) → same_object x y ≡ same_object y x
same_swap x y = go (same_object x y) (same_object y x) (λ e. sym (alike_object x y x (same_alike x y e)) ∙ same_itself x) (λ e. sym (alike_object y x y (same_alike y x e)) ∙ same_itself y)
  where
    go : (a b : Bool) → (a ≡ true → b ≡ true) → (b ≡ true → a ≡ true) → a ≡ b
    go true b f g = sym (f refl)
    go false true f g = g refl
    go false false f g = refl

-- Used before --------------------------------------------------------------------------------------------------------------------------------

there_pick : {A : Type 0} (b : Bool) (a : A) (o : Option A) → is_there (pick b (some a) o) ≡ either b (is_there o)
unfolding is_there
there_pick true a o = refl
there_pick false a o = refl

pub used_more : (x y : Object) (l : List Object) → used x (y ∷ l) ≡ either (same_object x y) (used x l)
unfolding used find_object same_object
used_more x y l = there_pick (both (same_kind x.kind y.kind) (alike y.name x.name)) y (find_object x.kind l x.name)

pub used_none : (x : Object) → used x [] ≡ false
unfolding used find_object is_there
used_none x = refl

pub used_behind : (x y : Object) (l : List Object) → used x (l ++ (y ∷ [])) ≡ either (used x l) (same_object x y)
used_behind x y [] = used_more x y [] ∙ ap (either (same_object x y)) (used_none x) ∙ either_none (same_object x y) ∙ ap (λ (b : Bool). either b (same_object x y)) (sym (used_none x))
  where
    either_none : (a : Bool) → either a false ≡ a
    either_none true = refl
    either_none false = refl
used_behind x y (z ∷ l) =
    used_more x z (l ++ (y ∷ [])) ∙ ap (either (same_object x z)) (used_behind x y l) ∙ either_assoc (same_object x z) (used x l) (same_object x y)
    ∙ ap (λ (b : Bool). either b (same_object x y)) (sym (used_more x z l))

pub used_alike : (x y : Object) (l : List Object) → Alike x y → used x l ≡ used y l
used_alike x y [] a = used_none x ∙ sym (used_none y)
used_alike x y (z ∷ l) a = used_more x z l ∙ ap₂ either (alike_object x y z a) (used_alike x y l a) ∙ sym (used_more y z l)

-- Names used by objects of another kind: by one of two lists.
pub elsewhere_append : (x : Object) (a b : List Object) → elsewhere x (a ++ b) ≡ either (elsewhere x a) (elsewhere x b)
unfolding elsewhere
elsewhere_append x [] b = refl
elsewhere_append x (y ∷ a) b =
    ap (either (both (not (same_kind x.kind y.kind)) (alike y.name x.name))) (elsewhere_append x a b)
    ∙ either_assoc (both (not (same_kind x.kind y.kind)) (alike y.name x.name)) (elsewhere x a) (elsewhere x b)

-- What is told of each part: those of a kind and name that was not used before --------------------------------------------------------------------

module _ (g : Object → ℕ) where
  -- The sum over all,
  unfoldable pub sum : List Object → ℕ
  sum [] = 0
  sum (x ∷ xs) = g x + sum xs

  -- over those that are no further parts of the objects before,
  unfoldable pub sum_new : (before xs : List Object) → ℕ
  sum_new before [] = 0
  sum_new before (x ∷ xs) = let r = sum_new before xs in pick (used x before) r (g x + r)

  -- and over the further parts of x.
  unfoldable pub sum_same : Object → List Object → ℕ
  sum_same x [] = 0
  sum_same x (y ∷ ys) = let r = sum_same x ys in pick (same_object x y) (g y + r) r

  sum_fresh : (xs : List Object) → sum_new [] xs ≡ sum xs
  unfolding sum sum_new
  sum_fresh [] = refl
  sum_fresh (x ∷ xs) = ap (λ (b : Bool). pick b (sum_new [] xs) (g x + sum_new [] xs)) (used_none x) ∙ ap (g x +◌) (sum_fresh xs)

  -- A part of a kind and name that was used before changes nothing,
  sum_used : (before : List Object) (x : Object) (xs : List Object) → used x before ≡ true → sum_new (before ++ (x ∷ [])) xs ≡ sum_new before xs
  unfolding sum_new
  sum_used before x [] u = refl
  sum_used before x (y ∷ ys) u =
      ap₂ (λ (b : Bool) (r : ℕ). pick b r (g y + r)) (used_behind y x before ∙ go (used y before) (same_object y x) (λ e. used_alike y x before (same_alike y x e) ∙ u)) (sum_used before x ys u)
    where
      go : (a b : Bool) → (b ≡ true → a ≡ true) → either a b ≡ a
      go true b f = refl
      go false true f = sym (f refl)
      go false false f = refl

  -- and the first of its kind and name takes its further parts.
  sum_first : (before : List Object) (x : Object) (xs : List Object) → used x before ≡ false → sum_same x xs + sum_new (before ++ (x ∷ [])) xs ≡ sum_new before xs
  unfolding sum_new sum_same
  sum_first before x [] u = refl
  sum_first before x (y ∷ ys) u =
      go (same_object x y) (used y before) (used y (before ++ (x ∷ []))) (used_behind y x before ∙ ap (either (used y before)) (same_swap y x))
      (λ e. sym (used_alike x y before (same_alike x y e)) ∙ u) (sum_first before x ys u)
    where
      go : (a b c : Bool) → c ≡ either b a → (a ≡ true → b ≡ false) → sum_same x ys + sum_new (before ++ (x ∷ [])) ys ≡ sum_new before ys
          → pick a (g y + sum_same x ys) (sum_same x ys) + pick c (sum_new (before ++ (x ∷ [])) ys) (g y + sum_new (before ++ (x ∷ [])) ys)
          ≡ pick b (sum_new before ys) (g y + sum_new before ys)
      go true true c e f h = absurd (false≢true (sym (f refl)))
      go true false c e f h = rw e (let i = h in omega arith)
      go false true c e f h = rw e h
      go false false c e f h = rw e (let i = h in omega arith)

-- No statement is lost, and none is doubled ---------------------------------------------------------------------------------------------------

abbrev own_statements : Object → ℕ
own_statements x = statements_in x.statements

continued_sum : (x : Object) (ys : List Object) → statements_in (continued x ys) ≡ sum_same own_statements x ys
unfolding continued sum_same statements_in
continued_sum x [] = refl
continued_sum x (y ∷ ys) = go (same_object x y) (continued_sum x ys)
  where
    go : (b : Bool) → statements_in (continued x ys) ≡ sum_same own_statements x ys
        → statements_in (pick b (then y.statements (continued x ys)) (continued x ys)) ≡ pick b (statements_in y.statements + sum_same own_statements x ys) (sum_same own_statements x ys)
    go true e = statements_then y.statements (continued x ys) ∙ ap (statements_in y.statements +◌) e
    go false e = e

merge_sum : (before xs : List Object) (n : ℕ) → sum own_statements (merge_from before xs n) ≡ sum_new own_statements before xs
unfolding merge_from merged sum sum_new choose
merge_sum before [] n = refl
merge_sum before (x ∷ xs) n =
    go (used x before) (merge_sum (before ++ (x ∷ [])) xs n) (merge_sum (before ++ (x ∷ [])) xs (suc n)) (sum_used own_statements before x xs) (sum_first own_statements before x xs)
    (statements_then x.statements (continued x xs)) (continued_sum x xs)
  where
    go : (b : Bool) → sum own_statements (merge_from (before ++ (x ∷ [])) xs n) ≡ sum_new own_statements (before ++ (x ∷ [])) xs
        → sum own_statements (merge_from (before ++ (x ∷ [])) xs (suc n)) ≡ sum_new own_statements (before ++ (x ∷ [])) xs
        → (b ≡ true → sum_new own_statements (before ++ (x ∷ [])) xs ≡ sum_new own_statements before xs)
        → (b ≡ false → sum_same own_statements x xs + sum_new own_statements (before ++ (x ∷ [])) xs ≡ sum_new own_statements before xs)
        → statements_in (then x.statements (continued x xs)) ≡ statements_in x.statements + statements_in (continued x xs)
        → statements_in (continued x xs) ≡ sum_same own_statements x xs
        → sum own_statements (choose b (λ _. merge_from (before ++ (x ∷ [])) xs n) (λ _. merged x n xs ∷ merge_from (before ++ (x ∷ [])) xs (suc n)))
        ≡ pick b (sum_new own_statements before xs) (statements_in x.statements + sum_new own_statements before xs)
    go true p q f h e c = p ∙ f refl
    go false p q f h e c = let i = h refl in omega arith

pub merge_statements : (xs : List Object) → sum own_statements (merge xs) ≡ sum own_statements xs
unfolding merge
merge_statements xs = merge_sum [] xs 0 ∙ sum_fresh own_statements xs

-- No word is new -------------------------------------------------------------------------------------------------------------------------------

-- The objects of a text's syntax are its parts, merged.
pub syntax_merged : (s : List ℕ) (t : Trees ◌⟶◌ (file ▸ ∎)) → (syntax s t).objects ≡ merge (syntax s t).parts
unfolding syntax meaning means
syntax_merged s (node file_is us nil) = refl

-- w is one of some words.
pub data In (w : Word) : List Word → Type 0 where
  in_here : {v : Word} {l : List Word} → v ≡ w → In w (v ∷ l)
  in_there : {v : Word} {l : List Word} → In w l → In w (v ∷ l)

in_some : {w : Word} {l : List Word} → In w l → length l ≡ 0 → ⊥
in_some (in_here q) e = omega arith
in_some (in_there h) e = omega arith

in_none : {w : Word} → In w [] → ⊥
in_none h = in_some h refl

in_left : {w : Word} {a : List Word} (b : List Word) → In w a → In w (a ++ b)
in_left b (in_here q) = in_here q
in_left b (in_there h) = in_there (in_left b h)

in_right : {w : Word} (a : List Word) {b : List Word} → In w b → In w (a ++ b)
in_right [] h = h
in_right (v ∷ a) h = in_there (in_right a h)

in_either : {w : Word} (a b : List Word) → In w (a ++ b) → In w a ⊎ In w b
in_either [] b h = inr h
in_either (v ∷ a) b (in_here q) = inl (in_here q)
in_either (v ∷ a) b (in_there h) = ⊎_elim (λ i. inl (in_there i)) (λ i. inr i) (in_either a b h)

words_then : (a b : Statements) → statement_words (then a b) ≡ statement_words a ++ statement_words b
unfolding then statement_words
words_then done b = refl
words_then (state x inside rest) b =
    ap (λ (l : List Word). x.name ∷ x.value ∷ ((option_words x.brace ++ statement_words inside) ++ l)) (words_then rest b)
    ∙ ap (λ (l : List Word). x.name ∷ x.value ∷ l) (sym (append_assoc (option_words x.brace ++ statement_words inside) (statement_words rest) (statement_words b)))

-- Of a part its statements', and those of the parts behind it.
in_statements : {w : Word} (y : Object) (ys : List Object) → In w (statement_words y.statements) → In w (object_words (y ∷ ys))
unfolding object_words
in_statements y ys h = in_there (in_there (in_left (object_words ys) h))

in_later : {w : Word} (y : Object) (ys : List Object) → In w (object_words ys) → In w (object_words (y ∷ ys))
unfolding object_words
in_later y ys h = in_there (in_there (in_right (statement_words y.statements) h))

continued_words : {w : Word} (x : Object) (ys : List Object) → In w (statement_words (continued x ys)) → In w (object_words ys)
unfolding continued statement_words
continued_words {w} x [] h = absurd (in_none h)
continued_words {w} x (y ∷ ys) h = go (same_object x y) (λ i. continued_words x ys i) h
  where
    go : (b : Bool) → (In w (statement_words (continued x ys)) → In w (object_words ys)) → In w (statement_words (pick b (then y.statements (continued x ys)) (continued x ys))) → In w (object_words (y ∷ ys))
    go true f k =
        ⊎_elim (λ i. in_statements y ys i) (λ i. in_later y ys (f i))
        (in_either (statement_words y.statements) (statement_words (continued x ys)) (subst (In w) (words_then y.statements (continued x ys)) k))
    go false f k = in_later y ys (f k)

merged_words : {w : Word} (x : Object) (n : ℕ) (xs os : List Object) → (In w (object_words os) → In w (object_words xs)) → In w (object_words (merged x n xs ∷ os)) → In w (object_words (x ∷ xs))
unfolding object_words merged
merged_words x n xs os f (in_here q) = in_here q
merged_words x n xs os f (in_there (in_here q)) = in_there (in_here q)
merged_words {w} x n xs os f (in_there (in_there h)) =
    ⊎_elim
    (λ i. ⊎_elim (λ j. in_statements x xs j) (λ j. in_later x xs (continued_words x xs j))
    (in_either (statement_words x.statements) (statement_words (continued x xs)) (subst (In w) (words_then x.statements (continued x xs)) i)))
    (λ i. in_later x xs (f i))
    (in_either (statement_words (then x.statements (continued x xs))) (object_words os) h)

merge_words : {w : Word} (before xs : List Object) (n : ℕ) → In w (object_words (merge_from before xs n)) → In w (object_words xs)
unfolding merge_from choose
merge_words before [] n h = h
merge_words {w} before (x ∷ xs) n h = go (used x before) (λ i. merge_words (before ++ (x ∷ [])) xs n i) (λ i. merge_words (before ++ (x ∷ [])) xs (suc n) i) h
  where
    go : (b : Bool) → (In w (object_words (merge_from (before ++ (x ∷ [])) xs n)) → In w (object_words xs))
        → (In w (object_words (merge_from (before ++ (x ∷ [])) xs (suc n))) → In w (object_words xs))
        → In w (object_words (choose b (λ _. merge_from (before ++ (x ∷ [])) xs n) (λ _. merged x n xs ∷ merge_from (before ++ (x ∷ [])) xs (suc n))))
        → In w (object_words (x ∷ xs))
    go true f g k = in_later x xs (f k)
    go false f g k = merged_words x n xs (merge_from (before ++ (x ∷ [])) xs (suc n)) g k

pub merge_in : {w : Word} (xs : List Object) → In w (object_words (merge xs)) → In w (object_words xs)
unfolding merge
merge_in xs h = merge_words [] xs 0 h
