-- The merged object of a kind and name has the statements of the parts of that kind and name, and no others.
-- Assumes nothing.
use mathlib.Core.Path.{◌≡◌, refl, sym, ◌∙◌, ap, ap₂, subst}
use mathlib.Core.List.{List, [], ◌∷◌, ◌++◌}
use mathlib.Core.Bool.{Bool, true, false, false≢true}
use mathlib.Core.Option.{none, some}
use Prim.Native.Nat.{ℕ, suc}
use Rattle.grammar.specs.Grammar.{Kind}
use Rattle.token.specs.Find.{pick, either, is_there}
use Rattle.meaning.specs.Syntax.{Word, Statements, done, Object}
use Rattle.meaning.specs.Words.{alike}
use Rattle.meaning.specs.Kinds.{same_kind}
use Rattle.meaning.specs.Scopes.{find_object}
use Rattle.channels.specs.Channels.{if_there}
use Rattle.reads_back.proofs.SameWords.{alike_bytes}
use Rattle.meaning.specs.Merging.{then, same_object, used, continued, merged, merge_from, merge}
use Rattle.channels.proofs.Views.{both_first, both_second, kind_equal}
use Rattle.channels.proofs.Twins.{is_it, is_it_bytes, there_behind, there_bytes}
use Rattle.channels.proofs.Merging.{merge_skip, merge_new}

-- The statements of all parts of the kind k with the name of t, in text order.
unfoldable pub gathered : Kind → Word → List Object → Statements
gathered k t [] = done
gathered k t (x ∷ xs) = let r = gathered k t xs in pick (is_it k t x) (then x.statements r) r

-- What is found by the kind k and the name t has them.
module _ (k : Kind) (t : Word) (x : Object) (e : is_it k t x ≡ true) where
  pub kind_is : x.kind ≡ k
  kind_is = sym (kind_equal k x.kind (both_first (same_kind k x.kind) (alike x.name t) e))

  pub name_is : x.name.bytes ≡ t.bytes
  name_is = alike_bytes x.name t (both_second (same_kind k x.kind) (alike x.name t) e)

  pub used_is : (a : List Object) → used x a ≡ is_there (find_object k a t)
  unfolding used
  used_is a = there_bytes x.kind k x.name t a kind_is name_is

  continued_is : (xs : List Object) → continued x xs ≡ gathered k t xs
  unfolding continued gathered same_object
  continued_is [] = refl
  continued_is (y ∷ xs) = ap₂ (λ b r. pick b (then y.statements r) r) (is_it_bytes x.kind k x.name t y kind_is name_is) (continued_is xs)

merged_is_it : (k : Kind) (t : Word) (x : Object) (n : ℕ) (xs : List Object) → is_it k t (merged x n xs) ≡ is_it k t x
unfolding merged
merged_is_it k t x n xs = refl

merged_statements : (x : Object) (n : ℕ) (xs : List Object) → (merged x n xs).statements ≡ then x.statements (continued x xs)
unfolding merged
merged_statements x n xs = refl

find_more : (k : Kind) (t : Word) (x : Object) (xs : List Object) → is_it k t x ≡ false → find_object k (x ∷ xs) t ≡ find_object k xs t
unfolding find_object
find_more k t x xs e = ap (λ b. pick b (some x) (find_object k xs t)) e

find_here : (k : Kind) (t : Word) (x : Object) (xs : List Object) → is_it k t x ≡ true → find_object k (x ∷ xs) t ≡ some x
unfolding find_object
find_here k t x xs e = ap (λ b. pick b (some x) (find_object k xs t)) e

either_left : (a b : Bool) → a ≡ true → either a b ≡ true
either_left a b e = ap (λ c. either c b) e

-- Where a part of it stands before, it is not made again.
merge_gone : (k : Kind) (t : Word) (a xs : List Object) (n : ℕ) → is_there (find_object k a t) ≡ true → find_object k (merge_from a xs n) t ≡ none
unfolding merge_from find_object
merge_gone k t a [] n h = refl
merge_gone k t a (x ∷ xs) n h =
    go (used x a) refl (λ i. merge_gone k t (a ++ (x ∷ [])) xs i (there_behind k t a x ∙ either_left (is_there (find_object k a t)) (is_it k t x) h))
  where
    other : (b : Bool) → is_it k t x ≡ b → used x a ≡ false → is_it k t x ≡ false
    other true q u = absurd (false≢true (sym (sym (used_is k t x q a) ∙ u) ∙ h))
    other false q u = q

    go : (b : Bool) → used x a ≡ b → ((i : ℕ) → find_object k (merge_from (a ++ (x ∷ [])) xs i) t ≡ none) → find_object k (merge_from a (x ∷ xs) n) t ≡ none
    go true q f = ap (λ l. find_object k l t) (merge_skip a x xs n q) ∙ f n
    go false q f =
        ap (λ l. find_object k l t) (merge_new a x xs n q)
        ∙ find_more k t (merged x n xs) (merge_from (a ++ (x ∷ [])) xs (suc n)) (merged_is_it k t x n xs ∙ other (is_it k t x) refl q) ∙ f (suc n)

either_both : (a b : Bool) → a ≡ false → b ≡ false → either a b ≡ false
either_both a b p q = ap₂ either p q

-- The object has the statements of its parts.
merge_finds : (k : Kind) (t : Word) (a xs : List Object) (n : ℕ) → is_there (find_object k a t) ≡ false
    → if_there (λ x. x.statements) (find_object k (merge_from a xs n) t) ≡ pick (is_there (find_object k xs t)) (some (gathered k t xs)) none
unfolding merge_from find_object is_there if_there gathered
merge_finds k t a [] n h = refl
merge_finds k t a (x ∷ xs) n h =
    go (is_it k t x) refl (λ q i. merge_finds k t (a ++ (x ∷ [])) xs i (there_behind k t a x ∙ either_both (is_there (find_object k a t)) (is_it k t x) h q))
  where
    S : Object → Statements
    S x = x.statements

    Goal : List Object → Bool → Type 0
    Goal l b = if_there S (find_object k l t) ≡ pick (is_there (pick b (some x) (find_object k xs t))) (some (pick b (then x.statements (gathered k t xs)) (gathered k t xs))) none

    by_used : (c : Bool) → used x a ≡ c → is_it k t x ≡ false
        → ((i : ℕ) → if_there S (find_object k (merge_from (a ++ (x ∷ [])) xs i) t) ≡ pick (is_there (find_object k xs t)) (some (gathered k t xs)) none)
        → Goal (merge_from a (x ∷ xs) n) false
    by_used true u q f = ap (λ l. if_there S (find_object k l t)) (merge_skip a x xs n u) ∙ f n
    by_used false u q f =
        ap (λ l. if_there S (find_object k l t)) (merge_new a x xs n u)
        ∙ ap (if_there S) (find_more k t (merged x n xs) (merge_from (a ++ (x ∷ [])) xs (suc n)) (merged_is_it k t x n xs ∙ q)) ∙ f (suc n)

    go : (b : Bool) → is_it k t x ≡ b
        → (is_it k t x ≡ false → (i : ℕ) → if_there S (find_object k (merge_from (a ++ (x ∷ [])) xs i) t) ≡ pick (is_there (find_object k xs t)) (some (gathered k t xs)) none)
        → Goal (merge_from a (x ∷ xs) n) (is_it k t x)
    go true q f =
        ap (λ l. if_there S (find_object k l t)) (merge_new a x xs n (used_is k t x q a ∙ h))
        ∙ ap (if_there S) (find_here k t (merged x n xs) (merge_from (a ++ (x ∷ [])) xs (suc n)) (merged_is_it k t x n xs ∙ q))
        ∙ ap some (merged_statements x n xs ∙ ap (then x.statements) (continued_is k t x q xs))
        ∙ sym (ap (λ b. pick (is_there (pick b (some x) (find_object k xs t))) (some (pick b (then x.statements (gathered k t xs)) (gathered k t xs))) none) q)
    go false q f = subst (Goal (merge_from a (x ∷ xs) n)) (sym q) (by_used (used x a) refl q (f q))

pub merge_gathers : (k : Kind) (t : Word) (xs : List Object)
    → if_there (λ x. x.statements) (find_object k (merge xs) t) ≡ pick (is_there (find_object k xs t)) (some (gathered k t xs)) none
unfolding merge find_object is_there
merge_gathers k t xs = merge_finds k t [] xs 0 refl
