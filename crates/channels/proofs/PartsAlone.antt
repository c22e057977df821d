-- Of merged objects, a channel shows alone what the parts of its kind and name state; so it does not change where
-- two parts of different objects change places, nor where parts of another object are replaced. Assumes nothing.
use mathlib.Core.Path.{◌≡◌, refl, sym, ◌∙◌, ap, ap₂}
use mathlib.Core.List.{List, [], ◌∷◌}
use mathlib.Core.Bool.{Bool, true, false, false≢true}
use mathlib.Core.Option.{Option, none, some}
use Prim.Native.Nat.{ℕ}
use Rattle.grammar.specs.Grammar.{Kind}
use Rattle.token.specs.Find.{pick, either, is_there}
use Rattle.meaning.specs.Syntax.{Word, Spec, Statements, Object}
use Rattle.meaning.specs.Scopes.{of_kind, find_object}
use Rattle.meaning.specs.Resolving.{resolve}
use Rattle.meaning.specs.Words.{alike}
use Rattle.meaning.specs.Kinds.{same_kind}
use Rattle.meaning.specs.Merging.{then, same_object, merge}
use Rattle.reads_back.proofs.SameWords.{alike_bytes}
use Rattle.token.proofs.Bytes.{not_true}
use Rattle.channels.specs.Channels.{if_there, Key, key_of, called, View}
use Rattle.channels.proofs.Ideals.{unnumbered, ideal}
use Rattle.channels.proofs.Views.{both_first, both_second, kind_equal}
use Rattle.channels.proofs.Twins.{Twin, Twins, no_twins, more_twins, is_it, is_it_both, twin_is_it, there_first, twins_agree}
use Rattle.channels.proofs.Alone.{alone}
use Rattle.channels.proofs.Moved.{there_twice}
use Rattle.channels.proofs.Merging.{PartsSwapped, now, on, then_same, pick_unnumbered, same_is_it}
use Rattle.channels.proofs.Gathering.{kind_is, name_is, gathered, merge_gathers}

-- What statements show in the scope of a kind.
unfoldable pub stated_alone : List Spec → Kind → Statements → View
stated_alone ss k us = ideal (resolve (of_kind k ss) [] (unnumbered us))

kind_alone : (ss : List Spec) (k : Kind) (t : Word) (x : Object) → is_it k t x ≡ true → alone ss x ≡ stated_alone ss k x.statements
unfolding alone stated_alone
kind_alone ss k t x q = ap (λ j. ideal (resolve (of_kind j ss) [] (unnumbered x.statements))) (kind_is k t x q)

found_alone : (ss : List Spec) (k : Kind) (t : Word) (os : List Object)
    → if_there (alone ss) (find_object k os t) ≡ if_there (λ x. stated_alone ss k x.statements) (find_object k os t)
unfolding find_object if_there
found_alone ss k t [] = refl
found_alone ss k t (x ∷ os) = go (is_it k t x) refl (found_alone ss k t os)
  where
    go : (b : Bool) → is_it k t x ≡ b → if_there (alone ss) (find_object k os t) ≡ if_there (λ x. stated_alone ss k x.statements) (find_object k os t)
        → if_there (alone ss) (pick (is_it k t x) (some x) (find_object k os t)) ≡ if_there (λ x. stated_alone ss k x.statements) (pick (is_it k t x) (some x) (find_object k os t))
    go true q e = ap (λ b. if_there (alone ss) (pick b (some x) (find_object k os t))) q ∙ ap some (kind_alone ss k t x q) ∙ sym (ap (λ b. if_there (λ x. stated_alone ss k x.statements) (pick b (some x) (find_object k os t))) q)
    go false q e = ap (λ b. if_there (alone ss) (pick b (some x) (find_object k os t))) q ∙ e ∙ sym (ap (λ b. if_there (λ x. stated_alone ss k x.statements) (pick b (some x) (find_object k os t))) q)

-- What the parts of a kind and name show.
unfoldable pub parts_alone : List Spec → Kind → Word → List Object → Option View
parts_alone ss k t ps = pick (is_there (find_object k ps t)) (some (stated_alone ss k (gathered k t ps))) none

there_pick : (g : Statements → View) (b : Bool) (us : Statements) → if_there g (pick b (some us) none) ≡ pick b (some (g us)) none
unfolding if_there
there_pick g true us = refl
there_pick g false us = refl

-- Merged, they show that.
pub merge_alone : (ss : List Spec) (k : Kind) (t : Word) (ps : List Object) → if_there (alone ss) (find_object k (merge ps) t) ≡ parts_alone ss k t ps
unfolding parts_alone
merge_alone ss k t ps =
    found_alone ss k t (merge ps)
    ∙ sym (there_twice (λ x. x.statements) (stated_alone ss k) (λ x. stated_alone ss k x.statements) (λ x. refl) (find_object k (merge ps) t))
    ∙ ap (if_there (stated_alone ss k)) (merge_gathers k t ps)
    ∙ there_pick (stated_alone ss k) (is_there (find_object k ps t)) (gathered k t ps)

-- Exchange -----------------------------------------------------------------------------------------------------------------------------------

gathered_more : {x y : Object} (k : Kind) (t : Word) (xs ys : List Object) → Twin x y → unnumbered (gathered k t xs) ≡ unnumbered (gathered k t ys)
    → unnumbered (gathered k t (x ∷ xs)) ≡ unnumbered (gathered k t (y ∷ ys))
unfolding gathered
gathered_more {x} {y} k t xs ys h e =
    pick_unnumbered (is_it k t x) (is_it k t y) (then x.statements (gathered k t xs)) (gathered k t xs) (then y.statements (gathered k t ys)) (gathered k t ys) (twin_is_it k t h)
    (then_same x.statements (gathered k t xs) y.statements (gathered k t ys) h.statements e) e

gathered_twins : {xs ys : List Object} (k : Kind) (t : Word) → Twins xs ys → unnumbered (gathered k t xs) ≡ unnumbered (gathered k t ys)
unfolding gathered
gathered_twins k t no_twins = refl
gathered_twins k t (more_twins {xs = xs} {ys = ys} h p) = gathered_more k t xs ys h (gathered_twins k t p)

-- A part of another object changes nothing.
gathered_other : (k : Kind) (t : Word) (x : Object) (xs : List Object) → is_it k t x ≡ false → gathered k t (x ∷ xs) ≡ gathered k t xs
unfolding gathered
gathered_other k t x xs e = ap (λ b. pick b (then x.statements (gathered k t xs)) (gathered k t xs)) e

-- x alone is of the kind and name, or y, or none of them.
swap_gathered : (k : Kind) (t : Word) (x y x' y' : Object) (xs ys : List Object) → (is_it k t x ≡ true → is_it k t y ≡ true → ⊥) → Twin x x' → Twin y y' → Twins xs ys
    → unnumbered (gathered k t (x ∷ y ∷ xs)) ≡ unnumbered (gathered k t (y' ∷ x' ∷ ys))
swap_gathered k t x y x' y' xs ys n h i p = go (is_it k t x) (is_it k t y) refl refl
  where
    go : (b c : Bool) → is_it k t x ≡ b → is_it k t y ≡ c → unnumbered (gathered k t (x ∷ y ∷ xs)) ≡ unnumbered (gathered k t (y' ∷ x' ∷ ys))
    go true true q r = absurd (n q r)
    go true false q r =
        gathered_more k t (y ∷ xs) ys h (ap unnumbered (gathered_other k t y xs r) ∙ gathered_twins k t p)
        ∙ sym (ap unnumbered (gathered_other k t y' (x' ∷ ys) (sym (twin_is_it k t i) ∙ r)))
    go false c q r =
        ap unnumbered (gathered_other k t x (y ∷ xs) q)
        ∙ gathered_more k t xs (x' ∷ ys) i (gathered_twins k t p ∙ sym (ap unnumbered (gathered_other k t x' ys (sym (twin_is_it k t h) ∙ q))))

apart_parts : (k : Kind) (t : Word) (x y : Object) → same_object x y ≡ false → is_it k t x ≡ true → is_it k t y ≡ true → ⊥
apart_parts k t x y e p q =
    false≢true (sym e ∙ same_is_it x y ∙ is_it_both x.kind x.name y (kind_is k t x p ∙ sym (kind_is k t y q)) (name_is k t y q ∙ sym (name_is k t x p)))

either_second : (a b c : Bool) → either a (either b c) ≡ either b (either a c)
either_second true true c = refl
either_second true false c = refl
either_second false true c = refl
either_second false false c = refl

parts_there : {xs ys : List Object} (k : Kind) (t : Word) → PartsSwapped xs ys → is_there (find_object k xs t) ≡ is_there (find_object k ys t)
parts_there k t (now {x} {y} {x'} {y'} {xs} {ys} e h i p) =
    there_first k t x (y ∷ xs) ∙ ap (either (is_it k t x)) (there_first k t y xs) ∙ either_second (is_it k t x) (is_it k t y) (is_there (find_object k xs t))
    ∙ ap₂ either (twin_is_it k t i) (ap₂ either (twin_is_it k t h) ((twins_agree p).there k t))
    ∙ sym (there_first k t y' (x' ∷ ys) ∙ ap (either (is_it k t y')) (there_first k t x' ys))
parts_there k t (on {x} {y} {xs} {ys} h p) = there_first k t x xs ∙ ap₂ either (twin_is_it k t h) (parts_there k t p) ∙ sym (there_first k t y ys)

pub gathered_swapped : {xs ys : List Object} (k : Kind) (t : Word) → PartsSwapped xs ys → unnumbered (gathered k t xs) ≡ unnumbered (gathered k t ys)
gathered_swapped k t (now {x} {y} {x'} {y'} {xs} {ys} e h i p) = swap_gathered k t x y x' y' xs ys (apart_parts k t x y e) h i p
gathered_swapped k t (on {xs = xs} {ys = ys} h p) = gathered_more k t xs ys h (gathered_swapped k t p)

parts_same : (ss : List Spec) (k : Kind) (t : Word) (ps qs : List Object) → is_there (find_object k ps t) ≡ is_there (find_object k qs t)
    → unnumbered (gathered k t ps) ≡ unnumbered (gathered k t qs) → parts_alone ss k t ps ≡ parts_alone ss k t qs
unfolding parts_alone stated_alone
parts_same ss k t ps qs e h = ap₂ (λ b us. pick b (some (ideal (resolve (of_kind k ss) [] us))) none) e h

-- "exchange two neighbouring .. parts of different ones": every channel shows the same alone.
pub parts_exchanged : {ps qs : List Object} (ss : List Spec) (k : Kind) (t : Word) → PartsSwapped ps qs
    → if_there (alone ss) (find_object k (merge ps) t) ≡ if_there (alone ss) (find_object k (merge qs) t)
parts_exchanged {ps} {qs} ss k t p = merge_alone ss k t ps ∙ parts_same ss k t ps qs (parts_there k t p) (gathered_swapped k t p) ∙ sym (merge_alone ss k t qs)

-- Isolation ----------------------------------------------------------------------------------------------------------------------------------

-- The same parts, but some of the kind and name z.
pub data PartsReplaced (z : Key) : List Object → List Object → Type 0 where
  none_left : PartsReplaced z [] []
  a_part : {x y : Object} {xs ys : List Object} → key_of x ≡ z → key_of y ≡ z → PartsReplaced z xs ys → PartsReplaced z (x ∷ xs) (y ∷ ys)
  as_was : {x y : Object} {xs ys : List Object} → Twin x y → PartsReplaced z xs ys → PartsReplaced z (x ∷ xs) (y ∷ ys)

-- An object of another kind or name is not found.
other_key : (z : Key) (k : Kind) (n : List ℕ) (x : Object) → key_of x ≡ z → (z ≡ record { kind = k; name = n } → ⊥) → is_it k (called n) x ≡ false
unfolding key_of called
other_key z k n x e h =
    not_true (is_it k (called n) x) (λ i.
    h (sym e ∙ ap₂ (λ j m. record { kind = j; name = m }) (sym (kind_equal k x.kind (both_first (same_kind k x.kind) (alike x.name (called n)) i)))
    (alike_bytes x.name (called n) (both_second (same_kind k x.kind) (alike x.name (called n)) i))))

module _ {z : Key} (k : Kind) (n : List ℕ) (h : z ≡ record { kind = k; name = n } → ⊥) where
  gathered_replaced : {xs ys : List Object} → PartsReplaced z xs ys → unnumbered (gathered k (called n) xs) ≡ unnumbered (gathered k (called n) ys)
  unfolding gathered
  gathered_replaced none_left = refl
  gathered_replaced (a_part {x} {y} {xs} {ys} p q r) =
      ap unnumbered (gathered_other k (called n) x xs (other_key z k n x p h)) ∙ gathered_replaced r ∙ sym (ap unnumbered (gathered_other k (called n) y ys (other_key z k n y q h)))
  gathered_replaced (as_was {xs = xs} {ys = ys} i r) = gathered_more k (called n) xs ys i (gathered_replaced r)

  there_replaced : {xs ys : List Object} → PartsReplaced z xs ys → is_there (find_object k xs (called n)) ≡ is_there (find_object k ys (called n))
  there_replaced none_left = refl
  there_replaced (a_part {x} {y} {xs} {ys} p q r) =
      there_first k (called n) x xs ∙ ap₂ either (other_key z k n x p h ∙ sym (other_key z k n y q h)) (there_replaced r) ∙ sym (there_first k (called n) y ys)
  there_replaced (as_was {x} {y} {xs} {ys} i r) =
      there_first k (called n) x xs ∙ ap₂ either (twin_is_it k (called n) i) (there_replaced r) ∙ sym (there_first k (called n) y ys)

  -- "every other object's resolved values and references are equal in both".
  pub parts_isolated : {ps qs : List Object} (ss : List Spec) → PartsReplaced z ps qs
      → if_there (alone ss) (find_object k (merge ps) (called n)) ≡ if_there (alone ss) (find_object k (merge qs) (called n))
  parts_isolated {ps} {qs} ss r =
      merge_alone ss k (called n) ps ∙ parts_same ss k (called n) ps qs (there_replaced r) (gathered_replaced r) ∙ sym (merge_alone ss k (called n) qs)
