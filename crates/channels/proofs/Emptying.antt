-- An object with nothing between its braces, and a file with such an object: every other channel shows the same alone. Assumes nothing.
use mathlib.Core.Path.{◌≡◌, refl, sym, ◌∙◌, ap, ap₂, subst}
use mathlib.Core.List.{List, [], ◌∷◌, ◌++◌, append-nil}
use mathlib.Core.Bool.{true}
use mathlib.Core.Option.{some}
use Prim.Native.Nat.{ℕ}
use Rattle.grammar.specs.Grammar.{Token, Kind, matches, sg, lbrace, ◌▸◌, ∎, ◌⟶◌, Trees, nil, leaf, node, file, an_object_alone, an_object_with, no_statement, tokens as Leaves-of}
use Rattle.grammar.proofs.Uniqueness.{none≢some}
use Rattle.meaning.specs.Syntax.{Spec, Statements, done, state, Object, File}
use Rattle.meaning.specs.Merging.{merge}
use Rattle.meaning.specs.Scopes.{of_kind, find_object}
use Rattle.meaning.specs.Actions.{word_of, kind_of, means, meaning, syntax}
use Rattle.meaning.specs.Resolving.{resolve}
use Rattle.meaning.specs.Places.{each}
use Rattle.meaning.proofs.Unplaced.{unplaced_statement, unplaced_statements, unplaced_object, unplaced_spec, unplaced, kind_unplaced, object_unplaced, resolve_unplaced}
use Rattle.meaning.proofs.Merges.{syntax_merged}
use Rattle.channels.specs.Channels.{if_there, Key, key_of, called}
use Rattle.channels.specs.Neighbours.{ObjectTree, object_trees, Pair, braces, key_in}
use Rattle.channels.proofs.Ideals.{unnumbered_statement, unnumbered, ideal, ideal_unplaced}
use Rattle.channels.proofs.Twins.{Twin, Twins, no_twins, more_twins}
use Rattle.channels.proofs.Alone.{alone, channel_alone}
use Rattle.channels.proofs.PartsAlone.{PartsReplaced, none_left, a_part, as_was, parts_isolated}
use Rattle.channels.proofs.Moved.{there_unplaced, called_unplaced, objects_unplaced}
use Rattle.channels.proofs.Renumbering.{object_kept}
use Rattle.channels.proofs.ObjectTrees.{objects_from, from_twins, with_objects, with_own, with_same, with_meaning}

-- The object -----------------------------------------------------------------------------------------------------------------------------------

-- The object x without what is between its braces.
unfoldable pub emptied : ObjectTree → ObjectTree
emptied (node an_object_alone us nil) = node an_object_alone us nil
emptied (node an_object_with (leaf t h (leaf n k (leaf o m (node q ss r)))) nil) = node an_object_with (leaf t h (leaf n k (leaf o m (node no_statement nil r)))) nil

-- An object with braces: its kind's word, its name, its `{`, what is between, and the rest from its `}` on.
pub record Braced (x : ObjectTree) (p : Pair) : Type 0 where
  pub kind : Token
  pub name : Token
  pub inner : List Token
  pub rest : List Token
  pub leaves : Leaves-of x ≡ kind ∷ name ∷ p.opening ∷ (inner ++ (p.closing ∷ rest))
  pub emptied_leaves : Leaves-of (emptied x) ≡ kind ∷ name ∷ p.opening ∷ (p.closing ∷ rest)
  pub opening_is : matches (sg lbrace) p.opening.class ≡ true
  pub key : (s : List ℕ) → key_in s x ≡ record { kind = kind_of (word_of s kind).class; name = (word_of s name).bytes }

some_pair : (p q : Pair) → some p ≡ some q → p ≡ q
some_pair p q e = cc

pub braced : (x : ObjectTree) (p : Pair) → braces x ≡ some p → Braced x p
unfolding braces Leaves-of emptied key_in key_of meaning means
braced (node an_object_alone us nil) p e = absurd (none≢some e)
braced (node an_object_with (leaf t _ (leaf n _ (leaf o m (node _ ss (leaf c _ r))))) nil) p e =
    let q : record { opening = o; closing = c } ≡ p = some_pair (record { opening = o; closing = c }) p e in
    subst (Braced _) q (record {
      kind = t;
      name = n;
      inner = Leaves-of ss;
      rest = Leaves-of r;
      leaves = append-nil (t ∷ n ∷ o ∷ (Leaves-of ss ++ (c ∷ Leaves-of r)));
      emptied_leaves = append-nil (t ∷ n ∷ o ∷ (c ∷ Leaves-of r));
      opening_is = m;
      key = λ s. refl;
    })

-- It has the kind and the name that it had.
pub emptied_key : (s : List ℕ) (x : ObjectTree) (n k m j : ℕ) → key_of ((meaning s (emptied x)).0 n k) ≡ key_of ((meaning s x).0 m j)
unfolding emptied key_of meaning means
emptied_key s (node an_object_alone (leaf t _ (leaf z _ r)) nil) n k m j = refl
emptied_key s (node an_object_with (leaf t h (leaf z i (leaf o l (node q ss r)))) nil) n k m j = refl

-- Lists of parts ------------------------------------------------------------------------------------------------------------------------------

twin_key : {x y : Object} → Twin x y → key_of x ≡ key_of y
unfolding key_of
twin_key h = ap₂ (λ j m. record { kind = j; name = m }) h.kind h.name

none_replaced : {z : Key} {xs ys : List Object} → Twins xs ys → PartsReplaced z xs ys
none_replaced no_twins = none_left
none_replaced (more_twins h p) = as_was h (none_replaced p)

from_replaced : (s : List ℕ) (a b : List ObjectTree) (x : ObjectTree) (n k m j : ℕ)
    → PartsReplaced (key_in s x) (objects_from s (a ++ (x ∷ b)) n k) (objects_from s (a ++ (emptied x ∷ b)) m j)
unfolding objects_from key_in
from_replaced s [] b x n k m j = a_part (twin_key (object_kept s x n k 0 0)) (emptied_key s x m j 0 0) (none_replaced (from_twins s b _ _ _ _))
from_replaced s (z ∷ a) b x n k m j = as_was (object_kept s z n k m j) (from_replaced s a b x _ _ _ _)

-- The file -----------------------------------------------------------------------------------------------------------------------------------

-- The file whose tree is t, with nothing between the braces of the object x.
pub emptied_alone : (s : List ℕ) (t : Trees ◌⟶◌ (file ▸ ∎)) (a b : List ObjectTree) (x : ObjectTree) → object_trees t ≡ a ++ (x ∷ b)
    → (k : Kind) (n : List ℕ) → (key_in s x ≡ record { kind = k; name = n } → ⊥)
    → channel_alone (syntax s t) k (called n) ≡ channel_alone (syntax s (with_objects t (a ++ (emptied x ∷ b)))) k (called n)
unfolding channel_alone
emptied_alone s t a b x e k n h =
    let l = a ++ (emptied x ∷ b) in
    let p = ap (λ z. (syntax s z).parts) (sym (with_own t) ∙ ap (with_objects t) e) ∙ with_meaning s t (a ++ (x ∷ b)) in
    let q = syntax_merged s (with_objects t l) ∙ ap merge (with_meaning s t l) in
    ap (λ os. if_there (alone (syntax s t).specs) (find_object k os (called n))) (syntax_merged s t ∙ ap merge p)
    ∙ parts_isolated k n h (syntax s t).specs (from_replaced s a b x 0 0 0 0)
    ∙ ap₂ (λ os ss. if_there (alone ss) (find_object k os (called n))) (sym q) (with_same s t l).specs

-- Without places -----------------------------------------------------------------------------------------------------------------------------

unnumbered_unplaced : (ss : Statements) → unnumbered (unplaced_statements ss) ≡ unplaced_statements (unnumbered ss)
unfolding unnumbered unplaced_statements unnumbered_statement unplaced_statement
unnumbered_unplaced done = refl
unnumbered_unplaced (state x inside rest) = ap₂ (λ a b. state (unnumbered_statement (unplaced_statement x)) a b) (unnumbered_unplaced inside) (unnumbered_unplaced rest)

alone_unplaced : (ss : List Spec) (x : Object) → alone (each unplaced_spec ss) (unplaced_object x) ≡ alone ss x
unfolding alone unplaced_object each
alone_unplaced ss x =
    ap₂ (λ ds us. ideal (resolve ds [] us)) (kind_unplaced x.kind ss) (unnumbered_unplaced x.statements)
    ∙ ap ideal (resolve_unplaced (of_kind x.kind ss) [] (unnumbered x.statements)) ∙ ideal_unplaced (resolve (of_kind x.kind ss) [] (unnumbered x.statements))

specs_unplaced : (f : File) → (unplaced f).specs ≡ each unplaced_spec f.specs
unfolding unplaced
specs_unplaced f = refl

pub channel_alone_unplaced : (f : File) (k : Kind) (n : List ℕ) → channel_alone (unplaced f) k (called n) ≡ channel_alone f k (called n)
unfolding channel_alone
channel_alone_unplaced f k n =
    ap₂ (λ ss os. if_there (alone ss) (find_object k os (called n))) (specs_unplaced f) (objects_unplaced f)
    ∙ ap (λ t. if_there (alone (each unplaced_spec f.specs)) (find_object k (each unplaced_object f.objects) t)) (sym (called_unplaced n))
    ∙ ap (if_there (alone (each unplaced_spec f.specs))) (object_unplaced k f.objects (called n))
    ∙ there_unplaced unplaced_object (alone (each unplaced_spec f.specs)) (alone f.specs) (alone_unplaced f.specs) (find_object k f.objects (called n))
