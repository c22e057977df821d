-- The objects of a file's derivation, taken out and put back in another order. Assumes nothing.
use mathlib.Core.Path.{◌≡◌, refl, sym, ◌∙◌, ap, ap₂}
use mathlib.Core.Bool.{false}
use mathlib.Core.List.{List, [], ◌∷◌, ◌++◌, append_assoc, append-nil}
use Prim.Native.Nat.{ℕ, suc, ◌+◌}
use Rattle.grammar.specs.Grammar.{Token, Form, ◌▸◌, ∎, ◌⟶◌, Trees, nil, leaf, node, file, objects, file_is, application_is, no_object, an_object, tokens as Leaves-of}
use Rattle.meaning.specs.Syntax.{Object, File, statements_in}
use Rattle.meaning.specs.Actions.{means, meaning, syntax}
use Rattle.meaning.specs.Words.{alike}
use Rattle.meaning.specs.Kinds.{same_kind}
use Rattle.meaning.specs.Merging.{same_object}
use Rattle.token.proofs.Bytes.{not_true}
use Rattle.reads_back.proofs.SameWords.{alike_bytes}
use Rattle.channels.specs.Channels.{key_of}
use Rattle.channels.specs.Neighbours.{ObjectTree, each_tree, object_trees, key_in}
use Rattle.channels.proofs.Views.{both_first, both_second, kind_equal}
use Rattle.channels.proofs.Twins.{Twins, no_twins, more_twins}
use Rattle.channels.proofs.Merging.{PartsSwapped, now, on}
use Rattle.channels.proofs.Renumbering.{object_kept}

-- Trees of objects ---------------------------------------------------------------------------------------------------------------------------

unfoldable pub join_trees : {f : Form} → List ObjectTree → Trees ◌⟶◌ f → Trees ◌⟶◌ (objects ▸ f)
join_trees [] r = node no_object nil r
join_trees (node p x nil ∷ l) r = node an_object (node p x (join_trees l nil)) r

-- What follows the objects.
unfoldable pub rest_trees : {f : Form} → Trees ◌⟶◌ (objects ▸ f) → Trees ◌⟶◌ f
rest_trees (node q us ts) = ts

-- The tokens of all objects.
unfoldable pub all_leaves : List ObjectTree → List Token
all_leaves [] = []
all_leaves (x ∷ l) = Leaves-of x ++ all_leaves l

pub leaves_append : (l m : List ObjectTree) → all_leaves (l ++ m) ≡ all_leaves l ++ all_leaves m
unfolding all_leaves
leaves_append [] m = refl
leaves_append (x ∷ l) m = ap (Leaves-of x ++◌) (leaves_append l m) ∙ sym (append_assoc (Leaves-of x) (all_leaves l) (all_leaves m))

no_rest : (ts : Trees ◌⟶◌ ∎) → ts ≡ nil
no_rest nil = refl

pub joined : {f : Form} (ts : Trees ◌⟶◌ (objects ▸ f)) → join_trees (each_tree ts) (rest_trees ts) ≡ ts
unfolding join_trees each_tree rest_trees
joined (node no_object nil ts) = refl
joined (node an_object (node p x (node q us nil)) ts) = ap (λ z. node an_object (node p x z) ts) (joined (node q us nil))

pub join_leaves : {f : Form} (l : List ObjectTree) (r : Trees ◌⟶◌ f) → Leaves-of (join_trees l r) ≡ all_leaves l ++ Leaves-of r
unfolding join_trees Leaves-of all_leaves
join_leaves [] r = refl
join_leaves (node p x nil ∷ l) r =
    ap (λ z. (Leaves-of x ++ z) ++ Leaves-of r) (join_leaves l nil ∙ append-nil (all_leaves l))
    ∙ ap (λ z. (z ++ all_leaves l) ++ Leaves-of r) (sym (append-nil (Leaves-of x)))

-- The objects that they mean, of which the first has the row n and the statement k.
unfoldable pub objects_from : List ℕ → List ObjectTree → ℕ → ℕ → List Object
objects_from s [] n k = []
objects_from s (x ∷ l) n k = (meaning s x).0 n k ∷ objects_from s l (suc n) (k + statements_in ((meaning s x).0 n k).statements)

pub join_meaning : {f : Form} (s : List ℕ) (l : List ObjectTree) (r : Trees ◌⟶◌ f) (n k : ℕ) → (meaning s (join_trees l r)).0 n k ≡ objects_from s l n k
unfolding join_trees meaning means objects_from
join_meaning s [] r n k = refl
join_meaning s (node p x nil ∷ l) r n k =
    ap (means p (meaning s x) n k ∷◌) (join_meaning s l nil (suc n) (k + statements_in (means p (meaning s x) n k).statements))

-- Other numbers, and another order.
pub from_twins : (s : List ℕ) (l : List ObjectTree) (n k m j : ℕ) → Twins (objects_from s l n k) (objects_from s l m j)
unfolding objects_from
from_twins s [] n k m j = no_twins
from_twins s (x ∷ l) n k m j = more_twins (object_kept s x n k m j) (from_twins s l _ _ _ _)

-- Parts of two kinds or names are of different objects.
other_objects : (s : List ℕ) (x y : ObjectTree) (n k m j : ℕ) → (key_in s x ≡ key_in s y → ⊥) → same_object ((meaning s x).0 n k) ((meaning s y).0 m j) ≡ false
unfolding key_in key_of same_object
other_objects s x y n k m j d =
    let X = (meaning s x).0 n k in
    let Y = (meaning s y).0 m j in
    let p = object_kept s x n k 0 0 in
    let q = object_kept s y m j 0 0 in
    not_true (same_object X Y) (λ e.
    let u : X.kind ≡ Y.kind = kind_equal X.kind Y.kind (both_first (same_kind X.kind Y.kind) (alike Y.name X.name) e) in
    let v : Y.name.bytes ≡ X.name.bytes = alike_bytes Y.name X.name (both_second (same_kind X.kind Y.kind) (alike Y.name X.name) e) in
    d (ap₂ (λ i l. record { kind = i; name = l }) (sym p.kind ∙ u ∙ q.kind) (sym p.name ∙ sym v ∙ q.name)))

pub from_swapped : (s : List ℕ) (a b : List ObjectTree) (x y : ObjectTree) (n k m j : ℕ) → (key_in s x ≡ key_in s y → ⊥)
    → PartsSwapped (objects_from s (a ++ (x ∷ y ∷ b)) n k) (objects_from s (a ++ (y ∷ x ∷ b)) m j)
unfolding objects_from
from_swapped s [] b x y n k m j d = now (other_objects s x y _ _ _ _ d) (object_kept s x _ _ _ _) (object_kept s y _ _ _ _) (from_twins s b _ _ _ _)
from_swapped s (z ∷ a) b x y n k m j d = on (object_kept s z n k m j) (from_swapped s a b x y _ _ _ _ d)

-- The file -----------------------------------------------------------------------------------------------------------------------------------

-- The file with other objects.
unfoldable pub with_objects : Trees ◌⟶◌ (file ▸ ∎) → List ObjectTree → Trees ◌⟶◌ (file ▸ ∎)
with_objects (node file_is (node p v (node q i (node application_is (leaf a k (leaf b m (leaf c n os))) nil))) nil) l =
    node file_is (node p v (node q i (node application_is (leaf a k (leaf b m (leaf c n (join_trees l (rest_trees os))))) nil))) nil

-- The tokens before the objects, and those behind them.
unfoldable pub front_leaves : Trees ◌⟶◌ (file ▸ ∎) → List Token
front_leaves (node file_is (node p v (node q i (node application_is (leaf a k (leaf b m (leaf c n os))) nil))) nil) = Leaves-of v ++ (Leaves-of i ++ (a ∷ b ∷ c ∷ []))

unfoldable pub back_leaves : Trees ◌⟶◌ (file ▸ ∎) → List Token
back_leaves (node file_is (node p v (node q i (node application_is (leaf a k (leaf b m (leaf c n os))) nil))) nil) = Leaves-of (rest_trees os)

pub with_own : (t : Trees ◌⟶◌ (file ▸ ∎)) → with_objects t (object_trees t) ≡ t
unfolding with_objects object_trees
with_own (node file_is (node p v (node q i (node application_is (leaf a k (leaf b m (leaf c n os))) nil))) nil) =
    ap (λ z. node file_is (node p v (node q i (node application_is (leaf a k (leaf b m (leaf c n z))) nil))) nil) (joined os)

pub with_trees : (t : Trees ◌⟶◌ (file ▸ ∎)) (l : List ObjectTree) → Leaves-of (with_objects t l) ≡ front_leaves t ++ (all_leaves l ++ back_leaves t)
unfolding with_objects front_leaves back_leaves Leaves-of
with_trees (node file_is (node p v (node q i (node application_is (leaf a k (leaf b m (leaf c n os))) nil))) nil) l =
    append-nil (Leaves-of v ++ (Leaves-of i ++ ((a ∷ b ∷ c ∷ Leaves-of (join_trees l (rest_trees os))) ++ [])))
    ∙ ap (λ z. Leaves-of v ++ (Leaves-of i ++ z)) (append-nil (a ∷ b ∷ c ∷ Leaves-of (join_trees l (rest_trees os))) ∙ ap (λ z. a ∷ b ∷ c ∷ z) (join_leaves l (rest_trees os)))
    ∙ ap (Leaves-of v ++◌) (sym (append_assoc (Leaves-of i) (a ∷ b ∷ c ∷ []) (all_leaves l ++ Leaves-of (rest_trees os))))
    ∙ sym (append_assoc (Leaves-of v) (Leaves-of i ++ (a ∷ b ∷ c ∷ [])) (all_leaves l ++ Leaves-of (rest_trees os)))

-- It means the same but the objects.
pub record SameButObjects (f g : File) : Type 0 where
  pub version : f.version ≡ g.version
  pub specs : f.specs ≡ g.specs
  pub cpu : f.cpu ≡ g.cpu

pub with_same : (s : List ℕ) (t : Trees ◌⟶◌ (file ▸ ∎)) (l : List ObjectTree) → SameButObjects (syntax s t) (syntax s (with_objects t l))
unfolding with_objects syntax meaning means
with_same s (node file_is (node p v (node q i (node application_is (leaf a k (leaf b m (leaf c n os))) nil))) nil) l = record { version = refl; specs = refl; cpu = refl }

pub with_meaning : (s : List ℕ) (t : Trees ◌⟶◌ (file ▸ ∎)) (l : List ObjectTree) → (syntax s (with_objects t l)).parts ≡ objects_from s l 0 0
unfolding with_objects syntax meaning means
with_meaning s (node file_is (node p v (node q i (node application_is (leaf a k (leaf b m (leaf c n os))) nil))) nil) l = join_meaning s l (rest_trees os) 0 0
