-- The shape of a derivation, and which token of which object stands at a place of its tokens. Assumes nothing.
use mathlib.Core.Path.{◌≡◌, refl, sym, ◌∙◌, ap, ap₂, subst}
use mathlib.Core.List.{List, [], ◌∷◌, ◌++◌, map, map-append}
use mathlib.Core.Bool.{Bool, true, false}
use Prim.Native.Nat.{ℕ, zero, suc, ◌+◌, ◌-◌, ◌≤◌, ◌<◌}
use native.Mathlib.Omega.{arith}
use lib.Dec.{ltb}
use borrow.Author.Tests.{ltb-true, ltb-false}
use lib.ListN.{length, length-append}
use Rattle.grammar.specs.Grammar.{Token, Class, matches, Form, ◌▸◌, ∎, ◌⟶◌, Trees, nil, leaf, node, file, objects, object, no_object, an_object, an_object_alone, an_object_with, tokens as Leaves-of}
use Rattle.grammar.proofs.Viable.{one_derivation}
use Rattle.locality.proofs.Slices.{split}
use Rattle.channels.specs.Neighbours.{ObjectTree, each_tree}
use Rattle.channels.proofs.ObjectTrees.{all_leaves}
use Rattle.channels.proofs.Pairing.{empty_at, at_inside, at_behind}

-- Shapes -------------------------------------------------------------------------------------------------------------------------------------

pub data Shape : Type 0 where
  flat : Shape
  token : Shape → Shape
  tree : Shape → Shape → Shape

unfoldable pub shape : {f : Form} → Trees ◌⟶◌ f → Shape
shape nil = flat
shape (leaf t m ts) = token (shape ts)
shape (node p us ts) = tree (shape us) (shape ts)

unfoldable pub size : Shape → ℕ
size flat = 0
size (token s) = suc (size s)
size (tree a b) = size a + size b

pub size_is : {f : Form} (ts : Trees ◌⟶◌ f) → size (shape ts) ≡ length (Leaves-of ts)
unfolding size shape Leaves-of
size_is nil = refl
size_is (leaf t m ts) = ap suc (size_is ts)
size_is (node p us ts) = ap₂ ◌+◌ (size_is us) (size_is ts) ∙ sym (length-append (Leaves-of us) (Leaves-of ts))

abbrev pub classes : List Token → List Class
classes l = map (λ (t : Token). t.class) l

-- The same tree over other tokens of the same classes.
record Replanted {f : Form} (ts : Trees ◌⟶◌ f) (l : List Token) : Type 0 where
  trees : Trees ◌⟶◌ f
  leaves : Leaves-of trees ≡ l
  same : shape trees ≡ shape ts

replant : {f : Form} (ts : Trees ◌⟶◌ f) (l : List Token) → classes l ≡ classes (Leaves-of ts) → Replanted ts l
unfolding Leaves-of shape
replant nil [] e = record { trees = nil; leaves = refl; same = refl }
replant nil (u ∷ l) e = absurd (let z : ◌≡◌ {A = ℕ} 0 1 = cc in omega arith)
replant (leaf t m ts) [] e = absurd (let z : ◌≡◌ {A = ℕ} 0 1 = cc in omega arith)
replant (leaf {a} t m ts) (u ∷ l) e =
    let i : u.class ≡ t.class = cc in
    let r = replant ts l cc in
    record { trees = leaf u (ap (matches a) i ∙ m) r.trees; leaves = ap (u ∷◌) r.leaves; same = ap token r.same }
replant (node p us ts) l e =
    let k = split (λ (t : Token). t.class) l (classes (Leaves-of us)) (classes (Leaves-of ts)) (e ∙ map-append (λ (t : Token). t.class) (Leaves-of us) (Leaves-of ts)) in
    let a = replant us k.front k.front_is in
    let b = replant ts k.back k.back_is in
    record { trees = node p a.trees b.trees; leaves = ap₂ ◌++◌ a.leaves b.leaves ∙ sym k.whole; same = ap₂ tree a.same b.same }

-- Derivations of tokens of the same classes have the same shape.
pub same_shape : (t u : Trees ◌⟶◌ (file ▸ ∎)) → classes (Leaves-of u) ≡ classes (Leaves-of t) → shape u ≡ shape t
same_shape t u e =
    let r = replant t (Leaves-of u) e in
    ap shape (one_derivation (Leaves-of u) (record { tree = u; leaves = refl }) (record { tree = r.trees; leaves = r.leaves })) ∙ r.same

-- The objects --------------------------------------------------------------------------------------------------------------------------------

-- The sizes of the objects, of the shape of objects.
unfoldable pub sizes : Shape → List ℕ
sizes flat = []
sizes (token s) = []
sizes (tree flat r) = []
sizes (tree (token s) r) = []
sizes (tree (tree x xs) r) = size x ∷ sizes xs

-- The shape of the objects, of that of a file, and the size of what stands before them.
unfoldable pub objects_shape : Shape → Shape
objects_shape flat = flat
objects_shape (token s) = flat
objects_shape (tree flat w) = flat
objects_shape (tree (token s) w) = flat
objects_shape (tree (tree v flat) w) = flat
objects_shape (tree (tree v (token s)) w) = flat
objects_shape (tree (tree v (tree i flat)) w) = flat
objects_shape (tree (tree v (tree i (token s))) w) = flat
objects_shape (tree (tree v (tree i (tree flat u))) w) = flat
objects_shape (tree (tree v (tree i (tree (tree x y) u))) w) = flat
objects_shape (tree (tree v (tree i (tree (token flat) u))) w) = flat
objects_shape (tree (tree v (tree i (tree (token (tree x y)) u))) w) = flat
objects_shape (tree (tree v (tree i (tree (token (token flat)) u))) w) = flat
objects_shape (tree (tree v (tree i (tree (token (token (tree x y))) u))) w) = flat
objects_shape (tree (tree v (tree i (tree (token (token (token os))) u))) w) = os

unfoldable pub front_size : Shape → ℕ
front_size flat = 0
front_size (token s) = 0
front_size (tree flat w) = 0
front_size (tree (token s) w) = 0
front_size (tree (tree v flat) w) = 0
front_size (tree (tree v (token s)) w) = 0
front_size (tree (tree v (tree i r)) w) = size v + (size i + 3)

-- The number m is that of the third token of an object.
pub data Third : List ℕ → ℕ → Type 0 where
  third_here : {k m : ℕ} {ks : List ℕ} → m ≡ 2 → 2 < k → Third (k ∷ ks) m
  third_later : {k m : ℕ} {ks : List ℕ} (i : ℕ) → m ≡ k + i → Third ks i → Third (k ∷ ks) m

abbrev pub sum : List ℕ → ℕ
sum [] = 0
sum (k ∷ ks) = k + sum ks

pub third_less : {ks : List ℕ} {m : ℕ} → Third ks m → m < sum ks
third_less (third_here e h) = omega arith
third_less (third_later i e t) = let l = third_less t in omega arith

-- An object has at least three tokens.
pub three_tokens : (x : ObjectTree) → 2 < length (Leaves-of x)
unfolding Leaves-of
three_tokens (node an_object_alone (leaf t _ (leaf n _ (node p d (leaf c h nil)))) nil) =
    let a = length-append (t ∷ n ∷ (Leaves-of d ++ (c ∷ []))) [] in let b = length-append (Leaves-of d) (c ∷ []) in omega arith
three_tokens (node an_object_with (leaf t _ (leaf n _ (leaf o _ r))) nil) =
    let a = length-append (t ∷ n ∷ o ∷ Leaves-of r) [] in omega arith

-- Clearing ---------------------------------------------------------------------------------------------------------------------------------

-- One number is less than another, or it is not.
pub by_less : {C : Type 0} (n m : ℕ) → (n < m → C) → (m ≤ n → C) → C
by_less {C} n m f g = go (ltb n m) refl
  where
    go : (b : Bool) → ltb n m ≡ b → C
    go true e = f (ltb-true n m e)
    go false e = g (ltb-false n m e)

-- A token that braces are cleared behind stays.
pub stays : {f : Form} (ts : Trees ◌⟶◌ f) (n : ℕ) → n < length (Leaves-of ts) → n < length (Leaves-of (empty_at ts n))
unfolding empty_at Leaves-of
stays nil n h = h
stays (leaf t m ts) zero h = omega arith
stays (leaf t m ts) (suc n) h = let i = stays ts n (omega arith) in omega arith
stays (node p us ts) n h =
    by_less n (length (Leaves-of us))
    (λ l.
    let i = stays us n l in
    let a = ap (λ z. length (Leaves-of z)) (at_inside p us ts n l) ∙ length-append (Leaves-of (empty_at us n)) (Leaves-of ts) in omega arith)
    (λ l.
    let b = length-append (Leaves-of us) (Leaves-of ts) in
    let i = stays ts (n - length (Leaves-of us)) (omega arith) in
    let a = ap (λ z. length (Leaves-of z)) (at_behind p us ts n l) ∙ length-append (Leaves-of us) (Leaves-of (empty_at ts (n - length (Leaves-of us)))) in omega arith)

-- The object whose third token is the token m.
pub record Located (l : List ObjectTree) (m : ℕ) : Type 0 where
  pub before : List ObjectTree
  pub this : ObjectTree
  pub after : List ObjectTree
  pub whole : l ≡ before ++ (this ∷ after)
  pub place_is : m ≡ length (all_leaves before) + 2

located_later : {l : List ObjectTree} {i : ℕ} (x : ObjectTree) (m : ℕ) → m ≡ length (Leaves-of x) + i → Located l i → Located (x ∷ l) m
unfolding all_leaves
located_later x m e r =
    let p = r.place_is in
    let a = length-append (Leaves-of x) (all_leaves r.before) in
    record { before = x ∷ r.before; this = r.this; after = r.after; whole = ap (x ∷◌) r.whole; place_is = omega arith }

by_third : {C : Type 0} {k m : ℕ} {ks : List ℕ} → (m ≡ 2 → C) → ((i : ℕ) → m ≡ k + i → Third ks i → C) → Third (k ∷ ks) m → C
by_third f g (third_here e h) = f e
by_third f g (third_later i e t) = g i e t

pub sum_size : (s : Shape) → sum (sizes s) ≤ size s
unfolding sizes size
sum_size flat = omega arith
sum_size (token s) = omega arith
sum_size (tree flat r) = omega arith
sum_size (tree (token s) r) = omega arith
sum_size (tree (tree x xs) r) = let h = sum_size xs in omega arith

-- The first object of some, and those behind it.
module _ {g f : Form} (p : object ⟶ g) (x : Trees ◌⟶◌ g) (xs : Trees ◌⟶◌ (objects ▸ ∎)) (r : Trees ◌⟶◌ f) (m : ℕ) where
  abbrev us : Trees ◌⟶◌ (object ▸ objects ▸ ∎)
  us = node p x xs

  long_x : 2 < length (Leaves-of x)
  unfolding Leaves-of
  long_x = let h = three_tokens (node p x nil) in let a = length-append (Leaves-of x) [] in omega arith

  long_us : length (Leaves-of us) ≡ length (Leaves-of x) + length (Leaves-of xs)
  unfolding Leaves-of
  long_us = length-append (Leaves-of x) (Leaves-of xs)

  in_first : m < length (Leaves-of x) → Third (sizes (shape (node an_object (node p (empty_at x m) xs) r))) m → Located (node p x nil ∷ each_tree xs) m
  unfolding sizes shape all_leaves
  in_first h =
      by_third (λ e. record { before = []; this = node p x nil; after = each_tree xs; whole = refl; place_is = e })
      (λ i e t. absurd (let a = stays x m h in let b = size_is (empty_at x m) in omega arith))

  behind_first : length (Leaves-of x) ≤ m → ((i : ℕ) → Third (sizes (shape (empty_at xs i))) i → Located (each_tree xs) i)
      → Third (sizes (shape (node an_object (node p x (empty_at xs (m - length (Leaves-of x)))) r))) m → Located (node p x nil ∷ each_tree xs) m
  unfolding sizes shape Leaves-of
  behind_first h k =
      by_third (λ e. absurd (let a = long_x in omega arith))
      (λ i e t.
      let a = size_is x in
      let j : m - length (Leaves-of x) ≡ i = omega arith in
      let b = length-append (Leaves-of x) [] in
      located_later (node p x nil) m (let z : m ≡ length (Leaves-of x ++ []) + i = omega arith in z) (k i (subst (λ q. Third (sizes (shape (empty_at xs q))) i) j t)))

  in_objects : m < length (Leaves-of us) → ((i : ℕ) → Third (sizes (shape (empty_at xs i))) i → Located (each_tree xs) i)
      → Third (sizes (shape (node an_object (empty_at us m) r))) m → Located (node p x nil ∷ each_tree xs) m
  in_objects h k t =
      by_less m (length (Leaves-of x))
      (λ l. in_first l (subst (λ z. Third (sizes (shape (node an_object z r))) m) (at_inside p x xs m l) t))
      (λ l. behind_first l k (subst (λ z. Third (sizes (shape (node an_object z r))) m) (at_behind p x xs m l) t))

  behind_objects : length (Leaves-of us) ≤ m → (q : Trees ◌⟶◌ f) → Third (sizes (shape (node an_object us q))) m → Located (node p x nil ∷ each_tree xs) m
  unfolding sizes shape
  behind_objects h q t = absurd (let a = third_less t in let b = sum_size (shape xs) in let c = size_is x in let d = size_is xs in let e = long_us in omega arith)

no_third : {f : Form} (r : Trees ◌⟶◌ f) (m : ℕ) → Third (sizes (shape (empty_at (node no_object nil r) m))) m → ⊥
unfolding sizes shape Leaves-of
no_third r m t = let h = third_less (subst (λ z. Third (sizes (shape z)) m) (at_behind no_object nil r m (omega arith)) t) in omega arith

-- The object whose third token is a `{` that was cleared behind.
pub find_third : {f : Form} (os : Trees ◌⟶◌ (objects ▸ f)) (m : ℕ) → Third (sizes (shape (empty_at os m))) m → Located (each_tree os) m
unfolding each_tree
find_third (node no_object nil r) m t = absurd (no_third r m t)
find_third (node an_object (node p x xs) r) m t =
    by_less m (length (Leaves-of (node p x xs)))
    (λ l. in_objects p x xs r m l (λ i u. find_third xs i u) (subst (λ z. Third (sizes (shape z)) m) (at_inside an_object (node p x xs) r m l) t))
    (λ l. behind_objects p x xs r m l _ (subst (λ z. Third (sizes (shape z)) m) (at_behind an_object (node p x xs) r m l) t))
