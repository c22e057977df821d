-- Braces that stand where those of an object stand in a derivation with the same tokens around them are an object's. Assumes nothing.
use mathlib.Core.Path.{◌≡◌, refl, sym, ◌∙◌, ap, subst}
use mathlib.Core.List.{[], ◌∷◌, ◌++◌}
use Prim.Native.Nat.{ℕ, zero, suc, ◌+◌, ◌-◌, ◌≤◌, ◌<◌}
use native.Mathlib.Omega.{arith}
use lib.ListN.{length, length-append}
use Rattle.grammar.specs.Grammar.{sg, lbrace, rbrace, semicolon, Form, ◌·◌, ◌▸◌, ∎, ◌⟶◌, Trees, nil, leaf, node, file, version, implementation, application, objects, D, the, CPU, name, file_is, application_is, tokens as Leaves-of}
use Rattle.channels.specs.Neighbours.{each_tree, object_trees}
use Rattle.channels.proofs.ObjectTrees.{front_leaves}
use Rattle.channels.proofs.Pairing.{empty_at, at_inside, at_behind}
use Rattle.channels.proofs.Shapes.{Shape, shape, size_is, sizes, objects_shape, front_size, Third, third_less, sum_size, by_less, stays, Located, find_third}

-- Where the braces are cleared behind the token n, it is the third of an object, by the shape that is left.
pub record ThirdIn (s : Shape) (n : ℕ) : Type 0 where
  pub low : front_size s ≤ n
  pub third : Third (sizes (objects_shape s)) (n - front_size s)

pub record LocatedIn (t : Trees ◌⟶◌ (file ▸ ∎)) (n : ℕ) : Type 0 where
  pub low : length (front_leaves t) ≤ n
  pub located : Located (object_trees t) (n - length (front_leaves t))

abbrev Apps : Form
Apps = the CPU · name · sg lbrace · objects ▸ sg rbrace · D ▸ sg semicolon · ∎

module _ {g h : Form} (p : version ⟶ g) (v : Trees ◌⟶◌ g) (q : implementation ⟶ h) (i : Trees ◌⟶◌ h) (apps : Trees ◌⟶◌ Apps) (n : ℕ) where
  abbrev whole_of : {g h : Form} → version ⟶ g → Trees ◌⟶◌ g → implementation ⟶ h → Trees ◌⟶◌ h → Trees ◌⟶◌ (application ▸ ∎) → Trees ◌⟶◌ (file ▸ ∎)
  whole_of p v q i z = node file_is (node p v (node q i z)) nil

  in_version : n < length (Leaves-of v) → ThirdIn (shape (whole_of p (empty_at v n) q i (node application_is apps nil))) n → ⊥
  unfolding shape front_size
  in_version l t = let a = t.low in let b = stays v n l in let c = size_is (empty_at v n) in omega arith

  in_implementation : (m : ℕ) → m < length (Leaves-of i) → n ≡ length (Leaves-of v) + m → ThirdIn (shape (whole_of p v q (empty_at i m) (node application_is apps nil))) n → ⊥
  unfolding shape front_size
  in_implementation m l e t = let a = t.low in let b = stays i m l in let c = size_is (empty_at i m) in let d = size_is v in omega arith

-- The parts of the application.
unfoldable pub objects_part : Trees ◌⟶◌ Apps → Trees ◌⟶◌ (objects ▸ sg rbrace · D ▸ sg semicolon · ∎)
objects_part (leaf a k (leaf b m (leaf c l os))) = os

apps_size : (apps : Trees ◌⟶◌ Apps) → length (Leaves-of apps) ≡ 3 + length (Leaves-of (objects_part apps))
unfolding Leaves-of objects_part
apps_size (leaf a k (leaf b m (leaf c l os))) = let z : suc (suc (suc (length (Leaves-of os)))) ≡ 3 + length (Leaves-of os) = omega arith in z

unfoldable with_part : Trees ◌⟶◌ Apps → Trees ◌⟶◌ (objects ▸ sg rbrace · D ▸ sg semicolon · ∎) → Trees ◌⟶◌ Apps
with_part (leaf a k (leaf b m (leaf c l os))) z = leaf a k (leaf b m (leaf c l z))

with_own_part : (apps : Trees ◌⟶◌ Apps) → with_part apps (objects_part apps) ≡ apps
unfolding with_part objects_part
with_own_part (leaf a k (leaf b m (leaf c l os))) = refl

at_three : (apps : Trees ◌⟶◌ Apps) (n : ℕ) → 3 ≤ n → empty_at apps n ≡ with_part apps (empty_at (objects_part apps) (n - 3))
unfolding empty_at with_part objects_part
at_three apps zero h = absurd (omega arith)
at_three apps (suc zero) h = absurd (omega arith)
at_three apps (suc (suc zero)) h = absurd (omega arith)
at_three (leaf a k (leaf b m (leaf c l os))) (suc (suc (suc n))) h =
    ap (λ (j : ℕ). leaf a k (leaf b m (leaf c l (empty_at os j)))) (let z : n ≡ suc (suc (suc n)) - 3 = omega arith in z)

objects_are : {g h : Form} (p : version ⟶ g) (v : Trees ◌⟶◌ g) (q : implementation ⟶ h) (i : Trees ◌⟶◌ h) (apps : Trees ◌⟶◌ Apps)
    (z : Trees ◌⟶◌ (objects ▸ sg rbrace · D ▸ sg semicolon · ∎)) (y w : Trees ◌⟶◌ ∎)
    → objects_shape (shape (node file_is (node p v (node q i (node application_is (with_part apps z) y))) w)) ≡ shape z
unfolding objects_shape shape with_part
objects_are p v q i (leaf a k (leaf b m (leaf c l os))) z y w = refl

module _ {g h : Form} (p : version ⟶ g) (v : Trees ◌⟶◌ g) (q : implementation ⟶ h) (i : Trees ◌⟶◌ h) (apps : Trees ◌⟶◌ Apps) (n : ℕ) where
  abbrev X : Trees ◌⟶◌ Apps → Trees ◌⟶◌ ∎ → Trees ◌⟶◌ ∎ → Trees ◌⟶◌ (file ▸ ∎)
  X z y w = node file_is (node p v (node q i (node application_is z y))) w

  abbrev before : ℕ
  before = length (Leaves-of v) + (length (Leaves-of i) + 3)

  front_is : (z : Trees ◌⟶◌ Apps) (y w : Trees ◌⟶◌ ∎) → front_size (shape (X z y w)) ≡ before
  unfolding shape front_size
  front_is z y w = let a = size_is v in let b = size_is i in omega arith

  -- The objects are as they were: then the token is none of theirs.
  unchanged : (y w : Trees ◌⟶◌ ∎) → before + length (Leaves-of (objects_part apps)) ≤ n → ThirdIn (shape (X apps y w)) n → ⊥
  unchanged y w l t =
      let e = front_is apps y w in
      let o : objects_shape (shape (X apps y w)) ≡ shape (objects_part apps) = ap (λ z. objects_shape (shape (X z y w))) (sym (with_own_part apps)) ∙ objects_are p v q i apps (objects_part apps) y w in
      let a = third_less (subst (λ z. Third (sizes z) (n - front_size (shape (X apps y w)))) o t.third) in
      let b = sum_size (shape (objects_part apps)) in
      let c = size_is (objects_part apps) in
      omega arith

  -- They were cleared: then it is the third of one.
  in_objects : (y w : Trees ◌⟶◌ ∎) → ThirdIn (shape (X (with_part apps (empty_at (objects_part apps) (n - before))) y w)) n → Located (each_tree (objects_part apps)) (n - before)
  in_objects y w t =
      let z = with_part apps (empty_at (objects_part apps) (n - before)) in
      let e = front_is z y w in
      find_third (objects_part apps) (n - before)
      (subst (λ m. Third (sizes (shape (empty_at (objects_part apps) (n - before)))) m) (ap (λ m. n - m) e)
      (subst (λ s. Third (sizes s) (n - front_size (shape (X z y w)))) (objects_are p v q i apps (empty_at (objects_part apps) (n - before)) y w) t.third))

  abbrev T : Trees ◌⟶◌ (file ▸ ∎)
  T = X apps nil nil

  abbrev VV : ℕ
  VV = length (Leaves-of v)

  abbrev II : ℕ
  II = length (Leaves-of i)

  abbrev Z : Trees ◌⟶◌ (application ▸ ∎)
  Z = node application_is apps nil

  size_Z : length (Leaves-of Z) ≡ length (Leaves-of apps)
  unfolding Leaves-of
  size_Z = let a = length-append (Leaves-of apps) [] in omega arith

  size_R : length (Leaves-of (node q i Z)) ≡ II + length (Leaves-of Z)
  unfolding Leaves-of
  size_R = length-append (Leaves-of i) (Leaves-of Z)

  size_U : length (Leaves-of (node p v (node q i Z))) ≡ VV + length (Leaves-of (node q i Z))
  unfolding Leaves-of
  size_U = length-append (Leaves-of v) (Leaves-of (node q i Z))

  none_left : (m : ℕ) → empty_at {f = ∎} nil m ≡ nil
  unfolding empty_at
  none_left m = refl

  behind_all : length (Leaves-of (node p v (node q i Z))) ≤ n → ThirdIn (shape (empty_at T n)) n → ⊥
  behind_all l t =
      let a = size_U in let b = size_R in let c = size_Z in let d = apps_size apps in
      unchanged nil (empty_at nil (n - length (Leaves-of (node p v (node q i Z))))) (omega arith) (subst (λ z. ThirdIn (shape z) n) (at_behind file_is (node p v (node q i Z)) nil n l) t)

  inside_all : n < length (Leaves-of (node p v (node q i Z))) → empty_at T n ≡ node file_is (empty_at (node p v (node q i Z)) n) nil
  inside_all l = at_inside file_is (node p v (node q i Z)) nil n l

  -- The front part ends by n.
  in_application : VV ≤ n → II ≤ n - VV → n < length (Leaves-of (node p v (node q i Z))) → ThirdIn (shape (empty_at T n)) n → (before ≤ n) × Located (each_tree (objects_part apps)) (n - before)
  in_application l r u t =
      let m = n - VV - II in
      let e : empty_at T n ≡ node file_is (node p v (node q i (empty_at Z m))) nil =
      inside_all u ∙ ap (λ z. node file_is z nil) (at_behind p v (node q i Z) n l ∙ ap (node p v) (at_behind q i Z (n - VV) r)) in
      let t₁ : ThirdIn (shape (node file_is (node p v (node q i (empty_at Z m))) nil)) n = subst (λ z. ThirdIn (shape z) n) e t in
      by_less m (length (Leaves-of apps))
      (λ k.
      let e₂ = at_inside application_is apps nil m k in
      let t₂ : ThirdIn (shape (X (empty_at apps m) nil nil)) n = subst (λ z. ThirdIn (shape (node file_is (node p v (node q i z)) nil)) n) e₂ t₁ in
      let f = front_is (empty_at apps m) nil nil in
      let o = t₂.low in
      let j : 3 ≤ m = omega arith in
      let s : m - 3 ≡ n - before = omega arith in
      let t₃ : ThirdIn (shape (X (with_part apps (empty_at (objects_part apps) (n - before))) nil nil)) n =
      subst (λ z. ThirdIn (shape (X z nil nil)) n) (at_three apps m j ∙ ap (λ y. with_part apps (empty_at (objects_part apps) y)) s) t₂ in
      (omega arith, in_objects nil nil t₃))
      (λ k.
      let e₂ = at_behind application_is apps nil m k in
      let t₂ = subst (λ z. ThirdIn (shape (node file_is (node p v (node q i z)) nil)) n) e₂ t₁ in
      let d = apps_size apps in
      absurd (unchanged (empty_at nil (m - length (Leaves-of apps))) nil (omega arith) t₂))

  locate : ThirdIn (shape (empty_at T n)) n → (before ≤ n) × Located (each_tree (objects_part apps)) (n - before)
  locate t =
      by_less n (length (Leaves-of (node p v (node q i Z))))
      (λ u.
      by_less n VV
      (λ l. absurd (in_version p v q i apps n l (subst (λ z. ThirdIn (shape z) n) (inside_all u ∙ ap (λ z. node file_is z nil) (at_inside p v (node q i Z) n l)) t)))
      (λ l.
      by_less (n - VV) II
      (λ r. absurd (in_implementation p v q i apps n (n - VV) r (omega arith)
      (subst (λ z. ThirdIn (shape z) n) (inside_all u ∙ ap (λ z. node file_is z nil) (at_behind p v (node q i Z) n l ∙ ap (node p v) (at_inside q i Z (n - VV) r))) t)))
      (λ r. in_application l r u t)))
      (λ u. absurd (behind_all u t))

-- The object whose third token is the token n.
pub locate_in : (t : Trees ◌⟶◌ (file ▸ ∎)) (n : ℕ) → ThirdIn (shape (empty_at t n)) n → LocatedIn t n
unfolding front_leaves object_trees objects_part
locate_in (node file_is (node p v (node q i (node application_is (leaf a k (leaf b m (leaf c l os))) nil))) nil) n h =
    let r = locate p v q i (leaf a k (leaf b m (leaf c l os))) n h in
    let s = length-append (Leaves-of v) (Leaves-of i ++ (a ∷ b ∷ c ∷ [])) in
    let u = length-append (Leaves-of i) (a ∷ b ∷ c ∷ []) in
    let e : length (Leaves-of v ++ (Leaves-of i ++ (a ∷ b ∷ c ∷ []))) ≡ length (Leaves-of v) + (length (Leaves-of i) + 3) = omega arith in
    let w = r.0 in
    record { low = omega arith; located = subst (λ z. Located (each_tree os) (n - z)) (sym e) r.1 }
