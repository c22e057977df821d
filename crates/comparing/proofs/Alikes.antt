-- Steps, paths, values and objects are compared by keys: alike is an equality of keys. Assumes nothing.
use mathlib.Core.Path.{◌≡◌, refl, sym, ◌∙◌, ap, ap₂}
use mathlib.Core.List.{List, [], ◌∷◌}
use mathlib.Core.Bool.{Bool, true, false, false≢true}
use Prim.Native.Nat.{ℕ}
use lib.Dec.{eqb}
use borrow.Author.Tests.{eq-eqb, eqb-true}
use Rattle.token.specs.Find.{bit, both}
use Rattle.token.specs.Words.{same}
use Rattle.token.proofs.Codes.{same_self, same_equal}
use Rattle.meaning.specs.Words.{alike}
use Rattle.meaning.specs.Kinds.{kind_number, same_kind}
use Rattle.comparing.specs.Contents.{Step, Path, same_step, same_path, counts_as, same_value, Content, same_object}

-- Truth values.
pub both_true : (a b : Bool) → both a b ≡ true → (a ≡ true) × (b ≡ true)
both_true true b e = (refl, e)
both_true false b e = absurd (false≢true e)

pub both_of : (a b : Bool) → a ≡ true → b ≡ true → both a b ≡ true
both_of a b e q = ap₂ both e q

pub same_truth : (a b : Bool) → (a ≡ true → b ≡ true) → (b ≡ true → a ≡ true) → a ≡ b
same_truth true b f g = sym (f refl)
same_truth false true f g = g refl
same_truth false false f g = refl

-- A test by keys.
pub record Keyed {A K : Type 0} (r : A → A → Bool) (key : A → K) : Type 0 where
  pub to_keys : (x y : A) → r x y ≡ true → key x ≡ key y
  pub from_keys : (x y : A) → key x ≡ key y → r x y ≡ true

pub keyed_flip : {A K : Type 0} {r : A → A → Bool} {key : A → K} → Keyed r key → (x y : A) → r x y ≡ r y x
keyed_flip {r} k x y = same_truth (r x y) (r y x) (λ e. k.from_keys y x (sym (k.to_keys x y e))) (λ e. k.from_keys x y (sym (k.to_keys y x e)))

pub keyed_third : {A K : Type 0} {r : A → A → Bool} {key : A → K} → Keyed r key → (x y z : A) → r x y ≡ true → r x z ≡ true → r y z ≡ true
keyed_third k x y z e q = k.from_keys y z (sym (k.to_keys x y e) ∙ k.to_keys x z q)

-- Steps.
abbrev pub step_key : Step → List ℕ × (ℕ × ℕ)
step_key a = (a.name.bytes, (bit a.list, a.position))

pub step_keyed : Keyed same_step step_key
unfolding same_step alike
step_keyed = record {
  to_keys = λ a b e.
      let p = both_true (same a.name.bytes b.name.bytes) (both (eqb (bit a.list) (bit b.list)) (eqb a.position b.position)) e in
      let q = both_true (eqb (bit a.list) (bit b.list)) (eqb a.position b.position) p.1 in
      λ i. (same_equal a.name.bytes b.name.bytes p.0 i, (eqb-true (bit a.list) (bit b.list) q.0 i, eqb-true a.position b.position q.1 i));
  from_keys = λ a b e.
      both_of (same a.name.bytes b.name.bytes) (both (eqb (bit a.list) (bit b.list)) (eqb a.position b.position))
      (ap (same a.name.bytes) (sym (ap (λ (k : List ℕ × (ℕ × ℕ)). k.0) e)) ∙ same_self a.name.bytes)
      (both_of (eqb (bit a.list) (bit b.list)) (eqb a.position b.position)
      (eq-eqb (bit a.list) (bit b.list) (ap (λ (k : List ℕ × (ℕ × ℕ)). k.1.0) e)) (eq-eqb a.position b.position (ap (λ (k : List ℕ × (ℕ × ℕ)). k.1.1) e)));
}

-- Paths.
pub path_flip : (p q : Path) → same_path p q ≡ same_path q p
unfolding same_path
path_flip [] [] = refl
path_flip [] (b ∷ q) = refl
path_flip (a ∷ p) [] = refl
path_flip (a ∷ p) (b ∷ q) = ap₂ both (keyed_flip step_keyed a b) (path_flip p q)

pub path_third : (p q r : Path) → same_path p q ≡ true → same_path p r ≡ true → same_path q r ≡ true
unfolding same_path
path_third [] [] [] e f = refl
path_third [] [] (c ∷ r) e f = absurd (false≢true f)
path_third [] (b ∷ q) r e f = absurd (false≢true e)
path_third (a ∷ p) [] r e f = absurd (false≢true e)
path_third (a ∷ p) (b ∷ q) [] e f = absurd (false≢true f)
path_third (a ∷ p) (b ∷ q) (c ∷ r) e f =
    let x = both_true (same_step a b) (same_path p q) e in
    let y = both_true (same_step a c) (same_path p r) f in
    both_of (same_step b c) (same_path q r) (keyed_third step_keyed a b c x.0 y.0) (path_third p q r x.1 y.1)

pub path_same : (p : Path) → same_path p p ≡ true
unfolding same_path
path_same [] = refl
path_same (a ∷ p) = both_of (same_step a a) (same_path p p) (step_keyed.from_keys a a refl) (path_same p)

-- Values.
pub value_keyed : Keyed same_value (λ t. counts_as t.value t)
unfolding same_value
value_keyed = record {
  to_keys = λ t u e. same_equal (counts_as t.value t) (counts_as u.value u) e;
  from_keys = λ t u e. ap (same (counts_as t.value t)) (sym e) ∙ same_self (counts_as t.value t);
}

-- Kinds.
pub kind_keyed : Keyed same_kind kind_number
unfolding same_kind
kind_keyed = record { to_keys = λ a b e. eqb-true (kind_number a) (kind_number b) e; from_keys = λ a b e. eq-eqb (kind_number a) (kind_number b) e }

-- Objects.
abbrev pub object_key : Content → ℕ × List ℕ
object_key x = (kind_number x.object.kind, x.object.name.bytes)

pub object_keyed : Keyed same_object object_key
unfolding same_object same_kind alike
object_keyed = record {
  to_keys = λ x y e.
      let p = both_true (eqb (kind_number x.object.kind) (kind_number y.object.kind)) (same x.object.name.bytes y.object.name.bytes) e in
      λ i. (eqb-true (kind_number x.object.kind) (kind_number y.object.kind) p.0 i, same_equal x.object.name.bytes y.object.name.bytes p.1 i);
  from_keys = λ x y e.
      both_of (eqb (kind_number x.object.kind) (kind_number y.object.kind)) (same x.object.name.bytes y.object.name.bytes)
      (eq-eqb (kind_number x.object.kind) (kind_number y.object.kind) (ap (λ (k : ℕ × List ℕ). k.0) e))
      (ap (same x.object.name.bytes) (sym (ap (λ (k : ℕ × List ℕ). k.1) e)) ∙ same_self x.object.name.bytes);
}
