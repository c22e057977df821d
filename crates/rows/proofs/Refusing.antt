-- Two refusals that are the same have the same number and place. Assumes nothing.
use mathlib.Core.Path.{◌≡◌, ap}
use Prim.Native.Nat.{ℕ}
use Rattle.std.specs.Prelude.{Result, Ok, Err}
use Rattle.rows.specs.Refusing.{fault_at, refusing}
use Rattle.rows.specs.declared.Fault.{Fault}

module _ {A : Type 0} where
  pub ok_is : {B : Type 0} {x y : A} → ◌≡◌ {A = Result A B} (Ok x) (Ok y) → x ≡ y
  ok_is {x = x} {y} e = let z : x ≡ y = cc in z

  pub err_is : {B : Type 0} {x y : B} → ◌≡◌ {A = Result A B} (Err x) (Err y) → x ≡ y
  err_is {x = x} {y} e = let z : x ≡ y = cc in z

  pub number_is : {n p m q : ℕ} → refusing {A = A} n p ≡ refusing {A = A} m q → n ≡ m
  number_is e = ap (λ (f : Fault). f.number) (err_is e)

  pub place_is : {n p m q : ℕ} → refusing {A = A} n p ≡ refusing {A = A} m q → p ≡ q
  place_is e = ap (λ (f : Fault). f.place) (err_is e)
