-- The order of what is told is that of the findings. Assumes nothing.
use mathlib.Core.Path.{◌≡◌, refl, ◌∙◌, ap}
use Prim.Native.Nat.{ℕ, ◌≤◌, ◌<◌}
use native.Mathlib.Omega.{arith}
use native.Mathlib.Decide.{dec_lt}
use borrow.Author.Tests.{eq-eqb, ne_eqb, lt-ltb, le-ltb, le-leb, lt-leb}
use Rattle.std.specs.Ordering.{ord_min, nat_cmp, ordering_then}
use Rattle.std.specs.declared.cmp.Ordering.{Ordering}
use Rattle.std.specs.declared.cmp.Ordering.TheVariants.{Less, Equal, Greater}
use Rattle.std.specs.Prelude.{Option as Maybe, Some, ltb, eqb, leb}
use Rattle.token.specs.Find.{pick, both, either}
use Rattle.standard.specs.Asking.{not_behind}
use Rattle.standard.specs.Findings.{finding_as, sooner}
use Rattle.standard.specs.declared.Told.{Told}

less : (m n : ℕ) → m < n → nat_cmp m n ≡ Less
less m n h = rw (lt-ltb m n h) refl

equal : (m n : ℕ) → n ≤ m → m ≤ n → nat_cmp m n ≡ Equal
equal m n h k = let e : m ≡ n = omega arith in rw (le-ltb m n h, eq-eqb m n e) refl

greater : (m n : ℕ) → n < m → nat_cmp m n ≡ Greater
greater m n h = let e : m ≡ n → ⊥ = λ z. omega (arith, h, z) in let l : n ≤ m = omega arith in rw (le-ltb m n l, ne_eqb m n e) refl

abbrev pub by_place : Told → Told → Ordering
by_place x y = ordering_then (nat_cmp x.place y.place) (ordering_then (nat_cmp x.number y.number) (nat_cmp x.attribute y.attribute))

-- The lesser by the derived order is the one that is not behind.
pub least : (x y : Told) → ord_min by_place x y ≡ pick (not_behind (finding_as x) (finding_as y)) x y
unfolding not_behind
least x y = by (dec_lt x.place y.place) (dec_lt y.place x.place) (dec_lt x.number y.number) (dec_lt y.number x.number) (dec_lt y.attribute x.attribute)
  where
    by : Dec (x.place < y.place) → Dec (y.place < x.place) → Dec (x.number < y.number) → Dec (y.number < x.number) → Dec (y.attribute < x.attribute)
        → ord_min by_place x y ≡ pick (not_behind (finding_as x) (finding_as y)) x y
    by (yes l) m n o v = rw (greater y.place x.place l, lt-ltb x.place y.place l) refl
    by (no l) (yes m) n o v = rw (less y.place x.place m, le-ltb x.place y.place (omega arith), ne_eqb x.place y.place (λ e. omega arith)) refl
    by (no l) (no m) n o v =
        rw (equal y.place x.place (omega arith) (omega arith), le-ltb x.place y.place (omega arith), eq-eqb x.place y.place (omega arith)) (of_number n o v)
      where
        of_number : Dec (x.number < y.number) → Dec (y.number < x.number) → Dec (y.attribute < x.attribute)
            → ord_min (λ (a b : Told). ordering_then (nat_cmp a.number b.number) (nat_cmp a.attribute b.attribute)) x y
            ≡ pick (either (ltb x.number y.number) (both (eqb x.number y.number) (leb x.attribute y.attribute))) x y
        of_number (yes l) m n = rw (greater y.number x.number l, lt-ltb x.number y.number l) refl
        of_number (no l) (yes m) n = rw (less y.number x.number m, le-ltb x.number y.number (omega arith), ne_eqb x.number y.number (λ e. omega arith)) refl
        of_number (no l) (no m) (yes n) =
            rw (equal y.number x.number (omega arith) (omega arith), le-ltb x.number y.number (omega arith), eq-eqb x.number y.number (omega arith), less y.attribute x.attribute n, lt-leb x.attribute y.attribute n) refl
        of_number (no l) (no m) (no n) =
            rw (equal y.number x.number (omega arith) (omega arith), le-ltb x.number y.number (omega arith), eq-eqb x.number y.number (omega arith), le-leb x.attribute y.attribute (omega arith))
            (tied (dec_lt x.attribute y.attribute) (λ e. omega (arith, n, e)))
          where
            tied : Dec (x.attribute < y.attribute) → (y.attribute < x.attribute → ⊥) → ord_min (λ (a b : Told). nat_cmp a.attribute b.attribute) x y ≡ x
            tied (yes l) h = rw (greater y.attribute x.attribute l) refl
            tied (no l) h = rw (equal y.attribute x.attribute (omega arith) (omega arith)) refl

pub both_found : {a b : Maybe Told} (x y z : Told) → a ≡ Some x → b ≡ Some y → z ≡ ord_min by_place x y → Some z ≡ sooner a b
both_found x y z e h q = rw (e, h) (ap Some (q ∙ least x y))
