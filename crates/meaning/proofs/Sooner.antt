-- A stage's faults may be found in any order: the first of all is the earlier of the firsts of any two parts, and which comes earlier does not
-- depend on how they are put together. Assumes nothing.
use mathlib.Core.Path.{◌≡◌, refl, sym, ◌∙◌, ap, ap₂}
use mathlib.Core.List.{List, [], ◌∷◌, ◌++◌}
use mathlib.Core.Bool.{Bool, true, false, false≢true}
use mathlib.Core.Option.{Option, none, some}
use Prim.Native.Nat.{◌≤◌, ◌<◌}
use native.Mathlib.Omega.{arith}
use lib.Dec.{ltb, leb, eqb}
use borrow.Author.Tests.{ltb-true, ltb-false, eqb-true, eqb-false, leb-true, leb-false}
use Rattle.token.specs.Find.{pick, both, either}
use Rattle.meaning.specs.Faults.{Fault, ahead, sooner, first}
use Rattle.meaning.proofs.Order.{ahead_left, ahead_same}

-- The order of faults ----------------------------------------------------------------------------------------------------------------------

-- The fault a is left of b, or at its place with a number not above its own.
pub data Le (a b : Fault) : Type 0 where
  left_of : a.place < b.place → Le a b
  not_above : a.place ≡ b.place → a.number ≤ b.number → Le a b

-- The fault a is left of b, or at its place with a smaller number.
pub data Lt (a b : Fault) : Type 0 where
  left : a.place < b.place → Lt a b
  below : a.place ≡ b.place → a.number < b.number → Lt a b

pub le_ahead : (a b : Fault) → Le a b → ahead a b ≡ true
le_ahead a b (left_of h) = ahead_left a b h
le_ahead a b (not_above e h) = ahead_same a b e h

by_tests : (a b : Fault) (l e n : Bool) → ltb a.place b.place ≡ l → eqb a.place b.place ≡ e → leb a.number b.number ≡ n
    → either l (both e n) ≡ true → Le a b
by_tests a b true e n p q r h = left_of (ltb-true a.place b.place p)
by_tests a b false true true p q r h = not_above (eqb-true a.place b.place q) (leb-true a.number b.number r)
by_tests a b false true false p q r h = absurd (false≢true h)
by_tests a b false false n p q r h = absurd (false≢true h)

pub ahead_le : (a b : Fault) → ahead a b ≡ true → Le a b
unfolding ahead
ahead_le a b h = by_tests a b (ltb a.place b.place) (eqb a.place b.place) (leb a.number b.number) refl refl refl h

by_not : (a b : Fault) (l e n : Bool) → ltb a.place b.place ≡ l → eqb a.place b.place ≡ e → leb a.number b.number ≡ n
    → either l (both e n) ≡ false → Lt b a
by_not a b true e n p q r h = absurd (false≢true (sym h))
by_not a b false true true p q r h = absurd (false≢true (sym h))
by_not a b false true false p q r h = let i = eqb-true a.place b.place q in let j = leb-false a.number b.number r in below (sym i) j
by_not a b false false n p q r h =
    let i = ltb-false a.place b.place p in
    let j = eqb-false a.place b.place q in
    left (omega (arith, j))

pub not_ahead : (a b : Fault) → ahead a b ≡ false → Lt b a
unfolding ahead
not_ahead a b h = by_not a b (ltb a.place b.place) (eqb a.place b.place) (leb a.number b.number) refl refl refl h

pub le_trans : {a b c : Fault} → Le a b → Le b c → Le a c
le_trans (left_of h) (left_of i) = left_of (omega arith)
le_trans (left_of h) (not_above e i) = left_of (omega arith)
le_trans (not_above e h) (left_of i) = left_of (omega arith)
le_trans (not_above e h) (not_above f i) = not_above (e ∙ f) (omega arith)

lt_trans : {a b c : Fault} → Lt a b → Lt b c → Lt a c
lt_trans (left h) (left i) = left (omega arith)
lt_trans (left h) (below e i) = left (omega arith)
lt_trans (below e h) (left i) = left (omega arith)
lt_trans (below e h) (below f i) = below (e ∙ f) (omega arith)

lt_le : {a b : Fault} → Lt a b → Le b a → ⊥
lt_le (left h) (left_of i) = omega arith
lt_le (left h) (not_above e i) = omega arith
lt_le (below e h) (left_of i) = omega arith
lt_le (below e h) (not_above f i) = omega arith

lt_lt : {a b : Fault} → Lt a b → Lt b a → ⊥
lt_lt (left h) (left i) = omega arith
lt_lt (left h) (below e i) = omega arith
lt_lt (below e h) (left i) = omega arith
lt_lt (below e h) (below f i) = omega arith

same_fault : (a b : Fault) → a.place ≡ b.place → a.number ≡ b.number → a ≡ b
same_fault a b e f = ap₂ (λ p n. record { place = p; number = n }) e f

pub le_same : (a b : Fault) → Le a b → Le b a → a ≡ b
le_same a b (left_of h) (left_of i) = absurd (omega arith)
le_same a b (left_of h) (not_above e i) = absurd (omega arith)
le_same a b (not_above e h) (left_of i) = absurd (omega arith)
le_same a b (not_above e h) (not_above f i) = let n : a.number ≡ b.number = omega arith in same_fault a b e n

-- The earlier of two -----------------------------------------------------------------------------------------------------------------------

pub sooner_none : (o : Option Fault) → sooner o none ≡ o
unfolding sooner
sooner_none none = refl
sooner_none (some a) = refl

pub none_sooner : (o : Option Fault) → sooner none o ≡ o
unfolding sooner
none_sooner o = refl

pub sooner_same : (o : Option Fault) → sooner o o ≡ o
unfolding sooner
sooner_same none = refl
sooner_same (some a) = go (ahead a a)
  where
    go : (p : Bool) → some (pick p a a) ≡ some a
    go true = refl
    go false = refl

pub sooner_comm : (o r : Option Fault) → sooner o r ≡ sooner r o
unfolding sooner
sooner_comm none none = refl
sooner_comm none (some b) = refl
sooner_comm (some a) none = refl
sooner_comm (some a) (some b) = go (ahead a b) (ahead b a) refl refl
  where
    go : (p q : Bool) → ahead a b ≡ p → ahead b a ≡ q → some (pick p a b) ≡ some (pick q b a)
    go true true e f = ap some (le_same a b (ahead_le a b e) (ahead_le b a f))
    go true false e f = refl
    go false true e f = refl
    go false false e f = absurd (lt_lt (not_ahead a b e) (not_ahead b a f))

not_le : (a b : Fault) → Lt b a → ahead a b ≡ false
not_le a b h = go (ahead a b) refl
  where
    go : (p : Bool) → ahead a b ≡ p → p ≡ false
    go true e = absurd (lt_le h (ahead_le a b e))
    go false e = refl

pub sooner_assoc : (o r t : Option Fault) → sooner (sooner o r) t ≡ sooner o (sooner r t)
unfolding sooner
sooner_assoc none r t = refl
sooner_assoc (some a) none t = refl
sooner_assoc (some a) (some b) none = refl
sooner_assoc (some a) (some b) (some c) = ap some (go (ahead a b) (ahead b c) refl refl)
  where
    go : (p q : Bool) → ahead a b ≡ p → ahead b c ≡ q → pick (ahead (pick p a b) c) (pick p a b) c ≡ pick (ahead a (pick q b c)) a (pick q b c)
    go true true e f = ap (λ r. pick r a c) (le_ahead a c (le_trans (ahead_le a b e) (ahead_le b c f))) ∙ sym (ap (λ r. pick r a b) e)
    go true false e f = refl
    go false true e f = ap (λ r. pick r b c) f ∙ sym (ap (λ r. pick r a b) e)
    go false false e f = ap (λ r. pick r b c) f ∙ sym (ap (λ r. pick r a c) (not_le a c (lt_trans (not_ahead b c f) (not_ahead a b e))))

-- The first of all faults of two lists is the earlier of their firsts.
pub first_append : (a b : List Fault) → first (a ++ b) ≡ sooner (first a) (first b)
unfolding first
first_append [] b = sym (none_sooner (first b))
first_append (f ∷ a) b = ap (sooner (some f)) (first_append a b) ∙ sym (sooner_assoc (some f) (first a) (first b))

-- So the two may be found in either order.
pub first_swap : (a b : List Fault) → first (a ++ b) ≡ first (b ++ a)
first_swap a b = first_append a b ∙ sooner_comm (first a) (first b) ∙ sym (first_append b a)
