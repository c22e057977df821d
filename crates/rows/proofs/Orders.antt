-- The laws of which fault answers: `before` is an order in which any two faults stand one before the other, and `sooner` is the first
-- of two in it.
-- Assumes nothing.
use Prim.Native.Nat.{ℕ, ◌<◌, ◌≤◌}
use mathlib.Core.Path.{◌≡◌, refl, sym, ap, ap₂, ◌∙◌}
use mathlib.Core.Bool.{Bool, true, false, false≢true}
use mathlib.Core.List.{List, [], ◌∷◌, ◌++◌}
use mathlib.Core.Logic.{◌⊎◌, inl, inr, ⊎_elim}
use native.Mathlib.Omega.{arith}
use native.Mathlib.Decide.{ℕ_discrete, dec_lt, dec_le}
use lib.Dec.{ltb}
use borrow.Author.Tests.{lt-ltb, le-ltb, eq-eqb, ne_eqb}
use Rattle.std.specs.Prelude.{Some, None, is_some}
use Rattle.std.specs.Ordering.{partial_lt}
use Rattle.token.specs.Find.{either}
use Rattle.rows.specs.contracts.FaultPartialOrd.TheImpl as FaultPartialOrd
use Rattle.rows.specs.declared.Fault.{Fault}
use Rattle.rows.specs.Found.{Found}
use Rattle.std.specs.Prelude.{Some, None}
use Rattle.rows.specs.Search.{is_found}
use Rattle.rows.specs.Order.{MaybeFault, before, sooner, fault_if}

-- the one that answers of a and some more, found from the left
unfoldable pub soonest : MaybeFault → List MaybeFault → MaybeFault
soonest a [] = a
soonest a (f ∷ fs) = soonest (sooner a f) fs

-- the cases of `before`
module _ (a b : Fault) where
  pub before_nones : a.number ≡ 0 → b.number ≡ 0 → before a b ≡ ltb b.place a.place
  unfolding before
  before_nones x y = rw (eq-eqb a.number 0 x, eq-eqb b.number 0 y)

  pub before_none : a.number ≡ 0 → (b.number ≡ 0 → ⊥) → before a b ≡ false
  unfolding before
  before_none x y = rw (eq-eqb a.number 0 x, ne_eqb b.number 0 y)

  pub before_any : (a.number ≡ 0 → ⊥) → b.number ≡ 0 → before a b ≡ true
  unfolding before
  before_any x y = rw (ne_eqb a.number 0 x, eq-eqb b.number 0 y)

  pub before_here : (a.number ≡ 0 → ⊥) → (b.number ≡ 0 → ⊥) → a.place ≡ b.place → before a b ≡ ltb a.number b.number
  unfolding before
  before_here x y e = rw (ne_eqb a.number 0 x, ne_eqb b.number 0 y, eq-eqb a.place b.place e)

  pub before_apart : (a.number ≡ 0 → ⊥) → (b.number ≡ 0 → ⊥) → (a.place ≡ b.place → ⊥) → before a b ≡ ltb a.place b.place
  unfolding before
  before_apart x y e = rw (ne_eqb a.number 0 x, ne_eqb b.number 0 y, ne_eqb a.place b.place e)

  -- the cases of `sooner`
  pub sooner_second : before b a ≡ true → sooner (Some a) (Some b) ≡ Some b
  unfolding sooner
  sooner_second e = rw e

  pub sooner_first : before b a ≡ false → sooner (Some a) (Some b) ≡ Some a
  unfolding sooner
  sooner_first e = rw e

  -- the derived `<` of faults is `before`, where none has the number 0
  pub before_derived : (a.number ≡ 0 → ⊥) → (b.number ≡ 0 → ⊥) → partial_lt FaultPartialOrd.partial_cmp-value.it a b ≡ before a b
  before_derived u v = by (dec_lt a.place b.place) (ℕ_discrete a.place b.place) (dec_lt a.number b.number) (ℕ_discrete a.number b.number)
    where
      derived : Bool → Type 0
      derived t = partial_lt FaultPartialOrd.partial_cmp-value.it a b ≡ t

      left_of : a.place < b.place → derived true
      left_of h = rw (lt-ltb a.place b.place h)

      right_of : (a.place < b.place → ⊥) → (a.place ≡ b.place → ⊥) → derived false
      right_of h d = rw (le-ltb a.place b.place (omega arith), ne_eqb a.place b.place d)

      below : (a.place < b.place → ⊥) → a.place ≡ b.place → a.number < b.number → derived true
      below h e k = rw (le-ltb a.place b.place (omega arith), eq-eqb a.place b.place e, lt-ltb a.number b.number k)

      above : (a.place < b.place → ⊥) → a.place ≡ b.place → (a.number < b.number → ⊥) → (a.number ≡ b.number → ⊥) → derived false
      above h e k n = rw (le-ltb a.place b.place (omega arith), eq-eqb a.place b.place e, le-ltb a.number b.number (omega arith), ne_eqb a.number b.number n)

      same : (a.place < b.place → ⊥) → a.place ≡ b.place → (a.number < b.number → ⊥) → a.number ≡ b.number → derived false
      same h e k n = rw (le-ltb a.place b.place (omega arith), eq-eqb a.place b.place e, le-ltb a.number b.number (omega arith), eq-eqb a.number b.number n)

      by : Dec (a.place < b.place) → Dec (a.place ≡ b.place) → Dec (a.number < b.number) → Dec (a.number ≡ b.number) → derived (before a b)
      by (yes h) _ _ _ = left_of h ∙ sym (before_apart u v (λ e. omega arith) ∙ lt-ltb a.place b.place h)
      by (no h) (no d) _ _ = right_of h d ∙ sym (before_apart u v d ∙ le-ltb a.place b.place (omega arith))
      by (no h) (yes e) (yes k) _ = below h e k ∙ sym (before_here u v e ∙ lt-ltb a.number b.number k)
      by (no h) (yes e) (no k) (no n) = above h e k n ∙ sym (before_here u v e ∙ le-ltb a.number b.number (omega arith))
      by (no h) (yes e) (no k) (yes n) = same h e k n ∙ sym (before_here u v e ∙ le-ltb a.number b.number (omega arith))

-- b does not answer rather than a
data Keeps (a b : Fault) : Type 0 where
  nones : a.number ≡ 0 → b.number ≡ 0 → b.place ≤ a.place → Keeps a b
  any : 0 < a.number → b.number ≡ 0 → Keeps a b
  left : 0 < a.number → 0 < b.number → a.place < b.place → Keeps a b
  here : 0 < a.number → 0 < b.number → a.place ≡ b.place → a.number ≤ b.number → Keeps a b

keeps_before : (a b : Fault) → Keeps a b → before b a ≡ false
keeps_before a b (nones x y h) = before_nones b a y x ∙ le-ltb a.place b.place h
keeps_before a b (any x y) = before_none b a y (λ e. absurd (omega arith))
keeps_before a b (left x y h) = before_apart b a (λ e. omega arith) (λ e. omega arith) (λ e. omega arith) ∙ le-ltb b.place a.place (omega arith)
keeps_before a b (here x y e h) = before_here b a (λ e. omega arith) (λ e. omega arith) (sym e) ∙ le-ltb b.number a.number h

equal : (a b : Fault) → a.number ≡ b.number → a.place ≡ b.place → a ≡ b
equal a b n e = ap₂ (λ (x y : ℕ). record { number = x; place = y }) n e

before_self : (a : Fault) → before a a ≡ false
before_self a = by (ℕ_discrete a.number 0)
  where
    by : Dec (a.number ≡ 0) → before a a ≡ false
    by (yes x) = before_nones a a x x ∙ le-ltb a.place a.place (omega arith)
    by (no x) = before_here a a x x refl ∙ le-ltb a.number a.number (omega arith)

-- a answers rather than b, or is b
keeps_or : (a b : Fault) → Keeps a b → (before a b ≡ true) ⊎ (a ≡ b)
keeps_or a b (any x y) = inl (before_any a b (λ e. omega arith) y)
keeps_or a b (left x y h) = inl (before_apart a b (λ e. omega arith) (λ e. omega arith) (λ e. omega arith) ∙ lt-ltb a.place b.place h)
keeps_or a b (nones x y h) = by (ℕ_discrete a.place b.place)
  where
    by : Dec (a.place ≡ b.place) → (before a b ≡ true) ⊎ (a ≡ b)
    by (yes e) = inr (equal a b (x ∙ sym y) e)
    by (no d) = inl (before_nones a b x y ∙ lt-ltb b.place a.place (omega arith))
keeps_or a b (here x y e h) = by (ℕ_discrete a.number b.number)
  where
    by : Dec (a.number ≡ b.number) → (before a b ≡ true) ⊎ (a ≡ b)
    by (yes n) = inr (equal a b n e)
    by (no d) = inl (before_here a b (λ e. omega arith) (λ e. omega arith) e ∙ lt-ltb a.number b.number (omega arith))

-- one of two keeps
order : (a b : Fault) → Keeps a b ⊎ Keeps b a
order a b = by (ℕ_discrete a.number 0) (ℕ_discrete b.number 0)
  where
    numbers : 0 < a.number → 0 < b.number → a.place ≡ b.place → Dec (a.number ≤ b.number) → Keeps a b ⊎ Keeps b a
    numbers x y e (yes h) = inl (here x y e h)
    numbers x y e (no h) = inr (here y x (sym e) (omega arith))

    places : 0 < a.number → 0 < b.number → Dec (a.place < b.place) → Dec (b.place < a.place) → Keeps a b ⊎ Keeps b a
    places x y (yes h) k = inl (left x y h)
    places x y (no h) (yes k) = inr (left y x k)
    places x y (no h) (no k) = numbers x y (omega arith) (dec_le a.number b.number)

    none_none : a.number ≡ 0 → b.number ≡ 0 → Dec (b.place ≤ a.place) → Keeps a b ⊎ Keeps b a
    none_none x y (yes h) = inl (nones x y h)
    none_none x y (no h) = inr (nones y x (omega arith))

    by : Dec (a.number ≡ 0) → Dec (b.number ≡ 0) → Keeps a b ⊎ Keeps b a
    by (yes x) (yes y) = none_none x y (dec_le b.place a.place)
    by (yes x) (no y) = inr (any (omega arith) x)
    by (no x) (yes y) = inl (any (omega arith) y)
    by (no x) (no y) = places (omega arith) (omega arith) (dec_lt a.place b.place) (dec_lt b.place a.place)

keeps_trans : (a b c : Fault) → Keeps a b → Keeps b c → Keeps a c
keeps_trans a b c (nones x y h) (nones y' z k) = nones x z (omega arith)
keeps_trans a b c (nones x y h) (any y' z) = absurd (omega arith)
keeps_trans a b c (nones x y h) (left y' z k) = absurd (omega arith)
keeps_trans a b c (nones x y h) (here y' z e k) = absurd (omega arith)
keeps_trans a b c (any x y) (nones y' z k) = any x z
keeps_trans a b c (any x y) (any y' z) = any x z
keeps_trans a b c (any x y) (left y' z k) = absurd (omega arith)
keeps_trans a b c (any x y) (here y' z e k) = absurd (omega arith)
keeps_trans a b c (left x y h) (nones y' z k) = any x z
keeps_trans a b c (left x y h) (any y' z) = any x z
keeps_trans a b c (left x y h) (left y' z k) = left x z (omega arith)
keeps_trans a b c (left x y h) (here y' z e k) = left x z (omega arith)
keeps_trans a b c (here x y d h) (nones y' z k) = any x z
keeps_trans a b c (here x y d h) (any y' z) = any x z
keeps_trans a b c (here x y d h) (left y' z k) = left x z (omega arith)
keeps_trans a b c (here x y d h) (here y' z e k) = here x z (omega arith) (omega arith)

keeps_first : (a b : Fault) → Keeps a b → sooner (Some a) (Some b) ≡ Some a
keeps_first a b k = sooner_first a b (keeps_before a b k)

keeps_second : (a b : Fault) → Keeps b a → sooner (Some a) (Some b) ≡ Some b
keeps_second a b k = ⊎_elim (sooner_second a b) (λ e. sooner_first a b (ap (λ x. before x a) e ∙ before_self a) ∙ ap Some (sym e)) (keeps_or b a k)

pub sooner_none : (a : MaybeFault) → sooner a None ≡ a
unfolding sooner
sooner_none None = refl
sooner_none (Some x) = refl

pub none_sooner : (a : MaybeFault) → sooner None a ≡ a
unfolding sooner
none_sooner a = refl

pub sooner_comm : (a b : MaybeFault) → sooner a b ≡ sooner b a
sooner_comm None b = none_sooner b ∙ sym (sooner_none b)
sooner_comm (Some x) None = sooner_none (Some x) ∙ sym (none_sooner (Some x))
sooner_comm (Some x) (Some y) =
    ⊎_elim (λ k. keeps_first x y k ∙ sym (keeps_second y x k)) (λ k. keeps_second x y k ∙ sym (keeps_first y x k)) (order x y)

pub sooner_assoc : (a b c : MaybeFault) → sooner (sooner a b) c ≡ sooner a (sooner b c)
sooner_assoc None b c = ap (λ f. sooner f c) (none_sooner b) ∙ sym (none_sooner (sooner b c))
sooner_assoc (Some x) None c = ap (λ f. sooner f c) (sooner_none (Some x)) ∙ sym (ap (sooner (Some x)) (none_sooner c))
sooner_assoc (Some x) (Some y) None = sooner_none (sooner (Some x) (Some y)) ∙ sym (ap (sooner (Some x)) (sooner_none (Some y)))
sooner_assoc (Some x) (Some y) (Some z) =
    ⊎_elim
    (λ k. ⊎_elim
    (λ m. ap (λ f. sooner f (Some z)) (keeps_first x y k) ∙ keeps_first x z (keeps_trans x y z k m)
    ∙ sym (ap (sooner (Some x)) (keeps_first y z m) ∙ keeps_first x y k))
    (λ m. ap (λ f. sooner f (Some z)) (keeps_first x y k) ∙ sym (ap (sooner (Some x)) (keeps_second y z m)))
    (order y z))
    (λ k. ⊎_elim
    (λ m. ap (λ f. sooner f (Some z)) (keeps_second x y k) ∙ keeps_first y z m
    ∙ sym (ap (sooner (Some x)) (keeps_first y z m) ∙ keeps_second x y k))
    (λ m. ap (λ f. sooner f (Some z)) (keeps_second x y k) ∙ keeps_second y z m
    ∙ sym (ap (sooner (Some x)) (keeps_second y z m) ∙ keeps_second x z (keeps_trans z y x m k)))
    (order y z))
    (order x y)

pub none_is : (a : MaybeFault) → is_some a ≡ false → a ≡ None
none_is None e = refl
none_is (Some x) e = absurd (false≢true (sym e))

-- it is a fault where one of the two is
pub sooner_is : (a b : MaybeFault) → is_some (sooner a b) ≡ either (is_some a) (is_some b)
unfolding sooner
sooner_is None b = refl
sooner_is (Some x) None = refl
sooner_is (Some x) (Some y) = refl

-- the fault answers rather than the one that is chosen
unfoldable pub ahead_of : MaybeFault → MaybeFault → Bool
ahead_of None b = false
ahead_of (Some a) None = true
ahead_of (Some a) (Some b) = before a b

-- neither answers rather than it
pub sooner_before : (a b : MaybeFault) → ahead_of a (sooner a b) ≡ false
unfolding ahead_of
sooner_before None b = refl
sooner_before (Some x) None = ap (ahead_of (Some x)) (sooner_none (Some x)) ∙ before_self x
sooner_before (Some x) (Some y) =
    ⊎_elim
    (λ k. ap (ahead_of (Some x)) (keeps_first x y k) ∙ before_self x)
    (λ k. ap (ahead_of (Some x)) (keeps_second x y k) ∙ keeps_before y x k)
    (order x y)

pub sooner_idem : (a : MaybeFault) → sooner a a ≡ a
sooner_idem None = none_sooner None
sooner_idem (Some x) = sooner_first x x (before_self x)

-- the one that answers of many
pub soonest_append : (a : MaybeFault) (xs ys : List MaybeFault) → soonest a (xs ++ ys) ≡ soonest (soonest a xs) ys
unfolding soonest
soonest_append a [] ys = refl
soonest_append a (x ∷ xs) ys = soonest_append (sooner a x) xs ys

pub soonest_sooner : (a b : MaybeFault) (fs : List MaybeFault) → soonest (sooner a b) fs ≡ sooner a (soonest b fs)
unfolding soonest
soonest_sooner a b [] = refl
soonest_sooner a b (f ∷ fs) = ap (λ (g : MaybeFault). soonest g fs) (sooner_assoc a b f) ∙ soonest_sooner a (sooner b f) fs

-- no other of them answers rather than it
pub soonest_least : (a : MaybeFault) (xs : List MaybeFault) (f : MaybeFault) (ys : List MaybeFault) → ahead_of f (soonest a (xs ++ (f ∷ ys))) ≡ false
unfolding soonest
soonest_least a xs f ys =
    ap (ahead_of f)
    (soonest_append a xs (f ∷ ys)
    ∙ ap (λ (g : MaybeFault). soonest g ys) (sooner_comm (soonest a xs) f)
    ∙ soonest_sooner f (soonest a xs) ys)
    ∙ sooner_before f (soonest (soonest a xs) ys)

-- a fault by a test
module _ (t : Bool) (n p : ℕ) where
  pub fault_if_true : t ≡ true → fault_if t n p ≡ Some (record { number = n; place = p })
  unfolding fault_if
  fault_if_true e = rw e

  pub fault_if_false : t ≡ false → fault_if t n p ≡ None
  unfolding fault_if
  fault_if_false e = rw e

-- the fault where something was found, and where nothing was
pub found_some : (z : Found) (i n p : ℕ) → z ≡ Some i → Some (record { number = n; place = p }) ≡ fault_if (is_found z) n p
unfolding fault_if
found_some z i n p e = sym (ap (λ (y : Found). fault_if (is_found y) n p) e)

pub found_none : (z : Found) (n p : ℕ) → z ≡ None → None ≡ fault_if (is_found z) n p
unfolding fault_if
found_none z n p e = sym (ap (λ (y : Found). fault_if (is_found y) n p) e)
