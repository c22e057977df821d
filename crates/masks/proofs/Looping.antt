-- The laws of the code's loops: what is left to compute is what was asked. Assumes nothing.
use mathlib.Core.Path.{◌≡◌, refl, sym, ◌∙◌, ap, ap₂}
use mathlib.Core.List.{List, [], ◌∷◌}
use mathlib.Core.Bool.{Bool, true, false, not}
use Prim.Native.Nat.{ℕ, zero, suc, ◌+◌, ◌*◌, ◌/◌, ◌%◌, ◌-◌, ◌<◌, ◌≤◌, ◌^◌, max, min}
use native.Mathlib.Omega.{arith}
use native.Mathlib.Nat.{mul-add-mod_self_right, mod-eq_of_lt}
use lib.Bits.{bit_or, or_step, or_shr}
use Rattle.token.proofs.Bytes.{either_assoc, either_false}
use Rattle.rows.proofs.Starts.{cell_past, cell_start}
use Rattle.masks.proofs.Powers.{has_zero}
use native.Mathlib.Numerals.{add-one}
use lib.ListN.{length, get_or, drop}
use lib.Dec.{eqb, lit<}
use lib.Pow.{shl_exact}
use Rattle.token.specs.Find.{both, either}
use Rattle.masks.specs.Bits.{has}
use Rattle.masks.specs.Masks.{Task, meets, beside}
use Rattle.masks.specs.Marks.{task_at, tasks_at, has_power, another}

-- Tests ------------------------------------------------------------------------------------------------------------------------------------

pub first_fails : (a b : Bool) → a ≡ false → false ≡ both a b
first_fails a b e = ap (λ (x : Bool). both x b) (sym e)

pub second_decides : (a b r : Bool) → a ≡ true → r ≡ b → r ≡ both a b
second_decides a b r e q = q ∙ ap (λ (x : Bool). both x b) (sym e)

-- Powers -----------------------------------------------------------------------------------------------------------------------------------

pub shifted : (k : ℕ) → k < 64 → (1 * 2 ^ k) % 2 ^ 64 ≡ 2 ^ k
shifted k h = let e : 1 + k ≤ 64 = omega (arith, h) in let z : 1 * 2 ^ k ≡ 2 ^ k = omega arith in shl_exact {a = 1} 1 k 64 (lit< tt) e ∙ z

pub power_is : (p m : ℕ) → eqb (m / p % 2) 1 ≡ has_power p m
unfolding has_power
power_is p m = refl

-- Marks ------------------------------------------------------------------------------------------------------------------------------------

pub mark_past : (marks : List ℕ) (i : ℕ) → length marks ≤ i → false ≡ eqb (get_or marks i 0) 1
mark_past marks i h = ap (λ (y : ℕ). eqb y 1) (sym (cell_past marks i h))

pub event_is : (marks rows : List ℕ) (t j o a : ℕ) (r : Bool) → o ≡ get_or rows j 0 → a ≡ min (length marks) (t * 256) → r ≡ eqb (get_or marks (a + o) 0) 1 → r ≡ task_at marks rows t j
unfolding task_at
event_is marks rows t j o a r e k q =
    q ∙ ap₂ (λ (x y : ℕ). eqb (get_or marks (x + y) 0) 1) k e ∙ ap (λ (y : ℕ). eqb y 1) (cell_start marks (t * 256) (get_or rows j 0))

pub other_no : (t : Task) (i j : ℕ) → t j ≡ false → false ≡ another t i j
unfolding another
other_no t i j e = first_fails (t j) (not (eqb i j)) e

pub other_yes : (t : Task) (i j : ℕ) → t j ≡ true → not (eqb i j) ≡ another t i j
unfolding another
other_yes t i j e = second_decides (t j) (not (eqb i j)) (not (eqb i j)) e refl

-- Events -----------------------------------------------------------------------------------------------------------------------------------

pub drop_here : (l : List ℕ) (j : ℕ) → j < length l → drop j l ≡ get_or l j 0 ∷ drop (j + 1) l
drop_here [] j h = absurd (omega arith)
drop_here (x ∷ l) zero h = refl
drop_here (x ∷ l) (suc j) h =
    let k : j < length l = omega (arith, h) in
    let e : suc j + 1 ≡ suc (j + 1) = omega arith in
    drop_here l j k ∙ ap (λ (i : ℕ). get_or l j 0 ∷ drop i (x ∷ l)) (sym e)

drop_past : (l : List ℕ) (j : ℕ) → length l ≤ j → drop j l ≡ []
drop_past [] zero h = refl
drop_past [] (suc j) h = refl
drop_past (x ∷ l) zero h = absurd (omega (arith, h))
drop_past (x ∷ l) (suc j) h = drop_past l j (omega (arith, h))

module _ (t : Task) (i : ℕ) (p : ℕ → Bool) (l : List ℕ) where
  meets_next : (j : ℕ) → j < length l → meets t i p (drop j l) j ≡ either (both (another t i j) (p (get_or l j 0))) (meets t i p (drop (j + 1) l) (j + 1))
  unfolding meets another
  meets_next j h = ap (λ (x : List ℕ). meets t i p x j) (drop_here l j h) ∙ ap (λ (k : ℕ). either (both (both (t j) (not (eqb i j))) (p (get_or l j 0))) (meets t i p (drop (j + 1) l) k)) (sym (add-one j))

-- Tasks ------------------------------------------------------------------------------------------------------------------------------------

module _ (marks rows : List ℕ) where
  pub tasks_here : (c t : ℕ) → t < c → tasks_at marks rows (c - t) t ≡ task_at marks rows t ∷ tasks_at marks rows (c - (t + 1)) (t + 1)
  unfolding tasks_at
  tasks_here c t h =
      let e : c - t ≡ suc (c - (t + 1)) = omega (arith, h) in
      ap (λ (n : ℕ). tasks_at marks rows n t) e ∙ ap (λ (n : ℕ). task_at marks rows t ∷ tasks_at marks rows (c - (t + 1)) n) (sym (add-one t))

  pub tasks_start : (c : ℕ) → tasks_at marks rows (c - 0) 0 ≡ tasks_at marks rows c 0
  tasks_start c = let e : c - 0 ≡ c = omega arith in ap (λ (n : ℕ). tasks_at marks rows n 0) e

  pub tasks_none : (c t : ℕ) → c ≤ t → tasks_at marks rows (c - t) t ≡ []
  unfolding tasks_at
  tasks_none c t h = let e : c - t ≡ 0 = omega (arith, h) in ap (λ (n : ℕ). tasks_at marks rows n t) e

  module _ (i : ℕ) (p : ℕ → Bool) (l : List ℕ) (c : ℕ) where
    pub beside_start : beside (tasks_at marks rows (c - 0) 0) i p l ≡ beside (tasks_at marks rows c 0) i p l
    beside_start = ap (λ (x : List Task). beside x i p l) (tasks_start c)

    beside_next : (t : ℕ) → t < c → beside (tasks_at marks rows (c - t) t) i p l ≡ either (both (task_at marks rows t i) (meets (task_at marks rows t) i p l 0)) (beside (tasks_at marks rows (c - (t + 1)) (t + 1)) i p l)
    unfolding beside
    beside_next t h = ap (λ (x : List Task). beside x i p l) (tasks_here c t h)

-- Bits gathered ----------------------------------------------------------------------------------------------------------------------------

max_odd : (a b : ℕ) → a < 2 → b < 2 → eqb (max a b) 1 ≡ either (eqb a 1) (eqb b 1)
max_odd zero zero h k = refl
max_odd zero (suc zero) h k = refl
max_odd zero (suc (suc b)) h k = absurd (omega (arith, k))
max_odd (suc zero) zero h k = refl
max_odd (suc zero) (suc zero) h k = refl
max_odd (suc zero) (suc (suc b)) h k = absurd (omega (arith, k))
max_odd (suc (suc a)) b h k = absurd (omega (arith, h))

or_odd : (a b : ℕ) → bit_or a b % 2 ≡ max (a % 2) (b % 2)
or_odd a b =
    let x : a % 2 < 2 = omega arith in
    let y : b % 2 < 2 = omega arith in
    let z : max (a % 2) (b % 2) < 2 = omega (arith, x, y) in
    ap (λ (n : ℕ). n % 2) (or_step a b) ∙ mul-add-mod_self_right (bit_or (a / 2) (b / 2)) 2 (max (a % 2) (b % 2)) ∙ mod-eq_of_lt z

-- A bit of two masks together.
pub has_or : (a b k : ℕ) → has (bit_or a b) k ≡ either (has a k) (has b k)
unfolding has
has_or a b k =
    ap (λ (n : ℕ). eqb (n % 2) 1) (or_shr a b k) ∙ ap (λ (n : ℕ). eqb n 1) (or_odd (a / 2 ^ k) (b / 2 ^ k))
    ∙ max_odd (a / 2 ^ k % 2) (b / 2 ^ k % 2) (omega arith) (omega arith)

either_both_no : (x a b : Bool) → a ≡ false → x ≡ either x (both a b)
either_both_no true a b e = refl
either_both_no false a b e = first_fails a b e

either_both_yes : (x a b : Bool) → a ≡ true → either x b ≡ either x (both a b)
either_both_yes x a b e = ap (λ (y : Bool). either x (both y b)) (sym e)

pub gathers_none : (a : ℕ) (x : Bool) (f : ℕ → Bool) → x ≡ false → (k : ℕ) → has a k ≡ either (has a k) (both x (f k))
gathers_none a x f e k = either_both_no (has a k) x (f k) e

pub gathers_more : (a r : ℕ) (x : Bool) (f : ℕ → Bool) → x ≡ true → ((k : ℕ) → has r k ≡ either (has a k) (f k)) → (k : ℕ) → has r k ≡ either (has a k) (both x (f k))
gathers_more a r x f e h k = h k ∙ either_both_yes (has a k) x (f k) e

module _ (t : Task) (i : ℕ) (l : List ℕ) where
  pub gather_turn : (a b r j : ℕ) → j < length l → ((k : ℕ) → has r k ≡ either (has b k) (both (another t i j) (has (get_or l j 0) k)))
      → ((k : ℕ) → either (has b k) (meets t i (λ n. has n k) (drop j l) j) ≡ either (has a k) (meets t i (λ n. has n k) l 0))
      → (k : ℕ) → either (has r k) (meets t i (λ n. has n k) (drop (j + 1) l) (j + 1)) ≡ either (has a k) (meets t i (λ n. has n k) l 0)
  gather_turn a b r j h e q k =
      ap (λ (x : Bool). either x (meets t i (λ n. has n k) (drop (j + 1) l) (j + 1))) (e k)
      ∙ sym (either_assoc (has b k) (both (another t i j) (has (get_or l j 0) k)) (meets t i (λ n. has n k) (drop (j + 1) l) (j + 1)))
      ∙ ap (either (has b k)) (sym (meets_next t i (λ n. has n k) l j h)) ∙ q k

  pub gather_end : (a b j : ℕ) → length l ≤ j → ((k : ℕ) → either (has b k) (meets t i (λ n. has n k) (drop j l) j) ≡ either (has a k) (meets t i (λ n. has n k) l 0))
      → (k : ℕ) → has b k ≡ either (has a k) (meets t i (λ n. has n k) l 0)
  unfolding meets
  gather_end a b j h q k = sym (either_false (has b k)) ∙ ap (λ (x : List ℕ). either (has b k) (meets t i (λ n. has n k) x j)) (sym (drop_past l j h)) ∙ q k

module _ (marks rows : List ℕ) (i : ℕ) (l : List ℕ) (c : ℕ) where
  pub taken_turn : (b r t : ℕ) → t < c → ((k : ℕ) → has r k ≡ either (has b k) (both (task_at marks rows t i) (meets (task_at marks rows t) i (λ n. has n k) l 0)))
      → ((k : ℕ) → either (has b k) (beside (tasks_at marks rows (c - t) t) i (λ n. has n k) l) ≡ beside (tasks_at marks rows c 0) i (λ n. has n k) l)
      → (k : ℕ) → either (has r k) (beside (tasks_at marks rows (c - (t + 1)) (t + 1)) i (λ n. has n k) l) ≡ beside (tasks_at marks rows c 0) i (λ n. has n k) l
  taken_turn b r t h e q k =
      ap (λ (x : Bool). either x (beside (tasks_at marks rows (c - (t + 1)) (t + 1)) i (λ n. has n k) l)) (e k)
      ∙ sym (either_assoc (has b k) (both (task_at marks rows t i) (meets (task_at marks rows t) i (λ n. has n k) l 0)) (beside (tasks_at marks rows (c - (t + 1)) (t + 1)) i (λ n. has n k) l))
      ∙ ap (either (has b k)) (sym (beside_next marks rows i (λ n. has n k) l c t h)) ∙ q k

  pub taken_start : (k : ℕ) → either (has 0 k) (beside (tasks_at marks rows (c - 0) 0) i (λ n. has n k) l) ≡ beside (tasks_at marks rows c 0) i (λ n. has n k) l
  taken_start k = ap (λ (x : Bool). either x (beside (tasks_at marks rows (c - 0) 0) i (λ n. has n k) l)) (has_zero k) ∙ beside_start marks rows i (λ n. has n k) l c

  pub taken_end : (b t : ℕ) → c ≤ t → ((k : ℕ) → either (has b k) (beside (tasks_at marks rows (c - t) t) i (λ n. has n k) l) ≡ beside (tasks_at marks rows c 0) i (λ n. has n k) l)
      → (k : ℕ) → has b k ≡ beside (tasks_at marks rows c 0) i (λ n. has n k) l
  unfolding beside
  taken_end b t h q k = sym (either_false (has b k)) ∙ ap (λ (x : List Task). either (has b k) (beside x i (λ n. has n k) l)) (sym (tasks_none marks rows c t h)) ∙ q k
