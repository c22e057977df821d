-- Rows by their numbers: lists cut in two ways, and the fault at the row that is one too many. Assumes nothing.
use mathlib.Core.Path.{◌≡◌, refl, sym, ◌∙◌, ap, ap₂, subst}
use mathlib.Core.List.{List, [], ◌∷◌, ◌++◌, append_assoc}
use Prim.Native.Nat.{ℕ, zero, suc, ◌-◌, ◌≤◌, ◌<◌}
use native.Mathlib.Omega.{arith}
use native.Mathlib.Decide.{ℕ_discrete, dec_lt}
use lib.ListN.{length, get_or}
use lib.Dec.{eqb}
use borrow.Author.Tests.{lt-ltb, le-ltb, eq-eqb, ne_eqb}
use Rattle.rows.specs.Table.{cell_of}
use Rattle.scopes.proofs.Rooms.{nth_of}
use Rattle.rows.specs.Order.{fault_if}
use Rattle.meaning.specs.Syntax.{Word}
use Rattle.meaning.specs.Faults.{Fault, faults_if, sooner, first}
use Rattle.meaning.proofs.Numbering.{Counts, counts_more}
use Rattle.scopes.specs.Situations.{Nth}
use Rattle.scopes.specs.Promises.{fault_of}
use Rattle.checks.specs.Cells.{room_fault}
use Rattle.scopes.proofs.Firsts.{Has, Real, real_none, here, there, has_none}

-- Lists ------------------------------------------------------------------------------------------------------------------------------------

-- Where an element of a list that is F and then R stands.
pub data Stands {A : Type 0} (F R a : List A) (x : A) (b : List A) : Type 0 where
  in_front : (c : List A) → F ≡ a ++ (x ∷ c) → Stands F R a x b
  in_rest : (c : List A) → R ≡ c ++ (x ∷ b) → a ≡ F ++ c → Stands F R a x b

more_stands : {A : Type 0} {F R a : List A} {x : A} {b : List A} (y z : A) → y ≡ z → Stands F R a x b → Stands (y ∷ F) R (z ∷ a) x b
more_stands y z h (in_front c q) = in_front c (ap₂ (λ u v. u ∷ v) h q)
more_stands y z h (in_rest c q p) = in_rest c q (ap₂ (λ u v. u ∷ v) (sym h) p)

pub stands : {A : Type 0} (F R a : List A) (x : A) (b : List A) → F ++ R ≡ a ++ (x ∷ b) → Stands F R a x b
stands [] R a x b e = in_rest a e refl
stands (y ∷ F) R [] x b e = let h : y ≡ x = cc in in_front F (ap (λ u. u ∷ F) h)
stands (y ∷ F) R (z ∷ a) x b e =
    let h : y ≡ z = cc in
    let t : F ++ R ≡ a ++ (x ∷ b) = cc in
    more_stands y z h (stands F R a x b t)

pub get_at : {A : Type 0} (a : List A) (x : A) (b : List A) (d : A) → get_or (a ++ (x ∷ b)) (length a) d ≡ x
get_at [] x b d = refl
get_at (y ∷ a) x b d = get_at a x b d

-- One too many -----------------------------------------------------------------------------------------------------------------------------

module _ {A : Type 0} (w : A → Word) (n : ℕ) where
  -- The fault n at row j, where there is one.
  unfoldable pub nth_fault : ℕ → List A → List Fault
  nth_fault j [] = []
  nth_fault zero (x ∷ xs) = record { place = (w x).place; number = n } ∷ []
  nth_fault (suc j) (x ∷ xs) = nth_fault j xs

  fault_behind : (a : List A) (x : A) (b : List A) → nth_fault (length a) (a ++ (x ∷ b)) ≡ record { place = (w x).place; number = n } ∷ []
  unfolding nth_fault
  fault_behind [] x b = refl
  fault_behind (y ∷ a) x b = fault_behind a x b

  pub fault_at : {l : List A} {j : ℕ} {x : A} → Nth l j x → nth_fault j l ≡ record { place = (w x).place; number = n } ∷ []
  fault_at {l} {j} {x} q = ap₂ nth_fault (sym q.place) q.whole ∙ fault_behind q.front x q.rest

  pub fault_past : (l : List A) (j : ℕ) → length l ≤ j → nth_fault j l ≡ []
  unfolding nth_fault
  fault_past [] j h = refl
  fault_past (x ∷ l) zero h = absurd (omega arith)
  fault_past (x ∷ l) (suc j) h = fault_past l j (omega arith)

  pub fault_nth : {g : Fault} {l : List A} {j : ℕ} {x : A} → Nth l j x → record { place = (w x).place; number = n } ≡ g → Has g (nth_fault j l)
  fault_nth {g} q e = subst (Has g) (sym (fault_at q)) (here e)

  pub real_nth : 0 < n → (l : List A) (j : ℕ) → Real (nth_fault j l)
  real_nth h l j = by (dec_lt j (length l))
    where
      by : Dec (j < length l) → Real (nth_fault j l)
      by (yes k) = let r = nth_of l j k in subst Real (sym (fault_at r.nth)) (λ g m. only g m)
        where
          only : {p : ℕ} (g : Fault) → Has g (record { place = p; number = n } ∷ []) → 0 < g.number
          only g (here e) = let z : n ≡ g.number = ap (λ (y : Fault). y.number) e in omega (arith, z)
          only g (there m) = absurd (has_none m)
      by (no k) = subst Real (sym (fault_past l j (omega arith))) real_none

  -- What the code has of it.
  pub room_code : (t : List ℕ) (wide last c rows : ℕ) (l : List A) → rows ≡ length l → ((x : A) → Nth l last x → cell_of t wide last c ≡ (w x).place)
      → room_fault t wide last c rows n ≡ fault_of (first (nth_fault last l))
  unfolding room_fault fault_if fault_of first sooner
  room_code t wide last c rows l e f = by (dec_lt last (length l))
    where
      by : Dec (last < length l) → room_fault t wide last c rows n ≡ fault_of (first (nth_fault last l))
      by (yes h) =
          let r = nth_of l last h in
          rw (fault_at r.nth, lt-ltb last rows (omega (arith, e)), f r.element r.nth)
      by (no h) = rw (fault_past l last (omega arith), le-ltb last rows (omega (arith, e)))

-- By the numbers that the rows bear.
module _ {A : Type 0} (num : A → ℕ) (w : A → Word) (limit n : ℕ) where
  unfoldable pub numbers_of : List A → List ℕ
  numbers_of [] = []
  numbers_of (x ∷ xs) = num x ∷ numbers_of xs

  unfoldable pub numbered : List A → List Fault
  numbered [] = []
  numbered (x ∷ xs) = faults_if (eqb (num x) limit) (w x) n ++ numbered xs

  pub numbered_append : (a b : List A) → numbered (a ++ b) ≡ numbered a ++ numbered b
  unfolding numbered
  numbered_append [] b = refl
  numbered_append (x ∷ a) b =
      ap (λ (l : List Fault). faults_if (eqb (num x) limit) (w x) n ++ l) (numbered_append a b) ∙ sym (append_assoc (faults_if (eqb (num x) limit) (w x) n) (numbered a) (numbered b))

  pub numbers_append : (a b : List A) → numbers_of (a ++ b) ≡ numbers_of a ++ numbers_of b
  unfolding numbers_of
  numbers_append [] b = refl
  numbers_append (x ∷ a) b = ap (λ (l : List ℕ). num x ∷ l) (numbers_append a b)

  numbered_past : (k : ℕ) (xs : List A) → Counts k (numbers_of xs) → limit < k → numbered xs ≡ []
  unfolding numbered numbers_of faults_if
  numbered_past k [] c h = refl
  numbered_past k (x ∷ xs) (counts_more e c) h = rw (ne_eqb (num x) limit (λ z. omega arith)) (numbered_past (suc k) xs c (omega arith))

  numbered_from : (k : ℕ) (xs : List A) → Counts k (numbers_of xs) → k ≤ limit → numbered xs ≡ nth_fault w n (limit - k) xs
  unfolding numbered numbers_of faults_if nth_fault
  numbered_from k [] c h = sym (fault_past w n [] (limit - k) (omega arith))
  numbered_from k (x ∷ xs) (counts_more e c) h = by (ℕ_discrete k limit) (λ g. numbered_from (suc k) xs c g)
    where
      by : Dec (k ≡ limit) → (suc k ≤ limit → numbered xs ≡ nth_fault w n (limit - suc k) xs) → numbered (x ∷ xs) ≡ nth_fault w n (limit - k) (x ∷ xs)
      by (yes q) r =
          let z : limit - k ≡ 0 = omega arith in
          rw (z, eq-eqb (num x) limit (e ∙ q), numbered_past (suc k) xs c (omega arith))
      by (no q) r =
          let z : limit - k ≡ suc (limit - suc k) = omega (arith, q) in
          rw (z, ne_eqb (num x) limit (λ y. q (sym e ∙ y))) (r (omega (arith, q)))

  pub numbered_is : (xs : List A) → Counts 0 (numbers_of xs) → numbered xs ≡ nth_fault w n limit xs
  numbered_is xs c = let z : limit - 0 ≡ limit = omega arith in numbered_from 0 xs c (omega arith) ∙ ap (λ (j : ℕ). nth_fault w n j xs) z
