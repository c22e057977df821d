-- The laws of marking the references of tasks. Assumes nothing.
use mathlib.Core.Path.{◌≡◌, refl, sym, ◌∙◌, ap}
use mathlib.Core.List.{List}
use mathlib.Core.Bool.{Bool, true, false}
use Prim.Native.Nat.{ℕ, suc, ◌+◌, ◌*◌, ◌-◌, ◌<◌, ◌≤◌}
use native.Mathlib.Omega.{arith}
use native.Mathlib.Numerals.{add-one}
use lib.ListN.{length, get_or, set, length-set}
use lib.Seq.{get_or-set_same, get_or-set_other}
use lib.Dec.{eqb}
use borrow.Author.Tests.{eq-eqb, ne_eqb, eqb-true, eqb-false}
use Rattle.token.specs.Find.{pick, both, either}
use Rattle.token.proofs.Bytes.{either_assoc, either_false, either_true}
use Rattle.rows.specs.Table.{cell_of}
use Rattle.masks.specs.Members.{object_at, hits, refers_at, Marked}
use Rattle.masks.proofs.Reflections.{Cases, yes, no, cases}

pub object_own : (v : List ℕ) (k a x r : ℕ) → x ≡ cell_of v 9 k 1 → x ≡ 0 → r ≡ cell_of v 9 k 2 → r ≡ object_at v k a
unfolding object_at
object_own v k a x r e z q = q ∙ ap (λ (b : Bool). pick b (cell_of v 9 k 2) a) (sym (eq-eqb (cell_of v 9 k 1) 0 (sym e ∙ z)))

pub object_last : (v : List ℕ) (k a x : ℕ) → x ≡ cell_of v 9 k 1 → (x ≡ 0 → ⊥) → a ≡ object_at v k a
unfolding object_at
object_last v k a x e z = ap (λ (b : Bool). pick b (cell_of v 9 k 2) a) (sym (ne_eqb (cell_of v 9 k 1) 0 (λ q. z (e ∙ q))))

-- One row ----------------------------------------------------------------------------------------------------------------------------------

unmarked : (m : List ℕ) (h : ℕ → ℕ → Bool) → ((t x : ℕ) → t < 256 → x < 256 → h t x ≡ false) → Marked m h m
unmarked m h f = record { size = refl; marks = λ t x a b. sym (ap (either (eqb (get_or m (t * 256 + x) 0) 1)) (f t x a b) ∙ either_false (eqb (get_or m (t * 256 + x) 0) 1)) }

module _ (m o v : List ℕ) (k a : ℕ) where
  first_out : (b : Bool) (c : Bool) (d : Bool) → b ≡ false → both (both b c) d ≡ false
  first_out b c d e = ap (λ (y : Bool). both (both y c) d) e

  second_out : (b c d : Bool) → c ≡ false → both (both b c) d ≡ false
  second_out true c d e = ap (λ (y : Bool). both y d) e
  second_out false c d e = refl

  third_out : (b c d e : Bool) → d ≡ false → both (both b c) (both d e) ≡ false
  third_out true true d e q = ap (λ (y : Bool). both y e) q
  third_out true false d e q = refl
  third_out false c d e q = refl

  fourth_out : (b c d e : Bool) → e ≡ false → both (both b c) (both d e) ≡ false
  fourth_out true true true e q = q
  fourth_out true true false e q = refl
  fourth_out true false d e q = refl
  fourth_out false c d e q = refl

  pub no_task : (x : ℕ) → x ≡ cell_of o 8 a 0 → (x ≡ 2 → ⊥) → Marked m (hits o v k a) m
  unfolding hits
  no_task x e z = unmarked m (hits o v k a) (λ t y _ _. first_out (eqb (cell_of o 8 a 0) 2) (eqb (cell_of v 9 k 3) 5) (both (eqb a t) (eqb (cell_of v 9 k 5) y)) (ne_eqb (cell_of o 8 a 0) 2 (λ q. z (e ∙ q))))

  pub no_reference : (x : ℕ) → x ≡ cell_of v 9 k 3 → (x ≡ 5 → ⊥) → Marked m (hits o v k a) m
  unfolding hits
  no_reference x e z = unmarked m (hits o v k a) (λ t y _ _. second_out (eqb (cell_of o 8 a 0) 2) (eqb (cell_of v 9 k 3) 5) (both (eqb a t) (eqb (cell_of v 9 k 5) y)) (ne_eqb (cell_of v 9 k 3) 5 (λ q. z (e ∙ q))))

  pub no_room : 256 ≤ a → Marked m (hits o v k a) m
  unfolding hits
  no_room h = unmarked m (hits o v k a) (λ t y c _. third_out (eqb (cell_of o 8 a 0) 2) (eqb (cell_of v 9 k 3) 5) (eqb a t) (eqb (cell_of v 9 k 5) y) (ne_eqb a t (λ (q : a ≡ t). omega (arith, h, c, q))))

  pub no_column : (x : ℕ) → x ≡ cell_of v 9 k 5 → 256 ≤ x → Marked m (hits o v k a) m
  unfolding hits
  no_column x e h = unmarked m (hits o v k a) (λ t y _ c. fourth_out (eqb (cell_of o 8 a 0) 2) (eqb (cell_of v 9 k 3) 5) (eqb a t) (eqb (cell_of v 9 k 5) y) (ne_eqb (cell_of v 9 k 5) y (λ (q : cell_of v 9 k 5 ≡ y). let w : x ≡ y = e ∙ q in omega (arith, h, c, w))))

  pub marked : (w s x : ℕ) → length m ≡ 65536 → w ≡ cell_of o 8 a 0 → w ≡ 2 → s ≡ cell_of v 9 k 3 → s ≡ 5 → x ≡ cell_of v 9 k 5 → a < 256 → x < 256 → Marked m (hits o v k a) (set m (a * 256 + x) 1)
  unfolding hits
  marked w s x n e1 e2 e3 e4 e5 ha hx = record { size = length-set m (a * 256 + x) 1; marks = λ t y c d. go t y c d (cases (eqb a t)) (cases (eqb x y)) }
    where
      inside : a * 256 + x < length m
      inside = omega (arith, n, ha, hx)

      first_two : both (eqb (cell_of o 8 a 0) 2) (eqb (cell_of v 9 k 3) 5) ≡ true
      first_two = ap (λ (b : Bool). both b (eqb (cell_of v 9 k 3) 5)) (eq-eqb (cell_of o 8 a 0) 2 (sym e1 ∙ e2)) ∙ eq-eqb (cell_of v 9 k 3) 5 (sym e3 ∙ e4)

      -- What is left of the test.
      rest : (t y : ℕ) → both (both (eqb (cell_of o 8 a 0) 2) (eqb (cell_of v 9 k 3) 5)) (both (eqb a t) (eqb (cell_of v 9 k 5) y)) ≡ both (eqb a t) (eqb x y)
      rest t y = ap (λ (b : Bool). both b (both (eqb a t) (eqb (cell_of v 9 k 5) y))) first_two ∙ ap (λ (z : ℕ). both (eqb a t) (eqb z y)) (sym e5)

      elsewhere : (t y : ℕ) → (t * 256 + y ≡ a * 256 + x → ⊥) → both (eqb a t) (eqb x y) ≡ false
          → eqb (get_or (set m (a * 256 + x) 1) (t * 256 + y) 0) 1 ≡ either (eqb (get_or m (t * 256 + y) 0) 1) (both (both (eqb (cell_of o 8 a 0) 2) (eqb (cell_of v 9 k 3) 5)) (both (eqb a t) (eqb (cell_of v 9 k 5) y)))
      elsewhere t y q f =
          ap (λ (z : ℕ). eqb z 1) (get_or-set_other m (a * 256 + x) (t * 256 + y) 1 0 q)
          ∙ sym (ap (either (eqb (get_or m (t * 256 + y) 0) 1)) (rest t y ∙ f) ∙ either_false (eqb (get_or m (t * 256 + y) 0) 1))

      go : (t y : ℕ) → t < 256 → y < 256 → Cases (eqb a t) → Cases (eqb x y)
          → eqb (get_or (set m (a * 256 + x) 1) (t * 256 + y) 0) 1 ≡ either (eqb (get_or m (t * 256 + y) 0) 1) (both (both (eqb (cell_of o 8 a 0) 2) (eqb (cell_of v 9 k 3) 5)) (both (eqb a t) (eqb (cell_of v 9 k 5) y)))
      go t y c d (no p) q =
          let f = eqb-false a t p in
          elsewhere t y (λ (z : t * 256 + y ≡ a * 256 + x). f (omega (arith, z, d, hx))) (ap (λ (b : Bool). both b (eqb x y)) p)
      go t y c d (yes p) (no q) =
          let f = eqb-false x y q in
          let g = eqb-true a t p in
          elsewhere t y (λ (z : t * 256 + y ≡ a * 256 + x). f (omega (arith, z, g))) (ap (λ (b : Bool). both b (eqb x y)) p ∙ q)
      go t y c d (yes p) (yes q) =
          let f = eqb-true x y q in
          let g = eqb-true a t p in
          let z : t * 256 + y ≡ a * 256 + x = omega (arith, f, g) in
          ap (λ (i : ℕ). eqb (get_or (set m (a * 256 + x) 1) i 0) 1) z ∙ ap (λ (i : ℕ). eqb i 1) (get_or-set_same m (a * 256 + x) 1 0 inside)
          ∙ sym (ap (either (eqb (get_or m (t * 256 + y) 0) 1)) (rest t y ∙ ap (λ (b : Bool). both b (eqb x y)) p ∙ q) ∙ either_true (eqb (get_or m (t * 256 + y) 0) 1))

-- All rows ---------------------------------------------------------------------------------------------------------------------------------

-- The marks m so far, and what the rows from k on add, are what the rows add to m₀.
pub record Marking (m₀ o v : List ℕ) (n : ℕ) (m : List ℕ) (k a : ℕ) : Type 0 where
  pub size : length m ≡ length m₀
  pub left : (t x : ℕ) → t < 256 → x < 256
      → either (eqb (get_or m (t * 256 + x) 0) 1) (refers_at o v (n - k) k a t x) ≡ either (eqb (get_or m₀ (t * 256 + x) 0) 1) (refers_at o v n 0 0 t x)

pub marking_start : (m o v : List ℕ) (n : ℕ) → Marking m o v n m 0 0
marking_start m o v n = let e : n - 0 ≡ n = omega arith in record { size = refl; left = λ t x _ _. ap (λ (c : ℕ). either (eqb (get_or m (t * 256 + x) 0) 1) (refers_at o v c 0 0 t x)) e }

pub marking_more : {m₀ o v : List ℕ} {n : ℕ} {m m' : List ℕ} {k a b : ℕ} → k < n → b ≡ object_at v k a → Marked m (hits o v k b) m' → Marking m₀ o v n m k a → Marking m₀ o v n m' (k + 1) b
unfolding refers_at
marking_more {m₀} {o} {v} {n} {m} {m'} {k} {a} {b} h e w q =
    let z : n - k ≡ suc (n - (k + 1)) = omega (arith, h) in
    record {
      size = w.size ∙ q.size;
      left = λ t x c d.
          ap (λ (y : Bool). either y (refers_at o v (n - (k + 1)) (k + 1) b t x)) (w.marks t x c d)
          ∙ sym (either_assoc (eqb (get_or m (t * 256 + x) 0) 1) (hits o v k b t x) (refers_at o v (n - (k + 1)) (k + 1) b t x))
          ∙ ap (either (eqb (get_or m (t * 256 + x) 0) 1))
          (ap (λ (i : ℕ). either (hits o v k b t x) (refers_at o v (n - (k + 1)) i b t x)) (add-one k)
          ∙ ap (λ (i : ℕ). either (hits o v k i t x) (refers_at o v (n - (k + 1)) (suc k) i t x)) e
          ∙ sym (ap (λ (i : ℕ). refers_at o v i k a t x) z))
          ∙ q.left t x c d;
    }

pub marking_end : {m₀ o v : List ℕ} {n : ℕ} {m : List ℕ} {k a : ℕ} → n ≤ k → Marking m₀ o v n m k a → Marked m₀ (refers_at o v n 0 0) m
unfolding refers_at
marking_end {m₀} {o} {v} {n} {m} {k} {a} h q =
    let z : n - k ≡ 0 = omega (arith, h) in
    record { size = q.size; marks = λ t x c d. sym (either_false (eqb (get_or m (t * 256 + x) 0) 1)) ∙ sym (ap (λ (i : ℕ). either (eqb (get_or m (t * 256 + x) 0) 1) (refers_at o v i k a t x)) z) ∙ q.left t x c d }
