-- What holds through an index of rows. Assumes nothing.
use mathlib.Core.Path.{◌≡◌, sym, subst}
use mathlib.Core.List.{List}
use Prim.Native.Nat.{ℕ, ◌+◌, ◌*◌, ◌≤◌}
use native.Mathlib.Omega.{arith}
use lib.ListN.{length, take}
use lib.Seq.{length-take-le}
use Rattle.rows.specs.Found.{Found}
use Rattle.rows.specs.Search.{find_named}
use Rattle.indexes.specs.Indexing.{Indexed, Makes, FindsBefore, By, ByTwo, Fits, Through}

module _ {P : ℕ → Type 0} where
  -- What holds without an index.
  pub through : {j : ℕ} {A : Type 0} → A → Through P j A
  through a = record { holds = λ n i h l. a }

  -- What follows from one thing.
  pub through_one : {j : ℕ} {A B : Type 0} → (A → B) → Through P j A → Through P j B
  through_one f a = record { holds = λ n i h l. f (a.holds n i h l) }

  -- What follows from two, of which one needs fewer rows.
  pub through_two : {j k : ℕ} {A B C : Type 0} → j ≤ k → (A → B → C) → Through P k A → Through P j B → Through P k C
  through_two g f a b = record { holds = λ n i h l. f (a.holds n i h l) (b.holds n i h (omega (arith, g, l))) }

-- What is found through the index.
pub through_found : (s t : List ℕ) (w j c k m p len : ℕ) (x : List ℕ) (r : Found) → FindsBefore s t w j c k m p len x r
    → Through (By s t w c m x) j (r ≡ find_named s t w j c k m p len 0)
unfolding FindsBefore
through_found s t w j c k m p len x r h = record { holds = λ n i. h n i.index }

module _ {s t : List ℕ} {w c c2 m : ℕ} {x y : List ℕ} where
  -- What holds through the first of two indexes.
  pub through_first : {j : ℕ} {A : Type 0} → Through (By s t w c m x) j A → Through (ByTwo s t w c c2 m x y) j A
  through_first a = record { holds = λ n i h l. a.holds n (record { index = i.first }) h l }

  -- And through the second.
  pub through_second : {j : ℕ} {A : Type 0} → Through (By s t w c2 m y) j A → Through (ByTwo s t w c c2 m x y) j A
  through_second a = record { holds = λ n i h l. a.holds n (record { index = i.second }) h l }

module _ (s t : List ℕ) (w n c m a room : ℕ) (x : List ℕ) (f : Fits n a room) (i : Makes s t w a c m room x) where
  -- What holds through the index that was made.
  pub through_made : {A : Type 0} → Through (By s t w c m x) n A → A
  unfolding Makes
  through_made h =
      let e = f.index in
      let g = f.beside in
      let k = f.few in
      h.holds a (record { index = i (omega (arith, e, g)) }) (omega (arith, e, k)) (omega (arith, e))

  -- And through two.
  pub through_both : (c2 a2 room2 : ℕ) (y : List ℕ) {A : Type 0} → a2 ≡ n → n ≤ 2 * room2 + 1 → Makes s t w a2 c2 m room2 y → Through (ByTwo s t w c c2 m x y) n A → A
  unfolding Makes
  through_both c2 a2 room2 y q g2 i2 h =
      let e = f.index in
      let g = f.beside in
      let k = f.few in
      let u : a2 ≡ a = omega (arith, e, q) in
      h.holds a
      (record { first = i (omega (arith, e, g)); second = subst (λ (b : ℕ). Indexed s t w b c2 m y) u (i2 (omega (arith, q, g2))) })
      (omega (arith, e, k))
      (omega (arith, e))

-- Room for the index of n rows in the first n cells of a.
module _ (n : ℕ) (a : List ℕ) (h : n ≤ length a) where
  pub room_long : n ≡ length (take n a)
  room_long = sym (length-take-le n a h)

  pub room_fits : (b : ℕ) → n ≤ 2 * b + 1 → n ≤ 65536 → Fits n (length (take n a)) b
  room_fits b g k = record { index = room_long; beside = g; few = k }
