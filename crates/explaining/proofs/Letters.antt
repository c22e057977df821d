-- The laws of characters: each case of a byte's state, and the bytes left decide the whole.
-- Assumes nothing.
use Prim.Native.Nat.{ℕ, suc, ◌+◌, ◌<◌, ◌≤◌}
use mathlib.Core.Path.{◌≡◌, ◌∙◌, ap, sym}
use mathlib.Core.List.{List, [], ◌∷◌}
use native.Mathlib.Omega.{arith}
use native.Mathlib.Numerals.{add-one}
use borrow.Author.Tests.{eq-eqb, ne_eqb, lt-ltb, le-ltb, le-leb, lt-leb}
use lib.Dec.{eqb, ltb}
use lib.ListN.{length, drop, drop_of_length-le}
use lib.Seq.{drop-cons}
use Rattle.token.specs.Find.{byte}
use Rattle.token.proofs.Find.{by_test}
use Rattle.explaining.specs.Characters.{begun_by, lowest_in, highest_in, rest_of, state_after, state_of, start_of, starts, characters}

-- the first byte of a character
module _ (b : ℕ) where
  pub begun_1 : b < 128 → 0 ≡ begun_by b
  unfolding begun_by
  begun_1 h = rw (lt-ltb b 128 h)

  pub begun_2 : 128 ≤ b → b < 194 → 8 ≡ begun_by b
  unfolding begun_by
  begun_2 g h = rw (le-ltb b 128 (omega arith), lt-ltb b 194 h)

  pub begun_3 : 194 ≤ b → b < 224 → 1 ≡ begun_by b
  unfolding begun_by
  begun_3 g h = rw (le-ltb b 128 (omega arith), le-ltb b 194 (omega arith), lt-ltb b 224 h)

  pub begun_4 : 224 ≤ b → b < 225 → 4 ≡ begun_by b
  unfolding begun_by
  begun_4 g h = rw (le-ltb b 128 (omega arith), le-ltb b 194 (omega arith), le-ltb b 224 (omega arith), lt-ltb b 225 h)

  pub begun_5 : 225 ≤ b → b < 237 → 2 ≡ begun_by b
  unfolding begun_by
  begun_5 g h = rw (le-ltb b 128 (omega arith), le-ltb b 194 (omega arith), le-ltb b 224 (omega arith), le-ltb b 225 (omega arith), lt-ltb b 237 h)

  pub begun_6 : 237 ≤ b → b < 238 → 5 ≡ begun_by b
  unfolding begun_by
  begun_6 g h = rw (le-ltb b 128 (omega arith), le-ltb b 194 (omega arith), le-ltb b 224 (omega arith), le-ltb b 225 (omega arith), le-ltb b 237 (omega arith), lt-ltb b 238 h)

  pub begun_7 : 238 ≤ b → b < 240 → 2 ≡ begun_by b
  unfolding begun_by
  begun_7 g h = rw (le-ltb b 128 (omega arith), le-ltb b 194 (omega arith), le-ltb b 224 (omega arith), le-ltb b 225 (omega arith), le-ltb b 237 (omega arith), le-ltb b 238 (omega arith), lt-ltb b 240 h)

  pub begun_8 : 240 ≤ b → b < 241 → 6 ≡ begun_by b
  unfolding begun_by
  begun_8 g h = rw (le-ltb b 128 (omega arith), le-ltb b 194 (omega arith), le-ltb b 224 (omega arith), le-ltb b 225 (omega arith), le-ltb b 237 (omega arith), le-ltb b 238 (omega arith), le-ltb b 240 (omega arith), lt-ltb b 241 h)

  pub begun_9 : 241 ≤ b → b < 244 → 3 ≡ begun_by b
  unfolding begun_by
  begun_9 g h = rw (le-ltb b 128 (omega arith), le-ltb b 194 (omega arith), le-ltb b 224 (omega arith), le-ltb b 225 (omega arith), le-ltb b 237 (omega arith), le-ltb b 238 (omega arith), le-ltb b 240 (omega arith), le-ltb b 241 (omega arith), lt-ltb b 244 h)

  pub begun_10 : 244 ≤ b → b < 245 → 7 ≡ begun_by b
  unfolding begun_by
  begun_10 g h = rw (le-ltb b 128 (omega arith), le-ltb b 194 (omega arith), le-ltb b 224 (omega arith), le-ltb b 225 (omega arith), le-ltb b 237 (omega arith), le-ltb b 238 (omega arith), le-ltb b 240 (omega arith), le-ltb b 241 (omega arith), le-ltb b 244 (omega arith), lt-ltb b 245 h)

  pub begun_11 : 245 ≤ b → 8 ≡ begun_by b
  unfolding begun_by
  begun_11 g = rw (le-ltb b 128 (omega arith), le-ltb b 194 (omega arith), le-ltb b 224 (omega arith), le-ltb b 225 (omega arith), le-ltb b 237 (omega arith), le-ltb b 238 (omega arith), le-ltb b 240 (omega arith), le-ltb b 241 (omega arith), le-ltb b 244 (omega arith), le-ltb b 245 (omega arith))

-- the bytes that go on
module _ (k : ℕ) where
  pub low_4 : k ≡ 4 → 160 ≡ lowest_in k
  unfolding lowest_in
  low_4 e = rw (eq-eqb k 4 e)

  pub low_6 : (k ≡ 4 → ⊥) → k ≡ 6 → 144 ≡ lowest_in k
  unfolding lowest_in
  low_6 n e = rw (ne_eqb k 4 n, eq-eqb k 6 e)

  pub low_other : (k ≡ 4 → ⊥) → (k ≡ 6 → ⊥) → 128 ≡ lowest_in k
  unfolding lowest_in
  low_other n m = rw (ne_eqb k 4 n, ne_eqb k 6 m)

  pub high_5 : k ≡ 5 → 159 ≡ highest_in k
  unfolding highest_in
  high_5 e = rw (eq-eqb k 5 e)

  pub high_7 : (k ≡ 5 → ⊥) → k ≡ 7 → 143 ≡ highest_in k
  unfolding highest_in
  high_7 n e = rw (ne_eqb k 5 n, eq-eqb k 7 e)

  pub high_other : (k ≡ 5 → ⊥) → (k ≡ 7 → ⊥) → 191 ≡ highest_in k
  unfolding highest_in
  high_other n m = rw (ne_eqb k 5 n, ne_eqb k 7 m)

  pub rest_1 : k < 2 → 0 ≡ rest_of k
  unfolding rest_of
  rest_1 h = rw (lt-ltb k 2 h)

  pub rest_2 : 2 ≤ k → k ≡ 2 → 1 ≡ rest_of k
  unfolding rest_of
  rest_2 g e = rw (le-ltb k 2 g, eq-eqb k 2 e)

  pub rest_3 : 2 ≤ k → (k ≡ 2 → ⊥) → k ≡ 3 → 2 ≡ rest_of k
  unfolding rest_of
  rest_3 g n e = rw (le-ltb k 2 g, ne_eqb k 2 n, eq-eqb k 3 e)

  pub rest_4 : 2 ≤ k → (k ≡ 2 → ⊥) → (k ≡ 3 → ⊥) → k < 6 → 1 ≡ rest_of k
  unfolding rest_of
  rest_4 g n m h = rw (le-ltb k 2 g, ne_eqb k 2 n, ne_eqb k 3 m, lt-ltb k 6 h)

  pub rest_6 : 2 ≤ k → (k ≡ 2 → ⊥) → (k ≡ 3 → ⊥) → 6 ≤ k → 2 ≡ rest_of k
  unfolding rest_of
  rest_6 g n m h = rw (le-ltb k 2 g, ne_eqb k 2 n, ne_eqb k 3 m, le-ltb k 6 h)

-- the state behind a byte
module _ (k b : ℕ) where
  pub after_none : k ≡ 0 → (x : ℕ) → x ≡ begun_by b → x ≡ state_after k b
  unfolding state_after
  after_none e x f = f ∙ rw (eq-eqb k 0 e)

  pub after_bad : (k ≡ 0 → ⊥) → k ≡ 8 → 8 ≡ state_after k b
  unfolding state_after
  after_bad n e = rw (ne_eqb k 0 n, eq-eqb k 8 e)

  module _ (n : k ≡ 0 → ⊥) (m : k ≡ 8 → ⊥) (l : ℕ) (f : l ≡ lowest_in k) where
    pub after_low : b < l → 8 ≡ state_after k b
    unfolding state_after
    after_low h = rw (ne_eqb k 0 n, ne_eqb k 8 m, lt-leb (lowest_in k) b (omega arith))

    module _ (g : l ≤ b) (u : ℕ) (v : u ≡ highest_in k) where
      pub after-high : u < b → 8 ≡ state_after k b
      unfolding state_after
      after-high h = rw (ne_eqb k 0 n, ne_eqb k 8 m, le-leb (lowest_in k) b (omega arith), lt-leb b (highest_in k) (omega arith))

      pub after_on : b ≤ u → (x : ℕ) → x ≡ rest_of k → x ≡ state_after k b
      unfolding state_after
      after_on h x e = e ∙ rw (ne_eqb k 0 n, ne_eqb k 8 m, le-leb (lowest_in k) b (omega arith), le-leb b (highest_in k) (omega arith))

-- the bytes left, with the state so far
pub state_more : (s : List ℕ) (i k x : ℕ) → i < length s → x ≡ state_after k (byte s i) → state_of k (drop i s) ≡ state_of x (drop (i + 1) s)
unfolding state_of
state_more s i k x h e =
    ap (state_of k) (drop-cons s i 0 h) ∙ ap (λ (n : ℕ). state_of n (drop (suc i) s)) (sym e) ∙ ap (λ (n : ℕ). state_of x (drop n s)) (sym (add-one i))

pub state_end : (s : List ℕ) (i k : ℕ) → length s ≤ i → state_of k (drop i s) ≡ k
unfolding state_of
state_end s i k h = ap (state_of k) (drop_of_length-le s h)

-- counting those that begin a character
module _ (b : ℕ) where
  pub start_low : b < 128 → 1 ≡ start_of b
  unfolding start_of
  start_low h = rw (lt-ltb b 128 h)

  pub start_inner : 128 ≤ b → b < 192 → 0 ≡ start_of b
  unfolding start_of
  start_inner g h = rw (le-ltb b 128 g, lt-ltb b 192 h)

  pub start_high : 128 ≤ b → 192 ≤ b → 1 ≡ start_of b
  unfolding start_of
  start_high g h = rw (le-ltb b 128 g, le-ltb b 192 h)

  pub start_most : start_of b ≤ 1
  unfolding start_of
  start_most =
      by_test (λ (q : ℕ). q ≤ 1) (ltb b 128) 1 _ (λ _. omega arith)
      (λ _. by_test (λ (q : ℕ). q ≤ 1) (ltb b 192) 0 1 (λ _. omega arith) (λ _. omega arith))

pub starts_more : (s : List ℕ) (i : ℕ) → i < length s → starts (drop i s) ≡ start_of (byte s i) + starts (drop (i + 1) s)
unfolding starts
starts_more s i h = ap starts (drop-cons s i 0 h) ∙ ap (λ (k : ℕ). start_of (byte s i) + starts (drop k s)) (sym (add-one i))

pub starts_end : (s : List ℕ) (i : ℕ) → length s ≤ i → starts (drop i s) ≡ 0
unfolding starts
starts_end s i h = ap starts (drop_of_length-le s h)

starts_most : (s : List ℕ) → starts s ≤ length s
unfolding starts
starts_most [] = omega arith
starts_most (b ∷ s) = omega (arith, start_most b, starts_most s)

module _ (s : List ℕ) where
  pub are_utf_8 : (k : ℕ) → k ≡ state_of 0 s → k ≡ 0 → (n : ℕ) → n ≡ starts s → n ≡ characters s
  unfolding characters
  are_utf_8 k e h n f = f ∙ rw (eq-eqb (state_of 0 s) 0 (sym e ∙ h))

  pub are_bytes : (k : ℕ) → k ≡ state_of 0 s → (k ≡ 0 → ⊥) → length s ≡ characters s
  unfolding characters
  are_bytes k e h = rw (ne_eqb (state_of 0 s) 0 (λ z. h (e ∙ z)))

  pub characters_most : characters s ≤ length s
  unfolding characters
  characters_most = by_test (λ (q : ℕ). q ≤ length s) (eqb (state_of 0 s) 0) (starts s) (length s) (λ _. starts_most s) (λ _. omega arith)
