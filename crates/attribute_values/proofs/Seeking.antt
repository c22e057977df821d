-- The laws of the search for an entry: what is left to look at decides the whole. Assumes nothing.
use mathlib.Core.Path.{◌≡◌, refl, sym, ◌∙◌, ap, ap₂}
use mathlib.Core.Bool.{Bool, true, false, false≢true}
use Prim.Native.Nat.{ℕ, zero, suc, ◌+◌, ◌-◌, ◌<◌, ◌≤◌}
use native.Mathlib.Omega.{arith}
use native.Mathlib.Decide.{dec_lt}
use native.Mathlib.Numerals.{add-one}
use Rattle.rows.specs.Found.{Found}
use Rattle.std.specs.Prelude.{Some, None}
use Rattle.rows.specs.Search.{is_found, row_of}
use Rattle.meaning.specs.Words.{choose}
use Rattle.attribute_values.specs.Rows.{seek}

not_nothing : (j : ℕ) → Some j ≡ None → ⊥
not_nothing j q = false≢true (sym (ap is_found q))

module _ (named : ℕ → Bool) (picked : ℕ → ℕ → Bool) where
  abbrev by_tests : (x y : Bool) → (e k n : ℕ) → Found
  by_tests x y e k n = choose x (λ _. choose y (λ _. Some k) (λ _. seek named picked (e - suc k) (suc k) (suc n))) (λ _. seek named picked (e - suc k) (suc k) n)

  opened : (e k n : ℕ) (x y : Bool) → k < e → named k ≡ x → picked k n ≡ y → seek named picked (e - k) k n ≡ by_tests x y e k n
  unfolding seek
  opened e k n x y h a b = let z : e - k ≡ suc (e - suc k) = omega (arith, h) in ap (λ (c : ℕ). seek named picked c k n) z ∙ ap₂ (λ (i j : Bool). by_tests i j e k n) a b

  pub seek_here : (e k n : ℕ) → k < e → named k ≡ true → picked k n ≡ true → seek named picked (e - k) k n ≡ Some k
  unfolding choose
  seek_here e k n h a b = opened e k n true true h a b

  pub seek_other : (e k n : ℕ) → k < e → named k ≡ true → picked k n ≡ false → seek named picked (e - k) k n ≡ seek named picked (e - suc k) (suc k) (suc n)
  unfolding choose
  seek_other e k n h a b = opened e k n true false h a b

  pub seek_pass : (e k n : ℕ) → k < e → named k ≡ false → seek named picked (e - k) k n ≡ seek named picked (e - suc k) (suc k) n
  unfolding choose
  seek_pass e k n h a = opened e k n false (picked k n) h a refl

  pub seek_end : (e k n : ℕ) → e ≤ k → seek named picked (e - k) k n ≡ None
  unfolding seek
  seek_end e k n h = let z : e - k ≡ 0 = omega (arith, h) in ap (λ (c : ℕ). seek named picked c k n) z

  -- The loop at row k: the answer is r.
  module _ (e k n : ℕ) (r : Found) (i : seek named picked (e - k) k n ≡ r) where
    pub loop_stop : k < e → named k ≡ true → picked k n ≡ true → Some k ≡ r
    loop_stop h a b = sym (seek_here e k n h a b) ∙ i

    pub loop_other : k < e → named k ≡ true → picked k n ≡ false → seek named picked (e - (k + 1)) (k + 1) (n + 1) ≡ r
    loop_other h a b =
        ap₂ (λ (x y : ℕ). seek named picked (e - x) x y) (add-one k) (add-one n) ∙ sym (seek_other e k n h a b) ∙ i

    pub loop_pass : k < e → named k ≡ false → seek named picked (e - (k + 1)) (k + 1) n ≡ r
    loop_pass h a = ap (λ (x : ℕ). seek named picked (e - x) x n) (add-one k) ∙ sym (seek_pass e k n h a) ∙ i

    pub loop_done : e ≤ k → None ≡ r
    loop_done h = sym (seek_end e k n h) ∙ i

  -- A row that is found lies before the end.
  below : (c k n j : ℕ) → Some j ≡ seek named picked c k n → j < k + c
  unfolding seek choose row_of
  below zero k n j q = absurd (not_nothing j q)
  below (suc c) k n j q = by (named k) (picked k n) q (λ m w. below c (suc k) m j w)
    where
      by : (a b : Bool) → Some j ≡ choose a (λ _. choose b (λ _. Some k) (λ _. seek named picked c (suc k) (suc n))) (λ _. seek named picked c (suc k) n)
          → ((m : ℕ) → Some j ≡ seek named picked c (suc k) m → j < suc k + c) → j < k + suc c
      by true true w f = let z : j ≡ k = ap row_of w in omega (arith, z)
      by true false w f = let z = f (suc n) w in omega (arith, z)
      by false b w f = let z = f n w in omega (arith, z)

  pub found_before : (e k n j : ℕ) → Some j ≡ seek named picked (e - k) k n → j < e
  found_before e k n j q = by (dec_lt k e)
    where
      by : Dec (k < e) → j < e
      by (yes h) = let z = below (e - k) k n j q in omega (arith, z, h)
      by (no h) = let g : e ≤ k = omega (arith, h) in absurd (not_nothing j (q ∙ seek_end e k n g))
