-- The steps of a path, by places. Assumes nothing.
use mathlib.Core.Path.{◌≡◌, refl, sym, ◌∙◌, ap, ap₂}
use mathlib.Core.List.{List, [], ◌∷◌}
use mathlib.Core.Bool.{Bool, true, false}
use Prim.Native.Nat.{ℕ, zero, suc, ◌+◌, ◌-◌, ◌<◌, ◌≤◌}
use native.Mathlib.Omega.{arith}
use native.Mathlib.Numerals.{add-one}
use lib.ListN.{length, get_or, take, drop, length-drop, drop_of_length-le}
use lib.Seq.{drop-cons, take_all}
use lib.Dec.{eqb, ltb}
use borrow.Author.Tests.{lt-ltb, le-ltb}
use Rattle.token.specs.Bytes.{find_byte}
use Rattle.token.proofs.Find.{find_past, find_here, find_next, find_low, find_high}
use Rattle.rows.specs.Found.{Found}
use Rattle.std.specs.Prelude.{Some, None}
use Rattle.meaning.specs.Words.{choose}
use Rattle.attribute_values.specs.Paths.{in_front, steps, name_of, mark_of}
use Rattle.attribute_values.specs.Rows.{named_at, picked_at, seek, entry_at, onward_at, by_steps_at}
use Rattle.attribute_values.proofs.Seeking.{found_before}

-- By cases of a test.
pub data Cases (b : Bool) : Type 0 where
  yes : b ≡ true → Cases b
  no : b ≡ false → Cases b

pub cases : (b : Bool) → Cases b
cases true = yes refl
cases false = no refl

-- The place where a byte is found.
pub found_low : (b : ℕ) (p : List ℕ) (a : ℕ) → a ≤ find_byte b p a
unfolding find_byte
found_low b p a = find_low (λ i. eqb (get_or p i 0) b) (length p) a

pub found_high : (b : ℕ) (p : List ℕ) (a : ℕ) → a ≤ length p → find_byte b p a ≤ length p
unfolding find_byte
found_high b p a h = find_high (λ i. eqb (get_or p i 0) b) (length p) a h

module _ (p : List ℕ) where
  -- The steps behind the place of a dot; none behind the end.
  unfoldable pub later : ℕ → List (List ℕ)
  later e = choose (ltb e (length p)) (λ _. steps (drop (e + 1) p)) (λ _. [])

  pub later_end : (e : ℕ) → length p ≤ e → later e ≡ []
  unfolding later choose
  later_end e h = ap (λ (b : Bool). choose b (λ _. steps (drop (e + 1) p)) (λ _. [])) (le-ltb e (length p) h)

  pub later_more : (e : ℕ) → e < length p → later e ≡ steps (drop (e + 1) p)
  unfolding later choose
  later_more e h = ap (λ (b : Bool). choose b (λ _. steps (drop (e + 1) p)) (λ _. [])) (lt-ltb e (length p) h)

  opened : (a : ℕ) → a < length p → steps (drop a p) ≡ choose (eqb (get_or p a 0) 46) (λ _. [] ∷ steps (drop (a + 1) p)) (λ _. in_front (get_or p a 0) (steps (drop (a + 1) p)))
  unfolding steps
  opened a h = let z : suc a ≡ a + 1 = sym (add-one a) in ap steps (drop-cons p a 0 h ∙ ap (λ (i : ℕ). get_or p a 0 ∷ drop i p) z)

  none_taken : (a e : ℕ) (l : List ℕ) → e ≡ a → take (e - a) l ≡ []
  none_taken a e l h = let z : e - a ≡ 0 = omega (arith, h) in ap (λ (n : ℕ). take n l) z

  place_past : (a : ℕ) → length p ≤ a → find_byte 46 p a ≡ a
  unfolding find_byte
  place_past a g = find_past (λ i. eqb (get_or p i 0) 46) (length p) a g

  place_here : (a : ℕ) → a < length p → eqb (get_or p a 0) 46 ≡ true → find_byte 46 p a ≡ a
  unfolding find_byte
  place_here a g q = find_here (λ i. eqb (get_or p i 0) 46) (length p) a g q

  place_next : (a : ℕ) → a < length p → eqb (get_or p a 0) 46 ≡ false → find_byte 46 p a ≡ find_byte 46 p (a + 1)
  unfolding find_byte
  place_next a g q = find_next (λ i. eqb (get_or p i 0) 46) (length p) a g q

  steps_past : (a : ℕ) → length p ≤ a → steps (drop a p) ≡ [] ∷ []
  unfolding steps
  steps_past a g = ap steps (drop_of_length-le p g)

  steps_dot : (a : ℕ) → a < length p → eqb (get_or p a 0) 46 ≡ true → steps (drop a p) ≡ [] ∷ steps (drop (a + 1) p)
  unfolding choose
  steps_dot a g q = opened a g ∙ ap (λ (b : Bool). choose b (λ _. [] ∷ steps (drop (a + 1) p)) (λ _. in_front (get_or p a 0) (steps (drop (a + 1) p)))) q

  steps_byte : (a : ℕ) → a < length p → eqb (get_or p a 0) 46 ≡ false → steps (drop a p) ≡ in_front (get_or p a 0) (steps (drop (a + 1) p))
  unfolding choose
  steps_byte a g q = opened a g ∙ ap (λ (b : Bool). choose b (λ _. [] ∷ steps (drop (a + 1) p)) (λ _. in_front (get_or p a 0) (steps (drop (a + 1) p)))) q

  one_more : (a e : ℕ) → a < length p → a + 1 ≤ e → get_or p a 0 ∷ take (e - (a + 1)) (drop (a + 1) p) ≡ take (e - a) (drop a p)
  one_more a e g h =
      let z : e - a ≡ suc (e - (a + 1)) = omega (arith, h) in
      let y : suc a ≡ a + 1 = sym (add-one a) in
      sym (ap₂ (λ (n : ℕ) (l : List ℕ). take n l) z (drop-cons p a 0 g ∙ ap (λ (i : ℕ). get_or p a 0 ∷ drop i p) y))

  in_front_of : (b : ℕ) (x : List ℕ) (xs ys : List (List ℕ)) → ys ≡ x ∷ xs → in_front b ys ≡ (b ∷ x) ∷ xs
  unfolding in_front
  in_front_of b x xs ys e = ap (in_front b) e

  -- The first step from the place a on, and those behind it.
  from_place : (c a : ℕ) → a + c ≡ length p → steps (drop a p) ≡ take (find_byte 46 p a - a) (drop a p) ∷ later (find_byte 46 p a)
  from_place zero a h =
      let g : length p ≤ a = omega (arith, h) in
      let e = place_past a g in
      steps_past a g ∙ sym (ap₂ (λ (x : List ℕ) (y : List (List ℕ)). x ∷ y) (none_taken a (find_byte 46 p a) (drop a p) e) (ap later e ∙ later_end a g))
  from_place (suc c) a h = by (cases (eqb (get_or p a 0) 46)) (from_place c (a + 1) again)
    where
      inside : a < length p
      inside = omega (arith, h)

      again : (a + 1) + c ≡ length p
      again = omega (arith, h)

      by : Cases (eqb (get_or p a 0) 46) → steps (drop (a + 1) p) ≡ take (find_byte 46 p (a + 1) - (a + 1)) (drop (a + 1) p) ∷ later (find_byte 46 p (a + 1))
          → steps (drop a p) ≡ take (find_byte 46 p a - a) (drop a p) ∷ later (find_byte 46 p a)
      by (yes q) i =
          let e = place_here a inside q in
          steps_dot a inside q ∙ sym (ap₂ (λ (x : List ℕ) (y : List (List ℕ)). x ∷ y) (none_taken a (find_byte 46 p a) (drop a p) e) (ap later e ∙ later_more a inside))
      by (no q) i =
          let e = place_next a inside q in
          let l = found_low 46 p (a + 1) in
          steps_byte a inside q ∙ in_front_of (get_or p a 0) _ _ (steps (drop (a + 1) p)) i
          ∙ ap₂ (λ (x : List ℕ) (y : List (List ℕ)). x ∷ y) (one_more a (find_byte 46 p (a + 1)) inside l ∙ ap (λ (n : ℕ). take (n - a) (drop a p)) (sym e)) (ap later (sym e))

  pub steps_from : (a : ℕ) → a ≤ length p → steps (drop a p) ≡ take (find_byte 46 p a - a) (drop a p) ∷ later (find_byte 46 p a)
  steps_from a h = let z : a + (length p - a) ≡ length p = omega (arith, h) in from_place (length p - a) a z

pub lost : (x : List (List ℕ)) (g : ℕ → Found) → None ≡ onward_at x None g
unfolding onward_at
lost [] g = refl
lost (b ∷ bs) g = refl

ended : (j : ℕ) (x : List (List ℕ)) (g : ℕ → Found) → x ≡ [] → Some j ≡ onward_at x (Some j) g
unfolding onward_at
ended j x g e = sym (ap (λ (y : List (List ℕ)). onward_at y (Some j) g) e)

fronted : (b : ℕ) (r : List (List ℕ)) (k : ℕ) (g : ℕ → Found) → onward_at (in_front b r) (Some k) g ≡ g k
unfolding onward_at in_front
fronted b [] k g = refl
fronted b (x ∷ xs) k g = refl

-- A path has a step: with a row picked, the steps of a path go on from it.
pub onward_steps : (q : List ℕ) (k : ℕ) (g : ℕ → Found) → onward_at (steps q) (Some k) g ≡ g k
unfolding onward_at steps choose
onward_steps [] k g = refl
onward_steps (b ∷ bs) k g = by (eqb b 46) (steps bs)
  where
    by : (t : Bool) (r : List (List ℕ)) → onward_at (choose t (λ _. [] ∷ r) (λ _. in_front b r)) (Some k) g ≡ g k
    by true r = refl
    by false r = fronted b r k g

-- The loop at the place `at` of the path, from the rows of an owner from k on ------------------------------------------------------------------

module _ (s d v : List ℕ) (e : ℕ) (p : List ℕ) (at k sort row : ℕ) (h : at ≤ length p) where
  abbrev step : List ℕ
  step = take (find_byte 46 p at - at) (drop at p)

  opened_at : by_steps_at s d v e (steps (drop at p)) k sort row
      ≡ onward_at (later p (find_byte 46 p at)) (entry_at s d v e k sort row step) (λ j. by_steps_at s d v e (later p (find_byte 46 p at)) (suc j) 1 j)
  unfolding by_steps_at
  opened_at = ap (λ (x : List (List ℕ)). by_steps_at s d v e x k sort row) (steps_from p at h)

  module _ (q : ℕ) (f : q ≡ find_byte 46 p at) (r : Found) (i : by_steps_at s d v e (steps (drop at p)) k sort row ≡ r) where
    abbrev stepped : List ℕ
    stepped = take (q - at) (drop at p)

    reached : (x : Found) → x ≡ entry_at s d v e k sort row stepped → onward_at (later p q) x (λ j. by_steps_at s d v e (later p q) (suc j) 1 j) ≡ r
    reached x z =
        ap (λ (y : Found). onward_at (later p q) y (λ j. by_steps_at s d v e (later p q) (suc j) 1 j)) z
        ∙ ap (λ (n : ℕ). onward_at (later p n) (entry_at s d v e k sort row (take (n - at) (drop at p))) (λ j. by_steps_at s d v e (later p n) (suc j) 1 j)) f
        ∙ sym opened_at ∙ i

    pub path_lost : None ≡ entry_at s d v e k sort row stepped → None ≡ r
    path_lost z = lost (later p q) (λ j. by_steps_at s d v e (later p q) (suc j) 1 j) ∙ reached None z

    pub path_end : (j : ℕ) → Some j ≡ entry_at s d v e k sort row stepped → length p ≤ q → Some j ≡ r
    path_end j z g = ended j (later p q) (λ i. by_steps_at s d v e (later p q) (suc i) 1 i) (later_end p q g) ∙ reached (Some j) z

    pub path_on : (j : ℕ) → Some j ≡ entry_at s d v e k sort row stepped → q < length p → by_steps_at s d v e (steps (drop (q + 1) p)) (j + 1) 1 j ≡ r
    path_on j z g = gone j ∙ reached (Some j) z
      where
        gone : (j : ℕ) → by_steps_at s d v e (steps (drop (q + 1) p)) (j + 1) 1 j ≡ onward_at (later p q) (Some j) (λ i. by_steps_at s d v e (later p q) (suc i) 1 i)
        gone j =
            ap (λ (n : ℕ). by_steps_at s d v e (steps (drop (q + 1) p)) n 1 j) (add-one j)
            ∙ sym (onward_steps (drop (q + 1) p) j (λ i. by_steps_at s d v e (steps (drop (q + 1) p)) (suc i) 1 i))
            ∙ sym (ap (λ (x : List (List ℕ)). onward_at x (Some j) (λ i. by_steps_at s d v e x (suc i) 1 i)) (later_more p q g))

-- A step by its name and its mark --------------------------------------------------------------------------------------------------------------

module _ (s d v : List ℕ) (e k sort row : ℕ) (b : List ℕ) where
  pub entry_is : (q : ℕ) (r : Found) → q ≡ find_byte 91 b 0
      → r ≡ seek (named_at s d v sort row (take q b)) (picked_at d v (take (length b - q) (drop q b))) (e - k) k 0 → r ≡ entry_at s d v e k sort row b
  unfolding entry_at name_of mark_of
  entry_is q r f g =
      let l = length-drop q b in
      let h : length (drop q b) ≤ length b - q = omega (arith, l) in
      g
      ∙ ap (λ (x : List ℕ). seek (named_at s d v sort row (take q b)) (picked_at d v x) (e - k) k 0) (take_all (length b - q) (drop q b) h)
      ∙ ap (λ (n : ℕ). seek (named_at s d v sort row (take n b)) (picked_at d v (drop n b)) (e - k) k 0) f

  pub entry_below : (j : ℕ) → Some j ≡ entry_at s d v e k sort row b → j < e
  unfolding entry_at
  entry_below j q = found_before (named_at s d v sort row (name_of b)) (picked_at d v (mark_of b)) e k 0 j q
