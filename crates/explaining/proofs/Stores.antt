-- The laws of writing the two lines: each run of bytes is stored behind the one before.
-- Assumes nothing.
use Prim.Native.Nat.{ℕ, ◌+◌, ◌-◌, ◌<◌, ◌≤◌, min}
use mathlib.Core.Path.{◌≡◌, refl, ◌∙◌, ap, sym}
use mathlib.Core.List.{List, [], ◌∷◌, ◌++◌, map}
use native.Mathlib.Omega.{arith}
use native.Mathlib.Decide.{dec_lt}
use native.Mathlib.Numerals.{add-one}
use lib.ListN.{length, drop, get_or, set, drop_of_length-le, length-append, length-map, length-drop}
use lib.Seq.{sets, drop-cons, length-take-le}
use Rattle.token.specs.Tokens.{bytes_between, part_of}
use Rattle.token.proofs.Lexemes.{part_inside, part_past}
use Rattle.rows.proofs.Stores.{sets_append, sets_out}
use Rattle.explaining.specs.declared.View.{View}
use Rattle.explaining.specs.declared.Ink.TheVariants.{Shown, Before, Marked}
use Rattle.explaining.specs.Places.{token_end}
use Rattle.explaining.specs.Windows.{Fits, view_of}
use Rattle.explaining.specs.Pictures.{drawn, dots, line_bytes, mark_bytes, marked, shown_line, mark_line, picture}

-- a loop that stores one byte a turn
module _ (l : List ℕ) (j : ℕ) (f : ℕ → ℕ) (s : List ℕ) (i : ℕ) where
  pub puts_more : (v : ℕ) → v ≡ f (get_or s i 0) → i < length s → sets l j (map f (drop i s)) ≡ sets (set l j v) (j + 1) (map f (drop (i + 1) s))
  puts_more v e h = rw (drop-cons s i 0 h, add-one i, add-one j, e)

  pub puts_past : length l ≤ j → l ≡ sets l j (map f (drop i s))
  puts_past h = sym (sets_out l j (map f (drop i s)) h)

  pub puts_end : length s ≤ i → l ≡ sets l j (map f (drop i s))
  puts_end h = rw (drop_of_length-le s h)

map_append : (f : ℕ → ℕ) (xs ys : List ℕ) → map f (xs ++ ys) ≡ map f xs ++ map f ys
map_append f [] ys = refl
map_append f (x ∷ xs) ys = ap (f x ∷◌) (map_append f xs ys)

-- a run behind another
sets_next : (l : List ℕ) (i : ℕ) (xs : List ℕ) (j : ℕ) (ys : List ℕ) → j ≡ i + length xs → sets (sets l i xs) j ys ≡ sets l i (xs ++ ys)
sets_next l i xs j ys e = ap (λ (k : ℕ). sets (sets l i xs) k ys) e ∙ sym (sets_append l i xs ys)

-- the same, drawn
draws_next : (f : ℕ → ℕ) (l : List ℕ) (i : ℕ) (xs : List ℕ) (j : ℕ) (ys : List ℕ) → j ≡ i + length xs
    → sets (sets l i (map f xs)) j (map f ys) ≡ sets l i (map f (xs ++ ys))
draws_next f l i xs j ys e =
    sets_next l i (map f xs) j (map f ys) (e ∙ ap (i +◌) (sym (length-map xs f))) ∙ ap (sets l i) (sym (map_append f xs ys))

dots_long : (n : ℕ) → n ≤ 3 → length (dots n) ≡ n
unfolding dots
dots_long n h = length-take-le n (46 ∷ 46 ∷ 46 ∷ []) h

pub bytes_long : (s : List ℕ) (a b : ℕ) → b ≤ length s → length (bytes_between s a b) ≡ b - a
bytes_long s a b h = length-take-le (b - a) (drop a s) (omega (arith, length-drop a s))

module _ (s : List ℕ) (v : View) (h : Fits s v) where
  line_bytes_long : length (line_bytes s v) ≡ v.front + (v.to - v.from) + v.behind
  unfolding line_bytes
  line_bytes_long =
      omega (
        arith,
        length-append (dots v.front ++ bytes_between s v.from v.to) (dots v.behind),
        length-append (dots v.front) (bytes_between s v.from v.to),
        dots_long v.front h.front,
        dots_long v.behind h.behind,
        bytes_long s v.from v.to h.inside,
      )

  mark_bytes_long : length (mark_bytes s v) ≡ v.front + (v.at - v.from)
  unfolding mark_bytes
  mark_bytes_long =
      omega (
        arith,
        length-append (dots v.front) (bytes_between s v.from v.at),
        dots_long v.front h.front,
        bytes_long s v.from v.at h.placed,
      )

  pub line_long : v.front + (v.to - v.from) + v.behind + 1 ≡ length (shown_line s v)
  unfolding shown_line
  line_long =
      omega (arith, length-append (map (drawn Shown) (line_bytes s v)) (10 ∷ []), length-map (line_bytes s v) (drawn Shown), line_bytes_long)

  -- what is shown of a token behind its first byte lies in the text
  marked_long : (e : ℕ) → length (part_of s (v.at + 1) (marked v e)) ≡ marked v e
  unfolding marked
  marked_long e = by (dec_lt (length s) (v.at + 1))
    where
      by : Dec (length s < v.at + 1) → length (part_of s (v.at + 1) (min e v.to - (v.at + 1))) ≡ min e v.to - (v.at + 1)
      by (yes y) = ap length (part_past s (v.at + 1) _ y) ∙ omega (arith, h.inside)
      by (no n) =
          ap length (part_inside s (v.at + 1) _ (omega arith) (omega (arith, h.inside)))
          ∙ length-take-le _ (drop (v.at + 1) s) (omega (arith, length-drop (v.at + 1) s, h.inside))

  pub mark_long : (e : ℕ) → v.front + (v.at - v.from) + 2 + marked v e ≡ length (mark_line s v e)
  unfolding mark_line
  mark_long e =
      let m = map (drawn Before) (mark_bytes s v) in
      let t = map (drawn Marked) (part_of s (v.at + 1) (marked v e)) in
      omega (
        arith,
        length-append (m ++ (94 ∷ []) ++ t) (10 ∷ []),
        length-append (m ++ (94 ∷ [])) t,
        length-append m (94 ∷ []),
        length-map (mark_bytes s v) (drawn Before),
        mark_bytes_long,
        length-map (part_of s (v.at + 1) (marked v e)) (drawn Marked),
        marked_long e,
      )

  -- the four runs of the line shown
  pub line_written : (l l₁ l₂ l₃ l₄ : List ℕ)
      → l₁ ≡ sets l 0 (map (drawn Shown) (dots v.front))
      → l₂ ≡ sets l₁ v.front (map (drawn Shown) (bytes_between s v.from v.to))
      → l₃ ≡ sets l₂ (v.front + (v.to - v.from)) (map (drawn Shown) (dots v.behind))
      → l₄ ≡ sets l₃ (v.front + (v.to - v.from) + v.behind) (10 ∷ [])
      → l₄ ≡ sets l 0 (shown_line s v)
  unfolding shown_line line_bytes
  line_written l l₁ l₂ l₃ l₄ e₁ e₂ e₃ e₄ =
      let front = dots v.front in
      let middle = bytes_between s v.from v.to in
      let f : ℕ → ℕ = drawn Shown in
      let n₁ : v.front ≡ 0 + length front = omega (arith, dots_long v.front h.front) in
      let n₂ : v.front + (v.to - v.from) ≡ 0 + length (front ++ middle) =
      omega (arith, length-append front middle, dots_long v.front h.front, bytes_long s v.from v.to h.inside) in
      let n₃ : v.front + (v.to - v.from) + v.behind ≡ 0 + length (map f (front ++ middle ++ dots v.behind)) =
      omega (arith, length-map (line_bytes s v) f, line_bytes_long) in
      let m₂ : l₂ ≡ sets l 0 (map f (front ++ middle)) =
      e₂ ∙ ap (λ (k : List ℕ). sets k v.front (map f middle)) e₁ ∙ draws_next f l 0 front v.front middle n₁ in
      let m₃ : l₃ ≡ sets l 0 (map f (front ++ middle ++ dots v.behind)) =
      e₃ ∙ ap (λ (k : List ℕ). sets k (v.front + (v.to - v.from)) (map f (dots v.behind))) m₂ ∙ draws_next f l 0 (front ++ middle) _ (dots v.behind) n₂ in
      e₄ ∙ ap (λ (k : List ℕ). sets k (v.front + (v.to - v.from) + v.behind) (10 ∷ [])) m₃ ∙ sets_next l 0 (map f (front ++ middle ++ dots v.behind)) _ (10 ∷ []) n₃

  -- the five runs of the mark's line
  pub mark_written : (a e n : ℕ) (l l₁ l₂ l₃ l₄ l₅ b : List ℕ)
      → n ≡ marked v e
      → b ≡ part_of s (v.at + 1) n
      → l₁ ≡ sets l a (map (drawn Before) (dots v.front))
      → l₂ ≡ sets l₁ (a + v.front) (map (drawn Before) (bytes_between s v.from v.at))
      → l₃ ≡ sets l₂ (a + v.front + (v.at - v.from)) (94 ∷ [])
      → l₄ ≡ sets l₃ (a + v.front + (v.at - v.from) + 1) (map (drawn Marked) b)
      → l₅ ≡ sets l₄ (a + v.front + (v.at - v.from) + 1 + n) (10 ∷ [])
      → l₅ ≡ sets l a (mark_line s v e)
  unfolding mark_line mark_bytes
  mark_written a e n l l₁ l₂ l₃ l₄ l₅ b g o e₁ e₂ e₃ e₄ e₅ =
      let front = dots v.front in
      let middle = bytes_between s v.from v.at in
      let f : ℕ → ℕ = drawn Before in
      let t = map (drawn Marked) (part_of s (v.at + 1) (marked v e)) in
      let m = map f (front ++ middle) in
      let tl : length t ≡ n = length-map (part_of s (v.at + 1) (marked v e)) (drawn Marked) ∙ marked_long e ∙ sym g in
      let ml : length m ≡ v.front + (v.at - v.from) = length-map (mark_bytes s v) f ∙ mark_bytes_long in
      let n₁ : a + v.front ≡ a + length front = omega (arith, dots_long v.front h.front) in
      let n₂ : a + v.front + (v.at - v.from) ≡ a + length m = omega (arith, ml) in
      let n₃ : a + v.front + (v.at - v.from) + 1 ≡ a + length (m ++ (94 ∷ [])) = omega (arith, ml, length-append m (94 ∷ [])) in
      let n₄ : a + v.front + (v.at - v.from) + 1 + n ≡ a + length (m ++ (94 ∷ []) ++ t) =
      omega (arith, ml, tl, length-append (m ++ (94 ∷ [])) t, length-append m (94 ∷ [])) in
      let m₂ : l₂ ≡ sets l a m =
      e₂ ∙ ap (λ (k : List ℕ). sets k (a + v.front) (map f middle)) e₁ ∙ draws_next f l a front (a + v.front) middle n₁ in
      let m₃ : l₃ ≡ sets l a (m ++ (94 ∷ [])) =
      e₃ ∙ ap (λ (k : List ℕ). sets k (a + v.front + (v.at - v.from)) (94 ∷ [])) m₂ ∙ sets_next l a m _ (94 ∷ []) n₂ in
      let m₄ : l₄ ≡ sets l a (m ++ (94 ∷ []) ++ t) =
      e₄ ∙ ap (λ (k : List ℕ). sets l₃ (a + v.front + (v.at - v.from) + 1) (map (drawn Marked) k)) (o ∙ ap (part_of s (v.at + 1)) g)
      ∙ ap (λ (k : List ℕ). sets k (a + v.front + (v.at - v.from) + 1) t) m₃ ∙ sets_next l a (m ++ (94 ∷ [])) _ t n₃ in
      e₅ ∙ ap (λ (k : List ℕ). sets k (a + v.front + (v.at - v.from) + 1 + n) (10 ∷ [])) m₄ ∙ sets_next l a (m ++ (94 ∷ []) ++ t) _ (10 ∷ []) n₄

  pub mark_end : (a e n : ℕ) → n ≡ marked v e → a + v.front + (v.at - v.from) + 1 + n + 1 ≡ a + length (mark_line s v e)
  mark_end a e n g = omega (arith, g, mark_long e)

  -- from what the code computes
  pub marked_is : (e k n : ℕ) → k ≡ min e v.to → n ≡ k - (v.at + 1) → n ≡ marked v e
  unfolding marked
  marked_is e k n i j = omega arith

-- both lines, one behind the other
pub picture_written : (s : List ℕ) (p : ℕ) (v : View) → v ≡ view_of s p → (e : ℕ) → e ≡ token_end s p → (n m : ℕ) (l l₁ l₂ : List ℕ)
    → l₁ ≡ sets l 0 (shown_line s v) → n ≡ length (shown_line s v)
    → l₂ ≡ sets l₁ n (mark_line s v e) → m ≡ n + length (mark_line s v e)
    → (m ≡ length (picture s p)) × (l₂ ≡ sets l 0 (picture s p))
unfolding picture
picture_written s p v i e z n m l l₁ l₂ e₁ k e₂ j =
    let w : length (shown_line s v ++ mark_line s v e) ≡ m = length-append (shown_line s v) (mark_line s v e) ∙ ap (◌+ length (mark_line s v e)) (sym k) ∙ sym j in
    let o : n ≡ 0 + length (shown_line s v) = omega (arith, k) in
    let d : l₂ ≡ sets l 0 (shown_line s v ++ mark_line s v e) = e₂ ∙ ap (λ (x : List ℕ). sets x n (mark_line s v e)) e₁ ∙ sets_next l 0 (shown_line s v) n (mark_line s v e) o in
    let q : shown_line s v ++ mark_line s v e ≡ shown_line s (view_of s p) ++ mark_line s (view_of s p) (token_end s p) =
    ap (λ (x : ℕ). shown_line s v ++ mark_line s v x) z ∙ ap (λ (x : View). shown_line s x ++ mark_line s x (token_end s p)) i in
    (sym w ∙ ap length q, d ∙ ap (sets l 0) q)

pub line_short : (s : List ℕ) (v : View) → Fits s v → length (shown_line s v) ≤ 79
line_short s v h = omega (arith, line_long s v h, h.front, h.behind, h.most)
