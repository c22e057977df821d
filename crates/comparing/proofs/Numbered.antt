-- Numbers of names across two texts: equal numbers are equal names. Assumes nothing.
use mathlib.Core.Path.{◌≡◌, refl, sym, ◌∙◌, ap, ap₂}
use mathlib.Core.List.{List, [], ◌∷◌, map}
use mathlib.Core.Bool.{Bool}
use Prim.Native.Nat.{ℕ, zero, suc, ◌+◌, ◌<◌, ◌≤◌}
use native.Mathlib.Omega.{arith}
use native.Mathlib.Decide.{dec_lt}
use native.Mathlib.Nat.{not-suc-le-zero, le_of_suc-le-suc, le_trans}
use lib.Dec.{eqb}
use lib.ListN.{length, get_or, length-map}
use borrow.Author.Tests.{eq-eqb, eqb-true, lt-ltb, le-ltb}
use Rattle.token.specs.Find.{pick}
use Rattle.token.specs.Words.{same}
use Rattle.token.proofs.Codes.{same_self, same_equal}
use Rattle.rows.specs.Search.{row_name}
use Rattle.sorting.specs.Sorted.{Rising, Rising-from}
use Rattle.indexes.specs.Numbers.{name_number, summary_of}
use Rattle.indexes.specs.Indexing.{entry_of, cell_number, least_at, Indexed, rank, name_rank, Ranks}
use Rattle.indexes.proofs.Digits.{Bytes, number_same}
use Rattle.indexes.proofs.Names.{Before, by_summary, by_number, at_more, name_short, name_bytes, cell_no_less, cell_below}
use Rattle.indexes.proofs.Places.{Place, among_place}
use Rattle.meaning.specs.Syntax.{Word}
use Rattle.meaning.specs.Words.{alike}
use Rattle.comparing.proofs.Steps.{Numbering}
use Rattle.comparing.specs.Naming.{number_of_name, Index}
use Rattle.comparing.proofs.Alikes.{same_truth}

-- Ranks ------------------------------------------------------------------------------------------------------------------------------------

rank_yes : (a : ℕ) (l : List ℕ) (v : ℕ) → a < v → rank (a ∷ l) v ≡ suc (rank l v)
unfolding rank
rank_yes a l v h = ap (λ (b : Bool). pick b (suc (rank l v)) 0) (lt-ltb a v h)

rank_no : (a : ℕ) (l : List ℕ) (v : ℕ) → v ≤ a → rank (a ∷ l) v ≡ 0
unfolding rank
rank_no a l v h = ap (λ (b : Bool). pick b (suc (rank l v)) 0) (le-ltb a v h)

rank_none : (v : ℕ) → rank [] v ≡ 0
unfolding rank
rank_none v = refl

pub rank_length : (l : List ℕ) (v : ℕ) → rank l v ≤ length l
rank_length [] v = omega (arith, rank_none v)
rank_length (a ∷ l) v = by (rank_length l v) (dec_lt a v)
  where
    by : rank l v ≤ length l → Dec (a < v) → rank (a ∷ l) v ≤ length (a ∷ l)
    by r (yes h) = omega (arith, rank_yes a l v h, r)
    by r (no h) = omega (arith, rank_no a l v (omega arith))

rank_more : (l : List ℕ) (v u : ℕ) → v ≤ u → rank l v ≤ rank l u
rank_more [] v u h = omega (arith, rank_none v)
rank_more (a ∷ l) v u h = by (rank_more l v u h) (dec_lt a v)
  where
    by : rank l v ≤ rank l u → Dec (a < v) → rank (a ∷ l) v ≤ rank (a ∷ l) u
    by r (yes g) = omega (arith, rank_yes a l v g, rank_yes a l u (omega arith), r)
    by r (no g) = omega (arith, rank_no a l v (omega arith))

rising_low : (n : ℕ) (l : List ℕ) (k : ℕ) → Rising-from n l → k < length l → n ≤ get_or l k 0
unfolding Rising-from
rising_low n [] k r h = absurd (not-suc-le-zero h)
rising_low n (x ∷ l) zero r h = r.0
rising_low n (x ∷ l) (suc k) r h = le_trans r.0 (rising_low x l k r.1 (le_of_suc-le-suc h))

-- A cell that is less than u and no less than v.
rank_between : (n : ℕ) (l : List ℕ) (v u k : ℕ) → Rising-from n l → k < length l → v ≤ get_or l k 0 → get_or l k 0 < u → rank l v < rank l u
unfolding Rising-from
rank_between n [] v u k r h p q = absurd (not-suc-le-zero h)
rank_between n (a ∷ l) v u zero r h p q = omega (arith, rank_no a l v p, rank_yes a l u q)
rank_between n (a ∷ l) v u (suc k) r h p q =
    by (rank_between a l v u k r.1 (le_of_suc-le-suc h) p q) (rising_low a l k r.1 (le_of_suc-le-suc h)) p q (dec_lt a v)
  where
    by : rank l v < rank l u → a ≤ get_or l k 0 → v ≤ get_or l k 0 → get_or l k 0 < u → Dec (a < v) → rank (a ∷ l) v < rank (a ∷ l) u
    by e f g i (yes z) = omega (arith, rank_yes a l v z, rank_yes a l u (omega arith), e)
    by e f g i (no z) = omega (arith, rank_no a l v (omega arith), rank_yes a l u (omega arith))

number_at : (f : ℕ → ℕ) (x : List ℕ) (i : ℕ) → i < length x → get_or (map f x) i 0 ≡ f (get_or x i 0)
number_at f [] i h = absurd (not-suc-le-zero h)
number_at f (y ∷ x) zero h = refl
number_at f (y ∷ x) (suc i) h = number_at f x i (le_of_suc-le-suc h)

-- Names ------------------------------------------------------------------------------------------------------------------------------------

-- The cells of a table.
abbrev pub Cells : List ℕ → Type 0
Cells t = (j : ℕ) → get_or t j 0 < 18446744073709551616

module _ (s t : List ℕ) (w c m : ℕ) (x : List ℕ) where
  pub name_more : (a b : List ℕ) → Bytes a → length a ≤ 18446744073709551616 → Before a b → name_rank s t w c m x a ≤ name_rank s t w c m x b
  unfolding name_rank
  name_more a b d l h = rank_more (map (cell_number s t w c m) x) (least_at a 0) (least_at b 0) (at_more a b d l h)

  pub name_length : (a : List ℕ) → name_rank s t w c m x a ≤ length x
  unfolding name_rank
  name_length a = omega (arith, rank_length (map (cell_number s t w c m) x) (least_at a 0), length-map x (cell_number s t w c m))

  -- A row's name stands before a larger one.
  pub name_less : (n i : ℕ) (b : List ℕ) → Indexed s t w n c m x → n ≤ 65536 → Bytes s → length s ≤ 18446744073709551616 → Cells t → i < n → Before (row_name s t w m i) b
      → name_rank s t w c m x (row_name s t w m i) < name_rank s t w c m x b
  unfolding name_rank Rising
  name_less n i b d few u l g h less = by (among_place x (entry_of s t w m i) (d.all i h))
    where
      by : Place x (entry_of s t w m i) → rank (map (cell_number s t w c m) x) (least_at (row_name s t w m i) 0) < rank (map (cell_number s t w c m) x) (least_at b 0)
      by p =
          let own : get_or (map (cell_number s t w c m) x) p.at 0 ≡ cell_number s t w c m (entry_of s t w m i) = number_at (cell_number s t w c m) x p.at p.inside ∙ ap (cell_number s t w c m) p.cell in
          rank_between 0 (map (cell_number s t w c m) x) (least_at (row_name s t w m i) 0) (least_at b 0) p.at d.rising
          (omega (arith, length-map x (cell_number s t w c m), p.inside)) (omega (arith, own, cell_no_less s t w c m i (omega arith))) (omega (arith, own, cell_below s t w c m i b u l g (omega arith) less))

-- Two texts --------------------------------------------------------------------------------------------------------------------------------

module _ (s d x s2 d2 x2 : List ℕ) where
  -- One of the definitions has this name.
  pub data Named : List ℕ → Type 0 where
    in_first : (i : ℕ) → i < length x → Named (row_name s d 13 2 i)
    in_second : (i : ℕ) → i < length x2 → Named (row_name s2 d2 13 2 i)

  pub record Known (w : Word) : Type 0 where
    pub named : Named w.bytes
    pub bytes : Bytes w.bytes

  module _ (p : Index s d x) (q : Index s2 d2 x2) (u : Bytes s) (u2 : Bytes s2) (l : length s ≤ 18446744073709551616) (l2 : length s2 ≤ 18446744073709551616) (e : Cells d) (f : Cells d2) where
    numbers_less : (a b : List ℕ) → Named a → Before a b → number_of_name s d x s2 d2 x2 a < number_of_name s d x s2 d2 x2 b
    unfolding number_of_name
    numbers_less a b (in_first i h) g =
        let long : length (row_name s d 13 2 i) ≤ 18446744073709551616 = omega (arith, l, name_short s d 13 2 i) in
        omega (arith, name_less s d 13 0 2 x (length x) i b p.index p.few u l e h g, name_more s2 d2 13 0 2 x2 (row_name s d 13 2 i) b (name_bytes s d 13 2 i u) long g)
    numbers_less a b (in_second i h) g =
        let long : length (row_name s2 d2 13 2 i) ≤ 18446744073709551616 = omega (arith, l2, name_short s2 d2 13 2 i) in
        omega (arith, name_less s2 d2 13 0 2 x2 (length x2) i b q.index q.few u2 l2 f h g, name_more s d 13 0 2 x (row_name s2 d2 13 2 i) b (name_bytes s2 d2 13 2 i u2) long g)

    -- THE THEOREM: equal numbers are equal names.
    pub numbered : Numbering Known (λ w. number_of_name s d x s2 d2 x2 w.bytes)
    unfolding alike
    numbered a b k m =
        same_truth (eqb (number_of_name s d x s2 d2 x2 a.bytes) (number_of_name s d x s2 d2 x2 b.bytes)) (same a.bytes b.bytes)
        (λ z. ap (same a.bytes) (sym (one (eqb-true (number_of_name s d x s2 d2 x2 a.bytes) (number_of_name s d x s2 d2 x2 b.bytes) z))) ∙ same_self a.bytes)
        (λ z. eq-eqb (number_of_name s d x s2 d2 x2 a.bytes) (number_of_name s d x s2 d2 x2 b.bytes) (ap (number_of_name s d x s2 d2 x2) (same_equal a.bytes b.bytes z)))
      where
        one : number_of_name s d x s2 d2 x2 a.bytes ≡ number_of_name s d x s2 d2 x2 b.bytes → a.bytes ≡ b.bytes
        one z =
            by (dec_lt (summary_of a.bytes) (summary_of b.bytes)) (dec_lt (summary_of b.bytes) (summary_of a.bytes)) (dec_lt (name_number a.bytes) (name_number b.bytes))
            (dec_lt (name_number b.bytes) (name_number a.bytes))
          where
            by : Dec (summary_of a.bytes < summary_of b.bytes) → Dec (summary_of b.bytes < summary_of a.bytes) → Dec (name_number a.bytes < name_number b.bytes)
                → Dec (name_number b.bytes < name_number a.bytes) → a.bytes ≡ b.bytes
            by (yes h) i g j = absurd (omega (arith, z, numbers_less a.bytes b.bytes k.named (by_summary h)))
            by (no h) (yes i) g j = absurd (omega (arith, z, numbers_less b.bytes a.bytes m.named (by_summary i)))
            by (no h) (no i) (yes g) j = absurd (omega (arith, z, numbers_less a.bytes b.bytes k.named (by_number (omega arith) g)))
            by (no h) (no i) (no g) (yes j) = absurd (omega (arith, z, numbers_less b.bytes a.bytes m.named (by_number (omega arith) j)))
            by (no h) (no i) (no g) (no j) = number_same a.bytes b.bytes k.bytes m.bytes (omega arith)

-- What the code finds.
pub number_found : (s d x s2 d2 x2 l : List ℕ) (a b : ℕ) → Index s d x → Index s2 d2 x2 → Ranks s d 13 0 2 x l a → Ranks s2 d2 13 0 2 x2 l b → a + b ≡ number_of_name s d x s2 d2 x2 l
unfolding number_of_name Ranks
number_found s d x s2 d2 x2 l a b p q f g = ap₂ ◌+◌ (f (length x) p.index p.few) (g (length x2) q.index q.few)

pub rank_inside : (s d x l : List ℕ) (a : ℕ) → Index s d x → Ranks s d 13 0 2 x l a → a ≤ 65536
unfolding Ranks
rank_inside s d x l a p f = omega (arith, f (length x) p.index p.few, name_length s d 13 0 2 x l, p.few)
