-- The next statement of a rank. Assumes nothing.
use Prim.Native.Nat.{ℕ, zero, suc, ◌+◌, ◌-◌, ◌*◌, ◌<◌, ◌≤◌, min}
use mathlib.Core.Path.{◌≡◌, refl, sym, ◌∙◌, ap, ap₂, subst}
use mathlib.Core.Bool.{Bool}
use mathlib.Core.List.{List, []}
use native.Mathlib.Omega.{arith}
use native.Mathlib.Decide.{ℕ_discrete, dec_le}
use borrow.Author.Tests.{lt-ltb, le-ltb}
use lib.ListN.{length, get_or, set, replicate, length-set, length-replicate, get_or-replicate}
use lib.Seq.{get_or-set_same, get_or-set_other, set-set, set-get_or}
use lib.Dec.{ltb, leb}
use Rattle.token.specs.Find.{pick, both}
use Rattle.token.specs.Tokens.{part_of}
use Rattle.rows.specs.Search.{row_name}
use Rattle.rows.specs.Found.{Found}
use Rattle.std.specs.Prelude.{None}
use Rattle.rows.proofs.Starts.{cell_past}
use Rattle.blocks.specs.Blocks.{row_after, FindsStated}
use Rattle.blocks.proofs.Ranges.{after_later, after_inside, after_back, after_past, after_next}
use Rattle.lookups.specs.Ranks.{NextRow, Skips, StatedRanked}
use Rattle.lookups.specs.Links.{ahead_in, ahead, next_in, Passing, Link, unknown, known, Linked, Begins, StatedAfter}
use Rattle.lookups.proofs.Blocks.{skips_none, skips_more, skips_on, finds_end, found_at}
use Rattle.lookups.proofs.Notes.{row_place, row_size}

-- The cells of l from row p on are noted, u has the first row from there on that has each rank, and the cells before row p are 0.
pub record LinkedFrom (st h l : List ℕ) (p : ℕ) (u : List ℕ) : Type 0 where
  pub size : length l ≡ length h
  pub before : (j : ℕ) → j < p → get_or l j 0 ≡ 0
  pub passing : Passing st h l p u

-- Rows after -------------------------------------------------------------------------------------------------------------------------------

module _ (st : List ℕ) (p e n : ℕ) (l : p < e) (m : e ≤ n) where
  -- The row after one is the same in a shorter block, if it is in there.
  pub after_less : row_after st p e ≡ min (row_after st p n) e
  after_less = by (dec_le v p) (dec_le v e) (dec_le v n)
    where
      v : ℕ
      v = get_or st (p * 7 + 6) 0

      by : Dec (v ≤ p) → Dec (v ≤ e) → Dec (v ≤ n) → row_after st p e ≡ min (row_after st p n) e
      by (yes a) b c = let x = after_back st p e v refl a in let y = after_back st p n v refl a in omega (arith, x, y, m)
      by (no a) (yes b) c = let x = after_next st p e v refl (omega (arith, a)) b in let y = after_next st p n v refl (omega (arith, a)) (omega (arith, b, m)) in omega (arith, x, y, b)
      by (no a) (no b) (yes c) = let x = after_past st p e v refl (omega (arith, b)) in let y = after_next st p n v refl (omega (arith, a)) c in omega (arith, x, y, b)
      by (no a) (no b) (no c) = let x = after_past st p e v refl (omega (arith, b)) in let y = after_past st p n v refl (omega (arith, c)) in omega (arith, x, y, m)

next_is : (st : List ℕ) (p e : ℕ) → NextRow p (get_or st (p * 7 + 6) 0) e (row_after st p e)
unfolding NextRow row_after
next_is st p e st₂ c = ap (λ (n : ℕ). pick (both (ltb p n) (leb n e)) n e) c

pub next_by : (st : List ℕ) (p e v r : ℕ) → v ≡ get_or st (p * 7 + 6) 0 → NextRow p v e r → NextRow p (get_or st (p * 7 + 6) 0) e r
next_by st p e v r c n = subst (λ (x : ℕ). NextRow p x e r) c n

pub next_low : (st : List ℕ) (p e v r : ℕ) → v ≡ get_or st (p * 7 + 6) 0 → NextRow p v e r → r ≤ e
unfolding NextRow
next_low st p e v r c n = let a = n st c in let b = after_inside st p e in omega (arith, a, b)

-- The rows ahead ---------------------------------------------------------------------------------------------------------------------------

module _ (st h : List ℕ) where
  ahead_last : (f p : ℕ) → length h ≤ p → ahead_in f st h p ≡ replicate 513 (length h)
  unfolding ahead_in
  ahead_last zero p l = refl
  ahead_last (suc f) p l =
      ap (λ (b : Bool). pick b (set (ahead_in f st h (row_after st p (length h))) (get_or h p 0) p) (replicate 513 (length h))) (le-ltb p (length h) l)

  ahead_step : (f p : ℕ) → p < length h → ahead_in (suc f) st h p ≡ set (ahead_in f st h (row_after st p (length h))) (get_or h p 0) p
  unfolding ahead_in
  ahead_step f p l =
      ap (λ (b : Bool). pick b (set (ahead_in f st h (row_after st p (length h))) (get_or h p 0) p) (replicate 513 (length h))) (lt-ltb p (length h) l)

  ahead_enough : (a b p : ℕ) → length h - p ≤ a → length h - p ≤ b → ahead_in a st h p ≡ ahead_in b st h p
  ahead_enough zero b p i j = ahead_last zero p (omega (arith, i)) ∙ sym (ahead_last b p (omega (arith, i)))
  ahead_enough (suc a) zero p i j = ahead_last (suc a) p (omega (arith, j)) ∙ sym (ahead_last zero p (omega (arith, j)))
  ahead_enough (suc a) (suc b) p i j = by (dec_le (length h) p) (ahead_enough a b (row_after st p (length h)))
    where
      by : Dec (length h ≤ p)
          → (length h - row_after st p (length h) ≤ a → length h - row_after st p (length h) ≤ b → ahead_in a st h (row_after st p (length h)) ≡ ahead_in b st h (row_after st p (length h)))
          → ahead_in (suc a) st h p ≡ ahead_in (suc b) st h p
      by (yes l) more = ahead_last (suc a) p l ∙ sym (ahead_last (suc b) p l)
      by (no l) more =
          let k = after_later st p (length h) (omega (arith, l)) in
          ahead_step a p (omega (arith, l))
          ∙ ap (λ (u : List ℕ). set u (get_or h p 0) p) (more (omega (arith, i, k, l)) (omega (arith, j, k, l)))
          ∙ sym (ahead_step b p (omega (arith, l)))

  -- The rows from row p on: it, and those from the row after it on,
  pub ahead_more : (p : ℕ) → p < length h → ahead st h p ≡ set (ahead st h (row_after st p (length h))) (get_or h p 0) p
  unfolding ahead
  ahead_more p l = ahead_enough (length h) (suc (length h)) p (omega arith) (omega arith) ∙ ahead_step (length h) p l

  -- or none.
  pub ahead_end : (p : ℕ) → p ≡ length h → replicate 513 (length h) ≡ ahead st h p
  unfolding ahead
  ahead_end p l = sym (ahead_last (length h) p (omega (arith, l)))

  ahead_long : (f p : ℕ) → length (ahead_in f st h p) ≡ 513
  unfolding ahead_in
  ahead_long zero p = length-replicate {A = ℕ} 513 (length h)
  ahead_long (suc f) p = by (dec_le (length h) p) (ahead_long f (row_after st p (length h)))
    where
      by : Dec (length h ≤ p) → length (ahead_in f st h (row_after st p (length h))) ≡ 513 → length (ahead_in (suc f) st h p) ≡ 513
      by (yes l) more = ap length (ahead_last (suc f) p l) ∙ length-replicate 513 (length h)
      by (no l) more = ap length (ahead_step f p (omega (arith, l))) ∙ length-set (ahead_in f st h (row_after st p (length h))) (get_or h p 0) p ∙ more

  -- None of the rows from p on, up to it, has the rank.
  record Next (p g r : ℕ) : Type 0 where
    low : p ≤ r
    skips : (e : ℕ) → p ≤ e → e ≤ length h → Skips st h p e g (min r e)

  next_none : (p g r : ℕ) → p ≤ r → ((e : ℕ) → p ≤ e → e ≤ length h → min r e ≡ p) → Next p g r
  next_none p g r l q = record { low = l; skips = λ e a b. subst (λ (x : ℕ). Skips st h p e g x) (sym (q e a b)) (skips_none st h p e g) }

  next_past : (f p g : ℕ) → p ≤ length h → length h ≤ p → g < 513 → Next p g (get_or (ahead_in f st h p) g 0)
  next_past f p g l k b =
      let c : get_or (ahead_in f st h p) g 0 ≡ length h = ap (λ (u : List ℕ). get_or u g 0) (ahead_last f p k) ∙ get_or-replicate 513 g (length h) 0 b in
      next_none p g (get_or (ahead_in f st h p) g 0) (omega (arith, c, l)) (λ e i j. omega (arith, c, l, k, i, j))

  ahead_next : (f p g : ℕ) → length h - p ≤ f → p ≤ length h → g < 513 → Next p g (get_or (ahead_in f st h p) g 0)
  ahead_next zero p g i l b = next_past zero p g l (omega (arith, i)) b
  ahead_next (suc f) p g i l b = by (dec_le (length h) p) (λ x y. ahead_next f (row_after st p (length h)) g x y b)
    where
      q : ℕ
      q = row_after st p (length h)

      R : List ℕ
      R = ahead_in f st h q

      more : p < length h → Dec (g ≡ get_or h p 0) → (length h - q ≤ f → q ≤ length h → Next q g (get_or R g 0)) → Next p g (get_or (set R (get_or h p 0) p) g 0)
      more k (yes m) later =
          let c : get_or (set R (get_or h p 0) p) g 0 ≡ p = ap (λ (x : ℕ). get_or (set R (get_or h p 0) p) x 0) m ∙ get_or-set_same R (get_or h p 0) p 0 (omega (arith, b, m, ahead_long f q)) in
          next_none p g (get_or (set R (get_or h p 0) p) g 0) (omega (arith, c)) (λ e a d. omega (arith, c, a))
      more k (no m) later =
          let c : get_or (set R (get_or h p 0) p) g 0 ≡ get_or R g 0 = get_or-set_other R (get_or h p 0) g p 0 m in
          let o = after_later st p (length h) k in
          let N = later (omega (arith, i, o, k)) (after_inside st p (length h)) in
          let low = N.low in
          record {
            low = omega (arith, c, low, o);
            skips = λ e a d. subst (λ (x : ℕ). Skips st h p e g (min x e)) (sym c) (on e a d N low (dec_le e p) (dec_le q e));
          }
        where
          on : (e : ℕ) → p ≤ e → e ≤ length h → Next q g (get_or R g 0) → q ≤ get_or R g 0 → Dec (e ≤ p) → Dec (q ≤ e) → Skips st h p e g (min (get_or R g 0) e)
          on e a d N low (yes x) y =
              let o = after_later st p (length h) k in
              let w : min (get_or R g 0) e ≡ p = omega (arith, a, x, low, o) in
              subst (λ (u : ℕ). Skips st h p e g u) (sym w) (skips_none st h p e g)
          on e a d N low (no x) y = skips_on st h p e g (row_after st p e) (min (get_or R g 0) e) first (rest y)
            where
              first : Skips st h p e g (row_after st p e)
              first = skips_more st h p e g p (row_after st p e) (skips_none st h p e g) (omega (arith, x)) k (λ z. m (sym z)) (next_is st p e)

              rest : Dec (q ≤ e) → Skips st h (row_after st p e) e g (min (get_or R g 0) e)
              rest (yes z) =
                  let w : row_after st p e ≡ q = let u = after_less st p e (length h) (omega (arith, x)) d in omega (arith, u, z) in
                  subst (λ (u : ℕ). Skips st h u e g (min (get_or R g 0) e)) (sym w) (N.skips e z d)
              rest (no z) =
                  let w : row_after st p e ≡ e = let u = after_less st p e (length h) (omega (arith, x)) d in omega (arith, u, z) in
                  let v : min (get_or R g 0) e ≡ row_after st p e = omega (arith, w, low, z) in
                  subst (λ (u : ℕ). Skips st h (row_after st p e) e g u) (sym v) (skips_none st h (row_after st p e) e g)

      by : Dec (length h ≤ p) → (length h - q ≤ f → q ≤ length h → Next q g (get_or R g 0)) → Next p g (get_or (ahead_in (suc f) st h p) g 0)
      by (yes k) later = next_past (suc f) p g l k b
      by (no k) later = subst (λ (u : List ℕ). Next p g (get_or u g 0)) (sym (ahead_step f p (omega (arith, k)))) (more (omega (arith, k)) (ℕ_discrete g (get_or h p 0)) later)

  -- The next row that has the rank of row k.
  next_skips : (k e : ℕ) → k < e → e ≤ length h → get_or h k 0 < 513 → Skips st h (row_after st k e) e (get_or h k 0) (min (next_in st h k) e)
  unfolding next_in ahead
  next_skips k e l m b = by (dec_le q e)
    where
      q : ℕ
      q = row_after st k (length h)

      g : ℕ
      g = get_or h k 0

      r : ℕ
      r = get_or (ahead_in (length h) st h q) g 0

      N : Next q g r
      N = ahead_next (length h) q g (omega arith) (after_inside st k (length h)) b

      by : Dec (q ≤ e) → Skips st h (row_after st k e) e g (min r e)
      by (yes z) =
          let w : row_after st k e ≡ q = let u = after_less st k e (length h) l m in omega (arith, u, z) in
          subst (λ (u : ℕ). Skips st h u e g (min r e)) (sym w) (N.skips e z m)
      by (no z) =
          let w : row_after st k e ≡ e = let u = after_less st k e (length h) l m in omega (arith, u, z) in
          let low = N.low in
          let v : min r e ≡ row_after st k e = omega (arith, w, low, z) in
          subst (λ (u : ℕ). Skips st h (row_after st k e) e g u) (sym v) (skips_none st h (row_after st k e) e g)

  next_ranked : (k : ℕ) → (next_in st h k ≡ 0 → ⊥) → get_or h k 0 < 513
  unfolding next_in ahead
  next_ranked k n = by (dec_le 513 (get_or h k 0))
    where
      u : List ℕ
      u = ahead_in (length h) st h (row_after st k (length h))

      by : Dec (513 ≤ get_or h k 0) → get_or h k 0 < 513
      by (yes a) = absurd (n (cell_past u (get_or h k 0) (omega (arith, a, ahead_long (length h) (row_after st k (length h))))))
      by (no a) = omega (arith, a)

-- Where a search begins --------------------------------------------------------------------------------------------------------------------

module _ (st h l : List ℕ) (k a e g : ℕ) where
  -- where nothing is noted
  pub begins_here : Begins st h l k a e g a
  begins_here = record { skips = λ x y. skips_none st h a e g }

  -- at the row that is noted
  pub begins_next : (v r : ℕ) → v ≡ get_or l k 0 → (v ≡ 0 → ⊥) → k < length h → get_or h k 0 ≡ g → e ≤ length h → r ≡ min v e → Begins st h l k a e g r
  begins_next v r q n i j m w = record { skips = λ x y. by (x.cell k i) (y.inside (λ z. n (q ∙ z))) (y.after (λ z. n (q ∙ z))) }
    where
      by : Link st h k (get_or l k 0) → k < e → a ≡ row_after st k e → Skips st h a e g r
      by (unknown z) o t = absurd (n (q ∙ z))
      by (known z) o t =
          let c : v ≡ next_in st h k = q ∙ z in
          let s = next_skips st h k e o m (next_ranked st h k (λ y. n (c ∙ y))) in
          let s₁ = subst (λ (x : ℕ). Skips st h (row_after st k e) e x (min (next_in st h k) e)) j s in
          let s₂ = subst (λ (x : ℕ). Skips st h x e g (min (next_in st h k) e)) (sym t) s₁ in
          subst (λ (x : ℕ). Skips st h a e g x) (sym (w ∙ ap (λ (x : ℕ). min x e) c)) s₂

-- What is found -----------------------------------------------------------------------------------------------------------------------------

module _ (s t : List ℕ) (w m : ℕ) (v : List ℕ) (i : ℕ) (st h l : List ℕ) (k a e : ℕ) where
  pub after_searched : (r : Found) → FindsStated s st a e (get_or t (i * w + m) 0) (get_or t (i * w + (m + 1)) 0) r → StatedAfter s t w m v i st h l k a e r
  after_searched r z = record { finds = λ f x y L F. z }

  pub after_none : (j b : ℕ) → i < length v → Begins st h l k a e (get_or v i 0) j → Skips st h j e (get_or v i 0) b → e ≤ b → StatedAfter s t w m v i st h l k a e None
  unfolding row_name
  after_none j b n B S q = record {
    finds = λ f x y L F.
        (skips_on st h a e (get_or v i 0) j b (B.skips L F) S).finds s (get_or t (i * w + m) 0) (get_or t (i * w + (m + 1)) 0) f None y (x.cell i n)
        (finds_end s st b e (get_or t (i * w + m) 0) (get_or t (i * w + (m + 1)) 0) q);
  }

  module _ (m2 y at len : ℕ) (c : m2 ≡ min (length t) (m + 1)) (d : y ≡ min (length t) (i * w)) (u : at ≡ get_or t (y + m) 0) (o : len ≡ get_or t (y + m2) 0) where
    pub after_ranked : (j b : ℕ) (r : Found) → i < length v → Begins st h l k a e (get_or v i 0) j → Skips st h j e (get_or v i 0) b → StatedRanked s st h b e at len (get_or v i 0) r
        → StatedAfter s t w m v i st h l k a e r
    unfolding StatedRanked row_name
    after_ranked j b r n B S z = record {
      finds = λ f x g L F.
          let S₀ = skips_on st h a e (get_or v i 0) j b (B.skips L F) S in
          let q : get_or v i 0 ≡ f (part_of s at len) = x.cell i n ∙ sym (ap₂ (λ (x y : ℕ). f (part_of s x y)) (row_place t w m i y m2 at len c d u) (row_size t w m i y m2 at len c d o)) in
          found_at s t w m v i st h [] a e m2 y at len c d u o r (S₀.finds s at len f r g q (z f g q));
    }

-- How they are noted -----------------------------------------------------------------------------------------------------------------------

module _ (st h : List ℕ) where
  pub linking_start : (k : ℕ) (l : List ℕ) → k ≡ length h → l ≡ replicate (length h) 0 → LinkedFrom st h l k (replicate 513 (length h))
  linking_start k l e z = record {
    size = ap length z ∙ length-replicate (length h) 0;
    before = λ j i. ap (λ (u : List ℕ). get_or u j 0) z ∙ get_or-replicate (length h) j 0 0 (omega (arith, i, e));
    passing = record { noted = record { cell = λ j i m. absurd (omega (arith, i, m, e)) }; rows = ahead_end st h k e };
  }

  -- A row is passed: the first row that has its rank is then the one noted.
  pub passes_row : (l u u₂ : List ℕ) (p g v q : ℕ) → Passing st h l p u → p < length h → g ≡ get_or h p 0 → v ≡ get_or l p 0 → u₂ ≡ set u g v → NextRow p (get_or st (p * 7 + 6) 0) (length h) q
      → Passing st h l q u₂
  unfolding NextRow next_in
  passes_row l u u₂ p g v q P i a b c d =
      let A = ahead st h (row_after st p (length h)) in
      let x : u ≡ set A (get_or h p 0) p = P.rows ∙ ahead_more st h p i in
      let y : v ≡ get_or A (get_or h p 0) 0 = b ∙ P.noted.cell p (omega arith) i in
      let w : q ≡ row_after st p (length h) = d st refl in
      let later = after_later st p (length h) i in
      record {
        noted = record { cell = λ j m n. P.noted.cell j (omega (arith, m, w, later)) n };
        rows = c ∙ ap (λ (k : ℕ). set u k v) a ∙ ap (λ (k : ℕ). set u (get_or h p 0) k) y ∙ ap (λ (k : List ℕ). set k (get_or h p 0) (get_or A (get_or h p 0) 0)) x
            ∙ set-set A (get_or h p 0) p (get_or A (get_or h p 0) 0) ∙ set-get_or A (get_or h p 0) 0 ∙ ap (λ (k : ℕ). ahead st h k) (sym w);
      }

  -- A row more is noted.
  module _ (l u₀ : List ℕ) (k : ℕ) (L : LinkedFrom st h l k u₀) (u l₂ u₂ : List ℕ) (i s g v : ℕ) (e : i + 1 ≡ k) (m : k ≤ length h) where
    pub links_row : u ≡ ahead st h s → NextRow i (get_or st (i * 7 + 6) 0) (length h) s → g ≡ get_or h i 0 → v ≡ get_or u g 0 → l₂ ≡ set l i v → u₂ ≡ set u g i → LinkedFrom st h l₂ i u₂
    unfolding NextRow next_in
    links_row a n b c d o =
        let w : s ≡ row_after st i (length h) = n st refl in
        let x : u ≡ ahead st h (row_after st i (length h)) = a ∙ ap (λ (k : ℕ). ahead st h k) w in
        let y : v ≡ next_in st h i = c ∙ ap (λ (k : ℕ). get_or u k 0) b ∙ ap (λ (k : List ℕ). get_or k (get_or h i 0) 0) x in
        record {
          size = ap length d ∙ length-set l i v ∙ L.size;
          before = λ j q. ap (λ (k : List ℕ). get_or k j 0) d ∙ get_or-set_other l i j v 0 (λ t. omega (arith, t, q)) ∙ L.before j (omega (arith, q, e));
          passing = record {
            noted = record { cell = λ j q r. ap (λ (k : List ℕ). get_or k j 0) d ∙ by j q r y (ℕ_discrete j i) };
            rows = o ∙ ap (λ (k : ℕ). set u k i) b ∙ ap (λ (k : List ℕ). set k (get_or h i 0) i) x ∙ sym (ahead_more st h i (omega (arith, e, m)));
          };
        }
      where
        by : (j : ℕ) → i ≤ j → j < length h → v ≡ next_in st h i → Dec (j ≡ i) → get_or (set l i v) j 0 ≡ next_in st h j
        by j q r y (yes t) = ap (λ (k : ℕ). get_or (set l i v) k 0) t ∙ get_or-set_same l i v 0 (let z = L.size in omega (arith, z, e, m)) ∙ y ∙ ap (next_in st h) (sym t)
        by j q r y (no t) = get_or-set_other l i j v 0 t ∙ L.passing.noted.cell j (omega (arith, q, t, e)) r

  pub links_all : (l u : List ℕ) (k : ℕ) → LinkedFrom st h l k u → Linked st h l
  links_all l u k L = record { cell = λ j i. by j i (dec_le k j) }
    where
      by : (j : ℕ) → j < length h → Dec (k ≤ j) → Link st h j (get_or l j 0)
      by j i (yes a) = known (L.passing.noted.cell j a i)
      by j i (no a) = unknown (L.before j (omega (arith, a)))
