-- The laws of looking for a name in a block through the statements' ranks.
-- Assumes nothing.
use Prim.Native.Nat.{ℕ, ◌+◌, ◌*◌, ◌≤◌, ◌<◌, min}
use mathlib.Core.Path.{◌≡◌, refl, sym, ap, ap₂, ◌∙◌, subst}
use mathlib.Core.Bool.{Bool, true, false, false≢true}
use mathlib.Core.List.{List}
use native.Mathlib.Omega.{arith}
use lib.ListN.{length, get_or, set, replicate, length-set, length-replicate, get_or-replicate}
use lib.Seq.{get_or-set_same, get_or-set_other, set_out}
use lib.Dec.{ltb, eqb}
use native.Mathlib.Decide.{ℕ_discrete}
use borrow.Author.Tests.{eq-eqb, ne_eqb, eqb-true, lt-ltb, le-ltb, ltb-true}
use Rattle.token.specs.Find.{pick}
use Rattle.token.specs.Words.{same}
use Rattle.token.specs.Tokens.{part_of}
use Rattle.token.proofs.Bytes.{not_true}
use Rattle.token.proofs.Codes.{same_equal}
use Rattle.rows.specs.Found.{Found}
use Rattle.std.specs.Prelude.{Some, None}
use Rattle.rows.specs.Search.{is_found, row_name}
use Rattle.blocks.specs.Blocks.{row_after, FindsStated, IsStated}
use Rattle.blocks.proofs.Ranges.{looking_start, looking_stop, looking_more, looking_end, is_stated, after_later, after_back, after_past, after_next}
use Rattle.lookups.proofs.Notes.{row_place, row_size}
use Rattle.lookups.specs.Ranks.{Ranked, NextRow, Skips, start_of, first_noted, Firsts, FirstsTo, MayState, StatedRanked, RowStated, IsRowStated}

-- the cases of the row after that of row k
module _ (k v e : ℕ) where
  -- its last cell lies before it
  pub next_back : v ≤ k → NextRow k v e e
  unfolding NextRow
  next_back l st c = after_back st k e v c l

  -- past the end
  pub next_past : e < v → NextRow k v e e
  unfolding NextRow
  next_past l st c = after_past st k e v c l

  -- or inside
  pub next_inside : k < v → v ≤ e → NextRow k v e v
  unfolding NextRow
  next_inside l i st c = after_next st k e v c l i

-- it is later
pub next_later : (st : List ℕ) (k e j : ℕ) → NextRow k (get_or st (k * 7 + 6) 0) e j → k < e → k < j
unfolding NextRow
next_later st k e j n l = subst (λ (x : ℕ). k < x) (sym (n st refl)) (after_later st k e l)

-- the search from row k on: it has the name, it has not, or the block ends there
module _ (s st : List ℕ) (k e at len : ℕ) where
  finds_here : k < e → same (part_of s at len) (row_name s st 7 0 k) ≡ true → FindsStated s st k e at len (Some k)
  unfolding row_name
  finds_here h q = looking_stop k e at len k (looking_start s st k e at len) h q

  finds_after : (r : Found) → k < e → same (part_of s at len) (row_name s st 7 0 k) ≡ false → FindsStated s st (row_after st k e) e at len r → FindsStated s st k e at len r
  unfolding row_name
  finds_after r h q n ss t b p = let l = looking_more k e at len k (looking_start s st k e at len) h q ss t b p in n l.left t l.block p ∙ l.same_found

  pub finds_end : e ≤ k → FindsStated s st k e at len None
  finds_end h = looking_end k e at len k (looking_start s st k e at len) h

-- rows of another rank are passed
module _ (st h : List ℕ) (a e g : ℕ) where
  pub skips_none : Skips st h a e g a
  skips_none = record { later = omega arith; finds = λ s at len f i b c n. n }

  pub skips_more : (k x : ℕ) → Skips st h a e g k → k < e → k < length h → (get_or h k 0 ≡ g → ⊥) → NextRow k (get_or st (k * 7 + 6) 0) e x → Skips st h a e g x
  unfolding NextRow
  skips_more k x z l j q n =
      let y : x ≡ row_after st k e = n st refl in
      record {
        later = omega (arith, z.later, after_later st k e l);
        finds = λ s at len f i b c u.
            let other = not_true (same (part_of s at len) (row_name s st 7 0 k)) (λ w. q (b.cell k j ∙ sym (c ∙ ap f (same_equal (part_of s at len) (row_name s st 7 0 k) w)))) in
            z.finds s at len f i b c (finds_after s st k e at len i l other (subst (λ (v : ℕ). FindsStated s st v e at len i) y u));
      }

  pub skips_on : (j k : ℕ) → Skips st h a e g j → Skips st h j e g k → Skips st h a e g k
  skips_on j k x y = record { later = omega (arith, x.later, y.later); finds = λ s at len f i b c u. x.finds s at len f i b c (y.finds s at len f i b c u) }

  -- a row is left, or none is
  pub may_state : (F : List ℕ) → MayState st h F a e g true
  may_state F = record { none = λ s at len f z b c q. absurd (false≢true (sym q)) }

  pub states_nothing : (F : List ℕ) (k : ℕ) → k ≡ start_of F a g → e ≤ k → MayState st h F a e g false
  states_nothing F k p l =
      record { none = λ s at len f z b c q. (subst (λ (x : ℕ). Skips st h a e g x) (sym p) (z.skips g)).finds s at len f None b c (finds_end s st k e at len l) }

module _ (s st h : List ℕ) (a e at len g : ℕ) where
  -- what is found from row k on is what is found
  unfoldable pub Onward : ℕ → Type 0
  Onward k = (f : List ℕ → ℕ) (r : Found) → Ranked f s st 7 0 h → g ≡ f (part_of s at len) → FindsStated s st k e at len r → FindsStated s st a e at len r

  -- the start
  pub onward_start : (k : ℕ) → Skips st h a e g k → Onward k
  unfolding Onward
  onward_start k z f r b c u = z.finds s at len f r b c u

  module _ (k p n : ℕ) (o : Onward k) (l : k < e) (q : Bool) (c₁ : p ≡ get_or st (k * 7 + 0) 0) (c₂ : n ≡ get_or st (k * 7 + 1) 0) (d : q ≡ same (part_of s at len) (part_of s p n)) where
    name_same : q ≡ same (part_of s at len) (row_name s st 7 0 k)
    unfolding row_name
    name_same = d ∙ ap₂ (λ (x y : ℕ). same (part_of s at len) (part_of s x y)) c₁ c₂

    -- row k has the name
    pub onward_stop : q ≡ true → StatedRanked s st h a e at len g (Some k)
    unfolding Onward StatedRanked
    onward_stop t f b c = o f (Some k) b c (finds_here s st k e at len l (sym name_same ∙ t))

    -- it has not
    pub onward_more : q ≡ false → (x y : ℕ) → x ≡ row_after st k e → Skips st h x e g y → Onward y
    unfolding Onward
    onward_more t x y w z f r b c u =
        o f r b c (finds_after s st k e at len r l (sym name_same ∙ t) (subst (λ (v : ℕ). FindsStated s st v e at len r) w (z.finds s at len f r b c u)))

  -- the block ends
  pub onward_end : (k : ℕ) → Onward k → e ≤ k → StatedRanked s st h a e at len g None
  unfolding Onward StatedRanked
  onward_end k o l f b c = o f None b c (finds_end s st k e at len l)

-- the row behind is later
pub skips_later : (st h : List ℕ) (k e g x y : ℕ) → k < e → x ≡ row_after st k e → Skips st h x e g y → k < y
skips_later st h k e g x y l w z = omega (arith, w, z.later, after_later st k e l)

-- the first rows of the ranks
module _ (st h : List ℕ) (a e : ℕ) where
  -- none is noted
  pub firsts_none : (n : ℕ) → FirstsTo st h a e a (replicate n e)
  firsts_none n = record { skips = λ g l. by g (get_or-replicate n g e 0 (omega (arith, length-replicate n e))) }
    where
      by : (g : ℕ) → get_or (replicate n e) g 0 ≡ e → Skips st h a e g (pick (eqb (get_or (replicate n e) g 0) e) a (get_or (replicate n e) g 0))
      by g q = rw (q, eq-eqb e e refl) (skips_none st h a e g)

  -- the first rows of the ranks up to row k, and that row
  pub firsts_more : (F F' : List ℕ) (k x : ℕ) → FirstsTo st h a e k F → k < e → k < length h → F' ≡ first_noted F e (get_or h k 0) k
      → NextRow k (get_or st (k * 7 + 6) 0) e x → FirstsTo st h a e x F'
  unfolding first_noted
  firsts_more F F' k x z l j w n = subst (λ (u : List ℕ). FirstsTo st h a e x u) (sym w) (by (eqb (get_or F (get_or h k 0) 0) e) refl)
    where
      r : ℕ
      r = get_or h k 0

      -- another rank
      other : (g v : ℕ) → (r ≡ g → ⊥) → Skips st h a e g (pick (eqb v e) k v) → Skips st h a e g (pick (eqb v e) x v)
      other g v q = go (eqb v e)
        where
          go : (b : Bool) → Skips st h a e g (pick b k v) → Skips st h a e g (pick b x v)
          go true y = skips_more st h a e g k x y l j q n
          go false y = y

      by : (b : Bool) → eqb (get_or F r 0) e ≡ b → FirstsTo st h a e x (pick b (set F r k) F)
      by true q = record { skips = λ g d. at g (rw length-set at d) (ℕ_discrete g r) }
        where
          at : (g : ℕ) → g < length F → Dec (g ≡ r) → Skips st h a e g (pick (eqb (get_or (set F r k) g 0) e) x (get_or (set F r k) g 0))
          at g d (yes m) =
              let c : get_or (set F r k) g 0 ≡ k = ap (λ (u : ℕ). get_or (set F r k) u 0) m ∙ get_or-set_same F r k 0 (omega (arith, d, m)) in
              let t : eqb (get_or F g 0) e ≡ true = ap (λ (u : ℕ). eqb (get_or F u 0) e) m ∙ q in
              rw (c, ne_eqb k e (λ p. omega (arith, p, l))) (rw t at (z.skips g d))
          at g d (no m) = rw (get_or-set_other F r g k 0 m) (other g (get_or F g 0) (λ p. m (sym p)) (z.skips g d))
      by false q = record { skips = λ g d. at g d (ℕ_discrete g r) }
        where
          at : (g : ℕ) → g < length F → Dec (g ≡ r) → Skips st h a e g (pick (eqb (get_or F g 0) e) x (get_or F g 0))
          at g d (yes m) =
              let t : eqb (get_or F g 0) e ≡ false = ap (λ (u : ℕ). eqb (get_or F u 0) e) m ∙ q in
              rw t (rw t at (z.skips g d))
          at g d (no m) = other g (get_or F g 0) (λ p. m (sym p)) (z.skips g d)

  -- all rows of the block were looked at
  pub firsts_all : (F : List ℕ) (k : ℕ) → FirstsTo st h a e k F → k ≡ e → Firsts st h a e F
  unfolding start_of
  firsts_all F k z p = record { skips = λ g. by g (ltb g (length F)) refl }
    where
      by : (g : ℕ) (b : Bool) → ltb g (length F) ≡ b → Skips st h a e g (pick b (get_or F g 0) a)
      by g false q = skips_none st h a e g
      by g true q = go (eqb (get_or F g 0) e) refl (z.skips g (ltb-true g (length F) q))
        where
          go : (b : Bool) → eqb (get_or F g 0) e ≡ b → Skips st h a e g (pick b k (get_or F g 0)) → Skips st h a e g (get_or F g 0)
          go true t y = subst (λ (u : ℕ). Skips st h a e g u) (p ∙ sym (eqb-true (get_or F g 0) e t)) y
          go false t y = y

  -- or each search begins at the block's first row
  pub firsts_from : (n : ℕ) → Firsts st h a e (replicate n a)
  unfolding start_of
  firsts_from n = record { skips = λ g. by g (ltb g (length (replicate n a))) refl }
    where
      by : (g : ℕ) (b : Bool) → ltb g (length (replicate n a)) ≡ b → Skips st h a e g (pick b (get_or (replicate n a) g 0) a)
      by g false q = skips_none st h a e g
      by g true q = rw (get_or-replicate n g a 0 (omega (arith, length-replicate n a, ltb-true g (length (replicate n a)) q))) (skips_none st h a e g)

  pub firsts_filled : (F₀ F : List ℕ) (k : ℕ) → FirstsTo st h a e k F₀ → F ≡ replicate (length F₀) a → Firsts st h a e F
  firsts_filled F₀ F k z p = subst (λ (x : List ℕ). Firsts st h a e x) (sym p) (firsts_from (length F₀))

  -- with no cell
  pub firsts_empty : (F : List ℕ) → length F ≡ 0 → Firsts st h a e F
  unfolding start_of
  firsts_empty F n = record { skips = λ g. rw (le-ltb g (length F) (omega arith)) (skips_none st h a e g) }

module _ (F : List ℕ) (e g k : ℕ) where
  -- nothing is noted past the table, or where a row is noted
  pub noted_past : length F ≤ g → F ≡ first_noted F e g k
  unfolding first_noted
  noted_past h = by (eqb (get_or F g 0) e)
    where
      by : (b : Bool) → F ≡ pick b (set F g k) F
      by true = sym (set_out F g k h)
      by false = refl

  pub noted_here : get_or F g 0 ≡ e → set F g k ≡ first_noted F e g k
  unfolding first_noted
  noted_here q = rw (eq-eqb (get_or F g 0) e q)

  pub noted_not : (get_or F g 0 ≡ e → ⊥) → F ≡ first_noted F e g k
  unfolding first_noted
  noted_not q = rw (ne_eqb (get_or F g 0) e q)

-- where a search begins
module _ (F : List ℕ) (a g : ℕ) where
  pub start_noted : g < length F → get_or F g 0 ≡ start_of F a g
  unfolding start_of
  start_noted h = rw (lt-ltb g (length F) h)

  pub start_first : length F ≤ g → a ≡ start_of F a g
  unfolding start_of
  start_first h = rw (le-ltb g (length F) h)

module _ (s t : List ℕ) (w m : ℕ) (v : List ℕ) (i : ℕ) (st h F : List ℕ) (a e : ℕ) where
  module _ (m2 y at len : ℕ) (c : m2 ≡ min (length t) (m + 1)) (d : y ≡ min (length t) (i * w)) (u : at ≡ get_or t (y + m) 0) (o : len ≡ get_or t (y + m2) 0) where
    p : at ≡ get_or t (i * w + m) 0
    p = row_place t w m i y m2 at len c d u

    q : len ≡ get_or t (i * w + (m + 1)) 0
    q = row_size t w m i y m2 at len c d o

    -- what is found by the cells that were read
    pub found_at : (r : Found) → FindsStated s st a e at len r → FindsStated s st a e (get_or t (i * w + m) 0) (get_or t (i * w + (m + 1)) 0) r
    found_at r z =
        subst (λ (k : ℕ). FindsStated s st a e k (get_or t (i * w + (m + 1)) 0) r) p (subst (λ (k : ℕ). FindsStated s st a e at k r) q z)

    -- the row's name has a rank, and the rows before k have not
    pub row_ranked : (j k : ℕ) (r : Found) → i < length v → j ≡ start_of F a (get_or v i 0) → Skips st h j e (get_or v i 0) k → StatedRanked s st h k e at len (get_or v i 0) r → RowStated s t w m v i st h F a e r
    unfolding StatedRanked RowStated row_name
    row_ranked j k r l y x z f b g o =
        let x₀ = skips_on st h a e (get_or v i 0) j k (subst (λ (u : ℕ). Skips st h a e (get_or v i 0) u) (sym y) (o.skips (get_or v i 0))) x in
        let n : get_or v i 0 ≡ f (part_of s at len) = b.cell i l ∙ sym (ap₂ (λ (x y : ℕ). f (part_of s x y)) p q) in
        found_at r (x₀.finds s at len f r g n (z f g n))

  module _ (r : Found) where
    -- the row's name has none
    pub row_searched : FindsStated s st a e (get_or t (i * w + m) 0) (get_or t (i * w + (m + 1)) 0) r → RowStated s t w m v i st h F a e r
    unfolding RowStated
    row_searched z f b g o = z

  -- no row has it
  pub row_none : (j k : ℕ) → i < length v → j ≡ start_of F a (get_or v i 0) → Skips st h j e (get_or v i 0) k → e ≤ k → RowStated s t w m v i st h F a e None
  unfolding RowStated row_name
  row_none j k l y x g f b c o =
      (skips_on st h a e (get_or v i 0) j k (subst (λ (u : ℕ). Skips st h a e (get_or v i 0) u) (sym y) (o.skips (get_or v i 0))) x).finds s (get_or t (i * w + m) 0) (get_or t (i * w + (m + 1)) 0) f None c (b.cell i l) (finds_end s st k e (get_or t (i * w + m) 0) (get_or t (i * w + (m + 1)) 0) g)

  -- whether one is found
  pub row_is : (r z : Found) → RowStated s t w m v i st h F a e r → r ≡ z → IsRowStated s t w m v i st h F a e (is_found z)
  unfolding RowStated IsRowStated
  row_is r z n q f b c o =
      subst (λ (y : Found). IsStated s st a e (get_or t (i * w + m) 0) (get_or t (i * w + (m + 1)) 0) (is_found y)) q
      (is_stated (get_or t (i * w + m) 0) (get_or t (i * w + (m + 1)) 0) (n f b c o))
