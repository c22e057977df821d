-- The laws of the told lengths while texts are added. Assumes nothing.
use Prim.Native.Nat.{ℕ, zero, suc, ◌+◌, ◌-◌, ◌*◌, ◌≤◌, ◌<◌}
use mathlib.Core.Path.{◌≡◌, refl, ◌∙◌, ap, subst}
use mathlib.Core.List.{List, [], ◌∷◌}
use native.Mathlib.Omega.{arith}
use lib.ListN.{length, get_or, take, set, length-set}
use lib.Seq.{length-take-le, get_or-set_same}
use lib.Dec.{leb}
use borrow.Author.Tests.{le-leb}
use Rattle.token.specs.Find.{both}
use Rattle.sources.specs.Texts.{fitting, told_well}
use Rattle.gathering.specs.Gathered.{all_short, MainTold, Gathered, Fits}
use Rattle.gathering.specs.declared.Added.{Added}
use Rattle.std.specs.Prelude.{Option, Some}

-- the bytes that these lengths tell
abbrev pub total : List ℕ → ℕ
total [] = 0
total (n ∷ l) = n + total l

-- one length more
pub total_set : (l : List ℕ) (i x : ℕ) → i < length l → total (take (suc i) (set l i x)) ≡ total (take i l) + x
total_set [] i x h = omega arith
total_set (y ∷ l) zero x h = let e : total (take 1 (set (y ∷ l) 0 x)) ≡ x + 0 = refl in omega (arith, e)
total_set (y ∷ l) (suc i) x h = let e = total_set l i x (omega arith) in omega (arith, e)

-- two more, a name's and a text's
pub total_two : (l : List ℕ) (i n t : ℕ) → i + 1 < length l → total (take (i + 2) (set (set l i n) (i + 1) t)) ≡ total (take i l) + n + t
total_two l i n t h =
    let e : i + 2 ≡ suc (i + 1) = omega arith in
    let f : i + 1 ≡ suc i = omega arith in
    let k : i + 1 < length (set l i n) = simp length-set h in
    ap (λ (j : ℕ). total (take j (set (set l i n) (i + 1) t))) e
    ∙ total_set (set l i n) (i + 1) t k
    ∙ ap (λ (j : ℕ). total (take j (set l i n)) + t) f
    ∙ ap (λ (j : ℕ). j + t) (total_set l i n (omega arith))

-- what lies in the buffer fits, unless a text is too long
pub fits : (b : List ℕ) (a : ℕ) (l : List ℕ) → a + total l ≤ length b → fitting b a l ≡ all_short l
unfolding fitting all_short
fits b a [] h = refl
fits b a (n ∷ []) h = refl
fits b a (n ∷ t ∷ l) h =
    let e : total (n ∷ t ∷ l) ≡ n + (t + total l) = refl in
    let f : n ≤ length b - a = omega (arith, e) in
    let g : t ≤ length b - (a + n) = omega (arith, e) in
    let k : a + n + t + total l ≤ length b = omega (arith, e) in
    rw (le-leb n (length b - a) f, le-leb t (length b - (a + n)) g)
    (ap (both (leb t 65535)) (fits b (a + n + t) l k))

pub told : (b l : List ℕ) (r : ℕ) → 1 ≤ r → r ≤ 16 → r ≤ length l → total (take r l) ≤ length b → told_well b (take r l) ≡ all_short (take r l)
unfolding told_well
told b l r g h k m =
    let e : length (take r l) ≡ r = length-take-le r l k in
    rw (e, le-leb 1 r g, le-leb r 16 h)
    (fits b 0 (take r l) (omega (arith, m)))

-- the first length stays
pub first_kept : (l : List ℕ) (i x : ℕ) → 1 ≤ i → get_or (set l i x) 0 0 ≡ get_or l 0 0
first_kept [] i x h = refl
first_kept (y ∷ l) zero x h = omega arith
first_kept (y ∷ l) (suc i) x h = refl

-- what an added text has
pub bounds : {r : Option Added} {a : Added} → Fits r → r ≡ Some a → (a.name ≤ 4095) × (a.text ≤ 65536)
bounds f e = subst Fits e f

-- So far: r lengths are told, of u bytes, in memory that is as long as at the start.
pub record SoFar (b₀ l₀ g₀ b l g : List ℕ) (u r : ℕ) : Type 0 where
  pub bytes : length b ≡ length b₀
  pub lengths : length l ≡ length l₀
  pub origins : length g ≡ length g₀
  pub most : r ≤ 16
  pub least : 2 ≤ r
  pub used : u + u ≤ 69631 * r
  pub main : get_or l 0 0 ≡ 0
  pub sum : total (take r l) ≡ u

-- one text more
pub onward : {b₀ l₀ g₀ b l g : List ℕ} {u r : ℕ} (b' g' : List ℕ) (n t : ℕ) → SoFar b₀ l₀ g₀ b l g u r → length b' ≡ length b → length g' ≡ length g → r < 15 → 16 ≤ length l₀ → (n ≤ 4095) × (t ≤ 65536) → SoFar b₀ l₀ g₀ b' (set (set l r n) (r + 1) t) g' (u + n + t) (r + 2)
onward {l = l} {r = r} b' g' n t s e f h k w =
    let p : length (set (set l r n) (r + 1) t) ≡ length l = simp length-set refl in
    let m : get_or (set (set l r n) (r + 1) t) 0 0 ≡ get_or l 0 0 = first_kept (set l r n) (r + 1) t (omega arith) ∙ first_kept l r n (omega (arith, s.least)) in
    let q : r + 1 < length l = omega (arith, s.lengths) in
    record {
      bytes = e ∙ s.bytes;
      lengths = p ∙ s.lengths;
      origins = f ∙ s.origins;
      most = omega arith;
      least = omega arith;
      used = omega (arith, s.used, w.0, w.1);
      main = m ∙ s.main;
      sum = total_two l r n t q ∙ ap (λ (x : ℕ). x + n + t) s.sum;
    }

-- the text of the next number
pub onward_next : {b₀ l₀ g₀ b l g : List ℕ} {u k : ℕ} (b' g' : List ℕ) (n t : ℕ) → SoFar b₀ l₀ g₀ b l g u (k * 2) → length b' ≡ length b → length g' ≡ length g → k < 8 → 16 ≤ length l₀ → (n ≤ 4095) × (t ≤ 65536) → SoFar b₀ l₀ g₀ b' (set (set l (k * 2) n) (k * 2 + 1) t) g' (u + n + t) ((k + 1) * 2)
onward_next {b₀ = b₀} {l₀ = l₀} {g₀ = g₀} {l = l} {u = u} {k = k} b' g' n t s e f h m w =
    let next : k * 2 + 2 ≡ (k + 1) * 2 = omega arith in
    let below : k * 2 < 15 = omega arith in
    subst (λ (r : ℕ). SoFar b₀ l₀ g₀ b' (set (set l (k * 2) n) (k * 2 + 1) t) g' (u + n + t) r) next (onward b' g' n t s e f below m w)

-- what a file that is not added left in the buffer is not told
pub unchanged : {b₀ l₀ g₀ b l g : List ℕ} {u r : ℕ} (b' : List ℕ) → SoFar b₀ l₀ g₀ b l g u r → length b' ≡ length b → SoFar b₀ l₀ g₀ b' l g u r
unchanged b' s e =
    record {
      bytes = e ∙ s.bytes;
      lengths = s.lengths;
      origins = s.origins;
      most = s.most;
      least = s.least;
      used = s.used;
      main = s.main;
      sum = s.sum;
    }

-- the end
pub gathered : {b₀ l₀ g₀ b l g : List ℕ} {u r n : ℕ} → SoFar b₀ l₀ g₀ b l g u r → MainTold b₀ l₀ n → Gathered b l r
gathered {b = b} {l = l} {r = r} s w =
    let k : r ≤ length l = omega (arith, s.most, s.lengths, w.lengths) in
    let m : total (take r l) ≤ length b = omega (arith, s.most, s.used, s.sum, s.bytes, w.bytes) in
    record {
      main = s.main;
      told = told b l r (omega (arith, s.least)) s.most k m;
    }

-- the end after all eight
pub gathered_all : {b₀ l₀ g₀ b l g : List ℕ} {u k n : ℕ} → SoFar b₀ l₀ g₀ b l g u (k * 2) → k ≡ 8 → MainTold b₀ l₀ n → Gathered b l 16
gathered_all {b = b} {l = l} {k = k} s e w =
    let all : k * 2 ≡ 16 = omega arith in
    subst (Gathered b l) all (gathered s w)

-- one length is no text
told_none : (b l : List ℕ) → 0 < length l → told_well b (take 1 l) ≡ all_short (take 1 l)
unfolding told_well fitting all_short
told_none b [] h = absurd (omega arith)
told_none b (n ∷ l) h = refl

-- nothing is told of a main text that was not read
pub none_told : (b l : List ℕ) → 16 ≤ length l → Gathered b (set l 0 0) 1
none_told b l h =
    let e : length (set l 0 0) ≡ length l = simp length-set refl in
    record {
      main = get_or-set_same l 0 0 0 (omega arith);
      told = told_none b (set l 0 0) (omega (arith, e));
    }

-- nor where another was not
pub gathered_none : {b₀ l₀ g₀ b l g : List ℕ} {u r n : ℕ} (b' : List ℕ) → SoFar b₀ l₀ g₀ b l g u r → MainTold b₀ l₀ n → Gathered b' l 1
gathered_none {l = l} b' s w =
    record {
      main = s.main;
      told = told_none b' l (omega (arith, s.lengths, w.lengths));
    }
