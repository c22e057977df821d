-- The laws of told lengths: a name's and a text's at a time. Assumes nothing.
use Prim.Native.Nat.{ℕ, suc, ◌+◌, ◌-◌, ◌*◌, ◌/◌, ◌%◌, ◌≤◌, ◌<◌}
use mathlib.Core.List.{List, [], ◌∷◌}
use mathlib.Core.Bool.{Bool, true, false, false≢true}
use mathlib.Core.Logic.{◌⊎◌, inl, inr, ⊎_elim}
use native.Mathlib.Nat.{eq-or-lt_of_le}
use native.Mathlib.Numerals.{add-one}
use mathlib.Core.Path.{◌≡◌, refl, sym, ◌∙◌, ap}
use native.Mathlib.Omega.{arith}
use lib.ListN.{length, get_or, drop, drop_of_length-le}
use lib.Seq.{drop-cons}
use lib.Dec.{leb, eqb}
use borrow.Author.Tests.{le-leb, lt-leb, leb-true, eq-eqb, ne_eqb}
use Rattle.token.specs.Find.{pick, both}
use Rattle.token.specs.Words.{same}
use Rattle.token.specs.Tokens.{bytes_between}
use Rattle.token.proofs.Bytes.{both_true, both_second, both_false}
use Rattle.sources.specs.Texts.{fitting, told_well, find_from}
use Rattle.std.specs.Prelude.{Some, None}

module _ (b : List ℕ) (a : ℕ) (l : List ℕ) (i : ℕ) where
  pub two : i + 1 < length l → drop i l ≡ get_or l i 0 ∷ get_or l (i + 1) 0 ∷ drop (i + 2) l
  two h =
      let e : suc i ≡ i + 1 = omega arith in
      let f : suc (i + 1) ≡ i + 2 = omega arith in
      drop-cons l i 0 (omega arith)
      ∙ ap (λ (x : List ℕ). get_or l i 0 ∷ x) (ap (λ (k : ℕ). drop k l) e ∙ drop-cons l (i + 1) 0 h ∙ ap (λ (k : ℕ). get_or l (i + 1) 0 ∷ drop k l) f)

  one : i + 1 ≡ length l → drop i l ≡ get_or l i 0 ∷ []
  one h =
      let e : length l ≤ suc i = omega arith in
      drop-cons l i 0 (omega arith) ∙ ap (λ (x : List ℕ). get_or l i 0 ∷ x) (drop_of_length-le l e)

  pub fit_end : length l ≤ i → fitting b a (drop i l) ≡ true
  unfolding fitting
  fit_end h = ap (fitting b a) (drop_of_length-le l h)

  pub fit_one : i + 1 ≡ length l → fitting b a (drop i l) ≡ false
  unfolding fitting
  fit_one h = ap (fitting b a) (one h)

  opened : i + 1 < length l → fitting b a (drop i l) ≡ both (leb (get_or l i 0) (length b - a)) (both (leb (get_or l (i + 1) 0) (length b - (a + get_or l i 0))) (both (leb (get_or l (i + 1) 0) 65535) (fitting b (a + get_or l i 0 + get_or l (i + 1) 0) (drop (i + 2) l))))
  unfolding fitting
  opened h = ap (fitting b a) (two h)

  pub fit_name : i + 1 < length l → length b - a < get_or l i 0 → fitting b a (drop i l) ≡ false
  fit_name h k = opened h ∙ rw (lt-leb (get_or l i 0) (length b - a) k)

  pub fit_text : i + 1 < length l → length b - (a + get_or l i 0) < get_or l (i + 1) 0 → fitting b a (drop i l) ≡ false
  fit_text h k = opened h ∙ rw (lt-leb (get_or l (i + 1) 0) (length b - (a + get_or l i 0)) k) (both_false (leb (get_or l i 0) (length b - a)))

  pub fit_long : i + 1 < length l → get_or l i 0 ≤ length b - a → get_or l (i + 1) 0 ≤ length b - (a + get_or l i 0) → 65535 < get_or l (i + 1) 0 → fitting b a (drop i l) ≡ false
  fit_long h j k m =
      opened h
      ∙ rw (le-leb (get_or l i 0) (length b - a) j, le-leb (get_or l (i + 1) 0) (length b - (a + get_or l i 0)) k, lt-leb (get_or l (i + 1) 0) 65535 m)

  pub fit_more : i + 1 < length l → get_or l i 0 ≤ length b - a → get_or l (i + 1) 0 ≤ length b - (a + get_or l i 0) → get_or l (i + 1) 0 ≤ 65535 → fitting b a (drop i l) ≡ fitting b (a + get_or l i 0 + get_or l (i + 1) 0) (drop (i + 2) l)
  fit_more h j k m =
      opened h
      ∙ rw (le-leb (get_or l i 0) (length b - a) j, le-leb (get_or l (i + 1) 0) (length b - (a + get_or l i 0)) k, le-leb (get_or l (i + 1) 0) 65535 m)

  -- what is known of a name and a text that lie in the buffer
  pub record Fits : Type 0 where
    pub two_left : i + 1 < length l
    pub name : get_or l i 0 ≤ length b - a
    pub text : get_or l (i + 1) 0 ≤ length b - (a + get_or l i 0)
    pub short : get_or l (i + 1) 0 ≤ 65535
    pub more : fitting b (a + get_or l i 0 + get_or l (i + 1) 0) (drop (i + 2) l) ≡ true

halves : (n k : ℕ) → k ≡ n / 2 → (n ≡ k * 2) ⊎ (n ≡ k * 2 + 1)
halves n k e = grind arith

pub record Four (a b c d : Bool) : Type 0 where
  pub first : a ≡ true
  pub second : b ≡ true
  pub third : c ≡ true
  pub fourth : d ≡ true

pub four : (a b c d : Bool) → both a (both b (both c d)) ≡ true → Four a b c d
four true true true true e = record { first = refl; second = refl; third = refl; fourth = refl }
four true true true false e = absurd (false≢true e)
four true true false d e = absurd (false≢true e)
four true false c d e = absurd (false≢true e)
four false b c d e = absurd (false≢true e)

-- past the name and the text of one number stand those of the next
pub on_two : (l : List ℕ) (k : ℕ) → drop ((k + 1) * 2) l ≡ drop (k * 2 + 2) l
on_two l k = let e : (k + 1) * 2 ≡ k * 2 + 2 = omega arith in ap (λ (i : ℕ). drop i l) e

pub fit_last : (b : List ℕ) (a : ℕ) (l : List ℕ) (k : ℕ) → k ≡ length l / 2 → eqb (length l % 2) 0 ≡ fitting b a (drop (k * 2) l)
fit_last b a l k e =
    ⊎_elim
    (λ (z : length l ≡ k * 2). rw (eq-eqb (length l % 2) 0 (omega arith), fit_end b a l (k * 2) (omega arith)))
    (λ (z : length l ≡ k * 2 + 1). rw (ne_eqb (length l % 2) 0 (λ g. omega arith), fit_one b a l (k * 2) (omega arith))) (halves (length l) k e)

module _ (b : List ℕ) (a : ℕ) (l : List ℕ) (i : ℕ) where
  pub fits : i < length l → fitting b a (drop i l) ≡ true → Fits b a l i
  fits g e =
      let h : i + 1 < length l =
      ⊎_elim
      (λ (z : suc i ≡ length l). let y : i + 1 ≡ length l = omega arith in absurd (false≢true (sym (fit_one b a l i y) ∙ e)))
      (λ (z : suc i < length l). omega arith) (eq-or-lt_of_le g) in
      let f = four (leb (get_or l i 0) (length b - a)) (leb (get_or l (i + 1) 0) (length b - (a + get_or l i 0))) (leb (get_or l (i + 1) 0) 65535) (fitting b (a + get_or l i 0 + get_or l (i + 1) 0) (drop (i + 2) l)) (sym (opened b a l i h) ∙ e) in
      record {
        two_left = h;
        name = leb-true (get_or l i 0) (length b - a) f.first;
        text = leb-true (get_or l (i + 1) 0) (length b - (a + get_or l i 0)) f.second;
        short = leb-true (get_or l (i + 1) 0) 65535 f.third;
        more = f.fourth;
      }

-- after the last whole pair of lengths, nothing is left
pub all_told : (b : List ℕ) (a : ℕ) (l : List ℕ) (k : ℕ) → k ≡ length l / 2 → fitting b a (drop (k * 2) l) ≡ true → length l ≤ k * 2
all_told b a l k e f =
    ⊎_elim
    (λ (z : length l ≡ k * 2). omega arith)
    (λ (z : length l ≡ k * 2 + 1). let g : k * 2 + 1 ≡ length l = omega arith in absurd (false≢true (sym (fit_one b a l (k * 2) g) ∙ f))) (halves (length l) k e)

-- looking for a name
module _ (b : List ℕ) (k a : ℕ) (l : List ℕ) (i : ℕ) (w : List ℕ) where
  found : i + 1 < length l → find_from b k a (drop i l) w ≡ pick (same (bytes_between b a (a + get_or l i 0)) w) (Some (k, a + get_or l i 0, a + get_or l i 0 + get_or l (i + 1) 0)) (find_from b (suc k) (a + get_or l i 0 + get_or l (i + 1) 0) (drop (i + 2) l) w)
  unfolding find_from
  found h = ap (λ (x : List ℕ). find_from b k a x w) (two b a l i h)

  pub find_here : i + 1 < length l → same (bytes_between b a (a + get_or l i 0)) w ≡ true → find_from b k a (drop i l) w ≡ Some (k, a + get_or l i 0, a + get_or l i 0 + get_or l (i + 1) 0)
  find_here h e = found h ∙ rw e

  find_on : i + 1 < length l → same (bytes_between b a (a + get_or l i 0)) w ≡ false → find_from b k a (drop i l) w ≡ find_from b (k + 1) (a + get_or l i 0 + get_or l (i + 1) 0) (drop (i + 2) l) w
  find_on h e = found h ∙ rw (e, add-one k)

  find_none : length l ≤ i → find_from b k a (drop i l) w ≡ None
  unfolding find_from
  find_none h = ap (λ (x : List ℕ). find_from b k a x w) (drop_of_length-le l h)

pub find_next : (b : List ℕ) (a : ℕ) (l : List ℕ) (k : ℕ) (w : List ℕ) → k * 2 + 1 < length l → same (bytes_between b a (a + get_or l (k * 2) 0)) w ≡ false → find_from b k a (drop (k * 2) l) w ≡ find_from b (k + 1) (a + get_or l (k * 2) 0 + get_or l (k * 2 + 1) 0) (drop ((k + 1) * 2) l) w
find_next b a l k w h e = find_on b k a l (k * 2) w h e ∙ ap (λ (x : List ℕ). find_from b (k + 1) (a + get_or l (k * 2) 0 + get_or l (k * 2 + 1) 0) x w) (sym (on_two l k))

pub find_last : (b : List ℕ) (k a : ℕ) (l w : List ℕ) → k ≡ length l / 2 → fitting b a (drop (k * 2) l) ≡ true → find_from b k a (drop (k * 2) l) w ≡ None
find_last b k a l w e f = find_none b k a l (k * 2) w (all_told b a l k e f)

-- how many are told
pub told_none : (b l : List ℕ) → length l ≡ 0 → told_well b l ≡ false
unfolding told_well
told_none b l h = rw (lt-leb 1 (length l) (omega arith))

pub told_many : (b l : List ℕ) → 16 < length l → told_well b l ≡ false
unfolding told_well
told_many b l h = rw (lt-leb (length l) 16 h) (both_false (leb 1 (length l)))

pub told_some : (b l : List ℕ) → (length l ≡ 0 → ⊥) → length l ≤ 16 → told_well b l ≡ fitting b 0 l
unfolding told_well
told_some b l n h = rw (le-leb 1 (length l) (omega arith), le-leb (length l) 16 h)

pub record Told (b l : List ℕ) : Type 0 where
  pub some : 1 ≤ length l
  pub few : length l ≤ 16
  pub fit : fitting b 0 l ≡ true

pub told : (b l : List ℕ) → told_well b l ≡ true → Told b l
unfolding told_well
told b l e =
    let f = both_second (leb 1 (length l)) (both (leb (length l) 16) (fitting b 0 l)) e in
    record {
      some = leb-true 1 (length l) (both_true (leb 1 (length l)) (both (leb (length l) 16) (fitting b 0 l)) e);
      few = leb-true (length l) 16 (both_true (leb (length l) 16) (fitting b 0 l) f);
      fit = both_second (leb (length l) 16) (fitting b 0 l) f;
    }
