-- The laws of the rows of the events and of their masks. Assumes nothing.
use mathlib.Core.Path.{◌≡◌, refl, sym, ◌∙◌, ap, ap₂}
use mathlib.Core.List.{List, [], ◌∷◌, ◌++◌}
use mathlib.Core.Bool.{Bool, true, false}
use Prim.Native.Nat.{ℕ, suc, ◌+◌, ◌*◌, ◌-◌, ◌<◌, ◌≤◌}
use native.Mathlib.Omega.{arith}
use native.Mathlib.Numerals.{add-one}
use lib.ListN.{length, get_or, set, drop, length-set}
use lib.Seq.{sets, sets-eq, get_or-set_same, get_or-set_other}
use lib.Dec.{eqb}
use borrow.Author.Tests.{eq-eqb, ne_eqb}
use Rattle.token.specs.Find.{pick, both}
use Rattle.token.specs.Tokens.{part_of}
use Rattle.token.specs.Words.{bytes_of, same}
use Rattle.rows.specs.Table.{cell_of}
use Rattle.rows.specs.Search.{row_name, find_from}
use Rattle.rows.specs.Found.{Found}
use Rattle.std.specs.Prelude.{Some, None}
use Rattle.rows.proofs.Stores.{sets_append}
use Rattle.rows.proofs.Searches.{find_stop, find_more, find_end}
use Rattle.masks.specs.Masks.{given, automatic}
use Rattle.masks.proofs.Reflections.{Order, less, more, order, same as equals}
use Rattle.masks.specs.Marks.{mask_at}
use Rattle.masks.specs.Members.{event_rows_at, PutEvent, PutEvents, is_mask_at, sort_found, amount_found, mask_found, PutGiven, Filled}

-- Events -----------------------------------------------------------------------------------------------------------------------------------

pub put_no : (o : List ℕ) (i : ℕ) (l : List ℕ) (e x : ℕ) → x ≡ cell_of o 8 i 0 → (x ≡ 7 → ⊥) → PutEvent o i l e l e
put_no o i l e x q z =
    let f : eqb (cell_of o 8 i 0) 7 ≡ false = ne_eqb (cell_of o 8 i 0) 7 (λ w. z (q ∙ w)) in
    record {
      stored = λ rest. ap (λ (b : Bool). sets l e (pick b (i ∷ rest) rest)) (sym f);
      next = λ rest. ap (λ (b : Bool). e + length (pick b (i ∷ rest) rest)) (sym f);
      high = omega arith;
    }

pub put_yes : (o : List ℕ) (i : ℕ) (l l' : List ℕ) (e x : ℕ) → x ≡ cell_of o 8 i 0 → x ≡ 7 → l' ≡ sets l e (i ∷ []) → PutEvent o i l e l' (e + 1)
put_yes o i l l' e x q z w =
    let f : eqb (cell_of o 8 i 0) 7 ≡ true = eq-eqb (cell_of o 8 i 0) 7 (sym q ∙ z) in
    record {
      stored = λ rest. ap (λ (y : List ℕ). sets y (e + 1) rest) w ∙ sym (sets_append l e (i ∷ []) rest) ∙ ap (λ (b : Bool). sets l e (pick b (i ∷ rest) rest)) (sym f);
      next = λ rest. let y : e + 1 + length rest ≡ e + length (i ∷ rest) = omega arith in y ∙ ap (λ (b : Bool). e + length (pick b (i ∷ rest) rest)) (sym f);
      high = omega arith;
    }

-- The events so far, e of them, and those left from row i on.
pub record Putting (l₀ o : List ℕ) (m : ℕ) (l : List ℕ) (i e : ℕ) : Type 0 where
  pub size : length l ≡ length l₀
  pub stored : sets l e (event_rows_at o (m - i) i) ≡ sets l₀ 0 (event_rows_at o m 0)
  pub count : e + length (event_rows_at o (m - i) i) ≡ length (event_rows_at o m 0)
  pub high : e ≤ i

pub putting_start : (l o : List ℕ) (m : ℕ) → Putting l o m l 0 0
putting_start l o m =
    let z : m - 0 ≡ m = omega arith in
    record {
      size = refl;
      stored = ap (λ (n : ℕ). sets l 0 (event_rows_at o n 0)) z;
      count = (let y : 0 + length (event_rows_at o (m - 0) 0) ≡ length (event_rows_at o (m - 0) 0) = omega arith in y ∙ ap (λ (n : ℕ). length (event_rows_at o n 0)) z);
      high = omega arith;
    }

pub putting_more : {l₀ o : List ℕ} {m : ℕ} {l l' : List ℕ} {i e r : ℕ} → i < m → length l' ≡ length l → PutEvent o i l e l' r → Putting l₀ o m l i e → Putting l₀ o m l' (i + 1) r
unfolding event_rows_at
putting_more {l₀} {o} {m} {l} {l'} {i} {e} {r} h n w q =
    let z : m - i ≡ suc (m - (i + 1)) = omega (arith, h) in
    let k = w.high in
    let g = q.high in
    let a : event_rows_at o (m - i) i ≡ pick (eqb (cell_of o 8 i 0) 7) (i ∷ event_rows_at o (m - (i + 1)) (i + 1)) (event_rows_at o (m - (i + 1)) (i + 1)) =
    ap (λ (c : ℕ). event_rows_at o c i) z ∙ ap (λ (c : ℕ). pick (eqb (cell_of o 8 i 0) 7) (i ∷ event_rows_at o (m - (i + 1)) c) (event_rows_at o (m - (i + 1)) c)) (sym (add-one i)) in
    record {
      size = n ∙ q.size;
      stored = w.stored (event_rows_at o (m - (i + 1)) (i + 1)) ∙ ap (sets l e) (sym a) ∙ q.stored;
      count = w.next (event_rows_at o (m - (i + 1)) (i + 1)) ∙ ap (λ (x : List ℕ). e + length x) (sym a) ∙ q.count;
      high = omega (arith, k, g);
    }

pub putting_end : {l₀ o : List ℕ} {m : ℕ} {l : List ℕ} {i e : ℕ} → m ≤ i → Putting l₀ o m l i e → PutEvents l₀ (event_rows_at o m 0) l e
unfolding event_rows_at
putting_end {l₀} {o} {m} {l} {i} {e} h q =
    let z : m - i ≡ 0 = omega (arith, h) in
    let y : e ≡ e + 0 = omega arith in
    record {
      stored = sym (ap (λ (c : ℕ). sets l e (event_rows_at o c i)) z) ∙ q.stored;
      count = y ∙ sym (ap (λ (c : ℕ). e + length (event_rows_at o c i)) z) ∙ q.count;
    }

-- Masks ------------------------------------------------------------------------------------------------------------------------------------

module _ (s d v : List ℕ) (row k x : ℕ) (e : x ≡ cell_of v 9 k 1) where
  pub mask_inner : (x ≡ 0 → ⊥) → false ≡ is_mask_at s d v row k
  unfolding is_mask_at
  mask_inner z = ap (λ (b : Bool). both (both b (eqb (cell_of v 9 k 2) row)) (same (row_name s d 13 2 (cell_of v 9 k 0)) (bytes_of "MASK"))) (sym (ne_eqb (cell_of v 9 k 1) 0 (λ q. z (e ∙ q))))

  pub mask_of_other : (y : ℕ) → x ≡ 0 → y ≡ cell_of v 9 k 2 → (y ≡ row → ⊥) → false ≡ is_mask_at s d v row k
  unfolding is_mask_at
  mask_of_other y z f g =
      ap (λ (b : Bool). both b (same (row_name s d 13 2 (cell_of v 9 k 0)) (bytes_of "MASK")))
      (sym (ap₂ both (eq-eqb (cell_of v 9 k 1) 0 (sym e ∙ z)) (ne_eqb (cell_of v 9 k 2) row (λ q. g (f ∙ q)))))

  pub mask_named : (y j a n : ℕ) (w : List ℕ) (r : Bool) → x ≡ 0 → y ≡ cell_of v 9 k 2 → y ≡ row → j ≡ cell_of v 9 k 0 → a ≡ get_or d (j * 13 + 2) 0 → n ≡ get_or d (j * 13 + 3) 0 → w ≡ part_of s a n → r ≡ same w (bytes_of "MASK") → r ≡ is_mask_at s d v row k
  unfolding is_mask_at row_name
  mask_named y j a n w r z f g h p q u t =
      t ∙ ap (λ (c : List ℕ). same c (bytes_of "MASK")) (u ∙ ap₂ (part_of s) (p ∙ ap (λ (c : ℕ). get_or d (c * 13 + 2) 0) h) (q ∙ ap (λ (c : ℕ). get_or d (c * 13 + 3) 0) h))
      ∙ ap (λ (b : Bool). both b (same (row_name s d 13 2 (cell_of v 9 k 0)) (bytes_of "MASK")))
      (sym (ap₂ both (eq-eqb (cell_of v 9 k 1) 0 (sym e ∙ z)) (eq-eqb (cell_of v 9 k 2) row (sym f ∙ g))))

module _ (t : ℕ → Bool) (n : ℕ) where
  pub seek_stop : (k : ℕ) → k < n → t k ≡ true → find_from t n k ≡ find_from t n 0 → Some k ≡ find_from t n 0
  seek_stop k h e q = sym (find_stop t n k h e) ∙ q

  pub seek_more : (k : ℕ) → k < n → t k ≡ false → find_from t n k ≡ find_from t n 0 → find_from t n (k + 1) ≡ find_from t n 0
  seek_more k h e q = sym (find_more t n k h e) ∙ q

  pub seek_end : (k : ℕ) → n ≤ k → find_from t n k ≡ find_from t n 0 → None ≡ find_from t n 0
  seek_end k h q = sym (find_end t n k h) ∙ q

-- The two cells of an event's mask, stored.
pub stored_given : (v l : List ℕ) (f : Found) (j a b : ℕ) → j * 2 + 1 < length l → a ≡ sort_found v f → b ≡ amount_found v f → PutGiven v f j l (set (set l (j * 2) a) (j * 2 + 1) b)
unfolding mask_at mask_found
stored_given v l f j a b h e q = record {
  size = length-set (set l (j * 2) a) (j * 2 + 1) b ∙ length-set l (j * 2) a;
  own =
      ap₂ (λ (x y : ℕ). pick (eqb x 0) (given y) automatic)
      (get_or-set_other (set l (j * 2) a) (j * 2 + 1) (j * 2 + 0) b 0 (λ (z : j * 2 + 0 ≡ j * 2 + 1). omega (arith, z)) ∙ ap (λ (i : ℕ). get_or (set l (j * 2) a) i 0) z0 ∙ get_or-set_same l (j * 2) a 0 low ∙ e)
      (get_or-set_same (set l (j * 2) a) (j * 2 + 1) b 0 high ∙ q);
  others = λ i n.
      ap₂ (λ (x y : ℕ). pick (eqb x 0) (given y) automatic)
      (get_or-set_other (set l (j * 2) a) (j * 2 + 1) (i * 2 + 0) b 0 (λ (z : i * 2 + 0 ≡ j * 2 + 1). omega (arith, z)) ∙ get_or-set_other l (j * 2) (i * 2 + 0) a 0 (λ (z : i * 2 + 0 ≡ j * 2). n (omega (arith, z))))
      (get_or-set_other (set l (j * 2) a) (j * 2 + 1) (i * 2 + 1) b 0 (λ (z : i * 2 + 1 ≡ j * 2 + 1). n (omega (arith, z))) ∙ get_or-set_other l (j * 2) (i * 2 + 1) a 0 (λ (z : i * 2 + 1 ≡ j * 2). omega (arith, z)));
}
  where
    z0 : j * 2 + 0 ≡ j * 2
    z0 = omega arith

    low : j * 2 < length l
    low = omega (arith, h)

    high : j * 2 + 1 < length (set l (j * 2) a)
    high = let x = length-set l (j * 2) a in omega (arith, h, x)

pub sort_at : (v : List ℕ) (f : Found) (k r : ℕ) → f ≡ Some k → r ≡ cell_of v 9 k 3 → r ≡ sort_found v f
unfolding sort_found
sort_at v f k r e q = q ∙ ap (sort_found v) (sym e)

pub sort_nothing : (v : List ℕ) (f : Found) → f ≡ None → 2 ≡ sort_found v f
unfolding sort_found
sort_nothing v f e = ap (sort_found v) (sym e)

pub amount_at : (v : List ℕ) (f : Found) (k r : ℕ) → f ≡ Some k → r ≡ cell_of v 9 k 5 → r ≡ amount_found v f
unfolding amount_found
amount_at v f k r e q = q ∙ ap (amount_found v) (sym e)

pub amount_nothing : (v : List ℕ) (f : Found) → f ≡ None → 0 ≡ amount_found v f
unfolding amount_found
amount_nothing v f e = ap (amount_found v) (sym e)

-- The masks of the first j events are stored.
pub filled_none : (s d v : List ℕ) (n : ℕ) (rows l : List ℕ) → Filled s d v n rows 0 l l
filled_none s d v n rows l = record { size = refl; masks = λ j h. absurd (omega (arith, h)) }

pub filled_more : {s d v : List ℕ} {n : ℕ} {rows : List ℕ} {l l₁ l₂ : List ℕ} {j : ℕ} (f : Found) (r : ℕ) → r ≡ get_or rows j 0 → f ≡ find_from (is_mask_at s d v r) n 0
    → PutGiven v f j l₁ l₂ → Filled s d v n rows j l l₁ → Filled s d v n rows (j + 1) l l₂
filled_more {s} {d} {v} {n} {rows} {l} {l₁} {l₂} {j} f r e q w h = record { size = w.size ∙ h.size; masks = λ i b. go i b (order i j) }
  where
    go : (i : ℕ) → i < j + 1 → Order i j → mask_at l₂ i ≡ mask_found v (find_from (is_mask_at s d v (get_or rows i 0)) n 0)
    go i b (less c) = w.others i (λ (z : i ≡ j). omega (arith, c, z)) ∙ h.masks i c
    go i b (equals z) =
        ap (mask_at l₂) z ∙ w.own ∙ ap (mask_found v) q
        ∙ ap (λ (y : ℕ). mask_found v (find_from (is_mask_at s d v y) n 0)) (e ∙ ap (λ (y : ℕ). get_or rows y 0) (sym z))
    go i b (more c) = absurd (omega (arith, b, c))

pub filled_end : {s d v : List ℕ} {n : ℕ} {rows : List ℕ} {l l' : List ℕ} (j e : ℕ) → e ≤ j → Filled s d v n rows j l l' → Filled s d v n rows e l l'
filled_end j e h f = record { size = f.size; masks = λ i b. let c : i < j = omega (arith, b, h) in f.masks i c }

-- The cells of v over the first ones of l.
pub sets_front : (v l : List ℕ) → length v ≤ length l → v ++ drop (length v) l ≡ sets l 0 v
sets_front v l h = let e : 0 + length v ≤ length l = omega (arith, h) in let z : 0 + length v ≡ length v = omega arith in ap (λ (n : ℕ). v ++ drop n l) (sym z) ∙ sym (sets-eq v l 0 e)
