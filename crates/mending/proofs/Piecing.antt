-- Laws of the pieces of a text, and of the loops over them. Assumes nothing.
use mathlib.Core.Path.{◌≡◌, refl, sym, ◌∙◌, ap, subst}
use mathlib.Core.List.{List, [], ◌∷◌, ◌++◌, append_assoc, append-nil}
use mathlib.Core.Bool.{Bool, true, false, false≢true}
use Prim.Native.Nat.{ℕ, zero, suc, ◌+◌, ◌-◌, ◌≤◌, ◌<◌}
use native.Mathlib.Omega.{arith}
use native.Mathlib.Decide.{dec_le}
use native.Mathlib.Numerals.{add-one}
use lib.ListN.{length, get_or, set, length-set}
use lib.Seq.{sets}
use lib.Dec.{eqb}
use borrow.Author.Tests.{eq-eqb, ne_eqb, eqb-true, lt-ltb, le-ltb}
use Rattle.token.specs.Find.{pick, both, byte}
use Rattle.meaning.specs.Words.{choose}
use Rattle.writing.specs.Wrote.{Wrote}
use Rattle.writing.proofs.Writes.{wrote_length, wrote_low, wrote_then, wrote_as, wrote_none}
use Rattle.mending.specs.Ends.{end_of}
use Rattle.mending.specs.Pieces.{Piece, piece_at, next_place, pieces_in, pieces, kept_of, dropped_of, bytes_at, line, lines}
use Rattle.mending.specs.Promises.{marked, next_by, kept_by, mended_by, lines_by, is_here, left_after, stored, place_after, line_at, PutsKept, PutsMended}
use Rattle.mending.proofs.Endings.{end_after, end_inside}

-- The place after a piece --------------------------------------------------------------------------------------------------------------------

pub next_on : (k : ℕ) (s : List ℕ) (p : ℕ) → p < length s → p < next_place k s p
unfolding next_place
next_on zero s p h = omega arith
next_on (suc n) s p h = end_after s p h

pub next_in : (k : ℕ) (s : List ℕ) (p : ℕ) → p < length s → next_place k s p ≤ length s
unfolding next_place
next_in zero s p h = omega arith
next_in (suc n) s p h = end_inside s p h

-- All pieces ---------------------------------------------------------------------------------------------------------------------------------

module _ (s : List ℕ) (m : ℕ → ℕ) where
  in_here : (n p : ℕ) → p < length s → pieces_in (suc n) s (length s) m p ≡ piece_at (m p) s p ∷ pieces_in n s (length s) m (next_place (m p) s p)
  unfolding pieces_in choose
  in_here n p h = ap (λ (b : Bool). choose b (λ _. piece_at (m p) s p ∷ pieces_in n s (length s) m (next_place (m p) s p)) (λ _. [])) (lt-ltb p (length s) h)

  in_past : (n p : ℕ) → length s ≤ p → pieces_in n s (length s) m p ≡ []
  unfolding pieces_in choose
  in_past zero p h = refl
  in_past (suc n) p h = ap (λ (b : Bool). choose b (λ _. piece_at (m p) s p ∷ pieces_in n s (length s) m (next_place (m p) s p)) (λ _. [])) (le-ltb p (length s) h)

  enough : (n k p : ℕ) → length s ≤ p + n → length s ≤ p + k → pieces_in n s (length s) m p ≡ pieces_in k s (length s) m p
  enough zero k p h i = in_past zero p (omega arith) ∙ sym (in_past k p (omega arith))
  enough (suc n) zero p h i = in_past (suc n) p (omega arith) ∙ sym (in_past zero p (omega arith))
  enough (suc n) (suc k) p h i = by_place (λ q a b. enough n k q a b) (dec_le (length s) p)
    where
      by_place : ((q : ℕ) → length s ≤ q + n → length s ≤ q + k → pieces_in n s (length s) m q ≡ pieces_in k s (length s) m q) → Dec (length s ≤ p)
          → pieces_in (suc n) s (length s) m p ≡ pieces_in (suc k) s (length s) m p
      by_place f (yes l) = in_past (suc n) p l ∙ sym (in_past (suc k) p l)
      by_place f (no l) =
          let j : p < length s = omega arith in
          let o = next_on (m p) s p j in
          in_here n p j ∙ ap (piece_at (m p) s p ∷◌) (f (next_place (m p) s p) (omega arith) (omega arith)) ∙ sym (in_here k p j)

  pub pieces_here : (p : ℕ) → p < length s → pieces s m p ≡ piece_at (m p) s p ∷ pieces s m (next_place (m p) s p)
  unfolding pieces
  pieces_here p h =
      let o = next_on (m p) s p h in
      enough (length s - p) (suc (length s - p)) p (omega arith) (omega arith)
      ∙ in_here (length s - p) p h
      ∙ ap (piece_at (m p) s p ∷◌) (enough (length s - p) (length s - next_place (m p) s p) (next_place (m p) s p) (omega arith) (omega arith))

  pub pieces_past : (p : ℕ) → length s ≤ p → pieces s m p ≡ []
  unfolding pieces
  pieces_past p h = in_past (length s - p) p h

-- The pieces by marks ------------------------------------------------------------------------------------------------------------------------

module _ (s m : List ℕ) (p : ℕ) (h : p < length s) where
  -- by the mark k at p
  pieces_by : (k : ℕ) → marked m p ≡ k → pieces s (marked m) p ≡ piece_at k s p ∷ pieces s (marked m) (next_place k s p)
  pieces_by k e =
      pieces_here s (marked m) p h ∙ ap (λ (j : ℕ). piece_at j s p ∷ pieces s (marked m) (next_place j s p)) e

  next_is : (k : ℕ) → marked m p ≡ k → next_by s m p ≡ next_place k s p
  unfolding next_by
  next_is k e = ap (λ (j : ℕ). next_place j s p) e

  kept_keep : marked m p ≡ 0 → kept_by s m p ≡ p ∷ kept_by s m (next_by s m p)
  unfolding kept_by kept_of piece_at
  kept_keep e = ap kept_of (pieces_by 0 e) ∙ ap (λ (q : ℕ). p ∷ kept_of (pieces s (marked m) q)) (sym (next_is 0 e))

  kept_drop : (n : ℕ) → marked m p ≡ suc n → kept_by s m p ≡ kept_by s m (next_by s m p)
  unfolding kept_by kept_of piece_at
  kept_drop n e = ap kept_of (pieces_by (suc n) e) ∙ ap (λ (q : ℕ). kept_of (pieces s (marked m) q)) (sym (next_is (suc n) e))

  mended_keep : marked m p ≡ 0 → mended_by s m p ≡ byte s p ∷ mended_by s m (next_by s m p)
  unfolding mended_by bytes_at
  mended_keep e = ap (bytes_at s) (kept_keep e)

  mended_drop : (n : ℕ) → marked m p ≡ suc n → mended_by s m p ≡ mended_by s m (next_by s m p)
  unfolding mended_by
  mended_drop n e = ap (bytes_at s) (kept_drop n e)

  module _ (g : List ℕ) where
    lines_keep : marked m p ≡ 0 → lines_by s g m p ≡ line_at s g m p ++ lines_by s g m (next_by s m p)
    unfolding lines_by dropped_of piece_at line_at
    lines_keep e =
        ap (λ (x : List Piece). lines g (dropped_of x)) (pieces_by 0 e)
        ∙ ap (λ (q : ℕ). lines g (dropped_of (pieces s (marked m) q))) (sym (next_is 0 e))
        ∙ sym (ap (λ (b : Bool). pick b [] (line (get_or g p 0) (end_of s p - p) (marked m p)) ++ lines_by s g m (next_by s m p)) (eq-eqb (marked m p) 0 e))

    lines_drop : (n : ℕ) → marked m p ≡ suc n → lines_by s g m p ≡ line_at s g m p ++ lines_by s g m (next_by s m p)
    unfolding lines_by lines dropped_of piece_at line_at
    lines_drop n e =
        ap (λ (x : List Piece). lines g (dropped_of x)) (pieces_by (suc n) e)
        ∙ ap (λ (q : ℕ). line (get_or g p 0) (end_of s p - p) (suc n) ++ lines g (dropped_of (pieces s (marked m) q))) (sym (next_is (suc n) e))
        ∙ ap (λ (k : ℕ). line (get_or g p 0) (end_of s p - p) k ++ lines_by s g m (next_by s m p)) (sym e)
        ∙ sym (ap (λ (b : Bool). pick b [] (line (get_or g p 0) (end_of s p - p) (marked m p)) ++ lines_by s g m (next_by s m p))
        (ne_eqb (marked m p) 0 (λ z. let y : ◌≡◌ {A = ℕ} 0 (suc n) = sym z ∙ e in omega arith)))

    lines_here : lines_by s g m p ≡ line_at s g m p ++ lines_by s g m (next_by s m p)
    lines_here = by_mark (marked m p) refl
      where
        by_mark : (k : ℕ) → marked m p ≡ k → lines_by s g m p ≡ line_at s g m p ++ lines_by s g m (next_by s m p)
        by_mark zero e = lines_keep e
        by_mark (suc n) e = lines_drop n e

module _ (s m : List ℕ) (p : ℕ) (h : length s ≤ p) where
  kept_past : kept_by s m p ≡ []
  unfolding kept_by kept_of
  kept_past = ap kept_of (pieces_past s (marked m) p h)

  mended_past : mended_by s m p ≡ []
  unfolding mended_by bytes_at
  mended_past = ap (bytes_at s) kept_past

  lines_past : (g : List ℕ) → lines_by s g m p ≡ []
  unfolding lines_by lines dropped_of
  lines_past g = ap (λ (x : List Piece). lines g (dropped_of x)) (pieces_past s (marked m) p h)

-- `next` and the tests -----------------------------------------------------------------------------------------------------------------------

pub next_keep : (s m : List ℕ) (p k : ℕ) → k ≡ marked m p → k ≡ 0 → p + 1 ≡ next_by s m p
unfolding next_by next_place
next_keep s m p k e z = ap (λ (j : ℕ). next_place j s p) (sym z ∙ e)

pub next_drop : (s m : List ℕ) (p k q : ℕ) → k ≡ marked m p → (k ≡ 0 → ⊥) → q ≡ end_of s p → q ≡ next_by s m p
unfolding next_by next_place
next_drop s m p k q e n i = i ∙ by_mark k n ∙ ap (λ (j : ℕ). next_place j s p) e
  where
    by_mark : (j : ℕ) → (j ≡ 0 → ⊥) → end_of s p ≡ next_place j s p
    by_mark zero x = absurd (x refl)
    by_mark (suc j) x = refl

pub next_after : (s m : List ℕ) (p q : ℕ) → p < length s → q ≡ next_by s m p → p < q
unfolding next_by
next_after s m p q h e = let o = next_on (marked m p) s p h in omega arith

pub next_inside : (s m : List ℕ) (p : ℕ) → p < length s → next_by s m p ≤ length s
unfolding next_by
next_inside s m p h = next_in (marked m p) s p h

module _ (s m : List ℕ) (p : ℕ) (l : List ℕ) (at k : ℕ) (e : k ≡ marked m p) where
  pub puts_dropped : (k ≡ 0 → ⊥) → PutsKept s m p l at l at
  unfolding stored place_after
  puts_dropped n =
      let i = ne_eqb (marked m p) 0 (λ z. n (e ∙ z)) in
      record { bytes = sym (ap (λ (b : Bool). pick b (set l at (byte s p)) l) i); next = sym (ap (λ (b : Bool). pick b (at + 1) at) i) }

  pub puts_kept : k ≡ 0 → (l' : List ℕ) → l' ≡ set l at (byte s p) → PutsKept s m p l at l' (at + 1)
  unfolding stored place_after
  puts_kept z l' q =
      let i = eq-eqb (marked m p) 0 (sym e ∙ z) in
      record { bytes = q ∙ sym (ap (λ (b : Bool). pick b (set l at (byte s p)) l) i); next = sym (ap (λ (b : Bool). pick b (at + 1) at) i) }

module _ (m : List ℕ) (p left k : ℕ) (e : k ≡ marked m p) where
  pub here_dropped : (k ≡ 0 → ⊥) → false ≡ is_here m p left
  unfolding is_here
  here_dropped n = sym (ap (λ (b : Bool). both b (eqb left 0)) (ne_eqb (marked m p) 0 (λ z. n (e ∙ z))))

  pub here_kept : k ≡ 0 → (r : Bool) → r ≡ eqb left 0 → r ≡ is_here m p left
  unfolding is_here
  here_kept z r q = q ∙ sym (ap (λ (b : Bool). both b (eqb left 0)) (eq-eqb (marked m p) 0 (sym e ∙ z)))

  pub left_dropped : (k ≡ 0 → ⊥) → left ≡ left_after m p left
  unfolding left_after
  left_dropped n = sym (ap (λ (b : Bool). pick b (left - 1) left) (ne_eqb (marked m p) 0 (λ z. n (e ∙ z))))

  pub left_kept : k ≡ 0 → left - 1 ≡ left_after m p left
  unfolding left_after
  left_kept z = sym (ap (λ (b : Bool). pick b (left - 1) left) (eq-eqb (marked m p) 0 (sym e ∙ z)))

-- The loop of `put_mended` -------------------------------------------------------------------------------------------------------------------

-- The output is l where p is reached, and was l₀: what is left to copy comes to what is to be copied.
pub record Copying (s m l₀ l : List ℕ) (p at : ℕ) : Type 0 where
  pub bytes : sets l at (mended_by s m p) ≡ sets l₀ 0 (mended_by s m 0)
  pub many : at + length (mended_by s m p) ≡ length (mended_by s m 0)
  pub size : length l ≡ length l₀
  pub low : at ≤ p
  pub inside : p ≤ length s

pub copying_start : (s m l : List ℕ) → Copying s m l l 0 0
copying_start s m l = record { bytes = refl; many = omega arith; size = refl; low = omega arith; inside = omega arith }

module _ {s m l₀ l : List ℕ} {p at : ℕ} (u : Copying s m l₀ l p at) where
  pub copying_past : length s ≤ p → PutsMended s m l₀ l at
  copying_past h =
      let e = mended_past s m p h in
      let n : at + length (mended_by s m p) ≡ at = ap (λ (x : List ℕ). at + length x) e ∙ (let z : at + 0 ≡ at = omega arith in z) in
      let lo = u.low in
      let i = u.inside in
      record { bytes = sym (ap (sets l at) e) ∙ u.bytes; many = sym n ∙ u.many; few = omega arith }

  module _ (h : p < length s) (q : ℕ) (i : q ≡ next_by s m p) where
    copy_keep : marked m p ≡ 0 → Copying s m l₀ (set l at (byte s p)) q (at + 1)
    copy_keep e =
        let w : mended_by s m p ≡ byte s p ∷ mended_by s m q = mended_keep s m p h e ∙ ap (λ (x : ℕ). byte s p ∷ mended_by s m x) (sym i) in
        let k = u.many in
        let v : length (mended_by s m p) ≡ suc (length (mended_by s m q)) = ap length w in
        let lo = u.low in
        let o = next_after s m p q h i in
        let j : q ≤ length s = subst (λ (x : ℕ). x ≤ length s) (sym i) (next_inside s m p h) in
        record {
          bytes = ap (λ (x : ℕ). sets (set l at (byte s p)) x (mended_by s m q)) (add-one at) ∙ sym (ap (sets l at) w) ∙ u.bytes;
          many = omega arith;
          size = length-set l at (byte s p) ∙ u.size;
          low = omega arith;
          inside = j;
        }

    copy_drop : (n : ℕ) → marked m p ≡ suc n → Copying s m l₀ l q at
    copy_drop n e =
        let w : mended_by s m p ≡ mended_by s m q = mended_drop s m p h n e ∙ ap (mended_by s m) (sym i) in
        let lo = u.low in
        let o = next_after s m p q h i in
        let j : q ≤ length s = subst (λ (x : ℕ). x ≤ length s) (sym i) (next_inside s m p h) in
        record {
          bytes = sym (ap (sets l at) w) ∙ u.bytes;
          many = ap (λ (x : List ℕ). at + length x) (sym w) ∙ u.many;
          size = u.size;
          low = omega arith;
          inside = j;
        }

    pub copying_on : (l' : List ℕ) (at' : ℕ) → PutsKept s m p l at l' at' → Copying s m l₀ l' q at'
    unfolding stored place_after
    copying_on l' at' w = by_mark (marked m p) refl
      where
        moved : (x y : List ℕ) (a b : ℕ) → y ≡ x → b ≡ a → Copying s m l₀ x q a → Copying s m l₀ y q b
        moved x y a b j k c = subst (λ (z : List ℕ). Copying s m l₀ z q b) (sym j) (subst (λ (z : ℕ). Copying s m l₀ x q z) (sym k) c)

        by_mark : (k : ℕ) → marked m p ≡ k → Copying s m l₀ l' q at'
        by_mark zero e =
            let b = eq-eqb (marked m p) 0 e in
            moved _ l' _ at' (w.bytes ∙ ap (λ (x : Bool). pick x (set l at (byte s p)) l) b) (w.next ∙ ap (λ (x : Bool). pick x (at + 1) at) b) (copy_keep e)
        by_mark (suc n) e =
            let b = ne_eqb (marked m p) 0 (λ z. let y : ◌≡◌ {A = ℕ} 0 (suc n) = sym z ∙ e in omega arith) in
            moved _ l' _ at' (w.bytes ∙ ap (λ (x : Bool). pick x (set l at (byte s p)) l) b) (w.next ∙ ap (λ (x : Bool). pick x (at + 1) at) b) (copy_drop n e)

-- The loop of `place_back` -------------------------------------------------------------------------------------------------------------------

-- What is looked for from p on, with so many kept ones before it, is what is asked for.
pub record Seeking (s m : List ℕ) (place p left : ℕ) : Type 0 where
  pub same : get_or (kept_by s m p) left (length s) ≡ get_or (kept_by s m 0) place (length s)

pub seeking_start : (s m : List ℕ) (place : ℕ) → Seeking s m place 0 place
seeking_start s m place = record { same = refl }

both_true : (a b : Bool) → both a b ≡ true → (a ≡ true) × (b ≡ true)
both_true true true e = (refl, refl)
both_true true false e = absurd (false≢true e)
both_true false b e = absurd (false≢true e)

module _ {s m : List ℕ} {place p left : ℕ} (u : Seeking s m place p left) where
  pub seeking_past : length s ≤ p → length s ≡ get_or (kept_by s m 0) place (length s)
  seeking_past h = sym (ap (λ (x : List ℕ). get_or x left (length s)) (kept_past s m p h)) ∙ u.same

  module _ (h : p < length s) (r : Bool) (k : r ≡ is_here m p left) where
    pub seeking_found : r ≡ true → p ≡ get_or (kept_by s m 0) place (length s)
    unfolding is_here
    seeking_found q =
        let t = both_true (eqb (marked m p) 0) (eqb left 0) (sym k ∙ q) in
        let e = eqb-true (marked m p) 0 t.0 in
        let n = eqb-true left 0 t.1 in
        sym (ap (λ (x : List ℕ). get_or x left (length s)) (kept_keep s m p h e) ∙ ap (λ (j : ℕ). get_or (p ∷ kept_by s m (next_by s m p)) j (length s)) n) ∙ u.same

    module _ (q : r ≡ false) (left' next : ℕ) (i : left' ≡ left_after m p left) (j : next ≡ next_by s m p) where
      seek-drop : (n : ℕ) → marked m p ≡ suc n → Seeking s m place next left'
      unfolding left_after
      seek-drop n e =
          let z = i ∙ ap (λ (x : Bool). pick x (left - 1) left) (ne_eqb (marked m p) 0 (λ z. let y : ◌≡◌ {A = ℕ} 0 (suc n) = sym z ∙ e in omega arith)) in
          record {
            same =
                ap (λ (x : ℕ). get_or (kept_by s m next) x (length s)) z
                ∙ ap (λ (x : ℕ). get_or (kept_by s m x) left (length s)) j
                ∙ sym (ap (λ (x : List ℕ). get_or x left (length s)) (kept_drop s m p h n e))
                ∙ u.same;
          }

      one_less : (n : ℕ) → left ≡ suc n → marked m p ≡ 0 → Seeking s m place next left'
      unfolding left_after
      one_less n w e =
          let z : left - 1 ≡ n = omega arith in
          let y = i ∙ ap (λ (x : Bool). pick x (left - 1) left) (eq-eqb (marked m p) 0 e) ∙ z in
          record {
            same =
                ap (λ (x : ℕ). get_or (kept_by s m next) x (length s)) y
                ∙ ap (λ (x : ℕ). get_or (kept_by s m x) n (length s)) j
                ∙ sym (ap (λ (x : ℕ). get_or (p ∷ kept_by s m (next_by s m p)) x (length s)) w)
                ∙ sym (ap (λ (x : List ℕ). get_or x left (length s)) (kept_keep s m p h e))
                ∙ u.same;
          }

      none-less : left ≡ 0 → marked m p ≡ 0 → ⊥
      unfolding is_here
      none-less w e =
          let a : is_here m p left ≡ true = ap (λ (x : Bool). both x (eqb left 0)) (eq-eqb (marked m p) 0 e) ∙ eq-eqb left 0 w in
          false≢true (sym q ∙ k ∙ a)

      pub seeking-on : Seeking s m place next left'
      seeking-on = by_both (marked m p) left refl refl
        where
          by_both : (a n : ℕ) → marked m p ≡ a → left ≡ n → Seeking s m place next left'
          by_both zero zero e w = absurd (none-less w e)
          by_both zero (suc n) e w = one_less n w e
          by_both (suc a) n e w = seek-drop a e

-- The loop of `put_lines` --------------------------------------------------------------------------------------------------------------------

-- The lines so far are written, from a₀ on, and those from p on are left.
pub record Saying (s g m l₀ : List ℕ) (a₀ : ℕ) (l : List ℕ) (p at : ℕ) : Type 0 where
  pub so_far : List ℕ
  pub wrote : Wrote l₀ a₀ so_far l at
  pub left : so_far ++ lines_by s g m p ≡ lines_by s g m 0

pub saying_start : (s g m : List ℕ) {k l : List ℕ} {a b : ℕ} → Wrote k a [] l b → Saying s g m l b l 0 b
saying_start s g m {k} {l} {a} {b} w =
    let n : length l ≡ length k = wrote_length w in
    let r = w.room in
    record { so_far = []; wrote = wrote_none l b (omega (arith, n, r)) (wrote_low w); left = refl }

module _ {s g m l₀ l : List ℕ} {a₀ p at : ℕ} (u : Saying s g m l₀ a₀ l p at) where
  pub saying_size : length l ≡ length l₀
  saying_size = wrote_length u.wrote

  pub saying_past : {k : List ℕ} {a : ℕ} → length s ≤ p → Wrote k a [] l₀ a₀ → Wrote k a (lines_by s g m 0) l at
  saying_past h w = wrote_then w (wrote_as (sym (ap (u.so_far ++◌) (lines_past s m p h g) ∙ append-nil u.so_far) ∙ u.left) u.wrote)

  pub saying_on : p < length s → {q : ℕ} → q ≡ next_by s m p → {l' : List ℕ} {at' : ℕ} → Wrote l at (line_at s g m p) l' at' → Saying s g m l₀ a₀ l' q at'
  saying_on h {q} i w =
      record {
        so_far = u.so_far ++ line_at s g m p;
        wrote = wrote_then u.wrote w;
        left =
            append_assoc u.so_far (line_at s g m p) (lines_by s g m q)
            ∙ ap (u.so_far ++◌) (ap (λ (x : ℕ). line_at s g m p ++ lines_by s g m x) i ∙ sym (lines_here s m p h g))
            ∙ u.left;
      }
