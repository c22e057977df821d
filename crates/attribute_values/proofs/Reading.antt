-- What the code reads of a row is what the row has. Assumes nothing.
use mathlib.Core.Path.{◌≡◌, refl, sym, ◌∙◌, ap, ap₂}
use mathlib.Core.List.{List, [], ◌∷◌, ◌++◌}
use mathlib.Core.Bool.{Bool, true, false}
use Prim.Native.Nat.{ℕ, zero, suc, ◌+◌, ◌*◌, ◌/◌, ◌%◌, ◌≤◌}
use native.Mathlib.Omega.{arith}
use lib.ListN.{length, get_or, take, replicate, length-replicate, length-append}
use lib.Seq.{length-sets}
use lib.Dec.{eqb, ltb}
use borrow.Author.Tests.{eq-eqb, ne_eqb}
use Rattle.token.specs.Find.{both}
use Rattle.token.specs.Words.{bytes_of, same}
use Rattle.token.specs.Tokens.{part_of}
use Rattle.blocks.proofs.Files.{part_inside}
use Rattle.rows.specs.Table.{cell_of}
use Rattle.rows.specs.Search.{row_name}
use Rattle.rows.proofs.Stores.{part_sets_same}
use Rattle.meaning.specs.Words.{choose}
use Rattle.meaning.specs.Normal.{digits_in, minus, decimal}
use Rattle.writing.specs.Wrote.{Wrote}
use Rattle.writing.proofs.Writes.{wrote_then}
use Rattle.attribute_values.specs.Paths.{entry_mark, picks}
use Rattle.attribute_values.specs.Rows.{called_at, owned_at, named_at, picked_at}

-- Objects ----------------------------------------------------------------------------------------------------------------------------------

module _ (s o kind name : List ℕ) (i a n : ℕ) (w : List ℕ) (b : Bool) (e : a ≡ get_or o (i * 8 + 1) 0) (f : n ≡ get_or o (i * 8 + 2) 0) (g : w ≡ part_of s a n) (h : b ≡ same w kind) where
  same_kind_word : b ≡ same (row_name s o 8 1 i) kind
  unfolding row_name
  same_kind_word = h ∙ ap (λ (x : List ℕ). same x kind) (g ∙ ap₂ (part_of s) e f)

  pub other_kind : b ≡ false → false ≡ called_at s o kind name i
  unfolding called_at
  other_kind q = ap (λ (x : Bool). both x (same (row_name s o 8 3 i) name)) (sym q ∙ same_kind_word)

  pub of_kind : b ≡ true → (c m : ℕ) (u : List ℕ) (r : Bool) → c ≡ get_or o (i * 8 + 3) 0 → m ≡ get_or o (i * 8 + 4) 0 → u ≡ part_of s c m → r ≡ same u name → r ≡ called_at s o kind name i
  unfolding called_at row_name
  of_kind q c m u r x y z t =
      t ∙ ap (λ (v : List ℕ). same v name) (z ∙ ap₂ (part_of s) x y)
      ∙ ap (λ (v : Bool). both v (same (row_name s o 8 3 i) name)) (sym q ∙ same_kind_word)

-- Values -----------------------------------------------------------------------------------------------------------------------------------

module _ (s d v : List ℕ) (sort row : ℕ) (name : List ℕ) (k x : ℕ) (e : x ≡ cell_of v 9 k 1) where
  abbrev rest : Bool
  rest = same (row_name s d 13 2 (cell_of v 9 k 0)) name

  pub other_sort : (x ≡ sort → ⊥) → false ≡ named_at s d v sort row name k
  unfolding named_at owned_at
  other_sort z = ap (λ (b : Bool). both (both b (eqb (cell_of v 9 k 2) row)) rest) (sym (ne_eqb (cell_of v 9 k 1) sort (λ q. z (e ∙ q))))

  pub other_row : (y : ℕ) → x ≡ sort → y ≡ cell_of v 9 k 2 → (y ≡ row → ⊥) → false ≡ named_at s d v sort row name k
  unfolding named_at owned_at
  other_row y z f g = ap (λ (b : Bool). both b rest) (sym (ap₂ both (eq-eqb (cell_of v 9 k 1) sort (sym e ∙ z)) (ne_eqb (cell_of v 9 k 2) row (λ q. g (f ∙ q)))))

  pub own_row : (y j a n : ℕ) (w : List ℕ) (r : Bool) → x ≡ sort → y ≡ cell_of v 9 k 2 → y ≡ row → j ≡ cell_of v 9 k 0 → a ≡ get_or d (j * 13 + 2) 0 → n ≡ get_or d (j * 13 + 3) 0
      → w ≡ part_of s a n → r ≡ same w name → r ≡ named_at s d v sort row name k
  unfolding named_at owned_at row_name
  own_row y j a n w r z f g h p q u t =
      t ∙ ap (λ (c : List ℕ). same c name) (u ∙ ap₂ (part_of s) (p ∙ ap (λ (c : ℕ). get_or d (c * 13 + 2) 0) h) (q ∙ ap (λ (c : ℕ). get_or d (c * 13 + 3) 0) h))
      ∙ ap (λ (b : Bool). both b rest) (sym (ap₂ both (eq-eqb (cell_of v 9 k 1) sort (sym e ∙ z)) (eq-eqb (cell_of v 9 k 2) row (sym f ∙ g))))

-- Marks ------------------------------------------------------------------------------------------------------------------------------------

module _ (list : Bool) where
  pub picks_first : (mark : List ℕ) (n : ℕ) → length mark ≡ 0 → eqb n 0 ≡ picks list mark n
  unfolding picks
  picks_first [] n h = refl
  picks_first (b ∷ bs) n h = absurd (omega (arith, h))

  pub picks_entry : (mark : List ℕ) (n : ℕ) → (length mark ≡ 0 → ⊥) → both list (same mark (entry_mark n)) ≡ picks list mark n
  unfolding picks
  picks_entry [] n h = absurd (h refl)
  picks_entry (b ∷ bs) n h = refl

module _ (d v mark : List ℕ) (k n : ℕ) where
  abbrev listed : Bool
  listed = eqb (cell_of d 13 (cell_of v 9 k 0) 6) 1

  pub unmarked : length mark ≡ 0 → eqb n 0 ≡ picked_at d v mark k n
  unfolding picked_at
  unmarked h = picks_first listed mark n h

  module _ (h : length mark ≡ 0 → ⊥) (j x : ℕ) (e : j ≡ cell_of v 9 k 0) (f : x ≡ get_or d (j * 13 + 6) 0) where
    cell_is : x ≡ cell_of d 13 (cell_of v 9 k 0) 6
    cell_is = f ∙ ap (λ (i : ℕ). cell_of d 13 i 6) e

    pub of_single : (x ≡ 1 → ⊥) → false ≡ picked_at d v mark k n
    unfolding picked_at
    of_single z = ap (λ (b : Bool). both b (same mark (entry_mark n))) (sym (ne_eqb (cell_of d 13 (cell_of v 9 k 0) 6) 1 (λ q. z (cell_is ∙ q)))) ∙ picks_entry listed mark n h

    pub of_list : x ≡ 1 → (r : Bool) → r ≡ same mark (entry_mark n) → r ≡ picked_at d v mark k n
    unfolding picked_at
    of_list z r q = q ∙ ap (λ (b : Bool). both b (same mark (entry_mark n))) (sym (eq-eqb (cell_of d 13 (cell_of v 9 k 0) 6) 1 (sym cell_is ∙ z))) ∙ picks_entry listed mark n h

-- At most k digits.
digits_few : (k n : ℕ) → length (digits_in k n) ≤ k
unfolding digits_in choose
digits_few zero n = omega arith
digits_few (suc k) n = by (ltb n 10) (digits_few k (n / 10))
  where
    by : (b : Bool) → length (digits_in k (n / 10)) ≤ k → length (choose b (λ _. (48 + n) ∷ []) (λ _. digits_in k (n / 10) ++ ((48 + n % 10) ∷ []))) ≤ suc k
    by true h = omega arith
    by false h = let e = length-append (digits_in k (n / 10)) ((48 + n % 10) ∷ []) in omega (arith, h, e)

mark_few : (n : ℕ) → length (entry_mark n) ≤ 32
unfolding entry_mark
mark_few n =
    let a = length-append (bytes_of "[") (digits_in 20 n ++ bytes_of "]") in
    let b = length-append (digits_in 20 n) (bytes_of "]") in
    let c = digits_few 20 n in
    omega (arith, a, b, c)

abbrev room : List ℕ
room = replicate 32 0

-- The mark of a number, written into a room of 32 bytes.
pub mark_written : (n : ℕ) {l₁ l₂ l₃ : List ℕ} {a b e : ℕ} → Wrote (replicate 32 0) 0 (bytes_of "[") l₁ a → Wrote l₁ a (decimal (record { negative = false; amount = n })) l₂ b
    → Wrote l₂ b (bytes_of "]") l₃ e → part_of l₃ 0 e ≡ entry_mark n
unfolding entry_mark decimal minus
mark_written n {l₃ = l₃} {e = e} u w x =
    let y : Wrote (replicate 32 0) 0 (entry_mark n) l₃ e = wrote_then u (wrote_then w x) in
    whole y
  where
    whole : Wrote (replicate 32 0) 0 (entry_mark n) l₃ e → part_of l₃ 0 e ≡ entry_mark n
    whole y =
        let few = mark_few n in
        let q = y.next in
        let z : e ≡ length (entry_mark n) = omega (arith, few, q) in
        let r : length room ≡ 32 = length-replicate {A = ℕ} 32 0 in
        let g : 0 + length (entry_mark n) ≤ length room = omega (arith, few, r) in
        let m : length l₃ ≡ length room = ap length y.bytes ∙ length-sets room 0 (entry_mark n) in
        let j : 0 + e ≤ length l₃ = omega (arith, few, z, m, r) in
        part_inside l₃ 0 e j
        ∙ ap₂ (λ (t : List ℕ) (c : ℕ). take c t) y.bytes z
        ∙ part_sets_same room 0 (entry_mark n) g

pub mark_same : (mark : List ℕ) (n : ℕ) (w : List ℕ) (r : Bool) → r ≡ same mark w → w ≡ entry_mark n → r ≡ same mark (entry_mark n)
mark_same mark n w r e f = e ∙ ap (same mark) f
