-- What is written of a row: words, values and what stands before a block. Assumes nothing.
use mathlib.Core.Path.{◌≡◌, sym, ◌∙◌, ap, ap₂}
use mathlib.Core.List.{List, ◌++◌}
use mathlib.Core.Bool.{true, false}
use Prim.Native.Nat.{ℕ, ◌+◌}
use lib.Dec.{eqb}
use borrow.Author.Tests.{eq-eqb, ne_eqb}
use Rattle.rows.specs.Table.{cell_of}
use Rattle.rows.specs.Search.{row_name}
use Rattle.token.specs.Tokens.{part_of}
use Rattle.token.specs.Words.{bytes_of}
use Rattle.meaning.specs.Normal.{decimal}
use Rattle.writing.specs.Wrote.{Wrote}
use Rattle.writing.specs.Lines.{value_at, head_at, opening_at}
use Rattle.writing.proofs.Writes.{wrote_as, wrote_then}

module _ {l : List ℕ} {at : ℕ} {l' : List ℕ} {r : ℕ} where
  pub wrote_word : (s : List ℕ) (w : ℕ) (t : List ℕ) (i c a b : ℕ) → a ≡ cell_of t w i c → b ≡ cell_of t w i (c + 1) → Wrote l at (part_of s a b) l' r
      → Wrote l at (row_name s t w c i) l' r
  unfolding row_name
  wrote_word s w t i c a b e f h = wrote_as (ap₂ (part_of s) e f) h

  module _ (s v : List ℕ) (k a b c : ℕ) (e : a ≡ cell_of v 9 k 3) where
    pub wrote_number : a ≡ 0 → b ≡ cell_of v 9 k 4 → c ≡ cell_of v 9 k 5 → Wrote l at (decimal (record { negative = eqb b 1; amount = c })) l' r
        → Wrote l at (value_at s v k) l' r
    unfolding value_at
    wrote_number z f g h =
        let q : eqb (cell_of v 9 k 3) 0 ≡ true = eq-eqb (cell_of v 9 k 3) 0 (sym e ∙ z) in
        wrote_as (ap₂ (λ (x y : ℕ). decimal (record { negative = eqb x 1; amount = y })) f g ∙ sym (rw q)) h

    pub wrote_other : (a ≡ 0 → ⊥) → b ≡ cell_of v 9 k 7 → c ≡ cell_of v 9 k 8 → Wrote l at (part_of s b c) l' r → Wrote l at (value_at s v k) l' r
    unfolding value_at
    wrote_other z f g h =
        let q : eqb (cell_of v 9 k 3) 0 ≡ false = ne_eqb (cell_of v 9 k 3) 0 (λ p. z (e ∙ p)) in
        let w = wrote_word s 9 v k 7 b c f g h in
        wrote_as (sym (rw q)) w

  pub wrote_head : {l₁ l₂ : List ℕ} {a b : ℕ} (s d v : List ℕ) (k j : ℕ) → j ≡ cell_of v 9 k 0 → Wrote l at (row_name s d 13 2 j) l₁ a → Wrote l₁ a (bytes_of " = ") l₂ b
      → Wrote l₂ b (value_at s v k) l' r → Wrote l at (head_at s d v k) l' r
  unfolding head_at
  wrote_head s d v k j e x y z = wrote_as (ap (λ (i : ℕ). row_name s d 13 2 i ++ (bytes_of " = " ++ value_at s v k)) e) (wrote_then x (wrote_then y z))

  pub wrote_opening : {l₁ l₂ l₃ : List ℕ} {a b c : ℕ} (s o : List ℕ) (i p q m n : ℕ) → p ≡ cell_of o 8 i 1 → q ≡ cell_of o 8 i 2 → m ≡ cell_of o 8 i 3 → n ≡ cell_of o 8 i 4
      → Wrote l at (part_of s p q) l₁ a → Wrote l₁ a (bytes_of " ") l₂ b → Wrote l₂ b (part_of s m n) l₃ c → Wrote l₃ c (bytes_of " {\n") l' r
      → Wrote l at (opening_at s o i) l' r
  unfolding opening_at row_name
  wrote_opening s o i p q m n e f g h x y z w =
      wrote_as (ap₂ (λ (u t : List ℕ). u ++ (bytes_of " " ++ (t ++ bytes_of " {\n"))) (ap₂ (part_of s) e f) (ap₂ (part_of s) g h)) (wrote_then x (wrote_then y (wrote_then z w)))
