-- Laws of the lines. Assumes nothing.
use mathlib.Core.Path.{◌≡◌, sym, ◌∙◌, ap}
use mathlib.Core.List.{List, []}
use mathlib.Core.Bool.{Bool, false}
use Prim.Native.Nat.{ℕ, ◌-◌, ◌/◌, ◌%◌}
use lib.ListN.{get_or}
use borrow.Author.Tests.{eq-eqb, ne_eqb}
use Rattle.token.specs.Find.{pick}
use Rattle.token.specs.Words.{bytes_of}
use Rattle.meaning.specs.Normal.{decimal}
use Rattle.writing.specs.Wrote.{Wrote}
use Rattle.writing.proofs.Writes.{wrote_then, wrote_as}
use Rattle.mending.specs.Ends.{end_of}
use Rattle.mending.specs.Pieces.{field, line}
use Rattle.mending.specs.Promises.{marked, line_at}

pub puts_field : (n : ℕ) {bs l l₁ l₂ : List ℕ} {at a b : ℕ} → Wrote l at (decimal (record { negative = false; amount = n })) l₁ a → Wrote l₁ a bs l₂ b → Wrote l at (field n bs) l₂ b
unfolding field
puts_field n u v = wrote_then u v

pub puts_line : (o n k : ℕ) {l l₁ l₂ l₃ l₄ : List ℕ} {at a b c d : ℕ} → Wrote l at (field (o / 65536) (bytes_of "\t")) l₁ a → Wrote l₁ a (field (o % 65536) (bytes_of "\t")) l₂ b
    → Wrote l₂ b (field n (bytes_of "\t")) l₃ c → Wrote l₃ c (field k (bytes_of "\n")) l₄ d → Wrote l at (line o n k) l₄ d
unfolding line
puts_line o n k u v w x = wrote_then u (wrote_then v (wrote_then w x))

-- The line for a piece.
module _ (s g m : List ℕ) (p k : ℕ) (e : k ≡ marked m p) {l l' : List ℕ} {at r : ℕ} where
  pub puts_no_line : k ≡ 0 → Wrote l at [] l' r → Wrote l at (line_at s g m p) l' r
  unfolding line_at
  puts_no_line z w = wrote_as (sym (ap (λ (b : Bool). pick b [] (line (get_or g p 0) (end_of s p - p) (marked m p))) (eq-eqb (marked m p) 0 (sym e ∙ z)))) w

  pub puts_its_line : (k ≡ 0 → ⊥) → (o q : ℕ) → q ≡ end_of s p → o ≡ get_or g p 0 → Wrote l at (line o (q - p) k) l' r → Wrote l at (line_at s g m p) l' r
  unfolding line_at
  puts_its_line n o q i j w =
      wrote_as
      (ap (λ (x : ℕ). line x (q - p) k) j
      ∙ ap (λ (x : ℕ). line (get_or g p 0) (x - p) k) i
      ∙ ap (λ (x : ℕ). line (get_or g p 0) (end_of s p - p) x) e
      ∙ sym (ap (λ (b : Bool). pick b [] (line (get_or g p 0) (end_of s p - p) (marked m p))) (ne_eqb (marked m p) 0 (λ z. n (e ∙ z)))))
      w
