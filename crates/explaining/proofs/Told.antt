-- What is told of a place, from its parts.
-- Assumes nothing.
use Prim.Native.Nat.{ℕ, ◌+◌, ◌≤◌}
use mathlib.Core.Path.{◌≡◌, ◌∙◌, ap, sym, subst}
use mathlib.Core.List.{List}
use lib.ListN.{length}
use lib.Seq.{sets}
use Rattle.explaining.specs.declared.View.{View}
use Rattle.explaining.specs.Places.{within, line_of, column_of, token_end}
use Rattle.explaining.specs.Windows.{Fits, view_of}
use Rattle.explaining.specs.Pictures.{shown_line, mark_line, picture, Explains}
use Rattle.explaining.proofs.Ends.{within_inside}
use Rattle.explaining.proofs.Frames.{view_fits}
use Rattle.explaining.proofs.Stores.{line_short, picture_written}

pub inside_is : (s : List ℕ) (p q : ℕ) → q ≡ within s p → q ≤ length s
inside_is s p q e = subst (λ (k : ℕ). k ≤ length s) (sym e) (within_inside s p)

pub fits_is : (s : List ℕ) (p q : ℕ) (v : View) → q ≡ within s p → v ≡ view_of s q → Fits s v
fits_is s p q v e f = subst (Fits s) (sym f) (view_fits s q (inside_is s p q e))

pub short_is : (s : List ℕ) (v : View) (n : ℕ) → Fits s v → n ≡ length (shown_line s v) → n ≤ 79
short_is s v n h e = subst (λ (k : ℕ). k ≤ 79) (sym e) (line_short s v h)

pub told : (s : List ℕ) (p q a b x n m : ℕ) (v : View) (l l₁ l₂ : List ℕ)
    → q ≡ within s p → a ≡ line_of s q → b ≡ column_of s q → x ≡ token_end s q → v ≡ view_of s q
    → l₁ ≡ sets l 0 (shown_line s v) → n ≡ length (shown_line s v)
    → l₂ ≡ sets l₁ n (mark_line s v x) → m ≡ n + length (mark_line s v x)
    → Explains s p l l₂ (record { line = a; column = b; shown = n; len = m })
told s p q a b x n m v l l₁ l₂ e f g z h i j k o =
    let w = picture_written s q v h x z n m l l₁ l₂ i j k o in
    record {
      line = f ∙ ap (line_of s) e;
      column = g ∙ ap (column_of s) e;
      first = j ∙ ap (λ (y : View). length (shown_line s y)) h ∙ ap (λ (y : ℕ). length (shown_line s (view_of s y))) e;
      long = w.0 ∙ ap (λ (y : ℕ). length (picture s y)) e;
      cells = w.1 ∙ ap (λ (y : ℕ). sets l 0 (picture s y)) e;
    }
