-- Measuring and then copying: the value, or refusal 20. Assumes nothing.
use mathlib.Core.Path.{◌≡◌, sym, ◌∙◌, ap}
use mathlib.Core.List.{List, ◌++◌}
use mathlib.Core.Bool.{Bool}
use Prim.Native.Nat.{ℕ, ◌+◌, ◌<◌, ◌≤◌}
use native.Mathlib.Omega.{arith}
use native.Mathlib.Nat.{zero-add}
use lib.ListN.{length, drop}
use lib.Seq.{sets-eq}
use borrow.Author.Tests.{lt-ltb, le-ltb}
use Rattle.rows.specs.Found.{Found}
use Rattle.std.specs.Prelude.{Some, None}
use Rattle.meaning.specs.Words.{choose}
use Rattle.writing.specs.Wrote.{cap, Wrote}
use Rattle.writing.specs.Lines.{value_at}
use Rattle.attribute_values.specs.Results.{Outcome, untouched, copied, Leaves}
use Rattle.rows.specs.Search.{find_from}
use Rattle.attribute_values.specs.Paths.{steps}
use Rattle.attribute_values.specs.Rows.{called_at, by_steps_at, within, row_of, told_at}
use Rattle.attribute_values.specs.Answered.{Valued, no_value, of_length}
use Rattle.rows.specs.Refusing.{refusing}

module _ (w l : List ℕ) where
  abbrev fitting : Outcome
  fitting = record { result = of_length (length w); output = w ++ drop (length w) l }

  too_long : length l < length w → copied w l ≡ untouched (refusing 20 0) l
  unfolding copied choose
  too_long h = ap (λ (b : Bool). choose b (λ _. untouched (refusing 20 0) l) (λ _. fitting)) (lt-ltb (length l) (length w) h)

  fits : length w ≤ length l → copied w l ≡ fitting
  unfolding copied choose
  fits h = ap (λ (b : Bool). choose b (λ _. untouched (refusing 20 0) l) (λ _. fitting)) (le-ltb (length l) (length w) h)

-- The value was measured in the output m, and is longer than l.
pub copy_none : {m m' w l : List ℕ} {n : ℕ} → Wrote m 0 w m' n → length l < n → Leaves (copied w l) l (refusing 20 0)
unfolding untouched
copy_none {m} {m'} {w} {l} {n} u h =
    let e = u.next in
    let g : length l < length w = omega (arith, e, h) in
    let q = too_long w l g in
    record { result = sym (ap (λ (o : Outcome). o.result) q); output = sym (ap (λ (o : Outcome). o.output) q) }

-- It is not, and was written.
pub copy_all : {m m' w l l' : List ℕ} {n r : ℕ} → Wrote m 0 w m' n → length l < cap → n ≤ length l → Wrote l 0 w l' r → Leaves (copied w l) l' (of_length r)
copy_all {m} {m'} {w} {l} {l'} {n} {r} u b h x =
    let e = u.next in
    let f = x.next in
    let g : length w ≤ length l = omega (arith, e, b, h) in
    let i : r ≡ length w = omega (arith, f, g, b) in
    let q = fits w l g in
    let z : 0 + length w ≤ length l = omega (arith, g) in
    record {
      result = ap of_length i ∙ sym (ap (λ (o : Outcome). o.result) q);
      output = x.bytes ∙ sets-eq w l 0 z ∙ rw (zero-add (length w)) (sym (ap (λ (o : Outcome). o.output) q));
    }

-- By what was found.
module _ (s v l : List ℕ) where
  pub copy_nothing : (f : Found) → f ≡ None → Leaves (told_at s v f l) l no_value
  unfolding told_at untouched
  copy_nothing f e = record { result = sym (ap (λ (g : Found). (told_at s v g l).result) e); output = sym (ap (λ (g : Found). (told_at s v g l).output) e) }

  pub copy_found : (f : Found) (k : ℕ) → f ≡ Some k → {l' : List ℕ} {r : Valued} → Leaves (copied (value_at s v k) l) l' r → Leaves (told_at s v f l) l' r
  unfolding told_at
  copy_found f k e x = record { result = x.result ∙ sym (ap (λ (g : Found). (told_at s v g l).result) e); output = x.output ∙ sym (ap (λ (g : Found). (told_at s v g l).output) e) }

-- The row, by the object.
module _ (s d o v : List ℕ) (m e : ℕ) (kind name path : List ℕ) (f : Found) (h : f ≡ find_from (called_at s o kind name) m 0) where
  pub row_nothing : f ≡ None → None ≡ row_of s d o v m e kind name path
  unfolding row_of within
  row_nothing q = ap (λ (x : Found). within x (λ i. by_steps_at s d v e (steps path) 0 0 i)) (sym q ∙ h)

  pub row_found : (i : ℕ) → f ≡ Some i → (r : Found) → r ≡ by_steps_at s d v e (steps path) 0 0 i → r ≡ row_of s d o v m e kind name path
  unfolding row_of within
  row_found i q r g = g ∙ ap (λ (x : Found). within x (λ j. by_steps_at s d v e (steps path) 0 0 j)) (sym q ∙ h)
