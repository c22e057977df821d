-- Measuring and then writing: the normal text, or refusal 20. Assumes nothing.
use mathlib.Core.Path.{◌≡◌, refl, ◌∙◌, ap}
use mathlib.Core.List.{List}
use Prim.Native.Nat.{ℕ, ◌≤◌, ◌<◌}
use native.Mathlib.Omega.{arith}
use native.Mathlib.Nat.{zero-add}
use lib.ListN.{length, replicate}
use lib.Seq.{sets-eq}
use Rattle.meaning.specs.Normal.{normal}
use Rattle.reading.specs.declared.Answer.TheVariants.{Accepted, Refused}
use Rattle.reading.specs.declared.Spanned.{Spanned}
use Rattle.writing.specs.Wrote.{cap}
use Rattle.writing.specs.Promises.{WritesNormal, Measures, fits, too_long, PutsOut}

module _ {s d o v : List ℕ} {w : Spanned} {l l' : List ℕ} {r : ℕ}
    (h : WritesNormal s d o v w.reading.objects w.reading.values w.implementation_at w.implementation_len w.cpu_at w.cpu_len l l' r) where
  pub measures : Measures s d o v w r
  measures f g = let e = (h.puts f g.tables g.spans).next in omega (arith, e)

  -- It fits.
  pub puts_out : (e : List ℕ) (n : ℕ) → length l < cap → n ≤ length l → Measures s d o v w n
      → PutsOut s d e o v w l d e o v l' (record { answer = Accepted; length = r })
  puts_out e n b k m f g =
      let x = h.puts f g.tables g.spans in
      let q = m f g in
      let y = x.next in
      let z : length (normal s f) ≤ length l = omega (arith, q, b, k) in
      let i : r ≡ length (normal s f) = omega (arith, y, z, b) in
      fits z refl refl refl refl (x.bytes ∙ sets-eq (normal s f) l 0 (omega arith) ∙ rw (zero-add (length (normal s f)))) (ap (λ (j : ℕ). record { answer = Accepted; length = j }) i)

-- It does not.
pub puts_none : {s d e o v : List ℕ} {w : Spanned} {l d' e' o' v' : List ℕ} (n : ℕ) → length l < n → Measures s d o v w n → d' ≡ replicate (length d) 0 → e' ≡ replicate (length e) 0
    → o' ≡ replicate (length o) 0 → v' ≡ replicate (length v) 0 → PutsOut s d e o v w l d' e' o' v' l (record { answer = Refused 20 0; length = 0 })
puts_none {s} n k m a b c y f g = let q = m f g in too_long (omega (arith, q, k)) a b c y refl refl
