-- The laws of writing into an output. Assumes nothing.
use mathlib.Core.Path.{◌≡◌, refl, sym, ◌∙◌, ap, subst}
use mathlib.Core.List.{List, [], ◌++◌}
use Prim.Native.Nat.{ℕ, ◌+◌, ◌≤◌, min}
use native.Mathlib.Omega.{arith}
use native.Mathlib.Decide.{dec_le}
use lib.ListN.{length, length-append}
use lib.Seq.{sets, length-sets}
use Rattle.rows.proofs.Stores.{sets_append, sets_out}
use Rattle.writing.specs.Wrote.{cap, Wrote}

-- Past the end any place serves.
sets_capped : (l : List ℕ) (i : ℕ) (vs : List ℕ) → length l ≤ cap → Dec (i ≤ cap) → sets l (min cap i) vs ≡ sets l i vs
sets_capped l i vs h (yes k) = let e : min cap i ≡ i = omega arith in ap (λ (j : ℕ). sets l j vs) e
sets_capped l i vs h (no k) = sets_out l (min cap i) vs (omega arith) ∙ sym (sets_out l i vs (omega arith))

module _ {l : List ℕ} {a : ℕ} {xs l₁ : List ℕ} {b : ℕ} where
  -- The output keeps its length, and no place is past the cap.
  pub wrote_length : Wrote l a xs l₁ b → length l₁ ≡ length l
  wrote_length w = ap length w.bytes ∙ length-sets l a xs

  pub wrote_low : Wrote l a xs l₁ b → b ≤ cap
  wrote_low w = let e = w.next in omega arith

  -- One run of bytes behind another.
  pub wrote_then : {ys l₂ : List ℕ} {c : ℕ} → Wrote l a xs l₁ b → Wrote l₁ b ys l₂ c → Wrote l a (xs ++ ys) l₂ c
  wrote_then {ys} {l₂} {c} u v =
      let n = length-sets l a xs in
      let h = u.room in
      let e = u.next in
      let f = v.next in
      let g = length-append xs ys in
      record {
        room = h;
        bytes =
            v.bytes
            ∙ ap (λ (k : ℕ). sets l₁ k ys) e
            ∙ ap (λ (m : List ℕ). sets m (min cap (a + length xs)) ys) u.bytes
            ∙ sets_capped (sets l a xs) (a + length xs) ys (omega (arith, n, h)) (dec_le (a + length xs) cap)
            ∙ sym (sets_append l a xs ys);
        next = omega (arith, e, f, g);
      }

  -- The same bytes, given otherwise.
  pub wrote_as : {ys : List ℕ} → xs ≡ ys → Wrote l a xs l₁ b → Wrote l a ys l₁ b
  wrote_as e w = subst (λ (zs : List ℕ). Wrote l a zs l₁ b) e w

-- Nothing written.
pub wrote_none : (l : List ℕ) (a : ℕ) → length l ≤ cap → a ≤ cap → Wrote l a [] l a
wrote_none l a h k = record { room = h; bytes = refl; next = omega arith }
