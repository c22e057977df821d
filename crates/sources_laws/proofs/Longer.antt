-- Blanks and comments of a text in a longer one. Assumes nothing.
use Prim.Native.Nat.{ℕ, ◌+◌, ◌≤◌, ◌<◌}
use mathlib.Core.List.{List, ◌++◌}
use mathlib.Core.Bool.{Bool, true}
use mathlib.Core.Path.{◌≡◌, sym, ◌∙◌, ap}
use native.Mathlib.Omega.{arith}
use lib.ListN.{length, length-append, get_or-append}
use lib.Dec.{eqb}
use borrow.Author.Tests.{lt-ltb, eq-eqb}
use Rattle.token.specs.Find.{byte, find}
use Rattle.token.specs.Bytes.{class_of, find_byte, pair_at, find_close}
use Rattle.token.proofs.Find.{find_low, find_high, find_holds, find_before}
use Rattle.token.proofs.Bytes.{pair_inside}
use Rattle.locality.proofs.Front.{find_is}
use Rattle.locality.proofs.Skipping.{Gap, a_blank, a_line, a_block, Skips, here, on, gap_step}
use Rattle.sources.proofs.Singles.{split}

module _ (a b : List ℕ) where
  pub kept_byte : (i : ℕ) → i < length a → byte (a ++ b) i ≡ byte a i
  kept_byte i h = get_or-append a b 0 i h

  kept_pair : (p x y : ℕ) → p + 1 < length a → pair_at (a ++ b) p x y ≡ pair_at a p x y
  unfolding pair_at
  kept_pair p x y h =
      let n = length-append a b in
      rw (lt-ltb (p + 1) (length (a ++ b)) (omega arith), lt-ltb (p + 1) (length a) h, kept_byte p (omega arith), kept_byte (p + 1) h)

  kept_close : (r : ℕ) → r + 2 ≤ length a → find_close a (r + 2) < length a → find_close (a ++ b) (r + 2) ≡ find_close a (r + 2)
  unfolding find_close
  kept_close r h l =
      let n = length-append a b in
      let t : ℕ → Bool = λ i. pair_at a i 42 47 in
      let c = find t (length a) (r + 2) in
      let low = find_low t (length a) (r + 2) in
      let e : t c ≡ true = find_holds t (length a) (r + 2) h l in
      let k = pair_inside a c 42 47 e in
      find_is (λ i. pair_at (a ++ b) i 42 47) (length (a ++ b)) (r + 2) c low (omega arith)
      (λ i u v. kept_pair i 42 47 (omega arith) ∙ find_before t (length a) (r + 2) i u v)
      (λ _. kept_pair c 42 47 k ∙ e)

  -- a comment `//` ends inside a, or where a ends and an LF follows
  kept_line : (r : ℕ) → r + 2 ≤ length a → (find_byte 10 a (r + 2) ≡ length a → byte (a ++ b) (length a) ≡ 10) → find_byte 10 (a ++ b) (r + 2) ≡ find_byte 10 a (r + 2)
  unfolding find_byte
  kept_line r h f =
      let n = length-append a b in
      let t : ℕ → Bool = λ i. eqb (byte a i) 10 in
      let q = find t (length a) (r + 2) in
      let low = find_low t (length a) (r + 2) in
      let high = find_high t (length a) (r + 2) h in
      find_is (λ i. eqb (byte (a ++ b) i) 10) (length (a ++ b)) (r + 2) q low (omega arith)
      (λ i u v. ap (λ (x : ℕ). eqb x 10) (kept_byte i (omega arith)) ∙ find_before t (length a) (r + 2) i u v)
      (λ _.
      split q (length a)
      (λ l. ap (λ (x : ℕ). eqb x 10) (kept_byte q l) ∙ find_holds t (length a) (r + 2) h l)
      (λ l.
      let e : q ≡ length a = omega arith in
      eq-eqb (byte (a ++ b) q) 10 (ap (byte (a ++ b)) e ∙ f e)))

  -- what follows a comment `//` that ends where a ends is an LF
  abbrev pub Parted : Type 0
  Parted = (r : ℕ) → pair_at a r 47 47 ≡ true → find_byte 10 a (r + 2) ≡ length a → byte (a ++ b) (length a) ≡ 10

  gap_longer : Parted → (r q : ℕ) → r < length a → Gap a r q → Gap (a ++ b) r q
  gap_longer f r q h (a_blank c n) = a_blank (ap class_of (kept_byte r h) ∙ c) n
  gap_longer f r q h (a_line c t n) =
      let i = pair_inside a r 47 47 t in
      a_line (ap class_of (kept_byte r h) ∙ c) (kept_pair r 47 47 i ∙ t) (n ∙ sym (kept_line r (omega arith) (f r t)))
  gap_longer f r q h (a_block c u t l n) =
      let i = pair_inside a r 47 42 t in
      let w : find_close (a ++ b) (r + 2) ≡ find_close a (r + 2) = kept_close r (omega arith) l in
      let m = length-append a b in
      a_block (ap class_of (kept_byte r h) ∙ c) (kept_pair r 47 47 i ∙ u) (kept_pair r 47 42 i ∙ t) (omega arith) (omega arith)

  pub skips_longer : Parted → (m p : ℕ) → Skips a m p → Skips (a ++ b) m p
  skips_longer f m p (here _ e) = here p e
  skips_longer f m p (on _ q g k) =
      let h = gap_step a p q g in
      on p q (gap_longer f p q (omega arith) g) (skips_longer f m q k)
