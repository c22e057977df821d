-- The laws of the name on an include line. Assumes nothing.
use Prim.Native.Nat.{ℕ, ◌+◌, ◌-◌, ◌≤◌, ◌<◌}
use mathlib.Core.List.{List}
use mathlib.Core.Bool.{true, false}
use mathlib.Core.Path.{◌≡◌, subst, ap}
use native.Mathlib.Omega.{arith}
use lib.ListN.{length, drop, length-take, length-drop, get_or-eq_default}
use lib.Dec.{ltb, eqb}
use borrow.Author.Tests.{lt-ltb, le-ltb, ltb-true, eq-eqb, ne_eqb}
use Rattle.token.specs.Find.{both, byte}
use Rattle.token.specs.Bytes.{find_byte}
use Rattle.token.specs.Words.{bytes_of, same}
use Rattle.token.specs.Tokens.{bytes_between}
use Rattle.token.proofs.Find.{by_test, find_high}
use Rattle.token.proofs.Bytes.{both_true, both_false, byte_low}
use Rattle.token.proofs.Codes.{different}
use Rattle.sources.specs.Lines.{aside, closing, quoted, named}
use Rattle.sources.proofs.Asides.{all_low}
use Rattle.std.specs.Prelude.{Option, Some, None}

pub byte_high : (b : ℕ) (s : List ℕ) (p : ℕ) → p ≤ length s → find_byte b s p ≤ length s
unfolding find_byte
byte_high b s p h = find_high (λ i. eqb (byte s i) b) (length s) p h

module _ (l : List ℕ) (o b : ℕ) where
  pub closing_open : (c : ℕ) → c ≡ find_byte b l (o + 1) → length l ≤ c → None ≡ closing l o b
  unfolding closing
  closing_open c e h = rw (← e, le-ltb c (length l) h)

  pub closing_more : (c n : ℕ) → c ≡ find_byte b l (o + 1) → c < length l → n ≡ aside l (c + 1) → (n ≡ length l → ⊥) → None ≡ closing l o b
  unfolding closing
  closing_more c n e h f g = rw (← e, lt-ltb c (length l) h, ← f, ne_eqb n (length l) g)

  pub closing_is : (c n : ℕ) → c ≡ find_byte b l (o + 1) → c < length l → n ≡ aside l (c + 1) → n ≡ length l → Some (o + 1, c) ≡ closing l o b
  unfolding closing
  closing_is c n e h f g = rw (← e, lt-ltb c (length l) h, ← f, eq-eqb n (length l) g)

module _ (l : List ℕ) (o : ℕ) where
  pub quoted_past : length l ≤ o → None ≡ quoted l o
  unfolding quoted
  quoted_past h = rw (get_or-eq_default l 0 h)

  pub quoted_quote : byte l o ≡ 34 → closing l o 34 ≡ quoted l o
  unfolding quoted
  quoted_quote e = rw e

  pub quoted_angle : (byte l o ≡ 34 → ⊥) → byte l o ≡ 60 → closing l o 62 ≡ quoted l o
  unfolding quoted
  quoted_angle n e = rw (ne_eqb (byte l o) 34 n, eq-eqb (byte l o) 60 e)

  pub quoted_none : (byte l o ≡ 34 → ⊥) → (byte l o ≡ 60 → ⊥) → None ≡ quoted l o
  unfolding quoted
  quoted_none n m = rw (ne_eqb (byte l o) 34 n, ne_eqb (byte l o) 60 m)

module _ (l : List ℕ) (h : ℕ) where
  pub named_elsewhere : (a : ℕ) → a ≡ aside l 0 → (a ≡ h → ⊥) → None ≡ named l h
  unfolding named
  named_elsewhere a e n = rw (← e, ne_eqb a h n)

  pub named_other : same (bytes_between l h (h + 8)) (bytes_of "#include") ≡ false → None ≡ named l h
  unfolding named
  named_other e = rw (e, both_false (eqb (aside l 0) h))

  pub named_short : length l - h < 8 → None ≡ named l h
  named_short k =
      let e : h + 8 - h ≡ 8 = omega arith in
      let n = length-drop h l in
      named_other (different (bytes_between l h (h + 8)) (bytes_of "#include")
      (λ (z : 8 ≡ length (bytes_between l h (h + 8))).
      let y = length-take (h + 8 - h) (drop h l) in
      omega arith))

  pub named_is : (a q : ℕ) → a ≡ aside l 0 → a ≡ h → same (bytes_between l h (h + 8)) (bytes_of "#include") ≡ true → q ≡ aside l (h + 8) → quoted l q ≡ named l h
  unfolding named
  named_is a q e f g k = rw (← e, eq-eqb a h f, g, ← k)

abbrev name_in : Option (ℕ × ℕ) → ℕ × ℕ
name_in (Some x) = x
name_in None = (0, 0)

-- names that are the same
module _ {a b c d : ℕ} (k : ◌≡◌ {A = Option (ℕ × ℕ)} (Some (a, b)) (Some (c, d))) where
  pub same_start : a ≡ c
  same_start = ap (λ (x : Option (ℕ × ℕ)). (name_in x).0) k

  pub same_end : b ≡ d
  same_end = ap (λ (x : Option (ℕ × ℕ)). (name_in x).1) k

-- the name lies on the line
-- a name in a line of n bytes, from k on at the earliest, with its closing byte behind it
abbrev pub NameOk : ℕ → ℕ → Option (ℕ × ℕ) → Type 0
NameOk k n (Some (f, t)) = (k ≤ f) × (f ≤ t) × (t < n)
NameOk k n None = Unit {0}

earlier : (j k n : ℕ) (x : Option (ℕ × ℕ)) → k ≤ j → NameOk j n x → NameOk k n x
earlier j k n (Some (f, t)) h o = (omega arith, o.1, o.2)
earlier j k n None h o = tt

closing_ok : (l : List ℕ) (o b : ℕ) → NameOk (o + 1) (length l) (closing l o b)
unfolding closing
closing_ok l o b =
    by_test (NameOk (o + 1) (length l)) (both (ltb (find_byte b l (o + 1)) (length l)) (eqb (aside l (find_byte b l (o + 1) + 1)) (length l))) _ None
    (λ e.
    let h = byte_low l (o + 1) b in
    let k = ltb-true (find_byte b l (o + 1)) (length l) (both_true (ltb (find_byte b l (o + 1)) (length l)) (eqb (aside l (find_byte b l (o + 1) + 1)) (length l)) e) in
    (omega arith, h, k))
    (λ _. tt)

quoted_ok : (l : List ℕ) (o : ℕ) → NameOk (o + 1) (length l) (quoted l o)
unfolding quoted
quoted_ok l o =
    by_test (NameOk (o + 1) (length l)) (eqb (byte l o) 34) (closing l o 34) _ (λ _. closing_ok l o 34)
    (λ _. by_test (NameOk (o + 1) (length l)) (eqb (byte l o) 60) (closing l o 62) None (λ _. closing_ok l o 62) (λ _. tt))

named_fits : (l : List ℕ) (h : ℕ) → NameOk (h + 9) (length l) (named l h)
unfolding named
named_fits l h =
    by_test (NameOk (h + 9) (length l)) (both (eqb (aside l 0) h) (same (bytes_between l h (h + 8)) (bytes_of "#include"))) (quoted l (aside l (h + 8))) None
    (λ _.
    let a = all_low l (h + 8) in
    earlier (aside l (h + 8) + 1) (h + 9) (length l) (quoted l (aside l (h + 8))) (omega arith) (quoted_ok l (aside l (h + 8))))
    (λ _. tt)

pub named_ok : (l : List ℕ) (h f t : ℕ) → named l h ≡ Some (f, t) → (h + 9 ≤ f) × (f ≤ t) × (t < length l)
named_ok l h f t e = subst (NameOk (h + 9) (length l)) e (named_fits l h)
