-- What the functions over numbers and rows cite, a law for each answer. Assumes nothing.
use mathlib.Core.Path.{◌≡◌, refl, sym, ◌∙◌, ap, ap₂}
use mathlib.Core.List.{List}
use mathlib.Core.Bool.{Bool, true, false, not, false≢true}
use Prim.Native.Nat.{ℕ, ◌+◌, ◌-◌, ◌*◌, ◌^◌, ◌≤◌}
use native.Mathlib.Omega.{arith}
use native.Mathlib.Numerals.{unary_clauses}
use Rattle.std.proofs.Math.Pow.{pow_mono}
use Rattle.std.proofs.lemmas.Nat.{pow_pos}
use lib.Dec.{eqb}
use borrow.Author.Tests.{eq-eqb, ne_eqb, eqb-true, le-leb}
use Rattle.token.specs.Find.{pick}
use Rattle.token.specs.Tokens.{step_at}
use Rattle.grammar.specs.Grammar.{Integer, UINT32, INT32, UINT64, INT64}
use Rattle.meaning.specs.Syntax.{Num}
use Rattle.meaning.specs.Actions.{num_of_step}
use Rattle.meaning.specs.Words.{num_at_most, least_of, greatest_of, signed, width, in_type}
use Rattle.scopes.specs.declared.Item.{Item}
use Rattle.scopes.specs.Items.{num, item_at, integer_coded}
use Rattle.scopes.proofs.Chains.{number_of_step}

-- Items -------------------------------------------------------------------------------------------------------------------------------------

module _ (s : List ℕ) (p : ℕ) where
  pub at_number : (r : Item) → r ≡ item_at s p → num r.number ≡ num_of_step (step_at s p)
  unfolding item_at
  at_number r e = ap (λ (i : Item). num i.number) e ∙ number_of_step (step_at s p)

-- Numbers -----------------------------------------------------------------------------------------------------------------------------------

pub power_next : (n : ℕ) → 2 ^ n * 2 ≡ 2 ^ (n + 1)
power_next n = simp unary_clauses

pub least_signed : (b : Bool) (w r : ℕ) → b ≡ true → r ≡ 2 ^ (w - 1) → record { negative = true; amount = r } ≡ least_of b w
unfolding least_of
least_signed true w r e h = ap (λ (x : ℕ). record { negative = true; amount = x }) h
least_signed false w r e h = absurd (false≢true e)

pub least_plain : (b : Bool) (w : ℕ) → b ≡ false → record { negative = false; amount = 0 } ≡ least_of b w
unfolding least_of
least_plain true w e = absurd (false≢true (sym e))
least_plain false w e = refl

pub greatest_signed : (b : Bool) (w r : ℕ) → b ≡ true → r ≡ 2 ^ (w - 1) → record { negative = false; amount = r - 1 } ≡ greatest_of b w
unfolding greatest_of
greatest_signed true w r e h = ap (λ (x : ℕ). record { negative = false; amount = x - 1 }) h
greatest_signed false w r e h = absurd (false≢true e)

pub greatest_plain : (b : Bool) (w r : ℕ) → 1 ≤ w → b ≡ false → r ≡ 2 ^ (w - 1) → record { negative = false; amount = r - 1 + r } ≡ greatest_of b w
unfolding greatest_of
greatest_plain true w r l e h = absurd (false≢true (sym e))
greatest_plain false w r l e h =
    let a = power_next (w - 1) in
    let b : w - 1 + 1 ≡ w = omega arith in
    let c : 2 ^ (w - 1 + 1) ≡ 2 ^ w = ap (λ n. 2 ^ n) b in
    let d = pow_pos (w - 1) in
    let z : r - 1 + r ≡ 2 ^ w - 1 = omega (arith, a, c, d, h) in
    ap (λ (x : ℕ). record { negative = false; amount = x }) z

pub half_fits : (w r : ℕ) → 1 ≤ w → w ≤ 64 → r ≡ 2 ^ (w - 1) → (1 ≤ r) × (r ≤ 9223372036854775808)
half_fits w r l m h =
    let e : w - 1 ≤ 63 = omega arith in
    let a : 2 ^ (w - 1) ≤ 2 ^ 63 = pow_mono e in
    let b = pow_pos (w - 1) in
    (omega (arith, b, h), omega (arith, a, h))

pub signed_35 : (c : ℕ) → c ≡ 35 → false ≡ signed (integer_coded c)
unfolding integer_coded signed
signed_35 c e = sym (ap (λ (b : Bool). signed (pick b UINT32 (pick (eqb c 36) INT32 (pick (eqb c 37) UINT64 INT64)))) (eq-eqb c 35 e))

pub signed_not : (c : ℕ) → (c ≡ 35 → ⊥) → not (eqb c 37) ≡ signed (integer_coded c)
unfolding integer_coded signed
signed_not c n = by (eqb c 36) refl (eqb c 37) refl ∙ sym (ap (λ (b : Bool). signed (pick b UINT32 (pick (eqb c 36) INT32 (pick (eqb c 37) UINT64 INT64)))) (ne_eqb c 35 n))
  where
    by : (a : Bool) → eqb c 36 ≡ a → (b : Bool) → eqb c 37 ≡ b → not b ≡ signed (pick a INT32 (pick b UINT64 INT64))
    by true e true f = absurd (let x = eqb-true c 36 e in let y = eqb-true c 37 f in omega arith)
    by true e false f = refl
    by false e true f = refl
    by false e false f = refl

pub width_35 : (c : ℕ) → c ≡ 35 → 32 ≡ width (integer_coded c)
unfolding integer_coded width
width_35 c e = sym (ap (λ (b : Bool). width (pick b UINT32 (pick (eqb c 36) INT32 (pick (eqb c 37) UINT64 INT64)))) (eq-eqb c 35 e))

pub width_36 : (c : ℕ) → (c ≡ 35 → ⊥) → c ≡ 36 → 32 ≡ width (integer_coded c)
unfolding integer_coded width
width_36 c n e = sym (ap₂ (λ (a b : Bool). width (pick a UINT32 (pick b INT32 (pick (eqb c 37) UINT64 INT64)))) (ne_eqb c 35 n) (eq-eqb c 36 e))

pub width_other : (c : ℕ) → (c ≡ 35 → ⊥) → (c ≡ 36 → ⊥) → 64 ≡ width (integer_coded c)
unfolding integer_coded width
width_other c n m = by (eqb c 37) ∙ sym (ap₂ (λ (a b : Bool). width (pick a UINT32 (pick b INT32 (pick (eqb c 37) UINT64 INT64)))) (ne_eqb c 35 n) (ne_eqb c 36 m))
  where
    by : (b : Bool) → 64 ≡ width (pick b UINT64 INT64)
    by true = refl
    by false = refl

pub width_fits : (w : ℕ) (i : Integer) → w ≡ width i → (1 ≤ w) × (w ≤ 64)
unfolding width
width_fits w UINT32 e = (omega arith, omega arith)
width_fits w INT32 e = (omega arith, omega arith)
width_fits w UINT64 e = (omega arith, omega arith)
width_fits w INT64 e = (omega arith, omega arith)

-- Each type has the numbers from 0 up to the greatest of INT32.
pub small_in_type : (i : Integer) (n : Num) → n.amount ≤ 2147483647 → n.negative ≡ false → true ≡ in_type i n
unfolding in_type num_at_most least_of greatest_of signed width
small_in_type UINT32 n h e = rw (e, le-leb 0 n.amount (omega arith), le-leb n.amount 4294967295 (omega arith))
small_in_type INT32 n h e = rw (e, le-leb n.amount 2147483647 h)
small_in_type UINT64 n h e = rw (e, le-leb 0 n.amount (omega arith), le-leb n.amount 18446744073709551615 (omega arith))
small_in_type INT64 n h e = rw (e, le-leb n.amount 9223372036854775807 (omega arith))
