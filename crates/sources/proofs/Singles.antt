-- The laws of the small functions: lines' starts and ends, bytes set aside, numbers that count up, and whether a fill is too long.
-- Assumes nothing.
use Prim.Native.Nat.{ℕ, zero, suc, ◌+◌, ◌-◌, ◌≤◌, ◌<◌, min}
use mathlib.Core.List.{List}
use mathlib.Core.Bool.{Bool, true, false}
use mathlib.Core.Path.{◌≡◌, refl, sym, ◌∙◌, ap, subst}
use native.Mathlib.Omega.{arith}
use lib.ListN.{length, set}
use lib.Seq.{sets, set_out}
use lib.Dec.{ltb, eqb}
use borrow.Author.Tests.{lt-ltb, le-ltb, eq-eqb, ne_eqb, ltb-true, ltb-false}
use Rattle.token.specs.Find.{pick, byte}
use Rattle.token.specs.declared.Step.{Step}
use Rattle.rows.proofs.Stores.{sets_out}
use Rattle.token.specs.Tokens.{step_at}
use Rattle.sources.specs.Lines.{is_aside, line_start, is_end, whole_to, after_line}
use Rattle.sources.specs.Expanding.{up_from, is_too_long, fill_by}
use Rattle.sources.specs.declared.Fill.{Fill}
use Rattle.std.specs.declared.ops.ControlFlow.{ControlFlow}
use Rattle.std.specs.declared.ops.ControlFlow.TheVariants.{Continue, Break}

pub line_here : (s : List ℕ) (i : ℕ) → 0 < i → byte s (i - 1) ≡ 10 → line_start s i ≡ (i - 1) + 1
unfolding line_start
line_here s zero h e = absurd (omega arith)
line_here s (suc i) h e =
    let g : suc i - 1 ≡ i = omega arith in
    let j : suc i ≡ (suc i - 1) + 1 = omega arith in
    rw (eq-eqb (byte s i) 10 (subst (λ (k : ℕ). byte s k ≡ 10) g e)) j

pub line_back : (s : List ℕ) (i : ℕ) → 0 < i → (byte s (i - 1) ≡ 10 → ⊥) → line_start s i ≡ line_start s (i - 1)
unfolding line_start
line_back s zero h e = absurd (omega arith)
line_back s (suc i) h e =
    let g : suc i - 1 ≡ i = omega arith in
    rw (g, ne_eqb (byte s i) 10 (λ f. e (subst (λ (k : ℕ). byte s k ≡ 10) (sym g) f)))

pub line_first : (s : List ℕ) (i : ℕ) → i ≡ 0 → line_start s i ≡ 0
unfolding line_start
line_first s i e = ap (line_start s) e

pub aside_space : (b : ℕ) → b ≡ 32 → is_aside b ≡ true
unfolding is_aside
aside_space b e = rw (eq-eqb b 32 e)

pub aside_tab : (b : ℕ) → (b ≡ 32 → ⊥) → b ≡ 9 → is_aside b ≡ true
unfolding is_aside
aside_tab b n e = rw (ne_eqb b 32 n, eq-eqb b 9 e)

pub aside_last : (b : ℕ) → (b ≡ 32 → ⊥) → (b ≡ 9 → ⊥) → is_aside b ≡ eqb b 13
unfolding is_aside
aside_last b n m = rw (ne_eqb b 32 n, ne_eqb b 9 m)

pub after_inside : (s : List ℕ) (e : ℕ) → e < length s → after_line s e ≡ e + 1
unfolding after_line
after_inside s e h = rw (lt-ltb e (length s) h)

pub after_past : (s : List ℕ) (e : ℕ) → length s ≤ e → after_line s e ≡ e
unfolding after_line
after_past s e h = rw (le-ltb e (length s) h)

pub whole_is : (s : List ℕ) (p : ℕ) (x : Step) → step_at s p ≡ x → is_end x ≡ whole_to s p
unfolding whole_to
whole_is s p x e = ap is_end (sym e)

pub fill_long : (max n p e t : ℕ) → max < t → is_too_long max ≡ fill_by max n p e t
unfolding fill_by
fill_long max n p e t h = rw (lt-ltb max t h)

pub fill_short : (max n p e t : ℕ) → t ≤ max → record { number = n; place = p; end = e; total = t } ≡ fill_by max n p e t
unfolding fill_by
fill_short max n p e t h = rw (le-ltb max t h)

split_by : (a b : ℕ) {P : Type 0} (t : Bool) → ltb a b ≡ t → (a < b → P) → (b ≤ a → P) → P
split_by a b true e f g = f (ltb-true a b e)
split_by a b false e f g = g (ltb-false a b e)

-- one number is less than another, or not
pub split : (a b : ℕ) {P : Type 0} → (a < b → P) → (b ≤ a → P) → P
split a b f g = split_by a b (ltb a b) refl f g

-- a loop that counts up, as far as the cells reach
module _ (l : List ℕ) (a f i n : ℕ) where
  pub up_more : i < n → sets l (a + i) (up_from (f + i) (n - i)) ≡ sets (set l (a + i) (f + i)) (a + (i + 1)) (up_from (f + (i + 1)) (n - (i + 1)))
  unfolding up_from
  up_more h =
      let e : n - i ≡ suc (n - (i + 1)) = omega arith in
      let g : f + (i + 1) ≡ suc (f + i) = omega arith in
      let k : a + (i + 1) ≡ suc (a + i) = omega arith in
      rw (e, g, k)

  up_done : n ≤ i → l ≡ sets l (a + i) (up_from (f + i) (n - i))
  unfolding up_from
  up_done h =
      let e : n - i ≡ 0 = omega arith in
      rw e

  pub up_end : min n (length l - a) ≤ i → l ≡ sets l (a + i) (up_from (f + i) (n - i))
  up_end h = split i n (λ k. sym (sets_out l (a + i) (up_from (f + i) (n - i)) (omega arith))) (λ k. up_done k)

pub up_start : (l : List ℕ) (a f n : ℕ) → sets l (a + 0) (up_from (f + 0) (n - 0)) ≡ sets l a (up_from f n)
up_start l a f n =
    let d : a + 0 ≡ a = omega arith in
    let e : f + 0 ≡ f = omega arith in
    let g : n - 0 ≡ n = omega arith in
    rw (d, e, g)

pub set_past : (l : List ℕ) (i v : ℕ) → length l ≤ i → l ≡ set l i v
set_past l i v h = sym (set_out l i v h)

-- an LF in the stead of a line
pub end_full : (max a q : ℕ) (x : Fill) → a ≡ max → x ≡ is_too_long max → ◌≡◌ {A = ControlFlow Fill (ℕ × ℕ)} (Break x) (pick (eqb a max) (Break (is_too_long max)) (Continue (q, a + 1)))
end_full max a q x h e = rw (eq-eqb a max h, e)

pub end_on : (max a q : ℕ) → (a ≡ max → ⊥) → ◌≡◌ {A = ControlFlow Fill (ℕ × ℕ)} (Continue (q, a + 1)) (pick (eqb a max) (Break (is_too_long max)) (Continue (q, a + 1)))
end_on max a q h = rw (ne_eqb a max h)
