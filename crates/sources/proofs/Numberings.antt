-- The laws of texts by number, and of their parts. Assumes nothing.
use Prim.Native.Nat.{ℕ, zero, suc, ◌+◌, ◌-◌, ◌*◌, ◌/◌, ◌≤◌, ◌<◌}
use mathlib.Core.List.{List, [], ◌∷◌}
use mathlib.Core.Bool.{Bool, true, false}
use mathlib.Core.Path.{◌≡◌, sym, ◌∙◌, ap, ap₂, subst}
use native.Mathlib.Omega.{arith}
use lib.ListN.{length, get_or, drop, drop_of_length-le}
use lib.Dec.{leb}
use borrow.Author.Tests.{leb-true}
use Rattle.token.specs.Tokens.{bytes_between}
use Rattle.sources.specs.Texts.{told_well, fitting}
use Rattle.sources.specs.Numbering.{span_from, span_of, bytes_at, start_at, bytes_if, start_if, text_bytes, text_start}
use Rattle.std.specs.Prelude.{Option, Some, None}
use Rattle.sources.proofs.Tellings.{four, two, told, on_two, all_told}

module _ (n a : ℕ) (l : List ℕ) (i k : ℕ) where
  opened : i + 1 < length l → span_from n a (drop i l) k ≡ span_from n a (get_or l i 0 ∷ get_or l (i + 1) 0 ∷ drop (i + 2) l) k
  opened h = ap (λ (x : List ℕ). span_from n a x k) (two [] 0 l i h)

  pub span_here : i + 1 < length l → k ≡ 0 → span_from n a (drop i l) k ≡ Some (n, a + get_or l i 0, a + get_or l i 0 + get_or l (i + 1) 0)
  unfolding span_from
  span_here h e = opened h ∙ ap (span_from n a (get_or l i 0 ∷ get_or l (i + 1) 0 ∷ drop (i + 2) l)) e

  span_on : i + 1 < length l → (k ≡ 0 → ⊥) → span_from n a (drop i l) k ≡ span_from n (a + get_or l i 0 + get_or l (i + 1) 0) (drop (i + 2) l) (k - 1)
  unfolding span_from
  span_on h e =
      let z : k ≡ suc (k - 1) = omega arith in
      opened h ∙ ap (span_from n a (get_or l i 0 ∷ get_or l (i + 1) 0 ∷ drop (i + 2) l)) z

  span_none : length l ≤ i → span_from n a (drop i l) k ≡ None
  unfolding span_from
  span_none h = ap (λ (x : List ℕ). span_from n a x k) (drop_of_length-le l h)

pub span_next : (n a : ℕ) (l : List ℕ) (i : ℕ) → i < n → i * 2 + 1 < length l → span_from n a (drop (i * 2) l) (n - i) ≡ span_from n (a + get_or l (i * 2) 0 + get_or l (i * 2 + 1) 0) (drop ((i + 1) * 2) l) (n - (i + 1))
span_next n a l i h g =
    let e : n - i - 1 ≡ n - (i + 1) = omega arith in
    let f : (i * 2 + 1) < length l = omega arith in
    span_on n a l (i * 2) (n - i) f (λ z. omega arith) ∙ ap₂ (span_from n (a + get_or l (i * 2) 0 + get_or l (i * 2 + 1) 0)) (sym (on_two l i)) e

pub span_first : (l : List ℕ) (n : ℕ) → span_from n 0 l (n - 0) ≡ span_of l n
unfolding span_of
span_first l n = let e : n - 0 ≡ n = omega arith in ap (span_from n 0 l) e

pub span_last : (b : List ℕ) (n a : ℕ) (l : List ℕ) (k i : ℕ) → i ≡ length l / 2 → fitting b a (drop (i * 2) l) ≡ true → span_from n a (drop (i * 2) l) k ≡ None
span_last b n a l k i e f = span_none n a l (i * 2) k (all_told b a l i e f)

-- ---- texts that are the same

abbrev text_in : Option (ℕ × ℕ × ℕ) → ℕ × ℕ × ℕ
text_in (Some x) = x
text_in None = (0, 0, 0)

module _ {n f e m g h : ℕ} (k : ◌≡◌ {A = Option (ℕ × ℕ × ℕ)} (Some (n, f, e)) (Some (m, g, h))) where
  pub same_number : n ≡ m
  same_number = ap (λ (x : Option (ℕ × ℕ × ℕ)). (text_in x).0) k

  pub same_from : f ≡ g
  same_from = ap (λ (x : Option (ℕ × ℕ × ℕ)). (text_in x).1) k

  pub same_to : e ≡ h
  same_to = ap (λ (x : Option (ℕ × ℕ × ℕ)). (text_in x).2) k

-- ---- what is found lies inside

abbrev SpanOk : List ℕ → Option (ℕ × ℕ × ℕ) → Type 0
SpanOk b (Some (n, f, t)) = (f ≤ t) × (t ≤ length b) × (t ≤ f + 65535)
SpanOk b None = Unit {0}

span_fits : (b : List ℕ) (n a : ℕ) (l : List ℕ) (k : ℕ) → a ≤ length b → fitting b a l ≡ true → SpanOk b (span_from n a l k)
unfolding span_from fitting
span_fits b n a [] k h e = tt
span_fits b n a (x ∷ []) k h e = tt
span_fits b n a (x ∷ t ∷ l) zero h e =
    let f = four (leb x (length b - a)) (leb t (length b - (a + x))) (leb t 65535) (fitting b (a + x + t) l) e in
    let u = leb-true x (length b - a) f.first in
    let v = leb-true t (length b - (a + x)) f.second in
    let w = leb-true t 65535 f.third in
    (omega arith, omega arith, omega arith)
span_fits b n a (x ∷ t ∷ l) (suc k) h e =
    let f = four (leb x (length b - a)) (leb t (length b - (a + x))) (leb t 65535) (fitting b (a + x + t) l) e in
    let u = leb-true x (length b - a) f.first in
    let v = leb-true t (length b - (a + x)) f.second in
    span_fits b n (a + x + t) l k (omega arith) f.fourth

pub span_ok : (b l : List ℕ) (k n f t : ℕ) → told_well b l ≡ true → span_of l k ≡ Some (n, f, t) → (f ≤ t) × (t ≤ length b) × (t ≤ f + 65535)
unfolding span_of
span_ok b l k n f t u e = subst (SpanOk b) e (span_fits b k 0 l k (omega arith) (told b l u).fit)

-- ---- texts

module _ (b l : List ℕ) (k : ℕ) where
  pub text_there : (n f t : ℕ) → told_well b l ≡ true → span_of l k ≡ Some (n, f, t) → bytes_between b f t ≡ text_bytes b l k
  unfolding text_bytes bytes_at
  text_there n f t w e = sym (ap (λ (u : Bool). bytes_if u b (span_of l k)) w ∙ ap (bytes_at b) e)

  pub start_there : (n f t : ℕ) → told_well b l ≡ true → span_of l k ≡ Some (n, f, t) → text_start b l k ≡ f
  unfolding text_start start_at
  start_there n f t w e = ap (λ (u : Bool). start_if u (span_of l k)) w ∙ ap start_at e

  pub text_absent : told_well b l ≡ true → span_of l k ≡ None → [] ≡ text_bytes b l k
  unfolding text_bytes bytes_at
  text_absent w e = sym (ap (λ (u : Bool). bytes_if u b (span_of l k)) w ∙ ap (bytes_at b) e)

  pub start_absent : told_well b l ≡ true → span_of l k ≡ None → text_start b l k ≡ 0
  unfolding text_start start_at
  start_absent w e = ap (λ (u : Bool). start_if u (span_of l k)) w ∙ ap start_at e

  pub text_untold : told_well b l ≡ false → [] ≡ text_bytes b l k
  unfolding text_bytes
  text_untold w = sym (ap (λ (u : Bool). bytes_if u b (span_of l k)) w)

  pub start_untold : told_well b l ≡ false → text_start b l k ≡ 0
  unfolding text_start
  start_untold w = ap (λ (u : Bool). start_if u (span_of l k)) w
