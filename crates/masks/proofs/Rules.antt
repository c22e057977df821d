-- The laws of the checker's and the planner's turns over the marks. Assumes nothing.
use mathlib.Core.Path.{◌≡◌, refl, sym, ◌∙◌, ap, ap₂, subst}
use mathlib.Core.List.{List, [], ◌∷◌}
use mathlib.Core.Bool.{Bool, true, false, not}
use mathlib.Core.Option.{Option, some}
use Prim.Native.Nat.{ℕ, zero, suc, ◌+◌, ◌*◌, ◌/◌, ◌%◌, ◌-◌, ◌<◌, ◌≤◌, ◌^◌}
use native.Mathlib.Omega.{arith}
use native.Mathlib.Numerals.{add-one}
use lib.ListN.{length, get_or, drop, set, length-set}
use lib.Seq.{ext_get_or, get_or-set_same, get_or-set_other}
use lib.Dec.{eqb, ltb}
use lib.Pow.{pow_pos}
use borrow.Author.Tests.{eq-eqb, ne_eqb, lt-ltb, le-ltb}
use Rattle.token.specs.Find.{pick, both, find}
use Rattle.token.proofs.Bytes.{both_true, both_second}
use Rattle.std.specs.Prelude.{Some, None}
use Rattle.meaning.specs.Words.{choose}
use Rattle.masks.specs.Bits.{has, some_below, single, common}
use Rattle.masks.specs.Masks.{Mask, given, automatic, Task, beside, keeps, breaking, before_plan, taken, lowest, Plan, full, plan_from}
use Rattle.masks.specs.Marks.{mask_at, masks_at, has_power, found_of, plan_of, start_of, GathersAll, Turned}
use Rattle.masks.specs.Statements.{OneBit}
use Rattle.masks.proofs.Reflections.{not_both, both_intro, Cases, yes, no, cases, some_below_true, some_below_is, single_true, Order, less, same, more, order, from_zero}
use Rattle.masks.proofs.Powers.{has_own, has_only}
use Rattle.masks.proofs.Looping.{drop_here}

-- Masks in rows ----------------------------------------------------------------------------------------------------------------------------

mask_given : (t : List ℕ) (i x g : ℕ) → x ≡ get_or t (i * 2 + 0) 0 → x ≡ 0 → g ≡ get_or t (i * 2 + 1) 0 → mask_at t i ≡ given g
unfolding mask_at
mask_given t i x g e z q = ap (λ (b : Bool). pick b (given (get_or t (i * 2 + 1) 0)) automatic) (eq-eqb (get_or t (i * 2 + 0) 0) 0 (sym e ∙ z)) ∙ ap given (sym q)

mask_auto : (t : List ℕ) (i x : ℕ) → x ≡ get_or t (i * 2 + 0) 0 → (x ≡ 0 → ⊥) → mask_at t i ≡ automatic
unfolding mask_at
mask_auto t i x e z = ap (λ (b : Bool). pick b (given (get_or t (i * 2 + 1) 0)) automatic) (ne_eqb (get_or t (i * 2 + 0) 0) 0 (λ q. z (e ∙ q)))

-- A single bit -----------------------------------------------------------------------------------------------------------------------------

pub single_positive : (m : ℕ) → single m ≡ true → 0 < m
single_positive m e = let o = single_true m e in subst (λ (x : ℕ). 0 < x) (sym o.is) (pow_pos o.bit)

power_bit : (m n : ℕ) (o : OneBit m) → has_power m n ≡ has n o.bit
unfolding has_power has
power_bit m n o = ap (λ (x : ℕ). eqb (n / x % 2) 1) o.is

common_power : (m n : ℕ) → OneBit m → common m n ≡ has_power m n
unfolding common has_power has
common_power m n o = go (cases (has n o.bit))
  where
    at : has_power m n ≡ has n o.bit
    at = ap (λ (x : ℕ). eqb (n / x % 2) 1) o.is

    own : has m o.bit ≡ true
    own = ap (λ (x : ℕ). has x o.bit) o.is ∙ has_own o.bit

    by : Cases (some_below 64 (λ k. both (has m k) (has n k))) → has n o.bit ≡ false → some_below 64 (λ k. both (has m k) (has n k)) ≡ false
    by (no q) e = q
    by (yes q) e =
        let r = some_below_true 64 (λ k. both (has m k) (has n k)) q in
        let k = r.number in
        let z : o.bit ≡ k = has_only o.bit k (ap (λ (x : ℕ). has x k) (sym o.is) ∙ both_true (has m k) (has n k) r.holds) in
        absurd (not_both (ap (has n) z ∙ both_second (has m k) (has n k) r.holds) e)

    go : Cases (has n o.bit) → common m n ≡ has_power m n
    go (yes q) = some_below_is 64 (λ k. both (has m k) (has n k)) o.bit o.below (both_intro own q) ∙ sym (at ∙ q)
    go (no q) = by (cases (some_below 64 (λ k. both (has m k) (has n k)))) q ∙ sym (at ∙ q)

-- The checker's rule -----------------------------------------------------------------------------------------------------------------------

module _ (ts : List Task) (l t : List ℕ) (i m x : ℕ) (e : x ≡ get_or t (i * 2 + 0) 0) where
  pub rule_given : (g : ℕ) → x ≡ 0 → g ≡ get_or t (i * 2 + 1) 0 → eqb m g ≡ keeps ts l i (mask_at t i) m
  unfolding keeps
  rule_given g z q = ap (λ (r : Mask). keeps ts l i r m) (sym (mask_given t i x g e z q))

  pub rule_many : (x ≡ 0 → ⊥) → single m ≡ false → false ≡ keeps ts l i (mask_at t i) m
  unfolding keeps
  rule_many z q = ap (λ (b : Bool). both b (not (beside ts i (common m) l))) (sym q) ∙ ap (λ (r : Mask). keeps ts l i r m) (sym (mask_auto t i x e z))

  pub rule_clash : (x ≡ 0 → ⊥) → single m ≡ true → (u : ℕ) (b : Bool) → GathersAll ts i l u → b ≡ has_power m u → not b ≡ keeps ts l i (mask_at t i) m
  unfolding keeps
  rule_clash z q u b h k =
      let o = single_true m q in
      let f : ◌≡◌ {A = ℕ → Bool} (λ n. has n o.bit) (common m) = λ j n. sym (common_power m n o ∙ power_bit m n o) j in
      ap not (k ∙ power_bit m u o ∙ h o.bit ∙ ap (λ (p : ℕ → Bool). beside ts i p l) f)
      ∙ ap (λ (s : Bool). both s (not (beside ts i (common m) l))) (sym q) ∙ ap (λ (r : Mask). keeps ts l i r m) (sym (mask_auto t i x e z))

-- Its turns --------------------------------------------------------------------------------------------------------------------------------

pub masks_here : (t : List ℕ) (n i : ℕ) → i < n → masks_at t (n - i) i ≡ mask_at t i ∷ masks_at t (n - (i + 1)) (i + 1)
unfolding masks_at
masks_here t n i h =
    let e : n - i ≡ suc (n - (i + 1)) = omega (arith, h) in
    ap (λ (k : ℕ). masks_at t k i) e ∙ ap (λ (k : ℕ). mask_at t i ∷ masks_at t (n - (i + 1)) k) (sym (add-one i))

masks_none : (t : List ℕ) (n i : ℕ) → n ≤ i → masks_at t (n - i) i ≡ []
unfolding masks_at
masks_none t n i h = let e : n - i ≡ 0 = omega (arith, h) in ap (λ (k : ℕ). masks_at t k i) e

module _ (ts : List Task) (t l : List ℕ) where
  abbrev pub left : ℕ → Option ℕ
  left i = breaking ts l i (masks_at t (length l - i) i) (drop i l)

  left_next : (i : ℕ) → i < length l → left i ≡ choose (keeps ts l i (mask_at t i) (get_or l i 0)) (λ _. left (i + 1)) (λ _. some i)
  unfolding breaking
  left_next i h =
      ap₂ (λ (rs : List Mask) (ms : List ℕ). breaking ts l i rs ms) (masks_here t (length l) i h) (drop_here l i h)
      ∙ ap (λ (k : ℕ). choose (keeps ts l i (mask_at t i) (get_or l i 0)) (λ _. breaking ts l k (masks_at t (length l - (i + 1)) (i + 1)) (drop (i + 1) l)) (λ _. some i)) (sym (add-one i))

  pub left_start : left 0 ≡ breaking ts l 0 (masks_at t (length l) 0) l
  left_start = let e : length l - 0 ≡ length l = omega arith in ap (λ (n : ℕ). breaking ts l 0 (masks_at t n 0) l) e

  pub left_stop : (i : ℕ) (o : Option ℕ) → i < length l → keeps ts l i (mask_at t i) (get_or l i 0) ≡ false → left i ≡ o → Some i ≡ found_of o
  unfolding found_of choose
  left_stop i o h e q = ap found_of (sym (left_next i h ∙ ap (λ (b : Bool). choose b (λ _. left (i + 1)) (λ _. some i)) e) ∙ q)

  pub left_more : (i : ℕ) (o : Option ℕ) → i < length l → keeps ts l i (mask_at t i) (get_or l i 0) ≡ true → left i ≡ o → left (i + 1) ≡ o
  unfolding choose
  left_more i o h e q = sym (left_next i h ∙ ap (λ (b : Bool). choose b (λ _. left (i + 1)) (λ _. some i)) e) ∙ q

  pub left_end : (i : ℕ) (o : Option ℕ) → length l ≤ i → left i ≡ o → None ≡ found_of o
  unfolding found_of breaking
  left_end i o h q = ap found_of (sym (ap (λ (rs : List Mask). breaking ts l i rs (drop i l)) (masks_none t (length l) i h)) ∙ q)

-- The masks before any proposal ------------------------------------------------------------------------------------------------------------

pub start_given : (t : List ℕ) (i x g : ℕ) → x ≡ get_or t (i * 2 + 0) 0 → x ≡ 0 → g ≡ get_or t (i * 2 + 1) 0 → g ≡ start_of (mask_at t i)
unfolding start_of
start_given t i x g e z q = ap start_of (sym (mask_given t i x g e z q))

pub start_auto : (t : List ℕ) (i x : ℕ) → x ≡ get_or t (i * 2 + 0) 0 → (x ≡ 0 → ⊥) → 0 ≡ start_of (mask_at t i)
unfolding start_of
start_auto t i x e z = ap start_of (sym (mask_auto t i x e z))

before_cons : (r : Mask) (rs : List Mask) → before_plan (r ∷ rs) ≡ start_of r ∷ before_plan rs
unfolding before_plan start_of
before_cons (given g) rs = refl
before_cons automatic rs = refl

pub before_many : (t : List ℕ) (n i : ℕ) → length (before_plan (masks_at t n i)) ≡ n
unfolding masks_at before_plan
before_many t zero i = refl
before_many t (suc n) i = ap length (before_cons (mask_at t i) (masks_at t n (suc i))) ∙ ap suc (before_many t n (suc i))

before_at : (t : List ℕ) (n i j : ℕ) → j < n → get_or (before_plan (masks_at t n i)) j 0 ≡ start_of (mask_at t (i + j))
unfolding masks_at
before_at t zero i j h = absurd (omega arith)
before_at t (suc n) i zero h = let z : i ≡ i + 0 = omega arith in ap (λ (x : List ℕ). get_or x 0 0) (before_cons (mask_at t i) (masks_at t n (suc i))) ∙ ap (λ (k : ℕ). start_of (mask_at t k)) z
before_at t (suc n) i (suc j) h =
    let z : suc i + j ≡ i + suc j = omega arith in
    let k : j < n = omega (arith, h) in
    ap (λ (x : List ℕ). get_or x (suc j) 0) (before_cons (mask_at t i) (masks_at t n (suc i))) ∙ before_at t n (suc i) j k ∙ ap (λ (m : ℕ). start_of (mask_at t m)) z

-- The first i masks are set; l₀ was lent.
pub record Started (t l₀ l : List ℕ) (i : ℕ) : Type 0 where
  pub size : length l ≡ length l₀
  pub entries : (j : ℕ) → j < i → j < length l₀ → get_or l j 0 ≡ start_of (mask_at t j)

pub none_started : (t l : List ℕ) → Started t l l 0
none_started t l = record { size = refl; entries = λ j h k. absurd (omega (arith, h)) }

pub started_end : {t l₀ l : List ℕ} {i : ℕ} → length l₀ ≤ i → Started t l₀ l i → l ≡ before_plan (masks_at t (length l₀) 0)
started_end {t} {l₀} {l} {i} h f =
    let e = f.size in
    ext_get_or 0 l (before_plan (masks_at t (length l₀) 0)) (e ∙ sym (before_many t (length l₀) 0)) (λ j b.
    let c : j < length l₀ = omega (arith, b, e) in
    let d : j < i = omega (arith, c, h) in
    f.entries j d c ∙ ap (λ (k : ℕ). start_of (mask_at t k)) (sym (from_zero j)) ∙ sym (before_at t (length l₀) 0 j c))

pub started_more : {t l₀ : List ℕ} (l : List ℕ) (i x : ℕ) → i < length l₀ → x ≡ start_of (mask_at t i) → Started t l₀ l i → Started t l₀ (set l i x) (i + 1)
started_more {t} {l₀} l i x h q f = record { size = length-set l i x ∙ f.size; entries = λ j b c. go j b c (order j i) }
  where
    go : (j : ℕ) → j < i + 1 → j < length l₀ → Order j i → get_or (set l i x) j 0 ≡ start_of (mask_at t j)
    go j b c (less d) = get_or-set_other l i j x 0 (λ (z : j ≡ i). omega (arith, d, z)) ∙ f.entries j d c
    go j b c (same z) = let e = f.size in let k : i < length l = omega (arith, e, h) in ap (λ (m : ℕ). get_or (set l i x) m 0) z ∙ get_or-set_same l i x 0 k ∙ q ∙ ap (λ (m : ℕ). start_of (mask_at t m)) (sym z)
    go j b c (more d) = absurd (omega (arith, b, d))

-- The planner's turns ----------------------------------------------------------------------------------------------------------------------

module _ (ts : List Task) (t l : List ℕ) (i x : ℕ) (e : x ≡ get_or t (i * 2 + 0) 0) where
  pub turn_given : x ≡ 0 → Turned ts (mask_at t i) i l l true
  unfolding plan_from
  turn_given z = record {
    goes_on = λ q rest. ap (λ (r : Mask). plan_from ts l i (r ∷ rest)) (mask_given t i x (get_or t (i * 2 + 1) 0) e z refl);
    stops = λ q. absurd (not_both refl q);
  }

  lowest_is : (b : ℕ) → ((k : ℕ) → has b k ≡ beside ts i (λ n. has n k) l) → find (λ k. not (has b k)) 64 0 ≡ lowest ts i l
  unfolding lowest taken
  lowest_is b h = let f : ◌≡◌ {A = ℕ → Bool} (λ k. not (has b k)) (λ k. not (beside ts i (λ n. has n k) l)) = λ j k. not (h k j) in ap (λ (p : ℕ → Bool). find p 64 0) f

  pub turn_auto : (x ≡ 0 → ⊥) → (b k y : ℕ) → ((k : ℕ) → has b k ≡ beside ts i (λ n. has n k) l) → k ≡ find (λ k. not (has b k)) 64 0 → k < 64 → y ≡ 2 ^ k → Turned ts (mask_at t i) i l (set l i y) true
  unfolding plan_from choose
  turn_auto z b k y h q c d =
      let w : k ≡ lowest ts i l = q ∙ lowest_is b h in
      record {
        goes_on = λ _ rest.
            ap (λ (r : Mask). plan_from ts l i (r ∷ rest)) (mask_auto t i x e z)
            ∙ ap (λ (n : ℕ). choose (ltb n 64) (λ _. plan_from ts (set l i (2 ^ n)) (suc i) rest) (λ _. full i)) (sym w)
            ∙ ap (λ (u : Bool). choose u (λ _. plan_from ts (set l i (2 ^ k)) (suc i) rest) (λ _. full i)) (lt-ltb k 64 c)
            ∙ ap (λ (n : ℕ). plan_from ts (set l i n) (suc i) rest) (sym d);
        stops = λ q. absurd (not_both refl q);
      }

  pub turn_full : (x ≡ 0 → ⊥) → (b k : ℕ) → ((k : ℕ) → has b k ≡ beside ts i (λ n. has n k) l) → k ≡ find (λ k. not (has b k)) 64 0 → 64 ≤ k → Turned ts (mask_at t i) i l l false
  unfolding plan_from choose
  turn_full z b k h q c =
      let w : k ≡ lowest ts i l = q ∙ lowest_is b h in
      record {
        goes_on = λ q. absurd (not_both q refl);
        stops = λ _ rest.
            ap (λ (r : Mask). plan_from ts l i (r ∷ rest)) (mask_auto t i x e z)
            ∙ ap (λ (n : ℕ). choose (ltb n 64) (λ _. plan_from ts (set l i (2 ^ n)) (suc i) rest) (λ _. full i)) (sym w)
            ∙ ap (λ (u : Bool). choose u (λ _. plan_from ts (set l i (2 ^ k)) (suc i) rest) (λ _. full i)) (le-ltb k 64 c);
      }

pub turns_start : (ts : List Task) (t : List ℕ) (n : ℕ) (l : List ℕ) → plan_from ts l 0 (masks_at t (n - 0) 0) ≡ plan_from ts l 0 (masks_at t n 0)
turns_start ts t n l = let e : n - 0 ≡ n = omega arith in ap (λ (k : ℕ). plan_from ts l 0 (masks_at t k 0)) e

module _ (ts : List Task) (t : List ℕ) (n : ℕ) (p : Plan) where
  pub turns_more : (l l' : List ℕ) (i : ℕ) (b : Bool) → i < n → Turned ts (mask_at t i) i l l' b → b ≡ true → plan_from ts l i (masks_at t (n - i) i) ≡ p → plan_from ts l' (i + 1) (masks_at t (n - (i + 1)) (i + 1)) ≡ p
  turns_more l l' i b h w e q =
      ap (λ (k : ℕ). plan_from ts l' k (masks_at t (n - (i + 1)) (i + 1))) (add-one i)
      ∙ sym (w.goes_on e (masks_at t (n - (i + 1)) (i + 1))) ∙ sym (ap (plan_from ts l i) (masks_here t n i h)) ∙ q

  pub turns_stop : (l l' : List ℕ) (i : ℕ) (b : Bool) → i < n → Turned ts (mask_at t i) i l l' b → b ≡ false → plan_from ts l i (masks_at t (n - i) i) ≡ p → p ≡ plan_of (Some i) l'
  unfolding plan_of
  turns_stop l l' i b h w e q = sym q ∙ ap (plan_from ts l i) (masks_here t n i h) ∙ w.stops e (masks_at t (n - (i + 1)) (i + 1))

  pub turns_end : (l : List ℕ) (i : ℕ) → n ≤ i → plan_from ts l i (masks_at t (n - i) i) ≡ p → p ≡ plan_of None l
  unfolding plan_of plan_from
  turns_end l i h q = sym q ∙ ap (plan_from ts l i) (masks_none t n i h)
