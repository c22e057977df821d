-- What the functions over ranges cite. Assumes nothing.
use mathlib.Core.Path.{◌≡◌, refl, sym, ◌∙◌, ap, ap₂, subst}
use mathlib.Core.List.{List, [], ◌∷◌, ◌++◌, append-nil}
use mathlib.Core.Bool.{Bool, true, false, not}
use mathlib.Core.Option.{Option, none, some}
use Prim.Native.Nat.{ℕ, suc, ◌≤◌, ◌<◌}
use native.Mathlib.Omega.{arith}
use native.Mathlib.Decide.{dec_lt}
use lib.ListN.{length}
use lib.Dec.{eqb, ltb, leb}
use borrow.Author.Tests.{eq-eqb, lt-ltb, le-leb}
use Rattle.std.specs.Prelude.{Some, None}
use Rattle.token.specs.Find.{pick, both, either}
use Rattle.token.specs.Tokens.{step_at}
use Rattle.token.specs.declared.Step.{Step}
use Rattle.token.specs.declared.Step.TheVariants.{Found, Refused, End}
use Rattle.token.proofs.Steps.{found_fits, bad_fits, end_fits}
use Rattle.token.proofs.Bytes.{either_true}
use Rattle.grammar.specs.Grammar.{Integer}
use Rattle.rows.specs.Order.{MaybeFault, fault_if}
use Rattle.meaning.specs.Syntax.{Num, Word, Bounds, from_to, one_of}
use Rattle.meaning.specs.Words.{num_at_most, equal, in_type, in_bounds, among_numbers}
use Rattle.meaning.specs.Faults.{Fault as Refusal, faults_if, ahead, sooner, first}
use Rattle.meaning.specs.Defining.{outside, bound_faults}
use Rattle.meaning.proofs.Order.{InOrder, ordered_from}
use Rattle.scopes.specs.declared.Item.{Item}
use Rattle.scopes.specs.Items.{num, item_of_step, item_at}
use Rattle.scopes.specs.Ranges.{NumberAt, SignAt, Listed, listed_none, listed_more, RangeAt, range_none, range_two, range_list}
use Rattle.scopes.specs.Promises.{fault_of, IsListed, InRange, ListFault, BoundFault}
use Rattle.scopes.proofs.Chains.{item_at_lem, item_next}

-- Places of items ---------------------------------------------------------------------------------------------------------------------------

-- A sign is found at a token: the place after it is behind, and in the text.
sign_on : (s : List ℕ) (p : ℕ) → ((item_at s p).sign ≡ 0 → ⊥) → (p < (item_at s p).next) × ((item_at s p).next ≤ length s)
unfolding item_at item_of_step
sign_on s p h = by (step_at s p) refl h
  where
    by : (r : Step) → step_at s p ≡ r → ((item_of_step r).sign ≡ 0 → ⊥) → (p < (item_of_step r).next) × ((item_of_step r).next ≤ length s)
    by (Found t c) e h =
        let o = found_fits s p t c e in
        let n = item_next t.sort t.at c.at in
        let a = o.after in
        let b = o.long in
        let d = o.next in
        let i = o.inside in
        (omega (arith, n, a, b, d, i), omega (arith, n, a, b, d, i))
    by (Refused q) e h = absurd (h refl)
    by (End n) e h = absurd (h refl)

-- What is found from a place in the text on is not before it.
item_low : (s : List ℕ) (p : ℕ) → p ≤ length s → (p ≤ (item_at s p).at) × (p ≤ (item_at s p).next)
unfolding item_at item_of_step
item_low s p h = by (step_at s p) refl
  where
    by : (r : Step) → step_at s p ≡ r → (p ≤ (item_of_step r).at) × (p ≤ (item_of_step r).next)
    by (Found t c) e =
        let o = found_fits s p t c e in
        let m = item_at_lem t.sort t.at c.at in
        let n = item_next t.sort t.at c.at in
        let a = o.after in
        let d = o.next in
        (omega (arith, m, a), omega (arith, n, a, d))
    by (Refused q) e = let b = (bad_fits s p q e).0 in (b, b)
    by (End n) e = let b = end_fits s p n e in (omega arith, omega arith)

-- A loop's turn goes on.
pub turn_on : (s : List ℕ) (p : ℕ) (x y : Item) → x ≡ item_at s p → x.sign ≡ 44 → y ≡ item_at s x.next → p < y.next
turn_on s p x y e h g =
    let n : (item_at s p).next ≡ x.next = ap (λ (i : Item). i.next) (sym e) in
    let a = sign_on s p (λ z. let w : (item_at s p).sign ≡ x.sign = ap (λ (i : Item). i.sign) (sym e) in omega (arith, w, h, z)) in
    let b = item_low s x.next (omega (arith, a, n)) in
    let m : y.next ≡ (item_at s x.next).next = ap (λ (i : Item). i.next) g in
    omega (arith, a, b, n, m)

-- Numbers listed ----------------------------------------------------------------------------------------------------------------------------

-- The numbers that are left to look at decide the whole.
pub record Left (s : List ℕ) (n : Num) (at : ℕ) (ws : List Word) : Type 0 where
  pub left : List Word
  pub listed : Listed s at left
  pub whole : among_numbers n ws ≡ among_numbers n left

abbrev pub Seeking : List ℕ → Num → (from at : ℕ) → Type 0
Seeking s n from at = (ws : List Word) → Listed s from ws → Left s n at ws

module _ (s : List ℕ) (n : Num) (from : ℕ) where
  pub listed_start : Seeking s n from from
  listed_start ws l = record { left = ws; listed = l; whole = refl }

  module _ (at : ℕ) (k : Seeking s n from at) where
    pub listed_stop : (x : Item) → x ≡ item_at s at → (x.sign ≡ 44 → ⊥) → IsListed s from n false
    unfolding among_numbers
    listed_stop x e h ws l = by (k ws l).listed ∙ sym (k ws l).whole
      where
        by : {us : List Word} → Listed s at us → false ≡ among_numbers n us
        by (listed_none z) = refl
        by (listed_more z w r) = absurd (h (ap (λ (i : Item). i.sign) e ∙ z.sign))

    pub listed_end : length s ≤ at → IsListed s from n false
    unfolding among_numbers
    listed_end h ws l = by (k ws l).listed ∙ sym (k ws l).whole
      where
        by : {us : List Word} → Listed s at us → false ≡ among_numbers n us
        by (listed_none z) = refl
        by (listed_more z w r) = absurd (let a = sign_on s at (λ y. let b = z.sign in omega (arith, b, y)) in omega (arith, a))

    module _ (x y : Item) (e : x ≡ item_at s at) (h : x.sign ≡ 44) (g : y ≡ item_at s x.next) (b : Bool) (q : b ≡ equal n (num y.number)) where
      number_is : {p r : ℕ} {w : Word} → SignAt s at 44 p → NumberAt s p w r → (equal n w.number ≡ b) × (y.next ≡ r)
      number_is {p} {r} {w} z v =
          let m : p ≡ x.next = sym z.next ∙ ap (λ (i : Item). i.next) (sym e) in
          let u : y ≡ item_at s p = g ∙ ap (item_at s) (sym m) in
          (ap (equal n) (sym v.number ∙ ap (λ (i : Item). num i.number) (sym u)) ∙ sym q, ap (λ (i : Item). i.next) u ∙ v.next)

      pub listed-hit : b ≡ true → IsListed s from n true
      unfolding among_numbers
      listed-hit t ws l = by (k ws l).listed ∙ sym (k ws l).whole
        where
          by : {us : List Word} → Listed s at us → true ≡ among_numbers n us
          by (listed_none z) = absurd (z (ap (λ (i : Item). i.sign) (sym e) ∙ h))
          by (listed_more {ws = rest} z v r) = sym (ap (λ c. either c (among_numbers n rest)) ((number_is z v).0 ∙ t))

      pub listed-on : b ≡ false → Seeking s n from y.next
      unfolding among_numbers
      listed-on t ws l = by (k ws l).listed (k ws l).whole
        where
          by : {us : List Word} → Listed s at us → among_numbers n ws ≡ among_numbers n us → Left s n y.next ws
          by (listed_none z) o = absurd (z (ap (λ (i : Item). i.sign) (sym e) ∙ h))
          by (listed_more {ws = rest} z v r) o =
              record { left = rest; listed = subst (λ c. Listed s c rest) (sym (number_is z v).1) r; whole = o ∙ ap (λ c. either c (among_numbers n rest)) ((number_is z v).0 ∙ t) }

-- Ranges ------------------------------------------------------------------------------------------------------------------------------------

module _ (s : List ℕ) (p : ℕ) where
  pub range_zero : (n : Num) → p ≡ 0 → InRange s p n true
  unfolding in_bounds
  range_zero n e b (range_none i) = refl
  range_zero n e b (range_two h o a t c) = absurd (h e)
  range_zero n e b (range_list h o a t l) = absurd (h e)

  module _ (h : p ≡ 0 → ⊥) (o a z : Item) (e : o ≡ item_at s p) (g : a ≡ item_at s o.next) (k : z ≡ item_at s a.next) where
    -- The two bounds.
    record Two (y : Item) (b : Bounds) : Type 0 where
      low : Word
      high : Word
      bounds : b ≡ from_to low high
      low_number : num a.number ≡ low.number
      low-place : a.at ≡ low.place
      high_number : num y.number ≡ high.number
      high-place : y.at ≡ high.place
      order : low.place < high.place

    -- The numbers listed.
    record Many (b : Bounds) : Type 0 where
      head : Word
      tail : List Word
      bounds : b ≡ one_of (head ∷ tail)
      number : num a.number ≡ head.number
      place : a.at ≡ head.place
      before : head.place < a.next
      listed : Listed s a.next tail

    two : (y : Item) (b : Bounds) → z.sign ≡ 46 → y ≡ item_at s z.next → RangeAt s p b → Two y b
    two y b t v (range_none i) = absurd (h i)
    two y b t v (range_two {q = q} {r} {t = q₂} n x m w u) =
        let i : a ≡ item_at s q = g ∙ ap (item_at s) (ap (λ (i : Item). i.next) e ∙ x.next) in
        let j : z ≡ item_at s r = k ∙ ap (item_at s) (ap (λ (i : Item). i.next) i ∙ m.next) in
        let l : y ≡ item_at s q₂ = v ∙ ap (item_at s) (ap (λ (i : Item). i.next) j ∙ w.next) in
        let c = sign_on s r (λ d. let f = w.sign in omega (arith, f, d)) in
        let d = w.next in
        let f = item_low s q₂ (omega (arith, c, d)) in
        let a₁ = m.long in
        let a₂ = u.place in
        record {
          low = _;
          high = _;
          bounds = refl;
          low_number = ap (λ (i : Item). num i.number) i ∙ m.number;
          low-place = ap (λ (i : Item). i.at) i ∙ m.place;
          high_number = ap (λ (i : Item). num i.number) l ∙ u.number;
          high-place = ap (λ (i : Item). i.at) l ∙ u.place;
          order = omega (arith, c, d, f, a₁, a₂);
        }
    two y b t v (range_list {q = q} {r} n x m w l) =
        let i : a ≡ item_at s q = g ∙ ap (item_at s) (ap (λ (i : Item). i.next) e ∙ x.next) in
        let j : z ≡ item_at s r = k ∙ ap (item_at s) (ap (λ (i : Item). i.next) i ∙ m.next) in
        absurd (w (ap (λ (i : Item). i.sign) (sym j) ∙ t))

    many : (b : Bounds) → (z.sign ≡ 46 → ⊥) → RangeAt s p b → Many b
    many b t (range_none i) = absurd (h i)
    many b t (range_two {q = q} {r} n x m w u) =
        let i : a ≡ item_at s q = g ∙ ap (item_at s) (ap (λ (i : Item). i.next) e ∙ x.next) in
        let j : z ≡ item_at s r = k ∙ ap (item_at s) (ap (λ (i : Item). i.next) i ∙ m.next) in
        absurd (t (ap (λ (i : Item). i.sign) j ∙ w.sign))
    many b t (range_list {q = q} {r} {ws = ws} n x m w l) =
        let i : a ≡ item_at s q = g ∙ ap (item_at s) (ap (λ (i : Item). i.next) e ∙ x.next) in
        let j : a.next ≡ r = ap (λ (i : Item). i.next) i ∙ m.next in
        let c = m.long in
        record {
          head = _;
          tail = ws;
          bounds = refl;
          number = ap (λ (i : Item). num i.number) i ∙ m.number;
          place = ap (λ (i : Item). i.at) i ∙ m.place;
          before = omega (arith, c, j);
          listed = subst (λ c. Listed s c ws) (sym j) l;
        }

    module _ (n : Num) where
      pub in_two : (y : Item) (c r : Bool) → z.sign ≡ 46 → y ≡ item_at s z.next → c ≡ num_at_most (num a.number) n → c ≡ true → r ≡ num_at_most n (num y.number) → InRange s p n r
      unfolding in_bounds
      in_two y c r t v q u w b d =
          let x = two y b t v d in
          w ∙ ap (num_at_most n) x.high_number
          ∙ sym (ap (in_bounds n) x.bounds ∙ ap (λ f. both f (num_at_most n x.high.number)) (ap (λ m. num_at_most m n) (sym x.low_number) ∙ sym q ∙ u))

      pub below_two : (y : Item) (c : Bool) → z.sign ≡ 46 → y ≡ item_at s z.next → c ≡ num_at_most (num a.number) n → c ≡ false → InRange s p n false
      unfolding in_bounds
      below_two y c t v q u b d =
          let x = two y b t v d in
          sym (ap (in_bounds n) x.bounds ∙ ap (λ f. both f (num_at_most n x.high.number)) (ap (λ m. num_at_most m n) (sym x.low_number) ∙ sym q ∙ u))

      module _ (t : z.sign ≡ 46 → ⊥) (c : Bool) (q : c ≡ equal n (num a.number)) where
        pub in_first : c ≡ true → InRange s p n true
        unfolding in_bounds among_numbers
        in_first u b d =
            let x = many b t d in
            sym (ap (in_bounds n) x.bounds ∙ ap (λ f. either f (among_numbers n x.tail)) (ap (equal n) (sym x.number) ∙ sym q ∙ u))

        pub in_rest : (r : Bool) → c ≡ false → IsListed s a.next n r → InRange s p n r
        unfolding in_bounds among_numbers
        in_rest r u w b d =
            let x = many b t d in
            w x.tail x.listed
            ∙ sym (ap (in_bounds n) x.bounds ∙ ap (λ f. either f (among_numbers n x.tail)) (ap (equal n) (sym x.number) ∙ sym q ∙ u))

-- Faults ------------------------------------------------------------------------------------------------------------------------------------

-- A fault, if any, is a 21 not before p.
abbrev Ten : ℕ → Option Refusal → Type 0
Ten p none = Unit {0}
Ten p (some g) = (p ≤ g.place) × (g.number ≡ 21)

ten_lower : (p q : ℕ) (o : Option Refusal) → p ≤ q → Ten q o → Ten p o
ten_lower p q none h t = tt
ten_lower p q (some g) h t = let a = t.0 in (omega arith, t.1)

-- A 21 at p comes before such.
ten_first : (p : ℕ) (o : Option Refusal) → Ten p o → sooner (some (record { place = p; number = 21 })) o ≡ some (record { place = p; number = 21 })
unfolding sooner ahead
ten_first p none t = refl
ten_first p (some g) t = by (dec_lt p g.place)
  where
    by : Dec (p < g.place) → some (pick (either (ltb p g.place) (both (eqb p g.place) (leb 21 g.number))) (record { place = p; number = 21 }) g) ≡ some (record { place = p; number = 21 })
    by (yes l) = ap (λ b. some (pick (either b (both (eqb p g.place) (leb 21 g.number))) (record { place = p; number = 21 }) g)) (lt-ltb p g.place l)
    by (no l) =
        let a = t.0 in
        let n = t.1 in
        let e : p ≡ g.place = omega arith in
        let m : 21 ≤ g.number = omega arith in
        ap (λ b. some (pick b (record { place = p; number = 21 }) g))
        (ap₂ (λ b c. either (ltb p g.place) (both b c)) (eq-eqb p g.place e) (le-leb 21 g.number m) ∙ either_true (ltb p g.place))

-- Of words in order, the numbers outside the type.
outside_ten : (i : Integer) (ws : List Word) (p : ℕ) → InOrder p ws → Ten p (first (outside i ws))
unfolding outside first faults_if
outside_ten i [] p o = tt
outside_ten i (w ∷ ws) p o = by (not (in_type i w.number)) (outside_ten i ws (suc w.place) o.1)
  where
    by : (b : Bool) → Ten (suc w.place) (first (outside i ws)) → Ten p (first (faults_if b w 21 ++ outside i ws))
    by true t = let a = o.0 in subst (Ten p) (sym (ten_first w.place (first (outside i ws)) (ten_lower w.place (suc w.place) (first (outside i ws)) (omega arith) t))) (a, refl)
    by false t = let a = o.0 in ten_lower p (suc w.place) (first (outside i ws)) (omega arith) t

-- The first word, inside the type or not.
first_out : (i : Integer) (w : Word) (ws : List Word) → InOrder (suc w.place) ws → in_type i w.number ≡ false → first (outside i (w ∷ ws)) ≡ some (record { place = w.place; number = 21 })
unfolding outside first faults_if
first_out i w ws o e =
    ap (λ b. first (faults_if (not b) w 21 ++ outside i ws)) e
    ∙ ten_first w.place (first (outside i ws)) (ten_lower w.place (suc w.place) (first (outside i ws)) (omega arith) (outside_ten i ws (suc w.place) o))

first_in : (i : Integer) (w : Word) (ws : List Word) → in_type i w.number ≡ true → first (outside i (w ∷ ws)) ≡ first (outside i ws)
unfolding outside faults_if
first_in i w ws e = ap (λ b. first (faults_if (not b) w 21 ++ outside i ws)) e

-- Numbers listed are in order.
listed_order : (s : List ℕ) (p : ℕ) (ws : List Word) → Listed s p ws → InOrder p ws
listed_order s p [] (listed_none z) = tt
listed_order s p (w ∷ ws) (listed_more {q = q} {r} z v l) =
    let a = sign_on s p (λ d. let f = z.sign in omega (arith, f, d)) in
    let b = z.next in
    let c = item_low s q (omega (arith, a, b)) in
    let d = v.place in
    let m = v.long in
    let o = listed_order s r ws l in
    (omega (arith, a, b, c, d), ordered_from ws (omega (arith, m)) o)

pub record LeftOut (s : List ℕ) (i : Integer) (at : ℕ) (ws : List Word) : Type 0 where
  pub left : List Word
  pub listed : Listed s at left
  pub whole : first (outside i ws) ≡ first (outside i left)

abbrev pub SeekingOut : List ℕ → Integer → (from at : ℕ) → Type 0
SeekingOut s i from at = (ws : List Word) → Listed s from ws → LeftOut s i at ws

module _ (s : List ℕ) (i : Integer) (from : ℕ) where
  pub out_start : SeekingOut s i from from
  out_start ws l = record { left = ws; listed = l; whole = refl }

  module _ (at : ℕ) (k : SeekingOut s i from at) where
    pub out_stop : (x : Item) → x ≡ item_at s at → (x.sign ≡ 44 → ⊥) → ListFault s i from None
    unfolding outside first fault_of
    out_stop x e h ws l = by (k ws l).listed ∙ sym (ap fault_of (k ws l).whole)
      where
        by : {us : List Word} → Listed s at us → None ≡ fault_of (first (outside i us))
        by (listed_none z) = refl
        by (listed_more z w r) = absurd (h (ap (λ (y : Item). y.sign) e ∙ z.sign))

    pub out_end : length s ≤ at → ListFault s i from None
    unfolding outside first fault_of
    out_end h ws l = by (k ws l).listed ∙ sym (ap fault_of (k ws l).whole)
      where
        by : {us : List Word} → Listed s at us → None ≡ fault_of (first (outside i us))
        by (listed_none z) = refl
        by (listed_more z w r) = absurd (let a = sign_on s at (λ y. let b = z.sign in omega (arith, b, y)) in omega (arith, a))

    module _ (x y : Item) (e : x ≡ item_at s at) (h : x.sign ≡ 44) (g : y ≡ item_at s x.next) (b : Bool) (q : b ≡ in_type i (num y.number)) where
      found-is : {p r : ℕ} {w : Word} → SignAt s at 44 p → NumberAt s p w r → (in_type i w.number ≡ b) × ((y.next ≡ r) × (y.at ≡ w.place))
      found-is {p} {r} {w} z v =
          let m : p ≡ x.next = sym z.next ∙ ap (λ (j : Item). j.next) (sym e) in
          let u : y ≡ item_at s p = g ∙ ap (item_at s) (sym m) in
          (ap (in_type i) (sym v.number ∙ ap (λ (j : Item). num j.number) (sym u)) ∙ sym q, (ap (λ (j : Item). j.next) u ∙ v.next, ap (λ (j : Item). j.at) u ∙ v.place))

      pub out-hit : b ≡ false → ListFault s i from (Some (record { number = 21; place = y.at }))
      unfolding fault_of
      out-hit t ws l = by (k ws l).listed ∙ sym (ap fault_of (k ws l).whole)
        where
          by : {us : List Word} → Listed s at us → Some (record { number = 21; place = y.at }) ≡ fault_of (first (outside i us))
          by (listed_none z) = absurd (z (ap (λ (j : Item). j.sign) (sym e) ∙ h))
          by (listed_more {r = r₁} {w = w} {ws = rest} z v r) =
              let m = v.long in
              ap (λ (n : ℕ). Some (record { number = 21; place = n })) (found-is z v).1.1
              ∙ sym (ap fault_of (first_out i w rest (ordered_from rest (omega (arith, m)) (listed_order s r₁ rest r)) ((found-is z v).0 ∙ t)))

      pub out-on : b ≡ true → SeekingOut s i from y.next
      out-on t ws l = by (k ws l).listed (k ws l).whole
        where
          by : {us : List Word} → Listed s at us → first (outside i ws) ≡ first (outside i us) → LeftOut s i y.next ws
          by (listed_none z) o = absurd (z (ap (λ (j : Item). j.sign) (sym e) ∙ h))
          by (listed_more {w = w} {ws = rest} z v r) o =
              record { left = rest; listed = subst (λ c. Listed s c rest) (sym (found-is z v).1.0) r; whole = o ∙ first_in i w rest ((found-is z v).0 ∙ t) }

-- The faults of two bounds in order.
module _ (i : Integer) (a b : Word) (l : a.place < b.place) where
  both_ten : Ten a.place (first (outside i (a ∷ b ∷ [])))
  both_ten = outside_ten i (a ∷ b ∷ []) a.place (omega arith, (omega arith, tt))

  two_crossed : num_at_most a.number b.number ≡ false → first (bound_faults i (from_to a b)) ≡ some (record { place = a.place; number = 21 })
  unfolding bound_faults faults_if first
  two_crossed e = ap (λ c. first (faults_if (not c) a 21 ++ outside i (a ∷ b ∷ []))) e ∙ ten_first a.place (first (outside i (a ∷ b ∷ []))) both_ten

  two_straight : num_at_most a.number b.number ≡ true → first (bound_faults i (from_to a b)) ≡ first (outside i (a ∷ b ∷ []))
  unfolding bound_faults faults_if
  two_straight e = ap (λ c. first (faults_if (not c) a 21 ++ outside i (a ∷ b ∷ []))) e

  high_fault : (t : Bool) → in_type i b.number ≡ t → first (outside i (b ∷ [])) ≡ first (faults_if (not t) b 21)
  unfolding outside
  high_fault t e = ap (λ c. first (faults_if (not c) b 21 ++ [])) e ∙ ap first (append-nil (faults_if (not t) b 21))

pub fault_if_is : (t : Bool) (w : Word) (p : ℕ) → p ≡ w.place → fault_if t 21 p ≡ fault_of (first (faults_if t w 21))
unfolding fault_if fault_of first sooner faults_if
fault_if_is true w p e = ap (λ (n : ℕ). Some (record { number = 21; place = n })) e
fault_if_is false w p e = refl

module _ (s : List ℕ) (i : Integer) (p : ℕ) where
  pub bound_zero : p ≡ 0 → BoundFault s i p None
  unfolding bound_faults first fault_of
  bound_zero e b (range_none j) = refl
  bound_zero e b (range_two h o a t c) = absurd (h e)
  bound_zero e b (range_list h o a t l) = absurd (h e)

  module _ (h : p ≡ 0 → ⊥) (o a z : Item) (e : o ≡ item_at s p) (g : a ≡ item_at s o.next) (k : z ≡ item_at s a.next) where
    module _ (y : Item) (t : z.sign ≡ 46) (v : y ≡ item_at s z.next) (c : Bool) (q : c ≡ num_at_most (num a.number) (num y.number)) where
      pub bound-crossed : c ≡ false → BoundFault s i p (Some (record { number = 21; place = a.at }))
      unfolding fault_of
      bound-crossed u b d =
          let x = two s p h o a z e g k y b t v d in
          ap (λ (n : ℕ). Some (record { number = 21; place = n })) x.low-place
          ∙ sym (ap (λ b. fault_of (first (bound_faults i b))) x.bounds
          ∙ ap fault_of (two_crossed i x.low x.high x.order (sym (ap₂ num_at_most x.low_number x.high_number) ∙ sym q ∙ u)))

      module _ (u : c ≡ true) (c₁ : Bool) (q₁ : c₁ ≡ in_type i (num a.number)) where
        pub bound-low : c₁ ≡ false → BoundFault s i p (Some (record { number = 21; place = a.at }))
        unfolding fault_of
        bound-low u₁ b d =
            let x = two s p h o a z e g k y b t v d in
            let w = x.order in
            ap (λ (n : ℕ). Some (record { number = 21; place = n })) x.low-place
            ∙ sym (ap (λ b. fault_of (first (bound_faults i b))) x.bounds
            ∙ ap fault_of (two_straight i x.low x.high x.order (sym (ap₂ num_at_most x.low_number x.high_number) ∙ sym q ∙ u)
            ∙ first_out i x.low (x.high ∷ []) (omega arith, tt) (ap (in_type i) (sym x.low_number) ∙ sym q₁ ∙ u₁)))

        pub bound-high : (c₂ : Bool) (r : MaybeFault) → c₁ ≡ true → c₂ ≡ in_type i (num y.number) → r ≡ fault_if (not c₂) 21 y.at → BoundFault s i p r
        bound-high c₂ r u₁ q₂ f b d =
            let x = two s p h o a z e g k y b t v d in
            f ∙ fault_if_is (not c₂) x.high y.at x.high-place
            ∙ sym (ap (λ b. fault_of (first (bound_faults i b))) x.bounds
            ∙ ap fault_of (two_straight i x.low x.high x.order (sym (ap₂ num_at_most x.low_number x.high_number) ∙ sym q ∙ u)
            ∙ first_in i x.low (x.high ∷ []) (ap (in_type i) (sym x.low_number) ∙ sym q₁ ∙ u₁)
            ∙ high_fault i x.low x.high x.order c₂ (ap (in_type i) (sym x.high_number) ∙ sym q₂)))

    module _ (t : z.sign ≡ 46 → ⊥) (c : Bool) (q : c ≡ in_type i (num a.number)) where
      pub bound-first : c ≡ false → BoundFault s i p (Some (record { number = 21; place = a.at }))
      unfolding fault_of bound_faults
      bound-first u b d =
          let x = many s p h o a z e g k b t d in
          let w = x.before in
          ap (λ (n : ℕ). Some (record { number = 21; place = n })) x.place
          ∙ sym (ap (λ b. fault_of (first (bound_faults i b))) x.bounds
          ∙ ap fault_of (first_out i x.head x.tail (ordered_from x.tail (omega (arith, w)) (listed_order s a.next x.tail x.listed)) (ap (in_type i) (sym x.number) ∙ sym q ∙ u)))

      pub bound-rest : (r : MaybeFault) → c ≡ true → ListFault s i a.next r → BoundFault s i p r
      unfolding bound_faults
      bound-rest r u w b d =
          let x = many s p h o a z e g k b t d in
          w x.tail x.listed
          ∙ sym (ap (λ b. fault_of (first (bound_faults i b))) x.bounds ∙ ap fault_of (first_in i x.head x.tail (ap (in_type i) (sym x.number) ∙ sym q ∙ u)))
