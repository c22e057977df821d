-- What the functions over a range and the numbers 1 and 2 cite. Assumes nothing.
use mathlib.Core.Path.{◌≡◌, refl, sym, ◌∙◌, ap, ap₂, subst}
use mathlib.Core.List.{List, [], ◌∷◌}
use mathlib.Core.Bool.{Bool, true, false, not, false≢true}
use Prim.Native.Nat.{ℕ, ◌≤◌}
use lib.ListN.{length}
use Rattle.token.specs.Find.{both, either}
use Rattle.meaning.specs.Syntax.{Num, Word, Bounds}
use Rattle.meaning.specs.Words.{num_at_most, equal, among_numbers}
use Rattle.scopes.specs.declared.Item.{Item}
use Rattle.scopes.specs.Items.{num, item_at}
use Rattle.scopes.specs.Ranges.{NumberAt, SignAt, Listed, listed_none, listed_more, RangeAt, range_none, range_two, range_list}
use Rattle.scopes.proofs.Ranging.{listed_start, listed_end}
use Rattle.standard.specs.Spans.{one, two, one_or_two, all_one_or_two, within_one_two, AllListed, WithinOneTwo}
use Rattle.standard.proofs.Numbers.{equal_self}
use Rattle.standard.proofs.Truths.{is_false, is_true}

-- The answers of is_one_or_two.
pub is_one : (n : Num) (b : Bool) → b ≡ equal n one → b ≡ true → true ≡ one_or_two n
unfolding one_or_two
is_one n b e h = sym (ap (λ c. either c (equal n two)) (sym e ∙ h))

pub or_two : (n : Num) (b c : Bool) → b ≡ equal n one → b ≡ false → c ≡ equal n two → c ≡ one_or_two n
unfolding one_or_two
or_two n b c e h g = g ∙ sym (ap (λ d. either d (equal n two)) (sym e ∙ h))

-- Numbers listed -----------------------------------------------------------------------------------------------------------------------------

-- The numbers that are left to look at decide the whole.
pub record Left (s : List ℕ) (at : ℕ) (ws : List Word) : Type 0 where
  pub left : List Word
  pub listed : Listed s at left
  pub whole : all_one_or_two ws ≡ all_one_or_two left

abbrev pub Holding : List ℕ → (from at : ℕ) → Type 0
Holding s from at = (ws : List Word) → Listed s from ws → Left s at ws

module _ (s : List ℕ) (from : ℕ) where
  pub all_start : Holding s from from
  all_start ws l = record { left = ws; listed = l; whole = refl }

  module _ (at : ℕ) (k : Holding s from at) where
    pub all_stop : (x : Item) → x ≡ item_at s at → (x.sign ≡ 44 → ⊥) → AllListed s from true
    unfolding all_one_or_two
    all_stop x e h ws l = by (k ws l).listed ∙ sym (k ws l).whole
      where
        by : {us : List Word} → Listed s at us → true ≡ all_one_or_two us
        by (listed_none z) = refl
        by (listed_more z w r) = absurd (h (ap (λ (i : Item). i.sign) e ∙ z.sign))

    pub all_end : length s ≤ at → AllListed s from true
    unfolding all_one_or_two among_numbers
    all_end h ws l = by (k ws l).left (k ws l).listed ∙ sym (k ws l).whole
      where
        by : (us : List Word) → Listed s at us → true ≡ all_one_or_two us
        by [] m = refl
        by (t ∷ us) m =
            absurd (false≢true (listed_end s t.number at at (listed_start s t.number at) h (t ∷ us) m
            ∙ ap (λ c. either c (among_numbers t.number us)) (equal_self t.number)))

    module _ (x y : Item) (e : x ≡ item_at s at) (h : x.sign ≡ 44) (g : y ≡ item_at s x.next) (b : Bool) (q : b ≡ one_or_two (num y.number)) where
      number_is : {p r : ℕ} {w : Word} → SignAt s at 44 p → NumberAt s p w r → (one_or_two w.number ≡ b) × (y.next ≡ r)
      number_is {p} {r} {w} z v =
          let m : p ≡ x.next = sym z.next ∙ ap (λ (i : Item). i.next) (sym e) in
          let u : y ≡ item_at s p = g ∙ ap (item_at s) (sym m) in
          (ap one_or_two (sym v.number ∙ ap (λ (i : Item). num i.number) (sym u)) ∙ sym q, ap (λ (i : Item). i.next) u ∙ v.next)

      pub all-not : not b ≡ true → AllListed s from false
      unfolding all_one_or_two
      all-not t ws l = by (k ws l).listed ∙ sym (k ws l).whole
        where
          by : {us : List Word} → Listed s at us → false ≡ all_one_or_two us
          by (listed_none z) = absurd (z (ap (λ (i : Item). i.sign) (sym e) ∙ h))
          by (listed_more {ws = rest} z v r) = sym (ap (λ c. both c (all_one_or_two rest)) ((number_is z v).0 ∙ is_false b t))

      pub all-on : not b ≡ false → Holding s from y.next
      unfolding all_one_or_two
      all-on t ws l = by (k ws l).listed (k ws l).whole
        where
          by : {us : List Word} → Listed s at us → all_one_or_two ws ≡ all_one_or_two us → Left s y.next ws
          by (listed_none z) o = absurd (z (ap (λ (i : Item). i.sign) (sym e) ∙ h))
          by (listed_more {ws = rest} z v r) o =
              record { left = rest; listed = subst (λ c. Listed s c rest) (sym (number_is z v).1) r; whole = o ∙ ap (λ c. both c (all_one_or_two rest)) ((number_is z v).0 ∙ is_true b t) }

-- Ranges --------------------------------------------------------------------------------------------------------------------------------------

module _ (s : List ℕ) (p : ℕ) where
  pub span_zero : p ≡ 0 → WithinOneTwo s p false
  unfolding within_one_two
  span_zero e b (range_none i) = refl
  span_zero e b (range_two h o a t c) = absurd (h e)
  span_zero e b (range_list h o a t l) = absurd (h e)

  module _ (h : p ≡ 0 → ⊥) (o a z : Item) (e : o ≡ item_at s p) (g : a ≡ item_at s o.next) (k : z ≡ item_at s a.next) where
    two_is : (y : Item) → z.sign ≡ 46 → y ≡ item_at s z.next → (b : Bounds) → RangeAt s p b → within_one_two b ≡ both (one_or_two (num a.number)) (num_at_most (num y.number) two)
    unfolding within_one_two
    two_is y t v b (range_none i) = absurd (h i)
    two_is y t v b (range_two {q = q} {r} {t = q₂} n x m w u) =
        let i : a ≡ item_at s q = g ∙ ap (item_at s) (ap (λ (i : Item). i.next) e ∙ x.next) in
        let j : z ≡ item_at s r = k ∙ ap (item_at s) (ap (λ (i : Item). i.next) i ∙ m.next) in
        let l : y ≡ item_at s q₂ = v ∙ ap (item_at s) (ap (λ (i : Item). i.next) j ∙ w.next) in
        ap₂ (λ c d. both (one_or_two c) (num_at_most d two)) (sym (ap (λ (i : Item). num i.number) i ∙ m.number)) (sym (ap (λ (i : Item). num i.number) l ∙ u.number))
    two_is y t v b (range_list {q = q} {r} n x m w l) =
        let i : a ≡ item_at s q = g ∙ ap (item_at s) (ap (λ (i : Item). i.next) e ∙ x.next) in
        let j : z ≡ item_at s r = k ∙ ap (item_at s) (ap (λ (i : Item). i.next) i ∙ m.next) in
        absurd (w (ap (λ (i : Item). i.sign) (sym j) ∙ t))

    many_are : (z.sign ≡ 46 → ⊥) → (c : Bool) → AllListed s a.next c → (b : Bounds) → RangeAt s p b → within_one_two b ≡ both (one_or_two (num a.number)) c
    unfolding within_one_two all_one_or_two
    many_are t c q b (range_none i) = absurd (h i)
    many_are t c q b (range_two {q = q₁} {r} n x m w u) =
        let i : a ≡ item_at s q₁ = g ∙ ap (item_at s) (ap (λ (i : Item). i.next) e ∙ x.next) in
        let j : z ≡ item_at s r = k ∙ ap (item_at s) (ap (λ (i : Item). i.next) i ∙ m.next) in
        absurd (t (ap (λ (i : Item). i.sign) j ∙ w.sign))
    many_are t c q b (range_list {q = q₁} {r} {ws = ws} n x m w l) =
        let i : a ≡ item_at s q₁ = g ∙ ap (item_at s) (ap (λ (i : Item). i.next) e ∙ x.next) in
        let j : a.next ≡ r = ap (λ (i : Item). i.next) i ∙ m.next in
        ap₂ (λ n d. both (one_or_two n) d) (sym (ap (λ (i : Item). num i.number) i ∙ m.number)) (sym (q ws (subst (λ c. Listed s c ws) (sym j) l)))

    -- The answers of within_one_two: the high number is past 2; or the low one decides,
    pub high_past : (y : Item) (c : Bool) → z.sign ≡ 46 → y ≡ item_at s z.next → c ≡ num_at_most (num y.number) two → not c ≡ true → WithinOneTwo s p false
    high_past y c t v q u b d = sym (two_is y t v b d ∙ ap (both (one_or_two (num a.number))) (sym q ∙ is_false c u) ∙ none (one_or_two (num a.number)))
      where
        none : (x : Bool) → both x false ≡ false
        none true = refl
        none false = refl

    pub low_decides : (y : Item) (c r : Bool) → z.sign ≡ 46 → y ≡ item_at s z.next → c ≡ num_at_most (num y.number) two → not c ≡ false → r ≡ one_or_two (num a.number) → WithinOneTwo s p r
    low_decides y c r t v q u w b d = w ∙ sym (two_is y t v b d ∙ ap (both (one_or_two (num a.number))) (sym q ∙ is_true c u) ∙ all (one_or_two (num a.number)))
      where
        all : (x : Bool) → both x true ≡ x
        all true = refl
        all false = refl

    -- the first of a list is another number; or the others decide.
    pub first_not : (c : Bool) → (z.sign ≡ 46 → ⊥) → c ≡ one_or_two (num a.number) → not c ≡ true → WithinOneTwo s p false
    unfolding within_one_two all_one_or_two
    first_not c t q u b d = by b d
      where
        by : (b : Bounds) → RangeAt s p b → false ≡ within_one_two b
        by b (range_none i) = absurd (h i)
        by b (range_two {q = q₁} {r} n x m w u₂) =
            let i : a ≡ item_at s q₁ = g ∙ ap (item_at s) (ap (λ (i : Item). i.next) e ∙ x.next) in
            let j : z ≡ item_at s r = k ∙ ap (item_at s) (ap (λ (i : Item). i.next) i ∙ m.next) in
            absurd (t (ap (λ (i : Item). i.sign) j ∙ w.sign))
        by b (range_list {q = q₁} {r} {ws = ws} n x m w l) =
            let i : a ≡ item_at s q₁ = g ∙ ap (item_at s) (ap (λ (i : Item). i.next) e ∙ x.next) in
            sym (ap (λ n. both (one_or_two n) (all_one_or_two ws)) (sym (ap (λ (i : Item). num i.number) i ∙ m.number)) ∙ ap (λ x. both x (all_one_or_two ws)) (sym q ∙ is_false c u))

    pub rest_decides : (c r : Bool) → (z.sign ≡ 46 → ⊥) → c ≡ one_or_two (num a.number) → not c ≡ false → AllListed s a.next r → WithinOneTwo s p r
    rest_decides c r t q u w b d = sym (many_are t r w b d ∙ ap (λ x. both x r) (sym q ∙ is_true c u))
