-- The numbers of a list, put as cells one after the other. Assumes nothing.
use mathlib.Core.Path.{◌≡◌, refl, sym, ◌∙◌, ap, subst}
use mathlib.Core.List.{List, [], ◌∷◌, ◌++◌}
use mathlib.Core.Bool.{Bool, true, false}
use Prim.Native.Nat.{ℕ, ◌+◌, ◌≤◌, ◌<◌}
use native.Mathlib.Omega.{arith}
use native.Mathlib.Numerals.{add-one}
use lib.ListN.{length, take, set, length-set}
use lib.Seq.{take-suc-set}
use lib.Dec.{eqb}
use Rattle.token.specs.Find.{either}
use Rattle.token.proofs.Bytes.{either_false, either_assoc}
use Rattle.sorting.specs.Sorted.{among_cells}
use Rattle.meaning.specs.Syntax.{Num, Word}
use Rattle.meaning.specs.Words.{equal, among_numbers}
use Rattle.scopes.specs.declared.Item.{Item}
use Rattle.scopes.specs.Items.{num, item_at}
use Rattle.scopes.specs.Ranges.{Listed, listed_none, listed_more}
use Rattle.scopes.proofs.Ranging.{listed_start, listed_stop, listed_end}
use Rattle.amounts.specs.Keys.{num_has_key, key}
use Rattle.amounts.specs.Promises.{KeyedBehind, Keyed}
use Rattle.amounts.proofs.Keyings.{keys_equal}

-- A cell more at the end.
among_snoc : (x : ℕ) (l : List ℕ) (y : ℕ) → among_cells x (l ++ (y ∷ [])) ≡ either (among_cells x l) (eqb y x)
unfolding among_cells
among_snoc x [] y = either_false (eqb y x)
among_snoc x (z ∷ l) y = ap (either (eqb z x)) (among_snoc x l y) ∙ either_assoc (eqb z x) (among_cells x l) (eqb y x)

-- Of the numbers ws those that are left; the cells are those of the others, behind the first ones.
pub record Left (s : List ℕ) (g : Bool) (at : ℕ) (ws : List Word) (first cells : List ℕ) : Type 0 where
  pub left : List Word
  pub listed : Listed s at left
  pub whole : (n : Num) → num_has_key g n ≡ true → either (among_cells (key n) first) (among_numbers n ws) ≡ either (among_cells (key n) cells) (among_numbers n left)

abbrev pub Putting : List ℕ → Bool → (from at : ℕ) → (first cells : List ℕ) → Type 0
Putting s g from at first cells = (ws : List Word) → Listed s from ws → Left s g at ws first cells

module _ (s : List ℕ) (g : Bool) (from : ℕ) (first : List ℕ) where
  pub put_start : Putting s g from from first first
  put_start ws l = record { left = ws; listed = l; whole = λ n h. refl }

  module _ (at : ℕ) (cells : List ℕ) (k : Putting s g from at first cells) where
    all_put : ((n : Num) (ws : List Word) → Listed s at ws → false ≡ among_numbers n ws) → (ws : List Word) → Listed s from ws → (n : Num) → num_has_key g n ≡ true
        → among_cells (key n) cells ≡ either (among_cells (key n) first) (among_numbers n ws)
    all_put z ws l n h =
        let r = k ws l in
        sym (r.whole n h ∙ ap (either (among_cells (key n) cells)) (sym (z n r.left r.listed)) ∙ either_false (among_cells (key n) cells))

    module _ (x y : Item) (e : x ≡ item_at s at) (h : x.sign ≡ 44) (v : y ≡ item_at s x.next) (p : num_has_key g (num y.number) ≡ true) where
      pub put_on : Putting s g from y.next first (cells ++ (key (num y.number) ∷ []))
      unfolding among_numbers
      put_on ws l = by (k ws l).listed (k ws l).whole
        where
          by : {us : List Word} → Listed s at us → ((n : Num) → num_has_key g n ≡ true → either (among_cells (key n) first) (among_numbers n ws) ≡ either (among_cells (key n) cells) (among_numbers n us))
              → Left s g y.next ws first (cells ++ (key (num y.number) ∷ []))
          by (listed_none z) o = absurd (z (ap (λ (i : Item). i.sign) (sym e) ∙ h))
          by (listed_more {q = q} {r} {w} {ws = rest} z a b) o =
              let m : q ≡ x.next = sym z.next ∙ ap (λ (i : Item). i.next) (sym e) in
              let u : y ≡ item_at s q = v ∙ ap (item_at s) (sym m) in
              let c : num y.number ≡ w.number = ap (λ (i : Item). num i.number) u ∙ a.number in
              let d : y.next ≡ r = ap (λ (i : Item). i.next) u ∙ a.next in
              record {
                left = rest;
                listed = subst (λ i. Listed s i rest) (sym d) b;
                whole = λ n j.
                    o n j
                    ∙ either_assoc (among_cells (key n) cells) (equal n w.number) (among_numbers n rest)
                    ∙ ap (λ i. either (either (among_cells (key n) cells) i) (among_numbers n rest)) (ap (equal n) (sym c) ∙ sym (keys_equal g n (num y.number) j p))
                    ∙ ap (λ i. either i (among_numbers n rest)) (sym (among_snoc (key n) cells (key (num y.number))));
              }

-- The loop ---------------------------------------------------------------------------------------------------------------------------------

-- l₀ was lent, i cells of l are put.
pub record Put (s : List ℕ) (g : Bool) (from count : ℕ) (l₀ : List ℕ) (at i : ℕ) (l : List ℕ) : Type 0 where
  pub size : length l ≡ length l₀
  pub inside : i ≤ length l₀
  pub putting : Putting s g from at (take count l₀) (take i l)

module _ (s : List ℕ) (g : Bool) (from count : ℕ) (l₀ : List ℕ) where
  pub start : count ≤ length l₀ → Put s g from count l₀ from count l₀
  start h = record { size = refl; inside = h; putting = put_start s g from (take count l₀) }

  module _ (at i : ℕ) (l : List ℕ) (k : Put s g from count l₀ at i l) where
    pub stop : (x : Item) → x ≡ item_at s at → (x.sign ≡ 44 → ⊥) → KeyedBehind s g from count l₀ l i
    stop x e h =
        record {
          size = k.size;
          inside = k.inside;
          tells = λ z. all_put s g from (take count l₀) at (take i l) k.putting (λ n. listed_stop s n at at (listed_start s n at) x e h);
        }

    pub end : length s ≤ at → KeyedBehind s g from count l₀ l i
    end h =
        record {
          size = k.size;
          inside = k.inside;
          tells = λ z. all_put s g from (take count l₀) at (take i l) k.putting (λ n. listed_end s n at at (listed_start s n at) h);
        }

    pub fails : KeyedBehind s g from count l₀ l 0
    fails = record { size = k.size; inside = omega arith; tells = λ z. absurd (z refl) }

    pub more : (x y : Item) → x ≡ item_at s at → x.sign ≡ 44 → y ≡ item_at s x.next → (b : Bool) → b ≡ num_has_key g (num y.number) → b ≡ true → i < length l
        → (a : ℕ) → a ≡ key (num y.number) → Put s g from count l₀ y.next (i + 1) (set l i a)
    more x y e h v b q p o a w =
        let z = k.size in
        record {
          size = length-set l i a ∙ k.size;
          inside = omega arith;
          putting =
              subst (Putting s g from y.next (take count l₀))
              (sym (ap (λ j. take j (set l i a)) (add-one i) ∙ take-suc-set l i a o ∙ ap (λ c. take i l ++ (c ∷ [])) w))
              (put_on s g from (take count l₀) at (take i l) k.putting x y e h v (sym q ∙ p));
        }

-- The first number -------------------------------------------------------------------------------------------------------------------------

module _ (s : List ℕ) (g : Bool) (m : Num) (from : ℕ) (l : List ℕ) where
  pub none_put : Keyed s g m from l l 0
  none_put = record { size = refl; inside = omega arith; tells = λ z. absurd (z refl) }

  pub first_put : (b : Bool) → b ≡ num_has_key g m → b ≡ true → 0 < length l → (a : ℕ) → a ≡ key m → (l' : List ℕ) (r : ℕ) → KeyedBehind s g from 1 (set l 0 a) l' r → Keyed s g m from l l' r
  unfolding among_cells
  first_put b q p o a e l' r k =
      let z = length-set l 0 a in
      let i = k.size in
      let j = k.inside in
      record {
        size = omega arith;
        inside = omega arith;
        tells = λ y ws t n h.
            k.tells y ws t n h
            ∙ ap (λ c. either c (among_numbers n ws))
            (ap (among_cells (key n)) (take-suc-set l 0 a o) ∙ either_false (eqb a (key n)) ∙ ap (λ c. eqb c (key n)) e ∙ keys_equal g n m h (sym q ∙ p));
      }
