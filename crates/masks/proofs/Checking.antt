-- The checker accepts exactly what Q-6 says, and else names the first event that breaks its own rule. Assumes nothing.
use mathlib.Core.Path.{◌≡◌, refl, sym, ◌∙◌, ap, subst}
use mathlib.Core.List.{List, [], ◌∷◌}
use mathlib.Core.Bool.{Bool, true, false}
use mathlib.Core.Option.{Option, none, some}
use Prim.Native.Nat.{ℕ, zero, suc, ◌+◌, ◌<◌}
use native.Mathlib.Omega.{arith}
use lib.ListN.{length, get_or}
use Rattle.meaning.specs.Words.{choose}
use Rattle.masks.specs.Masks.{Mask, automatic, Task, keeps, breaking}
use Rattle.masks.specs.Statements.{Fine, FirstBroken}
use Rattle.masks.proofs.Reflections.{from_zero, not_both, Cases, yes, no, cases, keeps_true, keeps_is}

none_some : {n : ℕ} → ◌≡◌ {A = Option ℕ} none (some n) → ⊥
none_some {n} e = let z : ◌≡◌ {A = ℕ} 0 1 = cc in omega (arith, z)

some_injective : {m n : ℕ} → ◌≡◌ {A = Option ℕ} (some m) (some n) → m ≡ n
some_injective e = cc

-- From the event i on, where the masks left are those of the list from i on.
module _ (ts : List Task) (l : List ℕ) where
  -- The test of the event i + m.
  abbrev tested : ℕ → List Mask → List ℕ → ℕ → Bool
  tested i rs ms m = keeps ts l (i + m) (get_or rs m automatic) (get_or ms m 0)

  chosen : (b : Bool) (x : Option ℕ) (i : ℕ) → choose b (λ _. x) (λ _. some i) ≡ none → (b ≡ true) × (x ≡ none)
  unfolding choose
  chosen true x i e = (refl, e)
  chosen false x i e = absurd (none_some (sym e))

  pub breaking_none : (i : ℕ) (rs : List Mask) (ms : List ℕ) → length ms ≡ length rs → breaking ts l i rs ms ≡ none → (m : ℕ) → m < length rs → tested i rs ms m ≡ true
  unfolding breaking
  breaking_none i [] ms h e m b = absurd (omega arith)
  breaking_none i (r ∷ rs) [] h e m b = absurd (omega (arith, h))
  breaking_none i (r ∷ rs) (n ∷ ms) h e zero b = let z : i ≡ i + 0 = omega arith in ap (λ (x : ℕ). keeps ts l x r n) (sym z) ∙ (chosen (keeps ts l i r n) (breaking ts l (suc i) rs ms) i e).0
  breaking_none i (r ∷ rs) (n ∷ ms) h e (suc m) b =
      let z : suc i + m ≡ i + suc m = omega arith in
      let k : length ms ≡ length rs = omega (arith, h) in
      let c : m < length rs = omega (arith, b) in
      ap (λ (x : ℕ). keeps ts l x (get_or rs m automatic) (get_or ms m 0)) (sym z) ∙ breaking_none (suc i) rs ms k (chosen (keeps ts l i r n) (breaking ts l (suc i) rs ms) i e).1 m c

  pub none_breaking : (i : ℕ) (rs : List Mask) (ms : List ℕ) → length ms ≡ length rs → ((m : ℕ) → m < length rs → tested i rs ms m ≡ true) → breaking ts l i rs ms ≡ none
  unfolding breaking choose
  none_breaking i [] ms h f = refl
  none_breaking i (r ∷ rs) [] h f = refl
  none_breaking i (r ∷ rs) (n ∷ ms) h f =
      let z : i ≡ i + 0 = omega arith in
      let k : length ms ≡ length rs = omega (arith, h) in
      let g = none_breaking (suc i) rs ms k (λ m b. let y : suc i + m ≡ i + suc m = omega arith in let c : suc m < length (r ∷ rs) = omega (arith, b) in ap (λ (x : ℕ). keeps ts l x (get_or rs m automatic) (get_or ms m 0)) y ∙ f (suc m) c) in
      let t : 0 < length (r ∷ rs) = omega arith in
      ap (λ (b : Bool). choose b (λ _. breaking ts l (suc i) rs ms) (λ _. some i)) (ap (λ (x : ℕ). keeps ts l x r n) z ∙ f 0 t) ∙ g

  record Breaks (i : ℕ) (rs : List Mask) (ms : List ℕ) (j : ℕ) : Type 0 where
    number : ℕ
    event : number < length rs
    is : j ≡ i + number
    fails : tested i rs ms number ≡ false
    before : (m : ℕ) → m < number → tested i rs ms m ≡ true

  breaking_some : (i : ℕ) (rs : List Mask) (ms : List ℕ) (j : ℕ) → breaking ts l i rs ms ≡ some j → Breaks i rs ms j
  unfolding breaking choose
  breaking_some i [] ms j e = absurd (none_some e)
  breaking_some i (r ∷ rs) [] j e = absurd (none_some e)
  breaking_some i (r ∷ rs) (n ∷ ms) j e = go (cases (keeps ts l i r n)) e (λ y. breaking_some (suc i) rs ms j y)
    where
      earlier : keeps ts l i r n ≡ true → (a : Breaks (suc i) rs ms j) → (m : ℕ) → m < suc a.number → tested i (r ∷ rs) (n ∷ ms) m ≡ true
      earlier q a zero b = let z : i ≡ i + 0 = omega arith in ap (λ (x : ℕ). keeps ts l x r n) (sym z) ∙ q
      earlier q a (suc m) b =
          let z : suc i + m ≡ i + suc m = omega arith in
          let c : m < a.number = omega (arith, b) in
          ap (λ (x : ℕ). keeps ts l x (get_or rs m automatic) (get_or ms m 0)) (sym z) ∙ a.before m c

      go : Cases (keeps ts l i r n) → choose (keeps ts l i r n) (λ _. breaking ts l (suc i) rs ms) (λ _. some i) ≡ some j
          → (breaking ts l (suc i) rs ms ≡ some j → Breaks (suc i) rs ms j) → Breaks i (r ∷ rs) (n ∷ ms) j
      go (no q) e f =
          let y = ap (λ (b : Bool). choose b (λ _. breaking ts l (suc i) rs ms) (λ _. some i)) (sym q) ∙ e in
          let z : i ≡ i + 0 = omega arith in
          record { number = 0; event = omega arith; is = sym (some_injective y) ∙ z; fails = ap (λ (x : ℕ). keeps ts l x r n) (sym z) ∙ q; before = λ m b. absurd (omega arith) }
      go (yes q) e f =
          let y = ap (λ (b : Bool). choose b (λ _. breaking ts l (suc i) rs ms) (λ _. some i)) (sym q) ∙ e in
          let a = f y in
          let h = a.event in
          let w = a.is in
          let z : suc i + a.number ≡ i + suc a.number = omega arith in
          record {
            number = suc a.number;
            event = omega (arith, h);
            is = w ∙ z;
            fails = ap (λ (x : ℕ). keeps ts l x (get_or rs a.number automatic) (get_or ms a.number 0)) (sym z) ∙ a.fails;
            before = λ m. earlier q a m;
          }

-- THE CHECKER ACCEPTS EXACTLY what Q-6 says.
pub accepts_only : (ts : List Task) (rs : List Mask) (l : List ℕ) → length l ≡ length rs → breaking ts l 0 rs l ≡ none → Fine ts rs l
accepts_only ts rs l h e = record { one_each = h; each = λ i b. keeps_true ts l i (get_or rs i automatic) (ap (λ (x : ℕ). keeps ts l x (get_or rs i automatic) (get_or l i 0)) (sym (from_zero i)) ∙ breaking_none ts l 0 rs l h e i b) }

pub accepts_all : (ts : List Task) (rs : List Mask) (l : List ℕ) → Fine ts rs l → (length l ≡ length rs) × (breaking ts l 0 rs l ≡ none)
accepts_all ts rs l f = (f.one_each, none_breaking ts l 0 rs l f.one_each (λ i b. ap (λ (x : ℕ). keeps ts l x (get_or rs i automatic) (get_or l i 0)) (from_zero i) ∙ keeps_is ts l i (get_or rs i automatic) (f.each i b)))

-- ELSE IT NAMES THE FIRST EVENT THAT BREAKS ITS OWN RULE.
pub names_first : (ts : List Task) (rs : List Mask) (l : List ℕ) (i : ℕ) → length l ≡ length rs → breaking ts l 0 rs l ≡ some i → FirstBroken ts rs l i
names_first ts rs l i h e =
    let a = breaking_some ts l 0 rs l i e in
    let at : (n : ℕ) → keeps ts l (0 + n) (get_or rs n automatic) (get_or l n 0) ≡ keeps ts l n (get_or rs n automatic) (get_or l n 0) = λ n. ap (λ (x : ℕ). keeps ts l x (get_or rs n automatic) (get_or l n 0)) (from_zero n) in
    let q : FirstBroken ts rs l a.number = record {
      event = a.event;
      broken = λ k. not_both (at a.number ∙ keeps_is ts l a.number (get_or rs a.number automatic) k) a.fails;
      before = λ j b. keeps_true ts l j (get_or rs j automatic) (sym (at j) ∙ a.before j b);
    } in
    subst (FirstBroken ts rs l) (sym (a.is ∙ from_zero a.number)) q
