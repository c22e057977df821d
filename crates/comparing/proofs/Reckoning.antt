-- Positions reckoned row by row. Assumes nothing.
use mathlib.Core.Path.{◌≡◌, refl, sym, ◌∙◌, ap, ap₂, subst}
use mathlib.Core.List.{List, [], ◌∷◌, ◌++◌}
use mathlib.Core.Bool.{Bool, true, false}
use Prim.Native.Nat.{ℕ, zero, suc, ◌+◌, ◌<◌, ◌≤◌}
use native.Mathlib.Omega.{arith}
use native.Mathlib.Numerals.{add-one}
use native.Mathlib.Nat.{not-suc-le-zero}
use lib.Dec.{eqb}
use lib.ListN.{length, get_or, take, drop, set, length-set, length-append, drop_of_length-le}
use lib.Seq.{drop-cons, take-suc, take_all, take-suc-set, length-take-le, get_or-append_seam}
use Rattle.token.specs.Find.{pick, both}
use Rattle.comparing.specs.Partners.{last_position, positions, Small}
use Rattle.comparing.proofs.Alikes.{both_of}
use Rattle.comparing.proofs.Partnered.{Has, not_has}
use native.Mathlib.Decide.{ℕ_discrete}
use mathlib.Core.Logic.{⊎_elim}
use borrow.Author.Tests.{eq-eqb, ne_eqb}
use Rattle.comparing.proofs.Positioned.{last_snoc}
use Rattle.comparing.proofs.Rooting.{below_or, get_d_left}

-- Rows with these owners and names, of which the first have these positions.
pub record Ready (os ns ps : List ℕ) : Type 0 where
  pub names : length ns ≡ length os
  pub inside : length ps ≤ length os
  pub small : Small ps

module _ (os ns ps : List ℕ) (o a : ℕ) where
  -- What the first i rows give.
  unfoldable pub front : ℕ → ℕ
  front i = last_position (take i os) (take i ns) (take i ps) o a

  opened : (i : ℕ) → i < length os → i < length ns → i < length ps → front (suc i) ≡ pick (both (eqb (get_or os i 0) o) (eqb (get_or ns i 0) a)) (suc (get_or ps i 0)) (front i)
  unfolding front
  opened i h g l =
      (λ j. last_position (take-suc os i 0 h j) (take-suc ns i 0 g j) (take-suc ps i 0 l j) o a)
      ∙ last_snoc (take i os) (take i ns) (take i ps) (get_or os i 0) (get_or ns i 0) (get_or ps i 0) o a
      (length-take-le i ns (omega (arith, g)) ∙ sym (length-take-le i os (omega (arith, h)))) (length-take-le i ps (omega (arith, l)) ∙ sym (length-take-le i os (omega (arith, h))))

  pub front_none : (i : ℕ) → i ≤ 0 → front i ≡ 0
  unfolding front last_position
  front_none zero h = refl
  front_none (suc i) h = absurd (not-suc-le-zero h)

  test_has : (j : ℕ) → Has os ns o a j → both (eqb (get_or os j 0) o) (eqb (get_or ns j 0) a) ≡ true
  test_has j h = both_of (eqb (get_or os j 0) o) (eqb (get_or ns j 0) a) (eq-eqb (get_or os j 0) o h.owner) (eq-eqb (get_or ns j 0) a h.step)

  -- One row more.
  front_suc : (i : ℕ) → suc i ≤ length ps → Ready os ns ps → front (suc i) ≡ pick (both (eqb (get_or os i 0) o) (eqb (get_or ns i 0) a)) (suc (get_or ps i 0)) (front i)
  front_suc i h r = let x = r.names in let y = r.inside in opened i (omega (arith, h, y)) (omega (arith, h, y, x)) (omega (arith, h))

  inside_os : (i : ℕ) → suc i ≤ length ps → Ready os ns ps → i < length os
  inside_os i h r = let y = r.inside in omega (arith, h, y)

  pub front_empty : (i : ℕ) → i ≤ length ps → Ready os ns ps → ((j : ℕ) → j < i → Has os ns o a j → ⊥) → front i ≡ 0
  front_empty zero h r f = front_none 0 (omega arith)
  front_empty (suc i) h r f =
      front_suc i h r
      ∙ ap (λ (c : Bool). pick c (suc (get_or ps i 0)) (front i)) (not_has os ns o a i (inside_os i h r) (f i (omega arith)))
      ∙ front_empty i (omega (arith, h)) r (λ j l q. f j (omega (arith, l)) q)

  pub front_last : (i j : ℕ) → i ≤ length ps → Ready os ns ps → j < i → Has os ns o a j → ((m : ℕ) → j < m → m < i → Has os ns o a m → ⊥) → front i ≡ suc (get_or ps j 0)
  front_last zero j h r l q f = absurd (not-suc-le-zero l)
  front_last (suc i) j h r l q f = by (ℕ_discrete i j) (λ z. front_last i j (omega (arith, h)) r z q (λ m u v w. f m u (omega (arith, v)) w))
    where
      by : Dec (i ≡ j) → (j < i → front i ≡ suc (get_or ps j 0)) → front (suc i) ≡ suc (get_or ps j 0)
      by (yes e) k =
          front_suc i h r ∙ ap (λ (c : Bool). pick c (suc (get_or ps i 0)) (front i)) (test_has i (subst (Has os ns o a) (sym e) q)) ∙ ap (λ (u : ℕ). suc (get_or ps u 0)) e
      by (no n) k =
          let z : j < i = omega (arith, n, l) in
          front_suc i h r ∙ ap (λ (c : Bool). pick c (suc (get_or ps i 0)) (front i)) (not_has os ns o a i (inside_os i h r) (f i z (omega arith))) ∙ k z

  pub front_all : front (length ps) ≡ last_position (take (length ps) os) (take (length ps) ns) ps o a
  unfolding front
  front_all = ap (λ (x : List ℕ). last_position (take (length ps) os) (take (length ps) ns) x o a) (take_all (length ps) ps (omega arith))

-- A position is at most the number of rows before.
up_one : (b n r : ℕ) → r ≤ suc b + n → r ≤ b + suc n
up_one b n r h = omega arith

last_most : (os ns ps : List ℕ) (o a b : ℕ) → ((j : ℕ) → j < length ps → get_or ps j 0 ≤ b + j) → last_position os ns ps o a ≤ b + length ps
unfolding last_position
last_most [] ns ps o a b f = omega arith
last_most (x ∷ os) [] ps o a b f = omega arith
last_most (x ∷ os) (y ∷ ns) [] o a b f = omega arith
last_most (x ∷ os) (y ∷ ns) (p ∷ ps) o a b f =
    let z : p ≤ b + 0 = f 0 (omega arith) in
    by_cases (last_position os ns ps o a) (both (eqb x o) (eqb y a)) z
    (last_most os ns ps o a (suc b) (λ j h. let g : get_or ps j 0 ≤ b + suc j = f (suc j) (omega (arith, h)) in omega (arith, g)))
  where
    by_cases : (r : ℕ) (c : Bool) → p ≤ b + 0 → r ≤ suc b + length ps → pick (eqb r 0) (pick c (suc p) 0) r ≤ b + suc (length ps)
    by_cases zero true g h = omega (arith, g)
    by_cases zero false g h = omega arith
    by_cases (suc r) c g h = subst (λ (d : Bool). pick d (pick c (suc p) 0) (suc r) ≤ b + suc (length ps)) (sym (ne_eqb (suc r) 0 (λ e. omega (arith, e)))) (up_one b (length ps) (suc r) h)

small_snoc : (l : List ℕ) (p : ℕ) → Small l → p ≤ length l → Small (l ++ (p ∷ []))
small_snoc l p s h i g = by_place l p i (length l) refl s h g
  where
    by_place : (l : List ℕ) (p i n : ℕ) → length l ≡ n → Small l → p ≤ length l → i < length (l ++ (p ∷ [])) → get_or (l ++ (p ∷ [])) i 0 ≤ i
    by_place l p i n e s h g = ⊎_elim (λ k. subst (λ (x : ℕ). x ≤ i) (sym (get_d_left l (p ∷ []) i 0 k)) (s i k)) (λ k.
        let m = length-append l (p ∷ []) in
        let q : i ≡ length l = omega (arith, m, g, k) in
        subst (λ (x : ℕ). get_or (l ++ (p ∷ [])) x 0 ≤ x) (sym q) (subst (λ (x : ℕ). x ≤ length l) (sym (get_or-append_seam l p [] 0)) h)) (below_or i (length l))

-- The state before row i, where `out` has the positions of the rows before.
pub record Reckon (os ns out : List ℕ) (i : ℕ) : Type 0 where
  pub names : length ns ≡ length os
  pub room : length out ≡ length os
  pub inside : i ≤ length os
  pub small : Small (take i out)
  pub left : positions (take i os) (take i ns) (take i out) (drop i os) (drop i ns) ≡ positions [] [] [] os ns

pub reckon_start : (os ns out : List ℕ) → length ns ≡ length os → length out ≡ length os → Reckon os ns out 0
reckon_start os ns out a b = record { names = a; room = b; inside = omega arith; small = λ i h. absurd (not-suc-le-zero h); left = refl }

pub reckon_few : (os ns out : List ℕ) (i : ℕ) → Reckon os ns out i → length os ≤ 2048 → Small (take i out) × (length (take i out) ≤ 2048)
reckon_few os ns out i r h =
    let a = r.room in
    let b = r.inside in
    let l = length-take-le i out (omega (arith, a, b)) in
    (r.small, omega (arith, l, b, h))

pub reckon_inside : (os ns out : List ℕ) (i : ℕ) → Reckon os ns out i → length (take i out) ≤ length os
reckon_inside os ns out i r =
    let a = r.room in
    let b = r.inside in
    let l = length-take-le i out (omega (arith, a, b)) in
    omega (arith, l, b)

pub reckon_next : (os ns out : List ℕ) (i p : ℕ) → Reckon os ns out i → i < length out
    → p ≡ last_position (take (length (take i out)) os) (take (length (take i out)) ns) (take i out) (get_or os i 0) (get_or ns i 0) → Reckon os ns (set out i p) (i + 1)
unfolding positions
reckon_next os ns out i p r h e =
    let a = r.room in
    let b = r.inside in
    let n = r.names in
    let l : length (take i out) ≡ i = length-take-le i out (omega (arith, h)) in
    let q : p ≡ last_position (take i os) (take i ns) (take i out) (get_or os i 0) (get_or ns i 0) = e ∙ ap (λ (k : ℕ). last_position (take k os) (take k ns) (take i out) (get_or os i 0) (get_or ns i 0)) l in
    let most : p ≤ 0 + length (take i out) = subst (λ (k : ℕ). k ≤ 0 + length (take i out)) (sym q) (last_most (take i os) (take i ns) (take i out) (get_or os i 0) (get_or ns i 0) 0 (λ j g. let s = r.small j g in omega (arith, s))) in
    let next : take (i + 1) (set out i p) ≡ take i out ++ (p ∷ []) = ap (λ (k : ℕ). take k (set out i p)) (add-one i) ∙ take-suc-set out i p h in
    let ho : i < length os = omega (arith, a, h) in
    let hn : i < length ns = omega (arith, a, n, h) in
    record {
      names = n;
      room = length-set out i p ∙ a;
      inside = omega (arith, ho);
      small = subst Small (sym next) (small_snoc (take i out) p r.small (omega (arith, most)));
      left =
          (λ j. positions (ap (λ (k : ℕ). take k os) (add-one i) j) (ap (λ (k : ℕ). take k ns) (add-one i) j) (next j) (drop (add-one i j) os) (drop (add-one i j) ns))
          ∙ (λ j. positions (take-suc os i 0 ho j) (take-suc ns i 0 hn j) (take i out ++ (q j ∷ [])) (drop (suc i) os) (drop (suc i) ns))
          ∙ sym (ap₂ (λ (x y : List ℕ). positions (take i os) (take i ns) (take i out) x y) (drop-cons os i 0 ho) (drop-cons ns i 0 hn)) ∙ r.left;
    }

pub reckon_end : (os ns out : List ℕ) (i : ℕ) → Reckon os ns out i → length out ≤ i → out ≡ positions [] [] [] os ns
unfolding positions
reckon_end os ns out i r h =
    let a = r.room in
    let past : length os ≤ i = omega (arith, a, h) in
    sym (take_all i out h) ∙ sym (ap (λ (x : List ℕ). positions (take i os) (take i ns) (take i out) x (drop i ns)) (drop_of_length-le os past)) ∙ r.left
