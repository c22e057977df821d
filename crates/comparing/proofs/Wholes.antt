-- The records of a pair by rows are those of its differences. Assumes nothing.
use mathlib.Core.Path.{◌≡◌, refl, sym, ◌∙◌, ap, ap₂, subst}
use mathlib.Core.List.{List, [], ◌∷◌, ◌++◌}
use mathlib.Core.Bool.{Bool, true, false}
use mathlib.Core.Option.{none, some}
use Prim.Native.Nat.{ℕ, zero, suc, ◌+◌, ◌<◌, ◌≤◌}
use native.Mathlib.Omega.{arith}
use native.Mathlib.Numerals.{add-one}
use native.Mathlib.Nat.{le_of_suc-le-suc}
use lib.Dec.{eqb}
use lib.ListN.{length, get_or}
use borrow.Author.Tests.{eq-eqb, ne_eqb}
use Rattle.token.specs.Find.{pick}
use Rattle.token.proofs.Find.{by_test}
use Rattle.rows.specs.Search.{row_name}
use Rattle.meaning.specs.Syntax.{Word, Object}
use Rattle.meaning.specs.Words.{choose}
use Rattle.meaning.specs.Places.{each}
use Rattle.meaning.specs.Resolving.{Resolved, end, resolved, Owner, of_object, of_value, how_many_values}
use Rattle.comparing.specs.Standing.{Row, TreeAt, no_rows, some_rows}
use Rattle.comparing.specs.Contents.{Step, Placed, below, step_to, placed, Content}
use Rattle.comparing.specs.Differences.{value_in_second, record_of, records_of, of_pair}
use Rattle.comparing.specs.Partners.{partners, place_from}
use Rattle.comparing.proofs.Steps.{owner_numbers, steps_of, step_numbers, value_at, first_part, second_part, AllNames, Numbering}
use Rattle.comparing.specs.Gathered.{first_records, second_record, second_records, pair_partners, pair_records}
use Rattle.comparing.specs.Columns.{back_number, back_cell, backs_of}
use Rattle.comparing.proofs.Recorded.{records_append, Backed, back_none, back_some, Standing, none_stand, more_stand, first_recorded}
use Rattle.comparing.proofs.Rooting.{placed_length, owners_length, steps_length}
use Rattle.comparing.proofs.Codings.{coded, numbers_length}
use Rattle.comparing.proofs.Matches.{found_partners, partners_length, pair_by_numbers}
use Rattle.comparing.proofs.Rowed.{cells_at, owners_are, steps_are}

-- Rows -------------------------------------------------------------------------------------------------------------------------------------

module _ (s d v s2 d2 v2 : List ℕ) (x y : Content) where
  abbrev Stands : ℕ → List Placed → Type 0
  Stands = Standing s d v s2 d2 v2 x y

  stands_append : (r : ℕ) (vs bs : List Placed) → Stands r vs → Stands (r + length vs) bs → Stands r (vs ++ bs)
  stands_append r [] bs none_stand b = let e : r + 0 ≡ r = omega arith in subst (λ (n : ℕ). Stands n bs) e b
  stands_append r (a ∷ vs) bs (more_stand l q t) b =
      let e : r + suc (length vs) ≡ (r + 1) + length vs = omega arith in
      more_stand l q (stands_append (r + 1) vs bs t (subst (λ (n : ℕ). Stands n bs) e b))

  stands_below : (st : Step) (r : ℕ) (vs : List Placed) → Stands r vs → Stands r (each (below st) vs)
  unfolding each below
  stands_below st r [] none_stand = none_stand
  stands_below st r (a ∷ vs) (more_stand l q t) = more_stand {w = below st a} l q (stands_below st (r + 1) vs t)

  each_length : (st : Step) (vs : List Placed) → length (each (below st) vs) ≡ length vs
  unfolding each
  each_length st [] = refl
  each_length st (a ∷ vs) = ap suc (each_length st vs)

  pub tree_stands : (many : ℕ) (t : Resolved) (n : ℕ) (o : Owner) (b : List Word) → TreeAt s d v many n o t → Stands n (placed t n b)
  unfolding placed
  tree_stands many end n o b no_rows = none_stand
  tree_stands many (resolved t us rest) n o b (some_rows r p q) =
      let inner = stands_below (step_to t b) (suc n) (placed us (suc n) []) (tree_stands many us (suc n) (of_value n) [] p) in
      let behind = tree_stands many rest (suc n + how_many_values us) o (t.definition.name ∷ b) q in
      let e : suc n + how_many_values us ≡ suc n + length (each (below (step_to t b)) (placed us (suc n) [])) =
      ap (λ (k : ℕ). suc n + k) (sym (each_length (step_to t b) (placed us (suc n) []) ∙ placed_length us (suc n) [])) in
      more_stand r.row refl
      (subst (λ (k : ℕ). Stands k (each (below (step_to t b)) (placed us (suc n) []) ++ placed rest (suc n + how_many_values us) (t.definition.name ∷ b))) (sym (add-one n))
      (stands_append (suc n) (each (below (step_to t b)) (placed us (suc n) [])) (placed rest (suc n + how_many_values us) (t.definition.name ∷ b)) inner
      (subst (λ (k : ℕ). Stands k (placed rest (suc n + how_many_values us) (t.definition.name ∷ b))) e behind)))

  -- The value one before a number, and its row.
  number_none : (r : ℕ) → back_number r 0 ≡ 0
  unfolding back_number
  number_none r = ap (λ (c : Bool). pick c 0 (r + 0)) (eq-eqb 0 0 refl)

  number_some : (r p : ℕ) → back_number r (suc p) ≡ r + suc p
  unfolding back_number
  number_some r p = ap (λ (c : Bool). pick c 0 (r + suc p)) (ne_eqb (suc p) 0 (λ z. omega (arith, z)))

  pub back_value : (r p : ℕ) (ws : List Placed) → Stands r ws → p ≤ length ws → Backed s d v (value_at ws p) (back_number r p)
  unfolding value_at
  back_value r zero ws t h = subst (Backed s d v none) (sym (number_none r)) back_none
  back_value r (suc p) [] t h = absurd (omega (arith, h))
  back_value r (suc zero) (w ∷ ws) (more_stand l q t) h =
      subst (Backed s d v (some w)) (ap suc q ∙ one r ∙ sym (number_some r 0)) (back_some w (subst (λ (k : ℕ). Row s d v k w.taken) (sym q) l))
    where
      one : (k : ℕ) → suc k ≡ k + 1
      one k = omega arith
  back_value r (suc (suc p)) (w ∷ ws) (more_stand l q t) h =
      subst (Backed s d v (value_at ws (suc p))) (number_some (r + 1) p ∙ along r p ∙ sym (number_some r (suc p))) (back_value (r + 1) (suc p) ws t (le_of_suc-le-suc h))
    where
      along : (k p : ℕ) → (k + 1) + suc p ≡ k + suc (suc p)
      along k p = omega arith

-- The second object ------------------------------------------------------------------------------------------------------------------------

module _ (s d v s2 d2 v2 : List ℕ) (x y : Content) where
  one_added : (p r : ℕ) (w : Placed) → w.row ≡ r
      → records_of (choose (eqb p 0) (λ _. value_in_second x.object y.object w ∷ []) (λ _. [])) ≡ second_record (suc x.object.row) (suc y.object.row) p r
  unfolding second_record records_of record_of choose
  one_added p r w e = by (eqb p 0)
    where
      more : suc w.row ≡ r + 1
      more = omega (arith, e)

      by : (b : Bool) → records_of (choose b (λ _. value_in_second x.object y.object w ∷ []) (λ _. []))
          ≡ pick b (record { first_object = suc x.object.row; second_object = suc y.object.row; first_value = 0; second_value = r + 1 } ∷ []) []
      by true = ap (λ (n : ℕ). record { first_object = suc x.object.row; second_object = suc y.object.row; first_value = 0; second_value = n } ∷ []) more
      by false = refl

  pub second_recorded : (ps : List ℕ) (r : ℕ) (ws : List Placed) → length ps ≡ length ws → Standing s2 d2 v2 s d v x y r ws
      → records_of (second_part x y ps ws) ≡ second_records (suc x.object.row) (suc y.object.row) ps r
  unfolding second_part second_records records_of
  second_recorded [] r ws e t = refl
  second_recorded (p ∷ ps) r [] e t = absurd (omega (arith, e))
  second_recorded (p ∷ ps) r (w ∷ ws) e (more_stand l q t) =
      records_append (choose (eqb p 0) (λ _. value_in_second x.object y.object w ∷ []) (λ _. [])) (second_part x y ps ws)
      ∙ ap₂ ◌++◌ (one_added p r w q) (second_recorded ps (r + 1) ws (omega (arith, e)) t)

-- A pair -----------------------------------------------------------------------------------------------------------------------------------

place_most : (i : ℕ) (l : List ℕ) (a : ℕ) → place_from i l a ≤ i + length l
unfolding place_from
place_most i [] a = omega arith
place_most i (x ∷ l) a =
    let r = place_most (suc i) l a in
    by_test (λ (q : ℕ). q ≤ i + suc (length l)) (eqb x a) (suc i) (place_from (suc i) l a) (λ _. omega arith) (λ _. omega (arith, r))

module _ (s d v s2 d2 v2 : List ℕ) (X Y : Object) (r r2 : Resolved) (n n2 : ℕ) where
  abbrev one : Content
  one = record { object = X; values = placed r n [] }

  abbrev two : Content
  two = record { object = Y; values = placed r2 n2 [] }

  pub by_partners : (many many2 k k2 : ℕ) (ps : List ℕ) → TreeAt s d v many n (of_object k) r → TreeAt s2 d2 v2 many2 n2 (of_object k2) r2 → length ps ≡ how_many_values r2
      → records_of (first_part one two ps 0 (placed r n []) ++ second_part one two ps (placed r2 n2 []))
      ≡ pair_records s d v s2 d2 v2 ps n (how_many_values r) n2 (suc X.row) (suc Y.row)
  unfolding pair_records backs_of back_cell
  by_partners many many2 k k2 ps a b e =
      let long : length (placed r2 n2 []) ≡ how_many_values r2 = placed_length r2 n2 [] in
      let wide : length (placed r n []) ≡ how_many_values r = placed_length r n [] in
      records_append (first_part one two ps 0 (placed r n [])) (second_part one two ps (placed r2 n2 []))
      ∙ ap₂ ◌++◌
      (first_recorded s d v s2 d2 v2 one two ps (backs_of ps n2 (how_many_values r)) n 0 (placed r n []) (tree_stands s d v s2 d2 v2 one two many r n (of_object k) [] a)
      (λ i h.
      let most = place_most 0 ps (suc i) in
      let inside : i < how_many_values r = omega (arith, h, wide) in
      subst (Backed s2 d2 v2 (value_at (placed r2 n2 []) (place_from 0 ps (suc i)))) (sym (cells_at (back_cell ps n2) 0 (how_many_values r) i inside ∙ ap (back_cell ps n2) (nought i)))
      (back_value s2 d2 v2 s d v one two n2 (place_from 0 ps (suc i)) (placed r2 n2 []) (tree_stands s2 d2 v2 s d v one two many2 r2 n2 (of_object k2) [] b) (omega (arith, most, long, e))))
      ∙ ap (λ (m : ℕ). first_records s d v s2 d2 v2 (backs_of ps n2 (how_many_values r)) (suc X.row) (suc Y.row) m n 0) wide)
      (second_recorded s d v s2 d2 v2 one two ps n2 (placed r2 n2 []) (e ∙ sym long) (tree_stands s2 d2 v2 s d v one two many2 r2 n2 (of_object k2) [] b))
    where
      nought : (j : ℕ) → 0 + j ≡ j
      nought j = omega arith

  -- THE THEOREM: what the code gathers of a pair of objects is what Q-8 asks of it.
  module _ (N : Word → Type 0) (c : List ℕ → ℕ) (num : Numbering N (λ w. c w.bytes)) (low : (l : List ℕ) → c l ≤ 1048576) (many many2 k k2 : ℕ) (h h2 : List ℕ)
      (g : (i : ℕ) → i < many → get_or h i 0 ≡ c (row_name s d 13 2 i)) (g2 : (i : ℕ) → i < many2 → get_or h2 i 0 ≡ c (row_name s2 d2 13 2 i)) (z : Step) where
    pub pair_recorded : TreeAt s d v many n (of_object k) r → TreeAt s2 d2 v2 many2 n2 (of_object k2) r2 → AllNames N r → AllNames N r2 → how_many_values r ≤ 2048 → how_many_values r2 ≤ 2048
        → pair_records s d v s2 d2 v2 (pair_partners d v h n (how_many_values r) d2 v2 h2 n2 (how_many_values r2)) n (how_many_values r) n2 (suc X.row) (suc Y.row) ≡ records_of (of_pair one two)
    unfolding pair_partners
    pair_recorded a b w w2 few few2 =
        let S = step_numbers (λ w. c w.bytes) (steps_of r []) in
        let S2 = step_numbers (λ w. c w.bytes) (steps_of r2 []) in
        let ps = found_partners r r2 S S2 in
        let same : pair_partners d v h n (how_many_values r) d2 v2 h2 n2 (how_many_values r2) ≡ ps = (λ i.
        partners (owners_are s d v many r n k a i) (steps_are s d v many N c h g num low r n k a w few z i) []
        (owners_are s2 d2 v2 many2 r2 n2 k2 b i) (steps_are s2 d2 v2 many2 N c h2 g2 num low r2 n2 k2 b w2 few2 z i)) in
        let long : length ps ≡ how_many_values r2 =
        partners_length (owner_numbers r 0 0) S [] (owner_numbers r2 0 0) S2 (numbers_length (λ w. c w.bytes) (steps_of r2 []) ∙ steps_length r2 [] ∙ sym (owners_length r2 0 0))
        ∙ nought (length (owner_numbers r2 0 0)) ∙ owners_length r2 0 0 in
        ap (λ (l : List ℕ). pair_records s d v s2 d2 v2 l n (how_many_values r) n2 (suc X.row) (suc Y.row)) same
        ∙ sym (by_partners many many2 k k2 ps a b long)
        ∙ sym (ap records_of (pair_by_numbers z X Y r r2 n n2 S S2 (coded N (λ w. c w.bytes) num z r r2 w w2 few few2)))
      where
        nought : (j : ℕ) → 0 + j ≡ j
        nought j = omega arith
