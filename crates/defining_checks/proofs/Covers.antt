-- The rows that are kept answer as all rows do: where a row is past the room, the row that is one too many stands before it. Assumes nothing.
use mathlib.Core.Path.{◌≡◌, refl, sym, ◌∙◌, ap, subst}
use mathlib.Core.List.{List, [], ◌∷◌, ◌++◌, append_assoc}
use mathlib.Core.Bool.{Bool, true, false, not, false≢true}
use mathlib.Core.Option.{Option, none, some}
use mathlib.Core.Logic.{◌⊎◌, inl, inr, ⊎_elim}
use Prim.Native.Nat.{ℕ, suc, ◌+◌, ◌≤◌, ◌<◌, min}
use native.Mathlib.Omega.{arith}
use native.Mathlib.Decide.{dec_lt}
use lib.ListN.{length, length-append}
use lib.Dec.{eqb, leb}
use borrow.Author.Tests.{eq-eqb, ltb-true, leb-true}
use Rattle.token.specs.Find.{pick, both}
use Rattle.rows.specs.Order as order
use Rattle.meaning.specs.Syntax.{Word, span_of, span_or, Definition, Values, File}
use Rattle.meaning.specs.Words.{among}
use Rattle.meaning.specs.Scopes.{sort_of, fits}
use Rattle.meaning.specs.Faults.{Fault, faults_if, first}
use Rattle.meaning.specs.Defining.{range_faults, default_wrong, default_number, default_faults, defined_in, differs, name_faults, word_faults}
use Rattle.meaning.proofs.Numbered.{default_high}
use Rattle.meaning.proofs.Sooner.{left_of, not_above}
use Rattle.meaning.proofs.Numbering.{Counts}
use Rattle.meaning.proofs.Standing.{counts_back, counts_head}
use Rattle.layout.specs.Kept.{Entry, Choice, spec_entries, spec_choices}
use Rattle.scopes.proofs.Descents.{rows_of, whole, rows_append, rows_length}
use Rattle.scopes.specs.Listing.{each}
use Rattle.defining_checks.specs.Listing.{others_for, under_of, row_name_faults, judged, judged_faults, kept_row_faults, list_of, choice_faults}
use Rattle.defining_checks.proofs.Rowwise.{row_faults}
use Rattle.defining_checks.specs.Promises.{Room}
use Rattle.scopes.proofs.Firsts.{Has, has_none, has_left, has_right, has_split, if_in, Covered, covered, covered_by, first_same, each_append, From, found_at, at_row}
use Rattle.defining_checks.proofs.Rising.{if_at, Rise, rise_back, rise_each, Ascend, ascend_back, ascend_each}
use Rattle.defining_checks.proofs.Reaching.{last_of}

-- A row's number is its place ------------------------------------------------------------------------------------------------------------------

pub row_is : {E : List Entry} (a : List Entry) (x : Entry) (b : List Entry) → Counts 0 (rows_of E) → E ≡ a ++ (x ∷ b) → x.definition.row ≡ length a
unfolding rows_of
row_is {E} a x b c e =
    let k = subst (Counts 0) (ap rows_of e ∙ rows_append a (x ∷ b)) c in
    let m : length a ≡ 0 + length (rows_of a) = omega (arith, rows_length a) in
    counts_head (counts_back (rows_of a) k m)

-- The row that is one too many -------------------------------------------------------------------------------------------------------------------

module _ (full : Bool) (limit : ℕ) where
  seven_row : (before : List Entry) (x : Entry) → x.definition.row ≡ 512 → Has (record { place = x.definition.name.place; number = 7 }) (kept_row_faults full limit before x)
  unfolding kept_row_faults row_name_faults name_faults
  seven_row before x e =
      let d = x.definition in
      let o = others_for x.outer x.under.place before in
      let u = under_of x.under.place before in
      has_right (range_faults d.type d.bounds) (name_faults d o u ++ judged_faults full limit d x.values)
      (has_left (name_faults d o u) (judged_faults full limit d x.values)
      (has_left (faults_if (eqb d.row 512) d.name 7) (faults_if (defined_in d.name u) d.name 8 ++ faults_if (differs d o) d.name 9)
      (if_in (eqb d.row 512) d.name 7 (eq-eqb d.row 512 e))))

  in_judged : {g : Fault} (d : Definition) (vs : Values) (b : Bool) → Has g (pick b (default_faults d vs d.default) []) → Has g (default_faults d vs d.default)
  in_judged d vs true m = m
  in_judged d vs false m = absurd (has_none m)

  -- A fault of a kept row is one of the row.
  kept_in : {g : Fault} (before : List Entry) (x : Entry) → Has g (kept_row_faults full limit before x) → Has g (row_faults before x)
  unfolding kept_row_faults row_faults judged_faults
  kept_in before x m =
      let d = x.definition in
      let rg = range_faults d.type d.bounds in
      let nf = row_name_faults before x in
      let df = default_faults d x.values d.default in
      let jf = judged_faults full limit d x.values in
      ⊎_elim (λ n. has_left rg (nf ++ df) n)
      (λ n. has_right rg (nf ++ df) (⊎_elim (λ i. has_left nf df i) (λ i. has_right nf df (in_judged d x.values (judged full limit d.default) i)) (has_split nf jf n)))
      (has_split rg (nf ++ jf) m)

  -- A fault of a row is one of the kept row, or at a default that is not judged.
  data Shown (g : Fault) (before : List Entry) (x : Entry) : Type 0 where
    shown : Has g (kept_row_faults full limit before x) → Shown g before x
    late : Has g (default_faults x.definition x.values x.definition.default) → judged full limit x.definition.default ≡ false → Shown g before x

  is_shown : {g : Fault} (before : List Entry) (x : Entry) → Has g (row_faults before x) → Shown g before x
  unfolding kept_row_faults row_faults judged_faults
  is_shown {g} before x m =
      ⊎_elim (λ n. shown (has_left rg (nf ++ jf) n))
      (λ n. ⊎_elim (λ i. shown (has_right rg (nf ++ jf) (has_left nf jf i))) (λ i. by (judged full limit x.definition.default) refl i) (has_split nf df n))
      (has_split rg (nf ++ df) m)
    where
      rg : List Fault
      rg = range_faults x.definition.type x.definition.bounds

      nf : List Fault
      nf = row_name_faults before x

      df : List Fault
      df = default_faults x.definition x.values x.definition.default

      jf : List Fault
      jf = judged_faults full limit x.definition x.values

      by : (b : Bool) → judged full limit x.definition.default ≡ b → Has g df → Shown g before x
      by true e i = shown (has_right rg (nf ++ jf) (has_right nf jf (subst (λ b. Has g (pick b df [])) (sym e) i)))
      by false e i = late i e

both_true : (a b : Bool) → not (both a b) ≡ false → (a ≡ true) × (b ≡ true)
both_true true true e = (refl, refl)
both_true true false e = absurd (false≢true (sym e))
both_true false b e = absurd (false≢true (sym e))

-- A default that is not judged stands behind the enumerator that is one too many.
default_late : {g : Fault} (full : Bool) (limit : ℕ) (d : Definition) (vs : Values) (o : Option Word) → Has g (default_faults d vs o) → judged full limit o ≡ false
    → (full ≡ true) × ((limit ≤ g.place) × (21 < g.number))
unfolding default_faults judged span_or span_of
default_late full limit d vs none m e = absurd (has_none m)
default_late full limit d vs (some t) m e =
    let a = if_at (default_wrong (sort_of t.class) (fits d vs t)) t (default_number (sort_of t.class)) m in
    let i = default_high (sort_of t.class) in
    let j = a.1 in
    let b = both_true full (leb limit t.place) e in
    let c = leb-true limit t.place b.1 in
    let p = a.0 in
    (b.0, (omega (arith, c, p), omega (arith, i, j)))

seven_choice : (before : List Choice) (c : Choice) → length before ≡ 1024 → Has (record { place = c.word.place; number = 7 }) (choice_faults before c)
unfolding choice_faults word_faults
seven_choice before c e =
    has_left (faults_if (both true (eqb (length before) 1024)) c.word 7) (faults_if (among c.word (list_of c.list before)) c.word 8)
    (if_in (both true (eqb (length before) 1024)) c.word 7 (eq-eqb (length before) 1024 e))

le_cases : (a b : ℕ) → a ≤ b → (a < b) ⊎ (a ≡ b)
le_cases a b h = by (dec_lt a b)
  where
    by : Dec (a < b) → (a < b) ⊎ (a ≡ b)
    by (yes l) = inl l
    by (no l) = inr (omega (arith, l, h))

late_cover : (g : Fault) (p : ℕ) (l : List Fault) {limit : ℕ} → Has (record { place = p; number = 7 }) l → limit ≡ p → limit ≤ g.place → 21 < g.number → Covered g l
late_cover g p l h e k n =
    ⊎_elim (λ i. covered_by (record { place = p; number = 7 }) h (left_of i)) (λ i. covered_by (record { place = p; number = 7 }) h (not_above i (omega (arith, n))))
    (le_cases p g.place (omega (arith, e, k)))

-- The rows that are kept ---------------------------------------------------------------------------------------------------------------------------

module _ (f : File) (m : ℕ) (full : Bool) (limit lo hi : ℕ) (E₀ E₁ : List Entry) (C₀ C₁ : List Choice) (wE : spec_entries f.specs ≡ E₀ ++ E₁)
    (nE : length E₀ ≡ min (length (spec_entries f.specs)) 513) (wC : spec_choices f.specs ≡ C₀ ++ C₁) (nC : length C₀ ≡ min (length (spec_choices f.specs)) 1025)
    (rise : Rise lo (spec_entries f.specs) hi) (ascend : Ascend lo (spec_choices f.specs) hi) (rows : Counts 0 (rows_of (spec_entries f.specs))) (room : Room f m full limit) where
  all_faults : List Fault
  all_faults = each row_faults [] (spec_entries f.specs) ++ each choice_faults [] (spec_choices f.specs)

  kept_faults : List Fault
  kept_faults = each (kept_row_faults full limit) [] E₀ ++ each choice_faults [] C₀

  l_e : length (spec_entries f.specs) ≡ length E₀ + length E₁
  l_e = ap length wE ∙ length-append E₀ E₁

  l_c : length (spec_choices f.specs) ≡ length C₀ + length C₁
  l_c = ap length wC ∙ length-append C₀ C₁

  -- The enumerator that is one too many, where there is one.
  record Over : Type 0 where
    place : ℕ
    has : Has (record { place = place; number = 7 }) kept_faults
    edge : limit ≡ place
    behind : Ascend (suc place) C₁ hi

  over : 1024 < length (spec_choices f.specs) → Over
  unfolding kept_faults
  over h =
      let n : length C₀ ≡ 1025 = omega (arith, h, nC) in
      let l = last_of C₀ 1024 n in
      let c = l.last in
      let w : spec_choices f.specs ≡ l.front ++ (c ∷ C₁) = wC ∙ ap (λ i. i ++ C₁) l.whole ∙ append_assoc l.front (c ∷ []) C₁ in
      let g : Fault = record { place = c.word.place; number = 7 } in
      record {
        place = c.word.place;
        has = has_right (each (kept_row_faults full limit) [] E₀) (each choice_faults [] C₀)
            (subst (λ i. Has g (each choice_faults [] i)) (sym l.whole) (at_row choice_faults l.front c [] (seven_choice l.front c l.many)));
        edge = room.edge c (record { front = l.front; rest = C₁; whole = w; place = l.many });
        behind = ascend_back l.front c C₁ lo hi (subst (λ i. Ascend lo i hi) w ascend);
      }

  some_more : {A : Type 0} {g : Fault} (F : List A → A → List Fault) (p l : List A) → Has g (each F p l) → 0 < length l
  unfolding each
  some_more F p [] i = absurd (has_none i)
  some_more F p (x ∷ l) i = omega arith

  late_row : (g : Fault) → Has g (each row_faults E₀ E₁) → Covered g kept_faults
  unfolding kept_faults
  late_row g i =
      let h = some_more row_faults E₀ E₁ i in
      let n : length E₀ ≡ 513 = omega (arith, h, nE, l_e) in
      let l = last_of E₀ 512 n in
      let x = l.last in
      let w : spec_entries f.specs ≡ l.front ++ (x ∷ E₁) = wE ∙ ap (λ j. j ++ E₁) l.whole ∙ append_assoc l.front (x ∷ []) E₁ in
      let c : Fault = record { place = x.definition.name.place; number = 7 } in
      let k = rise_each E₁ E₀ (suc x.definition.name.place) hi (rise_back l.front x E₁ lo hi (subst (λ j. Rise lo j hi) w rise)) i in
      covered_by c (has_left (each (kept_row_faults full limit) [] E₀) (each choice_faults [] C₀)
      (subst (λ j. Has c (each (kept_row_faults full limit) [] j)) (sym l.whole)
      (at_row (kept_row_faults full limit) l.front x [] (seven_row full limit l.front x (row_is l.front x E₁ rows w ∙ l.many)))))
      (left_of k)

  early_row : (g : Fault) → Has g (each row_faults [] E₀) → Covered g kept_faults
  unfolding kept_faults
  early_row g i = by (found_at row_faults E₀ i)
    where
      go : (r : From row_faults E₀ g) → Shown full limit g r.front r.row → Covered g kept_faults
      go r (shown m) =
          covered (has_left (each (kept_row_faults full limit) [] E₀) (each choice_faults [] C₀)
          (subst (λ j. Has g (each (kept_row_faults full limit) [] j)) (sym r.whole) (at_row (kept_row_faults full limit) r.front r.row r.rest m)))
      go r (late m e) =
          let d = default_late full limit r.row.definition r.row.values r.row.definition.default m e in
          let o = over (ltb-true 1024 (length (spec_choices f.specs)) (sym room.over ∙ d.0)) in
          late_cover g o.place kept_faults o.has o.edge d.1.0 d.1.1

      by : From row_faults E₀ g → Covered g kept_faults
      by r = go r (is_shown full limit r.front r.row r.has)

  late_choice : (g : Fault) → Has g (each choice_faults C₀ C₁) → Covered g kept_faults
  late_choice g i =
      let h = some_more choice_faults C₀ C₁ i in
      let o = over (omega (arith, h, nC, l_c)) in
      covered_by (record { place = o.place; number = 7 }) o.has (left_of (ascend_each C₁ C₀ (suc o.place) hi o.behind i))

  row_covered : (g : Fault) → Has g (each row_faults [] (spec_entries f.specs)) → Covered g kept_faults
  row_covered g i =
      ⊎_elim (λ n. early_row g n) (λ n. late_row g n)
      (has_split (each row_faults [] E₀) (each row_faults E₀ E₁) (subst (Has g) (ap (each row_faults []) wE ∙ each_append row_faults [] E₀ E₁) i))

  choice_covered : (g : Fault) → Has g (each choice_faults [] (spec_choices f.specs)) → Covered g kept_faults
  unfolding kept_faults
  choice_covered g i =
      ⊎_elim (λ n. covered (has_right (each (kept_row_faults full limit) [] E₀) (each choice_faults [] C₀) n)) (λ n. late_choice g n)
      (has_split (each choice_faults [] C₀) (each choice_faults C₀ C₁) (subst (Has g) (ap (each choice_faults []) wC ∙ each_append choice_faults [] C₀ C₁) i))

  kept_row : (g : Fault) → Has g (each (kept_row_faults full limit) [] E₀) → Has g (each row_faults [] (spec_entries f.specs))
  kept_row g i =
      let r = found_at (kept_row_faults full limit) E₀ i in
      let w : spec_entries f.specs ≡ r.front ++ (r.row ∷ (r.rest ++ E₁)) = wE ∙ ap (λ j. j ++ E₁) r.whole ∙ append_assoc r.front (r.row ∷ r.rest) E₁ in
      subst (λ j. Has g (each row_faults [] j)) (sym w) (at_row row_faults r.front r.row (r.rest ++ E₁) (kept_in full limit r.front r.row r.has))

  kept_choice : (g : Fault) → Has g (each choice_faults [] C₀) → Has g (each choice_faults [] (spec_choices f.specs))
  kept_choice g i = subst (Has g) (sym (ap (each choice_faults []) wC ∙ each_append choice_faults [] C₀ C₁)) (has_left (each choice_faults [] C₀) (each choice_faults C₀ C₁) i)

  pub kept_same : first (each row_faults [] (spec_entries f.specs) ++ each choice_faults [] (spec_choices f.specs))
      ≡ first (each (kept_row_faults full limit) [] E₀ ++ each choice_faults [] C₀)
  unfolding all_faults kept_faults
  kept_same =
      let R = each row_faults [] (spec_entries f.specs) in
      let K = each choice_faults [] (spec_choices f.specs) in
      let R₀ = each (kept_row_faults full limit) [] E₀ in
      let K₀ = each choice_faults [] C₀ in
      first_same (R ++ K) (R₀ ++ K₀)
      (λ g i. covered (⊎_elim (λ n. has_left R K (kept_row g n)) (λ n. has_right R K (kept_choice g n)) (has_split R₀ K₀ i)))
      (λ g i. ⊎_elim (λ n. row_covered g n) (λ n. choice_covered g n) (has_split R K i))
