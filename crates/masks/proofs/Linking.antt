-- From the cells to the syntax: what was marked and stored is what the file has. Assumes nothing.
use mathlib.Core.Path.{◌≡◌, refl, sym, ◌∙◌, ap, ap₂}
use mathlib.Core.List.{List, [], ◌∷◌}
use mathlib.Core.Bool.{Bool, true, false, not}
use mathlib.Core.Option.{Option, some}
use Prim.Native.Nat.{ℕ, suc, ◌+◌, ◌<◌, ◌≤◌, ◌^◌}
use native.Mathlib.Omega.{arith}
use lib.ListN.{length, get_or, set, length-set}
use lib.Dec.{eqb, ltb}
use borrow.Author.Tests.{eq-eqb, ne_eqb, eqb-true, eqb-false}
use Rattle.token.specs.Find.{pick, both, find}
use Rattle.rows.specs.Table.{cell_of}
use Rattle.grammar.specs.Grammar.{Kind, TASK, EVENT}
use Rattle.meaning.specs.Syntax.{Object, File, span_of}
use Rattle.meaning.specs.Words.{choose}
use Rattle.meaning.specs.Kinds.{kind_number, same_kind}
use Rattle.meaning.specs.Applying.{object_rows}
use Rattle.meaning.specs.Resolving.{object_values, all_values, all_value_rows, how_many_values}
use Rattle.meaning.specs.Cells.{object_cells}
use Rattle.meaning.proofs.Rooms.{object_width}
use Rattle.meaning.proofs.Numbering.{Counts, counts_more, object_numbers}
use Rattle.writing.specs.Promises.{From, Pairs, a_pair}
use Rattle.writing.proofs.Froms.{from_cell, from_append}
use Rattle.masks.specs.Bits.{has, common, single}
use Rattle.masks.specs.Masks.{Mask, given, automatic, Task, beside, keeps, breaking, taken, lowest, Plan, full, plan_from}
use Rattle.masks.specs.Events.{events, rows_of, mask_in, masks_in}
use Rattle.masks.specs.Marks.{mask_at, masks_at}
use Rattle.masks.specs.Members.{event_rows_at}
use Rattle.masks.proofs.Refers.{task_kind}
use Rattle.masks.proofs.Reflections.{Cases, yes, no, cases}
use Rattle.masks.proofs.Masking.{row_mask, first_mask, later_mask}

eqb_sym : (a b : ℕ) → eqb a b ≡ eqb b a
eqb_sym a b = go (cases (eqb a b))
  where
    go : Cases (eqb a b) → eqb a b ≡ eqb b a
    go (yes q) = q ∙ sym (eq-eqb b a (sym (eqb-true a b q)))
    go (no q) = q ∙ sym (ne_eqb b a (λ e. eqb-false a b q (sym e)))

-- The cell of an object's kind.
kind_cell : {o : List ℕ} {m i : ℕ} (x : Object) (xs : List Object) (k : Kind) → From 8 object_cells o m i (object_rows (x ∷ xs)) → eqb (cell_of o 8 i 0) (kind_number k) ≡ same_kind k x.kind
unfolding object_rows object_cells same_kind
kind_cell {o} {m} {i} x xs k h =
    ap (λ (c : ℕ). eqb c (kind_number k)) (from_cell 8 object_cells object_width (record { kind = x.kind; word = span_of x.word; name = span_of x.name; block = x.block; parts = x.parts }) (object_rows xs) 0 (omega arith) h)
    ∙ eqb_sym (kind_number x.kind) (kind_number k)

next_objects : {o : List ℕ} {m i : ℕ} (x : Object) (xs : List Object) → From 8 object_cells o m i (object_rows (x ∷ xs)) → From 8 object_cells o m (suc i) (object_rows xs)
unfolding object_rows
next_objects {o} {m} {i} x xs h = let z : suc i ≡ i + 1 = omega arith in from_append 8 object_cells object_width (record { kind = x.kind; word = span_of x.word; name = span_of x.name; block = x.block; parts = x.parts } ∷ []) (object_rows xs) z h

-- The rows of the events are those of the file.
pub event_rows_are : {o : List ℕ} {m : ℕ} (xs : List Object) (i : ℕ) → From 8 object_cells o m i (object_rows xs) → Counts i (object_numbers xs) → event_rows_at o (length xs) i ≡ rows_of (events xs)
unfolding event_rows_at rows_of events object_numbers kind_number
event_rows_are [] i h c = refl
event_rows_are {o} {m} (x ∷ xs) i h (counts_more c0 c1) =
    ap₂ (λ (b : Bool) (l : List ℕ). pick b (i ∷ l) l) (kind_cell x xs EVENT h) (event_rows_are xs (suc i) (next_objects x xs h) c1) ∙ go (same_kind EVENT x.kind)
  where
    go : (b : Bool) → pick b (i ∷ rows_of (events xs)) (rows_of (events xs)) ≡ rows_of (pick b (x ∷ events xs) (events xs))
    go true = ap (λ (n : ℕ). n ∷ rows_of (events xs)) (sym c0)
    go false = refl

-- The kinds of the objects are those of the file.
pub tasks_are : {o : List ℕ} {m : ℕ} (xs : List Object) (i t : ℕ) → From 8 object_cells o m i (object_rows xs) → i ≤ t → t < i + length xs → eqb (cell_of o 8 t 0) 2 ≡ task_kind xs i t
unfolding task_kind kind_number
tasks_are [] i t h a b = absurd (omega (arith, a, b))
tasks_are {o} {m} (x ∷ xs) i t h a b = go (cases (eqb i t)) (λ p q. tasks_are xs (suc i) t (next_objects x xs h) p q)
  where
    go : Cases (eqb i t) → (suc i ≤ t → t < suc i + length xs → eqb (cell_of o 8 t 0) 2 ≡ task_kind xs (suc i) t) → eqb (cell_of o 8 t 0) 2 ≡ pick (eqb i t) (same_kind TASK x.kind) (task_kind xs (suc i) t)
    go (yes q) f = ap (λ (n : ℕ). eqb (cell_of o 8 n 0) 2) (sym (eqb-true i t q)) ∙ kind_cell x xs TASK h ∙ sym (ap (λ (c : Bool). pick c (same_kind TASK x.kind) (task_kind xs (suc i) t)) q)
    go (no q) f =
        let d = eqb-false i t q in
        let u : suc i ≤ t = omega (arith, a, d) in
        let w : t < suc i + length xs = omega (arith, b) in
        f u w ∙ sym (ap (λ (c : Bool). pick c (same_kind TASK x.kind) (task_kind xs (suc i) t)) q)

-- The masks of the events are those of the file ---------------------------------------------------------------------------------------------

unfoldable pub mapped : (ℕ → Mask) → List ℕ → List Mask
mapped g [] = []
mapped g (e ∷ es) = g e ∷ mapped g es

pub masks_mapped : (t : List ℕ) (g : ℕ → Mask) (es : List ℕ) (i : ℕ) → ((j : ℕ) → j < length es → mask_at t (i + j) ≡ g (get_or es j 0)) → masks_at t (length es) i ≡ mapped g es
unfolding masks_at mapped
masks_mapped t g [] i h = refl
masks_mapped t g (e ∷ es) i h =
    let z : i + 0 ≡ i = omega arith in
    ap₂ (λ (m : Mask) (ms : List Mask). m ∷ ms) (ap (mask_at t) (sym z) ∙ h 0 (omega arith))
    (masks_mapped t g es (suc i) (λ j b. let y : suc i + j ≡ i + suc j = omega arith in let c : suc j < length (e ∷ es) = omega (arith, b) in ap (mask_at t) y ∙ h (suc j) c))

module _ (s d : List ℕ) (f : File) where
  -- From the object of row i on, whose values' rows begin at n: g gives the mask of these rows.
  pub masks_are : (xs : List Object) (i n : ℕ) (g : ℕ → Mask) → Pairs s d xs (all_values f xs) → Counts i (object_numbers xs)
      → ((row : ℕ) → i ≤ row → g row ≡ row_mask s d (all_value_rows (all_values f xs) i n) row) → mapped g (rows_of (events xs)) ≡ masks_in f (events xs)
  unfolding mapped rows_of events masks_in all_values object_numbers
  masks_are [] i n g p c h = refl
  masks_are (x ∷ xs) i n g (a_pair u w t p) (counts_more c0 c1) h =
      let y = object_values f x in
      go (same_kind EVENT x.kind)
      (ap g c0 ∙ h i (omega arith) ∙ first_mask s d y (all_values f xs) i n t)
      (masks_are xs (suc i) (n + how_many_values y) g p c1 (λ row b. let e : i ≤ row = omega (arith, b) in let k : i < row = omega (arith, b) in h row e ∙ later_mask s d y (all_values f xs) i n row k))
    where
      go : (b : Bool) → g x.row ≡ mask_in (object_values f x) → mapped g (rows_of (events xs)) ≡ masks_in f (events xs)
          → mapped g (rows_of (pick b (x ∷ events xs) (events xs))) ≡ masks_in f (pick b (x ∷ events xs) (events xs))
      go true e q = ap₂ (λ (m : Mask) (ms : List Mask). m ∷ ms) e q
      go false e q = q

-- The checker looks at the tasks only through `beside` ----------------------------------------------------------------------------------------

pub breaking_as : (ts us : List Task) (l : List ℕ) → ((i : ℕ) (p : ℕ → Bool) → i < length l → beside ts i p l ≡ beside us i p l)
    → (i : ℕ) (rs : List Mask) (ms : List ℕ) → i + length rs ≤ length l → breaking ts l i rs ms ≡ breaking us l i rs ms
unfolding breaking keeps
breaking_as ts us l h i [] ms b = refl
breaking_as ts us l h i (r ∷ rs) [] b = refl
breaking_as ts us l h i (r ∷ rs) (m ∷ ms) b =
    let c : suc i + length rs ≤ length l = omega (arith, b) in
    ap₂ (λ (x : Bool) (y : Option ℕ). choose x (λ _. y) (λ _. some i)) (rule r) (breaking_as ts us l h (suc i) rs ms c)
  where
    inside : i < length l
    inside = omega (arith, b)

    rule : (r : Mask) → keeps ts l i r m ≡ keeps us l i r m
    rule (given g) = refl
    rule automatic = ap (λ (x : Bool). both (single m) (not x)) (h i (common m) inside)

lowest_as : (ts us : List Task) (i : ℕ) (l : List ℕ) → ((k : ℕ) → beside ts i (λ x. has x k) l ≡ beside us i (λ x. has x k) l) → lowest ts i l ≡ lowest us i l
unfolding lowest taken
lowest_as ts us i l h = let f : ◌≡◌ {A = ℕ → Bool} (λ k. not (beside ts i (λ x. has x k) l)) (λ k. not (beside us i (λ x. has x k) l)) = λ j k. not (h k j) in ap (λ (p : ℕ → Bool). find p 64 0) f

-- So does the planner; its masks change, and there are always n of them.
pub plan_as : (ts us : List Task) (n : ℕ) → ((l : List ℕ) → length l ≡ n → (i : ℕ) (p : ℕ → Bool) → i < n → beside ts i p l ≡ beside us i p l)
    → (rs : List Mask) (l : List ℕ) (i : ℕ) → length l ≡ n → i + length rs ≤ n → plan_from ts l i rs ≡ plan_from us l i rs
unfolding plan_from
plan_as ts us n h [] l i e b = refl
plan_as ts us n h (given g ∷ rs) l i e b = let c : suc i + length rs ≤ n = omega (arith, b) in plan_as ts us n h rs l (suc i) e c
plan_as ts us n h (automatic ∷ rs) l i e b =
    let c : suc i + length rs ≤ n = omega (arith, b) in
    ap (λ (k : ℕ). choose (ltb k 64) (λ _. plan_from ts (set l i (2 ^ k)) (suc i) rs) (λ _. full i)) low
    ∙ ap (λ (x : Plan). choose (ltb (lowest us i l) 64) (λ _. x) (λ _. full i)) (plan_as ts us n h rs (set l i (2 ^ lowest us i l)) (suc i) (length-set l i (2 ^ lowest us i l) ∙ e) c)
  where
    inside : i < n
    inside = omega (arith, b)

    low : lowest ts i l ≡ lowest us i l
    low = lowest_as ts us i l (λ k. h l e i (λ x. has x k) inside)
