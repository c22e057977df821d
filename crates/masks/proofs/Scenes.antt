-- What the rows give is what the file has: the checker over the rows answers as the checker over the file. Assumes nothing.
use mathlib.Core.Path.{◌≡◌, refl, sym, ◌∙◌, ap, ap₂, subst}
use mathlib.Core.List.{List, [], ◌∷◌}
use mathlib.Core.Bool.{Bool, true, false}
use Prim.Native.Nat.{ℕ, zero, suc, ◌+◌, ◌*◌, ◌<◌, ◌≤◌}
use native.Mathlib.Omega.{arith}
use lib.ListN.{length, get_or}
use lib.Seq.{sets, get_or-take}
use lib.Dec.{eqb}
use Rattle.token.specs.Find.{pick, both, either}
use Rattle.rows.specs.Table.{cell_of}
use Rattle.rows.specs.Search.{find_from}
use Rattle.rows.proofs.Stores.{part_sets_same}
use Rattle.meaning.specs.Syntax.{Object, File}
use Rattle.meaning.specs.Applying.{object_rows}
use Rattle.meaning.specs.Resolving.{all_values, all_value_rows, ValueRow}
use Rattle.meaning.specs.Cells.{object_cells, value_cells, object_room, value_room}
use Rattle.meaning.proofs.Numbering.{Counts, object_numbers, numbered}
use Rattle.writing.specs.Promises.{From, Tables}
use Rattle.writing.proofs.Froms.{from_room}
use Rattle.writing.proofs.Telling.{file_pairs}
use Rattle.masks.specs.Masks.{Mask, beside, breaking, before_plan, plan_from, plan}
use Rattle.masks.specs.Events.{events, rows_of, masks_in, masks_of, tasks_of}
use Rattle.masks.specs.Marks.{task_at, tasks_at, mask_at, masks_at}
use Rattle.masks.specs.Members.{refers_at, Marked, event_rows_at, PutEvents, is_mask_at, mask_found, Filled}
use Rattle.masks.proofs.Refers.{refers_nth, task_kind}
use Rattle.masks.proofs.Reflections.{from_zero}
use Rattle.masks.proofs.Referring.{all_refer, cells_refer, beside_tasks}
use Rattle.masks.proofs.Masking.{cells_mask}
use Rattle.masks.proofs.Linking.{event_rows_are, tasks_are, masks_mapped, masks_are, breaking_as, plan_as}

rows_many : (xs : List Object) → length (object_rows xs) ≡ length xs
unfolding object_rows
rows_many [] = refl
rows_many (x ∷ xs) = ap suc (rows_many xs)

masks_many : (f : File) (xs : List Object) → length (rows_of xs) ≡ length (masks_in f xs)
unfolding rows_of masks_in
masks_many f [] = refl
masks_many f (x ∷ xs) = ap suc (masks_many f xs)

events_below : (o : List ℕ) (c i j : ℕ) → j < length (event_rows_at o c i) → get_or (event_rows_at o c i) j 0 < i + c
unfolding event_rows_at
events_below o zero i j h = absurd (omega (arith, h))
events_below o (suc c) i j h = go (eqb (cell_of o 8 i 0) 7) j h (λ k b. events_below o c (suc i) k b)
  where
    go : (b : Bool) (j : ℕ) → j < length (pick b (i ∷ event_rows_at o c (suc i)) (event_rows_at o c (suc i)))
        → ((k : ℕ) → k < length (event_rows_at o c (suc i)) → get_or (event_rows_at o c (suc i)) k 0 < suc i + c)
        → get_or (pick b (i ∷ event_rows_at o c (suc i)) (event_rows_at o c (suc i))) j 0 < i + suc c
    go true zero h f = omega arith
    go true (suc k) h f = let a = f k (omega (arith, h)) in omega (arith, a)
    go false j h f = let a = f j h in omega (arith, a)

stored_cell : (l es : List ℕ) (j : ℕ) → length es ≤ length l → j < length es → get_or (sets l 0 es) j 0 ≡ get_or es j 0
stored_cell l es j h k =
    let z : 0 + length es ≤ length l = omega (arith, h) in
    sym (get_or-take (length es) (sets l 0 es) j 0 k) ∙ ap (λ (x : List ℕ). get_or x j 0) (part_sets_same l 0 es z)

module _ {s d o v : List ℕ} {m n : ℕ} {f : File} (t : Tables s d o v m n f) (small : m ≤ 256)
    {rows₀ rows : List ℕ} {e : ℕ} (wide : 256 ≤ length rows₀) (p : PutEvents rows₀ (event_rows_at o m 0) rows e) where
  abbrev xs : List Object
  xs = f.objects

  abbrev es : List ℕ
  es = rows_of (events f.objects)

  abbrev rs : List ValueRow
  rs = all_value_rows (all_values f f.objects) 0 0

  many : m ≡ length xs
  many = t.many_objects ∙ rows_many xs

  objects : From 8 object_cells o m 0 (object_rows xs)
  unfolding object_room
  objects = from_room 8 object_cells (256 * 8) (object_rows xs) o m t.objects t.many_objects

  values : From 9 value_cells v n 0 rs
  unfolding value_room
  values = from_room 9 value_cells (2048 * 9) rs v n t.values t.many_values

  counts : Counts 0 (object_numbers xs)
  counts = subst (λ (x : File). Counts 0 (object_numbers x.objects)) (sym t.situation.syntax_of) (numbered s t.situation.derivation.tree).1.0

  events_are : event_rows_at o m 0 ≡ es
  events_are = ap (λ (c : ℕ). event_rows_at o c 0) many ∙ event_rows_are xs 0 objects counts

  pub how_many : e ≡ length (masks_of f)
  unfolding masks_of
  how_many = p.count ∙ ap length events_are ∙ masks_many f (events xs)

  count : e ≡ length es
  count = p.count ∙ ap length events_are

  below : (j : ℕ) → j < length es → get_or es j 0 < m
  below j h =
      let a = ap length events_are in
      let b : j < length (event_rows_at o m 0) = omega (arith, h, a) in
      let c = events_below o m 0 j b in
      let w = ap (λ (x : List ℕ). get_or x j 0) events_are in
      omega (arith, c, w)

  events_few : (c i : ℕ) → length (event_rows_at o c i) ≤ c
  unfolding event_rows_at
  events_few zero i = omega arith
  events_few (suc c) i = go (eqb (cell_of o 8 i 0) 7) (events_few c (suc i))
    where
      go : (b : Bool) → length (event_rows_at o c (suc i)) ≤ c → length (pick b (i ∷ event_rows_at o c (suc i)) (event_rows_at o c (suc i))) ≤ suc c
      go true h = omega (arith, h)
      go false h = omega (arith, h)

  row_is : (j : ℕ) → j < length es → get_or rows j 0 ≡ get_or es j 0
  row_is j h =
      let a = ap length events_are in
      let b = events_few m 0 in
      let c : length es ≤ length rows₀ = omega (arith, a, b, small, wide) in
      ap (λ (x : List ℕ). get_or x j 0) (p.stored ∙ ap (sets rows₀ 0) events_are) ∙ stored_cell rows₀ es j c h

  pub few : e ≤ 256
  few = let a = events_few m 0 in let b = p.count in omega (arith, a, b, small)

  module _ {marks₀ marks given₀ given : List ℕ} (clear : (a : ℕ) → a < 65536 → get_or marks₀ a 0 ≡ 0) (q : Marked marks₀ (refers_at o v n 0 0) marks) (g : Filled s d v n rows e given₀ given) where
    marked : (u j : ℕ) → u < m → j < length es → task_at marks rows u j ≡ both (task_kind xs 0 u) (refers_nth (all_values f xs) 0 u (get_or es j 0))
    unfolding task_at
    marked u j h k =
        let b = below j k in
        let c : u < 256 = omega (arith, h, small) in
        let w : get_or es j 0 < 256 = omega (arith, b, small) in
        let a : u * 256 + get_or es j 0 < 65536 = omega (arith, c, w) in
        let y : u < 0 + length xs = (let z = many in omega (arith, h, z)) in
        ap (λ (x : ℕ). eqb (get_or marks (u * 256 + x) 0) 1) (row_is j k)
        ∙ q.marks u (get_or es j 0) c w
        ∙ ap (λ (x : ℕ). either (eqb x 1) (refers_at o v n 0 0 u (get_or es j 0))) (clear (u * 256 + get_or es j 0) a)
        ∙ ap (λ (x : ℕ). refers_at o v x 0 0 u (get_or es j 0)) t.many_values
        ∙ cells_refer o v n u (get_or es j 0) rs 0 0 values
        ∙ ap₂ both (tasks_are xs 0 u objects (omega arith) y) (all_refer (all_values f xs) 0 0 0 u (get_or es j 0))

    masks_same : masks_at given e 0 ≡ masks_of f
    unfolding masks_of
    masks_same =
        ap (λ (x : ℕ). masks_at given x 0) count
        ∙ masks_mapped given (λ row. mask_found v (find_from (is_mask_at s d v row) n 0)) es 0
        (λ j h. let z : j < e = (let c = count in omega (arith, h, c)) in ap (mask_at given) (from_zero j) ∙ g.masks j z ∙ ap (λ (x : ℕ). mask_found v (find_from (is_mask_at s d v x) n 0)) (row_is j h))
        ∙ masks_are s d f xs 0 0 (λ row. mask_found v (find_from (is_mask_at s d v row) n 0)) (file_pairs t.situation t.definitions) counts (λ row _. cells_mask s d v n row rs 0 values)

    beside_same : (l : List ℕ) → length l ≡ e → (i : ℕ) (y : ℕ → Bool) → i < length l → beside (tasks_at marks rows m 0) i y l ≡ beside (tasks_of f) i y l
    unfolding tasks_of
    beside_same l c i y h =
        ap (λ (x : ℕ). beside (tasks_at marks rows x 0) i y l) many
        ∙ beside_tasks f marks rows es i y l h xs 0 (λ u j _ b k. let w : u < m = (let z = many in omega (arith, b, z)) in let r : j < length es = (let z = count in omega (arith, k, c, z)) in marked u j w r)

    -- THE CHECKER OVER THE ROWS answers as that over the file.
    pub breaking_same : (l : List ℕ) → length l ≡ e → breaking (tasks_at marks rows m 0) l 0 (masks_at given (length l) 0) l ≡ breaking (tasks_of f) l 0 (masks_of f) l
    breaking_same l c =
        ap (λ (x : ℕ). breaking (tasks_at marks rows m 0) l 0 (masks_at given x 0) l) c
        ∙ ap (λ (x : List Mask). breaking (tasks_at marks rows m 0) l 0 x l) masks_same
        ∙ breaking_as (tasks_at marks rows m 0) (tasks_of f) l (beside_same l c) 0 (masks_of f) l (let z = how_many in omega (arith, c, z))

    -- THE PLANNER OVER THE ROWS plans as that over the file.
    pub plan_same : (l : List ℕ) → length l ≡ e → l ≡ before_plan (masks_at given e 0) → plan_from (tasks_at marks rows m 0) l 0 (masks_at given e 0) ≡ plan (tasks_of f) (masks_of f)
    unfolding plan
    plan_same l c w =
        ap₂ (λ (x : List ℕ) (y : List Mask). plan_from (tasks_at marks rows m 0) x 0 y) (w ∙ ap before_plan masks_same) masks_same
        ∙ plan_as (tasks_at marks rows m 0) (tasks_of f) e (λ x y i z b. beside_same x y i z (let q = y in omega (arith, b, q))) (masks_of f) (before_plan (masks_of f)) 0
        (ap length (sym (w ∙ ap before_plan masks_same)) ∙ c) (let z = how_many in omega (arith, z))
