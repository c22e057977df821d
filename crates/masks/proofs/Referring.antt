-- The references of the tasks, in the rows of the values and in the syntax. Assumes nothing.
use mathlib.Core.Path.{◌≡◌, refl, sym, ◌∙◌, ap, ap₂}
use mathlib.Core.List.{List, [], ◌∷◌, ◌++◌, append_assoc}
use mathlib.Core.Bool.{Bool, true, false, not}
use Prim.Native.Nat.{ℕ, suc, ◌+◌, ◌<◌, ◌≤◌}
use native.Mathlib.Omega.{arith}
use lib.ListN.{length, get_or}
use lib.Dec.{eqb}
use Rattle.token.specs.Find.{pick, both, either}
use Rattle.token.proofs.Bytes.{both_false, either_false}
use borrow.Author.Tests.{eq-eqb, ne_eqb, eqb-true}
use Rattle.grammar.specs.Grammar.{TASK}
use Rattle.rows.specs.Table.{cell_of}
use Rattle.meaning.specs.Syntax.{Object, File}
use Rattle.meaning.specs.Kinds.{same_kind}
use Rattle.meaning.specs.Cells.{owner_sort, owner_row, value_sort, value_amount, value_cells}
use Rattle.meaning.proofs.Rooms.{value_width}
use Rattle.writing.specs.Promises.{From}
use Rattle.writing.proofs.Froms.{from_cell, from_append}
use Rattle.meaning.specs.Resolving.{Value, number, truth, auto, string, float, enumerator, object, object_values, all_values, Resolved, end, resolved, Owner, of_object, of_value, ValueRow, value_row, value_rows, all_value_rows, how_many_values}
use Rattle.masks.specs.Events.{leads, refers, tasks_in}
use Rattle.masks.specs.Masks.{Task, meets, beside}
use Rattle.masks.specs.Marks.{task_at, tasks_at}
use Rattle.masks.proofs.Reflections.{Cases, yes, no, cases}
use Rattle.masks.specs.Members.{object_at, hits, refers_at}
use Rattle.masks.proofs.Refers.{owner_now, row_refers, refers_nth, task_kind}

both_either : (e a b c : Bool) → either (both e a) (either (both e b) c) ≡ either (both e (either a b)) c
both_either true true b c = refl
both_either true false b c = refl
both_either false a b c = refl

-- The rows of values of the object o, and rows behind them.
module _ (o t x : ℕ) where
  rows_refer : (r : Resolved) (n : ℕ) (w : Owner) (rest : List ValueRow) → owner_now w o ≡ o
      → row_refers (value_rows r n w ++ rest) o t x ≡ either (both (eqb o t) (refers x r)) (row_refers rest o t x)
  unfolding value_rows value_row row_refers refers owner_now
  rows_refer end n w rest e = sym (nothing (eqb o t) (row_refers rest o t x))
    where
      nothing : (b c : Bool) → either (both b false) c ≡ c
      nothing true c = refl
      nothing false c = refl
  rows_refer (resolved v us more) n w rest e =
      ap (λ (q : ℕ). either (both (eqb q t) (leads x v.value)) (row_refers ((value_rows us (suc n) (of_value n) ++ value_rows more (suc n + how_many_values us) w) ++ rest) q t x)) e
      ∙ ap (λ (l : List ValueRow). either (both (eqb o t) (leads x v.value)) (row_refers l o t x)) (append_assoc (value_rows us (suc n) (of_value n)) (value_rows more (suc n + how_many_values us) w) rest)
      ∙ ap (either (both (eqb o t) (leads x v.value))) (rows_refer us (suc n) (of_value n) (value_rows more (suc n + how_many_values us) w ++ rest) refl
      ∙ ap (either (both (eqb o t) (refers x us))) (rows_refer more (suc n + how_many_values us) w rest e))
      ∙ ap (either (both (eqb o t) (leads x v.value))) (both_either (eqb o t) (refers x us) (refers x more) (row_refers rest o t x))
      ∙ both_either (eqb o t) (leads x v.value) (either (refers x us) (refers x more)) (row_refers rest o t x)

-- It is all one which object's row came before.
any_before : (ys : List Resolved) (o n a b t x : ℕ) → row_refers (all_value_rows ys o n) a t x ≡ row_refers (all_value_rows ys o n) b t x
unfolding all_value_rows value_rows value_row row_refers owner_now
any_before [] o n a b t x = refl
any_before (end ∷ ys) o n a b t x = any_before ys (suc o) (n + how_many_values end) a b t x
any_before (resolved v us more ∷ ys) o n a b t x = refl

-- The rows of all objects' values refer as the objects do.
pub all_refer : (ys : List Resolved) (o n a t x : ℕ) → row_refers (all_value_rows ys o n) a t x ≡ refers_nth ys o t x
unfolding all_value_rows row_refers refers_nth owner_now
all_refer [] o n a t x = refl
all_refer (y ∷ ys) o n a t x =
    any_before (y ∷ ys) o n a o t x
    ∙ rows_refer o t x y n (of_object o) (all_value_rows ys (suc o) (n + how_many_values y)) refl
    ∙ ap (either (both (eqb o t) (refers x y))) (all_refer ys (suc o) (n + how_many_values y) o t x)

-- The cells of the rows --------------------------------------------------------------------------------------------------------------------

now_is : (w : Owner) (a : ℕ) → pick (eqb (owner_sort w) 0) (owner_row w) a ≡ owner_now w a
unfolding owner_sort owner_row owner_now
now_is (of_object n) a = refl
now_is (of_value n) a = refl

leads_is : (v : Value) (x : ℕ) → both (eqb (value_sort v) 5) (eqb (value_amount v) x) ≡ leads x v
unfolding value_sort value_amount leads
leads_is (number n) x = refl
leads_is (truth b) x = refl
leads_is auto x = refl
leads_is string x = refl
leads_is float x = refl
leads_is (enumerator e) x = refl
leads_is (object o) x = refl

both_four : (a b c d : Bool) → both (both a b) (both c d) ≡ both a (both c (both b d))
both_four true true true d = refl
both_four true true false d = refl
both_four true false true d = refl
both_four true false false d = refl
both_four false b c d = refl

same_under : (k : ℕ → Bool) (a t : ℕ) (d : Bool) → Cases (eqb a t) → both (k a) (both (eqb a t) d) ≡ both (k t) (both (eqb a t) d)
same_under k a t d (yes q) = ap (λ (i : ℕ). both (k i) (both (eqb a t) d)) (eqb-true a t q)
same_under k a t d (no q) = ap (λ (b : Bool). both (k a) (both b d)) q ∙ both_false (k a) ∙ sym (ap (λ (b : Bool). both (k t) (both b d)) q ∙ both_false (k t))

both_out : (k a b : Bool) → either (both k a) (both k b) ≡ both k (either a b)
both_out true a b = refl
both_out false a b = refl

module _ (o v : List ℕ) (n t x : ℕ) where
  hits_is : (k a : ℕ) (w : Value) → cell_of v 9 k 3 ≡ value_sort w → cell_of v 9 k 5 ≡ value_amount w → hits o v k a t x ≡ both (eqb (cell_of o 8 t 0) 2) (both (eqb a t) (leads x w))
  unfolding hits
  hits_is k a w e q =
      ap₂ (λ (s m : ℕ). both (both (eqb (cell_of o 8 a 0) 2) (eqb s 5)) (both (eqb a t) (eqb m x))) e q
      ∙ both_four (eqb (cell_of o 8 a 0) 2) (eqb (value_sort w) 5) (eqb a t) (eqb (value_amount w) x)
      ∙ ap (λ (b : Bool). both (eqb (cell_of o 8 a 0) 2) (both (eqb a t) b)) (leads_is w x)
      ∙ same_under (λ i. eqb (cell_of o 8 i 0) 2) a t (leads x w) (cases (eqb a t))

  -- The cells of the values refer as their rows do, for a task.
  pub cells_refer : (rs : List ValueRow) (k a : ℕ) → From 9 value_cells v n k rs → refers_at o v (length rs) k a t x ≡ both (eqb (cell_of o 8 t 0) 2) (row_refers rs a t x)
  unfolding refers_at row_refers object_at value_cells
  cells_refer [] k a h = sym (both_false (eqb (cell_of o 8 t 0) 2))
  cells_refer (r ∷ rs) k a h =
      let e1 = from_cell 9 value_cells value_width r rs 1 (omega arith) h in
      let e2 = from_cell 9 value_cells value_width r rs 2 (omega arith) h in
      let e3 = from_cell 9 value_cells value_width r rs 3 (omega arith) h in
      let e5 = from_cell 9 value_cells value_width r rs 5 (omega arith) h in
      let z : suc k ≡ k + 1 = omega arith in
      let m : object_at v k a ≡ owner_now r.owner a = ap₂ (λ (i j : ℕ). pick (eqb i 0) j a) e1 e2 ∙ now_is r.owner a in
      ap (λ (i : ℕ). either (hits o v k i t x) (refers_at o v (length rs) (suc k) i t x)) m
      ∙ ap₂ either (hits_is k (owner_now r.owner a) r.value e3 e5)
      (cells_refer rs (suc k) (owner_now r.owner a) (from_append 9 value_cells value_width (r ∷ []) rs z h))
      ∙ both_out (eqb (cell_of o 8 t 0) 2) (both (eqb (owner_now r.owner a) t) (leads x r.value)) (row_refers rs (owner_now r.owner a) t x)

-- The references of the objects --------------------------------------------------------------------------------------------------------------

early : (ys : List Resolved) (o t x : ℕ) → t < o → refers_nth ys o t x ≡ false
unfolding refers_nth
early [] o t x h = refl
early (y ∷ ys) o t x h =
    let k : t < suc o = omega (arith, h) in
    ap (λ (b : Bool). either (both b (refers x y)) (refers_nth ys (suc o) t x)) (ne_eqb o t (λ (q : o ≡ t). omega (arith, h, q))) ∙ early ys (suc o) t x k

pub own_refers : (y : Resolved) (ys : List Resolved) (o x : ℕ) → refers_nth (y ∷ ys) o o x ≡ refers x y
unfolding refers_nth
own_refers y ys o x =
    ap₂ (λ (b c : Bool). either (both b (refers x y)) c) (eq-eqb o o refl) (early ys (suc o) o x (omega arith)) ∙ either_false (refers x y)

pub later_refers : (y : Resolved) (ys : List Resolved) (o t x : ℕ) → o < t → refers_nth (y ∷ ys) o t x ≡ refers_nth ys (suc o) t x
unfolding refers_nth
later_refers y ys o t x h = ap (λ (b : Bool). either (both b (refers x y)) (refers_nth ys (suc o) t x)) (ne_eqb o t (λ (q : o ≡ t). omega (arith, h, q)))

-- The tasks --------------------------------------------------------------------------------------------------------------------------------

meets_as : (a b : Task) (i : ℕ) (p : ℕ → Bool) (l : List ℕ) (j : ℕ) → ((m : ℕ) → m < length l → a (j + m) ≡ b (j + m)) → meets a i p l j ≡ meets b i p l j
unfolding meets
meets_as a b i p [] j h = refl
meets_as a b i p (n ∷ l) j h =
    let z : j + 0 ≡ j = omega arith in
    let e : a j ≡ b j = ap a (sym z) ∙ h 0 (omega arith) ∙ ap b z in
    ap₂ (λ (c d : Bool). either (both (both c (not (eqb i j))) (p n)) d) e
    (meets_as a b i p l (suc j) (λ m k. let y : suc j + m ≡ j + suc m = omega arith in let w : suc m < length (n ∷ l) = omega (arith, k) in ap a y ∙ h (suc m) w ∙ ap b (sym y)))

module _ (f : File) (marks rows es : List ℕ) (i : ℕ) (p : ℕ → Bool) (l : List ℕ) (inside : i < length l) where
  -- The objects xs, from row o on, whose values are their resolved ones, are marked.
  abbrev Marks : List Object → ℕ → Type 0
  Marks xs o = (t j : ℕ) → o ≤ t → t < o + length xs → j < length l
      → task_at marks rows t j ≡ both (task_kind xs o t) (refers_nth (all_values f xs) o t (get_or es j 0))

  next_marks : (x : Object) (xs : List Object) (o : ℕ) → Marks (x ∷ xs) o → Marks xs (suc o)
  unfolding all_values task_kind
  next_marks x xs o h t j a b c =
      let q : o < t = omega (arith, a) in
      let u : o ≤ t = omega (arith, a) in
      let w : t < o + length (x ∷ xs) = omega (arith, b) in
      h t j u w c ∙ ap₂ both (ap (λ (y : Bool). pick y (same_kind TASK x.kind) (task_kind xs (suc o) t)) (ne_eqb o t (λ (z : o ≡ t). omega (arith, q, z)))) (later_refers (object_values f x) (all_values f xs) o t (get_or es j 0) q)

  own_marks : (x : Object) (xs : List Object) (o : ℕ) → Marks (x ∷ xs) o → (j : ℕ) → j < length l → task_at marks rows o j ≡ both (same_kind TASK x.kind) (refers (get_or es j 0) (object_values f x))
  unfolding all_values task_kind
  own_marks x xs o h j c =
      h o j (omega arith) (omega arith) c ∙ ap₂ both (ap (λ (y : Bool). pick y (same_kind TASK x.kind) (task_kind xs (suc o) o)) (eq-eqb o o refl)) (own_refers (object_values f x) (all_values f xs) o (get_or es j 0))

  -- The marked tasks are those of the file.
  pub beside_tasks : (xs : List Object) (o : ℕ) → Marks xs o → beside (tasks_at marks rows (length xs) o) i p l ≡ beside (tasks_in f es xs) i p l
  unfolding tasks_at beside tasks_in
  beside_tasks [] o h = refl
  beside_tasks (x ∷ xs) o h = go (cases (same_kind TASK x.kind)) (beside_tasks xs (suc o) (next_marks x xs o h))
    where
      own : (j : ℕ) → j < length l → task_at marks rows o j ≡ both (same_kind TASK x.kind) (refers (get_or es j 0) (object_values f x))
      own = own_marks x xs o h

      go : Cases (same_kind TASK x.kind) → beside (tasks_at marks rows (length xs) (suc o)) i p l ≡ beside (tasks_in f es xs) i p l
          → either (both (task_at marks rows o i) (meets (task_at marks rows o) i p l 0)) (beside (tasks_at marks rows (length xs) (suc o)) i p l)
          ≡ beside (pick (same_kind TASK x.kind) ((λ j. refers (get_or es j 0) (object_values f x)) ∷ tasks_in f es xs) (tasks_in f es xs)) i p l
      go (yes q) e =
          let w : (j : ℕ) → j < length l → task_at marks rows o j ≡ refers (get_or es j 0) (object_values f x) = λ j c. own j c ∙ ap (λ (b : Bool). both b (refers (get_or es j 0) (object_values f x))) q in
          ap₂ (λ (a b : Bool). either a b)
          (ap₂ both (w i inside) (meets_as (task_at marks rows o) (λ j. refers (get_or es j 0) (object_values f x)) i p l 0 (λ m c. let z : 0 + m < length l = omega (arith, c) in w (0 + m) z))) e
          ∙ sym (ap (λ (b : Bool). beside (pick b ((λ j. refers (get_or es j 0) (object_values f x)) ∷ tasks_in f es xs) (tasks_in f es xs)) i p l) q)
      go (no q) e =
          ap₂ (λ (a b : Bool). either (both a (meets (task_at marks rows o) i p l 0)) b) (own i inside ∙ ap (λ (b : Bool). both b (refers (get_or es i 0) (object_values f x))) q) e
          ∙ sym (ap (λ (b : Bool). beside (pick b ((λ j. refers (get_or es j 0) (object_values f x)) ∷ tasks_in f es xs) (tasks_in f es xs)) i p l) q)
