-- Statements and objects one behind the other, as rows in tables. Assumes nothing.
use mathlib.Core.Path.{◌≡◌, refl, sym, ◌∙◌, ap, ap₂, subst}
use mathlib.Core.List.{List, [], ◌∷◌, ◌++◌, append_assoc, append-nil}
use mathlib.Core.Bool.{Bool, true, false}
use Prim.Native.Nat.{ℕ, suc, ◌+◌, ◌*◌, ◌-◌, ◌≤◌, ◌<◌}
use native.Mathlib.Omega.{arith}
use lib.ListN.{length, get_or, length-append}
use lib.Seq.{sets}
use Rattle.token.specs.Find.{pick, bit}
use Rattle.rows.proofs.Stores.{sets_append}
use Rattle.meaning.specs.Syntax.{Statements, done, state, Object, File, statements_in}
use Rattle.meaning.specs.Kinds.{kind_number}
use Rattle.meaning.specs.Words.{choose}
use Rattle.meaning.specs.Merging.{then, same_object, used, further, continued, merged, merge_from, merge}
use Rattle.meaning.proofs.Entries.{then_assoc}
use Rattle.meaning.proofs.Merges.{then_done, statements_then, same_itself, sum, merge_statements}
use Rattle.layout.specs.Kept.{statement_rows, all_statement_rows, object_cells, object_rows, statement_count, join, kept_parts, kept_part_statements}
use Rattle.layout.proofs.Lengths.{join_append, length_join, length_statements, length_all, length_objects, object_wide}
use Rattle.layout.proofs.Cells.{cell_kept}
use Rattle.blocks.specs.Blocks.{Holds}
use Rattle.blocks.proofs.Holding.{cell_held}
use Rattle.blocks.proofs.Ranges.{rows_then}
use Rattle.blocks.proofs.Files.{wide_statements, wide_all, all_split, object_split}
use Rattle.scopes.specs.Situations.{Nth}
use Rattle.merging.specs.Moves.{moved_rows, Moved, Moves}
use Rattle.merging.specs.Promises.{Parted, FirstAt, Gathered, share, Put, begun}
use Rattle.merging.proofs.Moving.{moved_block}

-- Statements -----------------------------------------------------------------------------------------------------------------------------------

pub gathered_none : (l : List ℕ) (m c : ℕ) → Gathered done 0 l m c l m c
unfolding statement_rows statements_in join
gathered_none l m c = record { table = refl; row = omega arith; parts = omega arith }

pub gathered_then : {a b : Statements} {n k : ℕ} {l l₁ l₂ : List ℕ} {m m₁ m₂ c c₁ c₂ : ℕ} → Gathered a n l m c l₁ m₁ c₁ → Gathered b k l₁ m₁ c₁ l₂ m₂ c₂
    → Gathered (then a b) (n + k) l m c l₂ m₂ c₂
gathered_then {a} {b} {n} {k} {l} {l₁} {l₂} {m} {m₁} {m₂} {c} {c₁} {c₂} p q =
    let A = join (statement_rows a m) in
    let B = join (statement_rows b (m + statements_in a)) in
    let w = length_join 7 (statement_rows a m) (wide_statements a m) in
    let u = length_statements a m in
    let i : m * 7 + length A ≡ (m + statements_in a) * 7 = omega (arith, w, u) in
    let r = p.row in
    let s = statements_then a b in
    let r₂ = q.row in
    let c' = p.parts in
    let c'' = q.parts in
    record {
      table = q.table
          ∙ ap (λ (j : ℕ). sets l₁ (j * 7) (join (statement_rows b j))) r
          ∙ ap (λ (t : List ℕ). sets t ((m + statements_in a) * 7) B) p.table
          ∙ ap (λ (j : ℕ). sets (sets l (m * 7) A) j B) (sym i)
          ∙ sym (sets_append l (m * 7) A B)
          ∙ ap (sets l (m * 7)) (sym (join_append (statement_rows a m) (statement_rows b (m + statements_in a))) ∙ ap join (sym (rows_then a b m)));
      row = omega arith;
      parts = omega arith;
    }

-- The further parts of an object, one behind the other.
pub continued_append : (y : Object) (a b : List Object) → continued y (a ++ b) ≡ then (continued y a) (continued y b)
unfolding continued then
continued_append y [] b = refl
continued_append y (z ∷ a) b = go (same_object y z) (continued_append y a b)
  where
    go : (t : Bool) → continued y (a ++ b) ≡ then (continued y a) (continued y b)
        → pick t (then z.statements (continued y (a ++ b))) (continued y (a ++ b)) ≡ then (pick t (then z.statements (continued y a)) (continued y a)) (continued y b)
    go true e = ap (then z.statements) e ∙ sym (then_assoc z.statements (continued y a) (continued y b))
    go false e = e

pub continued_one : (y z : Object) → continued y (z ∷ []) ≡ share y z
unfolding continued share
continued_one y z = go (same_object y z)
  where
    go : (t : Bool) → pick t (then z.statements done) done ≡ pick t z.statements done
    go true = then_done z.statements
    go false = refl

pub further_append : (y : Object) (a b : List Object) → further y (a ++ b) ≡ further y a + further y b
unfolding further
further_append y [] b = omega arith
further_append y (z ∷ a) b = let e = further_append y a b in omega arith

pub further_one : (y z : Object) → further y (z ∷ []) ≡ bit (same_object y z)
unfolding further
further_one y z = omega arith

-- With the first part.
pub continued_itself : (y : Object) (l : List Object) → continued y (y ∷ l) ≡ then y.statements (continued y l)
unfolding continued
continued_itself y l = ap (λ (t : Bool). pick t (then y.statements (continued y l)) (continued y l)) (same_itself y)

pub further_itself : (y : Object) (l : List Object) → further y (y ∷ l) ≡ suc (further y l)
unfolding further bit
further_itself y l = ap (λ (t : Bool). bit t + further y l) (same_itself y) ∙ omega arith

-- How many statements objects have.
pub count_append : (a b : List Object) → statement_count (a ++ b) ≡ statement_count a + statement_count b
unfolding statement_count
count_append [] b = omega arith
count_append (x ∷ a) b = let e = count_append a b in omega arith

count_split : (a : List Object) (z : Object) (b : List Object) → statement_count (a ++ (z ∷ b)) ≡ statement_count a + (statements_in z.statements + statement_count b)
unfolding statement_count
count_split a z b = count_append a (z ∷ b)

-- The statements of a part in the table ------------------------------------------------------------------------------------------------------------

module _ {s p st x : List ℕ} {n : ℕ} {f : File} (P : Parted s p st x n f) {j : ℕ} {z : Object} (r : Nth f.parts j z) where
  part_cell : (c : ℕ) → c < 10 → get_or p (j * 10 + c) 0 ≡ get_or (object_cells z (statement_count r.front)) c 0
  unfolding kept_parts
  part_cell c h =
      let a = P.parts in
      let b = P.parts_fit in
      let l = length_objects f.parts 0 in
      let k : length (object_rows r.front 0) ≡ j = length_objects r.front 0 ∙ r.place in
      let H : Holds 513 10 p (object_rows f.parts 0) = record { table = P.in_parts; fits = omega arith; wide = object_wide f.parts 0 } in
      let e : 0 + statement_count r.front ≡ statement_count r.front = omega arith in
      ap (λ (i : ℕ). get_or p (i * 10 + c) 0) (sym k)
      ∙ cell_held (object_rows r.front 0) _ (object_cells z (0 + statement_count r.front)) c H (ap (λ (os : List Object). object_rows os 0) r.whole ∙ object_split r.front z r.rest 0) h
      ∙ ap (λ (i : ℕ). get_or (object_cells z i) c 0) e

  pub from_cell : get_or p (j * 10 + 8) 0 ≡ statement_count r.front
  unfolding object_cells
  from_cell = part_cell 8 (omega arith)

  pub end_cell : get_or p (j * 10 + 9) 0 ≡ statement_count r.front + statements_in z.statements
  unfolding object_cells
  end_cell = part_cell 9 (omega arith)

  pub head_cells : (get_or p (j * 10 + 0) 0 ≡ kind_number z.kind) × (get_or p (j * 10 + 1) 0 ≡ z.word.place) × (get_or p (j * 10 + 2) 0 ≡ z.word.length)
      × (get_or p (j * 10 + 3) 0 ≡ z.name.place) × (get_or p (j * 10 + 4) 0 ≡ z.name.length) × (get_or p (j * 10 + 5) 0 ≡ z.block.place) × (get_or p (j * 10 + 6) 0 ≡ z.block.length)
  unfolding object_cells
  head_cells =
      (part_cell 0 (omega arith), part_cell 1 (omega arith), part_cell 2 (omega arith), part_cell 3 (omega arith), part_cell 4 (omega arith), part_cell 5 (omega arith), part_cell 6 (omega arith))

  -- The rows moved are those of the part's statements.
  pub moved_part : (from end : ℕ) (l l' : List ℕ) (m m' c : ℕ) → from ≡ get_or p (j * 10 + 8) 0 → end ≡ get_or p (j * 10 + 9) 0 → m + statements_in z.statements ≤ 2049 → Moves st from end l m l' m'
      → Gathered z.statements 1 l m c l' m' (c + 1)
  unfolding kept_part_statements
  moved_part from end l l' m m' c e₁ e₂ g M =
      let k = statement_count r.front in
      let a : from ≡ k = e₁ ∙ from_cell in
      let b : end ≡ k + statements_in z.statements = e₂ ∙ end_cell in
      let t = P.statements_fit in
      let u = length_all f.parts 0 in
      let v = count_split r.front z r.rest in
      let w : statement_count f.parts ≡ statement_count (r.front ++ (z ∷ r.rest)) = ap statement_count r.whole in
      let H : Holds 2049 7 st (all_statement_rows f.parts 0) = record { table = P.in_statements; fits = omega arith; wide = wide_all f.parts 0 } in
      let q = M (omega arith) (omega arith) in
      let n₁ : end - from ≡ statements_in z.statements = omega arith in
      let n₂ : m + (k - k) ≡ m = omega arith in
      let rest = all_statement_rows r.rest (0 + k + statements_in z.statements) in
      let whole : all_statement_rows f.parts 0 ≡ all_statement_rows r.front 0 ++ (statement_rows z.statements k ++ rest) =
      ap (λ (os : List Object). all_statement_rows os 0) r.whole ∙ all_split r.front z r.rest 0
      ∙ (let i : 0 + k ≡ k = omega arith in ap (λ (i : ℕ). all_statement_rows r.front 0 ++ (statement_rows z.statements i ++ rest)) i) in
      let block = moved_block st (all_statement_rows f.parts 0) H k m (omega arith) z.statements (all_statement_rows r.front 0) rest k whole (length_all r.front 0) (omega arith) (omega arith) in
      record {
        table = q.table ∙ ap (sets l (m * 7))
            (ap (λ (i : ℕ). moved_rows st i m (end - from) i) a ∙ ap (λ (i : ℕ). moved_rows st k m i k) n₁ ∙ block ∙ ap (λ (i : ℕ). join (statement_rows z.statements i)) n₂);
        row = q.row ∙ ap (m +◌) n₁;
        parts = refl;
      }

-- Objects ----------------------------------------------------------------------------------------------------------------------------------------

objects_append : (a b : List Object) (m : ℕ) → object_rows (a ++ b) m ≡ object_rows a m ++ object_rows b (m + statement_count a)
unfolding object_rows statement_count
objects_append [] b m = let e : m ≡ m + 0 = omega arith in ap (object_rows b) e
objects_append (x ∷ a) b m =
    let n = m + statements_in x.statements in
    let e : n + statement_count a ≡ m + (statements_in x.statements + statement_count a) = omega arith in
    ap (λ (l : List (List ℕ)). object_cells x m ∷ l) (objects_append a b n ∙ ap (λ (k : ℕ). object_rows a n ++ object_rows b k) e)

all_append : (a b : List Object) (m : ℕ) → all_statement_rows (a ++ b) m ≡ all_statement_rows a m ++ all_statement_rows b (m + statement_count a)
unfolding all_statement_rows statement_count
all_append [] b m = let e : m ≡ m + 0 = omega arith in ap (all_statement_rows b) e
all_append (x ∷ a) b m =
    let n = m + statements_in x.statements in
    let e : n + statement_count a ≡ m + (statements_in x.statements + statement_count a) = omega arith in
    ap (λ (l : List (List ℕ)). statement_rows x.statements m ++ l) (all_append a b n ∙ ap (λ (k : ℕ). all_statement_rows a n ++ all_statement_rows b k) e)
    ∙ sym (append_assoc (statement_rows x.statements m) (all_statement_rows a n) (all_statement_rows b (m + (statements_in x.statements + statement_count a))))

pub put_none : (o t : List ℕ) (k m : ℕ) → Put [] o t k m o t k m
unfolding object_rows all_statement_rows statement_count join
put_none o t k m = record { objects = refl; statements = refl; count = omega arith; row = omega arith }

pub put_then : {a b : List Object} {o t o₁ t₁ o₂ t₂ : List ℕ} {k m k₁ m₁ k₂ m₂ : ℕ} → Put a o t k m o₁ t₁ k₁ m₁ → Put b o₁ t₁ k₁ m₁ o₂ t₂ k₂ m₂ → Put (a ++ b) o t k m o₂ t₂ k₂ m₂
put_then {a} {b} {o} {t} {o₁} {t₁} {k = k} {m} {k₁} {m₁} p q =
    let M = m + statement_count a in
    let A = join (object_rows a m) in
    let B = join (object_rows b M) in
    let C = join (all_statement_rows a m) in
    let D = join (all_statement_rows b M) in
    let w = length_join 10 (object_rows a m) (object_wide a m) in
    let u = length_objects a m in
    let w' = length_join 7 (all_statement_rows a m) (wide_all a m) in
    let u' = length_all a m in
    let i : k * 10 + length A ≡ (k + length a) * 10 = omega (arith, w, u) in
    let i' : m * 7 + length C ≡ M * 7 = omega (arith, w', u') in
    let x = count_append a b in
    let y = length-append a b in
    let ck = p.count in
    let cr = p.row in
    let dk = q.count in
    let dr = q.row in
    record {
      objects = q.objects
          ∙ ap₂ (λ (j h : ℕ). sets o₁ (j * 10) (join (object_rows b h))) ck cr
          ∙ ap (λ (l : List ℕ). sets l ((k + length a) * 10) B) p.objects
          ∙ ap (λ (j : ℕ). sets (sets o (k * 10) A) j B) (sym i)
          ∙ sym (sets_append o (k * 10) A B)
          ∙ ap (sets o (k * 10)) (sym (join_append (object_rows a m) (object_rows b M)) ∙ ap join (sym (objects_append a b m)));
      statements = q.statements
          ∙ ap (λ (h : ℕ). sets t₁ (h * 7) (join (all_statement_rows b h))) cr
          ∙ ap (λ (l : List ℕ). sets l (M * 7) D) p.statements
          ∙ ap (λ (j : ℕ). sets (sets t (m * 7) C) j D) (sym i')
          ∙ sym (sets_append t (m * 7) C D)
          ∙ ap (sets t (m * 7)) (sym (join_append (all_statement_rows a m) (all_statement_rows b M)) ∙ ap join (sym (all_append a b m)));
      count = omega arith;
      row = omega arith;
    }

-- One object, of what its parts gave.
pub put_one : (z : Object) (rest : List Object) (o o' t t' : List ℕ) (k m m' c a₀ a₁ a₂ a₃ a₄ a₅ a₆ : ℕ) → a₀ ≡ kind_number z.kind → a₁ ≡ z.word.place → a₂ ≡ z.word.length
    → a₃ ≡ z.name.place → a₄ ≡ z.name.length → a₅ ≡ z.block.place → a₆ ≡ z.block.length → Gathered (continued z (z ∷ rest)) (further z (z ∷ rest)) t m 0 t' m' c
    → o' ≡ sets o (k * 10) (a₀ ∷ a₁ ∷ a₂ ∷ a₃ ∷ a₄ ∷ a₅ ∷ a₆ ∷ c ∷ m ∷ m' ∷ []) → Put (merged z k rest ∷ []) o t k m o' t' (k + 1) m'
unfolding object_rows object_cells all_statement_rows statement_count merged join
put_one z rest o o' t t' k m m' c a₀ a₁ a₂ a₃ a₄ a₅ a₆ e₀ e₁ e₂ e₃ e₄ e₅ e₆ g e =
    let ss = then z.statements (continued z rest) in
    let d : statements_in (continued z (z ∷ rest)) ≡ statements_in ss = ap statements_in (continued_itself z rest) in
    let w : c ≡ suc (further z rest) = let a = g.parts in let b = further_itself z rest in omega arith in
    let v : m' ≡ m + statements_in ss = let a = g.row in omega arith in
    record {
      objects = e ∙ ap (sets o (k * 10))
          (ap₂ ◌∷◌ e₀ (ap₂ ◌∷◌ e₁ (ap₂ ◌∷◌ e₂ (ap₂ ◌∷◌ e₃ (ap₂ ◌∷◌ e₄ (ap₂ ◌∷◌ e₅ (ap₂ ◌∷◌ e₆ (ap₂ (λ (a b : ℕ). a ∷ m ∷ b ∷ []) w v))))))));
      statements = g.table
          ∙ ap (λ (x : Statements). sets t (m * 7) (join (statement_rows x m))) (continued_itself z rest)
          ∙ ap (λ (l : List (List ℕ)). sets t (m * 7) (join l)) (sym (append-nil (statement_rows ss m)));
      count = refl;
      row = v ∙ (let i : m + statements_in ss ≡ m + (statements_in ss + 0) = omega arith in i);
    }

-- Which object a part begins.
pub begun_none : (before : List Object) (z : Object) (rest : List Object) (k : ℕ) → used z before ≡ true → begun before z rest k ≡ []
unfolding begun
begun_none before z rest k u = ap (λ (b : Bool). pick b [] (merged z k rest ∷ [])) u

pub begun_one : (before : List Object) (z : Object) (rest : List Object) (k : ℕ) → used z before ≡ false → begun before z rest k ≡ merged z k rest ∷ []
unfolding begun
begun_one before z rest k u = ap (λ (b : Bool). pick b [] (merged z k rest ∷ [])) u

pub merge_step : (before : List Object) (z : Object) (rest : List Object) (k : ℕ)
    → merge_from before (z ∷ rest) k ≡ begun before z rest k ++ merge_from (before ++ (z ∷ [])) rest (k + length (begun before z rest k))
unfolding merge_from begun choose
merge_step before z rest k = go (used z before)
  where
    go : (b : Bool) → choose b (λ _. merge_from (before ++ (z ∷ [])) rest k) (λ _. merged z k rest ∷ merge_from (before ++ (z ∷ [])) rest (suc k))
        ≡ pick b [] (merged z k rest ∷ []) ++ merge_from (before ++ (z ∷ [])) rest (k + length (pick b [] (merged z k rest ∷ [])))
    go true = let e : k ≡ k + 0 = omega arith in ap (merge_from (before ++ (z ∷ [])) rest) e
    go false = let e : suc k ≡ k + 1 = omega arith in ap (λ (n : ℕ). merged z k rest ∷ merge_from (before ++ (z ∷ [])) rest n) e

-- No statement is lost or doubled.
count_sum : (xs : List Object) → statement_count xs ≡ sum (λ (x : Object). statements_in x.statements) xs
unfolding statement_count sum
count_sum [] = refl
count_sum (x ∷ xs) = ap (statements_in x.statements +◌) (count_sum xs)

pub merge_count : (xs : List Object) → statement_count (merge xs) ≡ statement_count xs
merge_count xs = count_sum (merge xs) ∙ merge_statements xs ∙ sym (count_sum xs)
