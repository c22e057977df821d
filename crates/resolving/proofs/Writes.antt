-- Rows of resolved values, one behind the other, in a table of 2,048 rows. Assumes nothing.
use mathlib.Core.Path.{◌≡◌, refl, sym, ◌∙◌, ap, subst}
use mathlib.Core.List.{List, [], ◌∷◌, ◌++◌, append_assoc, append-nil}
use Prim.Native.Nat.{ℕ, suc, ◌+◌, ◌*◌, ◌≤◌, ◌<◌, min}
use native.Mathlib.Omega.{arith}
use native.Mathlib.Decide.{dec_le}
use lib.ListN.{length}
use lib.Seq.{sets, length-sets}
use Rattle.rows.proofs.Stores.{sets_append, sets_out}
use Rattle.meaning.specs.Resolving.{Taken, Resolved, end, resolved, Owner, of_object, of_value, ValueRow, value_row, value_rows, how_many_values, all_value_rows, how_many_in_all}
use Rattle.meaning.specs.Cells.{cells, value_cells}
use Rattle.meaning.proofs.Entries.{joins, length_values, value_rows_joins, how_many_joins}
use Rattle.resolving.specs.Written.{Wrote, WroteAll}
use Rattle.meaning.proofs.Rooms.{value_width, value_rows_length, cells_length}

cells_append : (a b : List ValueRow) → cells value_cells (a ++ b) ≡ cells value_cells a ++ cells value_cells b
unfolding cells
cells_append [] b = refl
cells_append (r ∷ a) b = ap (λ (l : List ℕ). value_cells r ++ l) (cells_append a b) ∙ sym (append_assoc (value_cells r) (cells value_cells a) (cells value_cells b))

-- One scope's values -----------------------------------------------------------------------------------------------------------------------

pub wrote_length : {v : List ℕ} {n : ℕ} {r : Resolved} {o : Owner} {v' : List ℕ} {n' : ℕ} → Wrote v n r o v' n' → length v' ≡ length v
wrote_length {v} {n} {r} {o} w = ap length w.table ∙ length-sets v (n * 9) (cells value_cells (value_rows r n o))

pub wrote_none : (v : List ℕ) (n : ℕ) (o : Owner) → n ≤ 2049 → Wrote v n end o v n
unfolding value_rows cells how_many_values
wrote_none v n o h = record { table = refl; count = omega arith }

-- Where the table is full, nothing more is written.
pub wrote_full : (v : List ℕ) (n : ℕ) (r : Resolved) (o : Owner) → length v ≡ 18432 → 2048 < n → n ≤ 2049 → Wrote v n r o v n
wrote_full v n r o l a b = record { table = sym (sets_out v (n * 9) (cells value_cells (value_rows r n o)) (omega arith)); count = omega arith }

two_runs : (v : List ℕ) (n : ℕ) (a b : Resolved) (o : Owner)
    → sets v (n * 9) (cells value_cells (value_rows (joins a b) n o))
    ≡ sets (sets v (n * 9) (cells value_cells (value_rows a n o))) ((n + how_many_values a) * 9) (cells value_cells (value_rows b (n + how_many_values a) o))
two_runs v n a b o =
    let A = value_rows a n o in
    let B = value_rows b (n + how_many_values a) o in
    let l = cells_length 9 value_cells value_width A in
    let m = length_values a n o in
    let e : n * 9 + length (cells value_cells A) ≡ (n + how_many_values a) * 9 = omega arith in
    ap (λ (rs : List ValueRow). sets v (n * 9) (cells value_cells rs)) (value_rows_joins a b n o)
    ∙ ap (λ (l : List ℕ). sets v (n * 9) l) (cells_append A B)
    ∙ sets_append v (n * 9) (cells value_cells A) (cells value_cells B)
    ∙ ap (λ (k : ℕ). sets (sets v (n * 9) (cells value_cells A)) k (cells value_cells B)) e

-- Some values and then others of the same owner.
pub wrote_joins : {v : List ℕ} {n : ℕ} {a b : Resolved} {o : Owner} {v₁ : List ℕ} {n₁ : ℕ} {v₂ : List ℕ} {n₂ : ℕ} → length v ≡ 18432
    → Wrote v n a o v₁ n₁ → Wrote v₁ n₁ b o v₂ n₂ → Wrote v n (joins a b) o v₂ n₂
wrote_joins {v} {n} {a} {b} {o} {v₁} {n₁} {v₂} {n₂} l p q = record { table = q.table ∙ by (dec_le (n + how_many_values a) 2049) ∙ sym (two_runs v n a b o); count = counted }
  where
    counted : n₂ ≡ min 2049 (n + how_many_values (joins a b))
    counted = let i = p.count in let j = q.count in let k = how_many_joins a b in omega arith

    by : Dec (n + how_many_values a ≤ 2049) → sets v₁ (n₁ * 9) (cells value_cells (value_rows b n₁ o))
        ≡ sets (sets v (n * 9) (cells value_cells (value_rows a n o))) ((n + how_many_values a) * 9) (cells value_cells (value_rows b (n + how_many_values a) o))
    by (yes h) =
        let i = p.count in
        let e : n₁ ≡ n + how_many_values a = omega arith in
        ap (λ (k : ℕ). sets v₁ (k * 9) (cells value_cells (value_rows b k o))) e
        ∙ ap (λ (t : List ℕ). sets t ((n + how_many_values a) * 9) (cells value_cells (value_rows b (n + how_many_values a) o))) p.table
    by (no h) =
        let i = p.count in
        let e : n₁ ≡ 2049 = omega arith in
        let k = wrote_length p in
        let k₂ = length-sets v (n * 9) (cells value_cells (value_rows a n o)) in
        sets_out v₁ (n₁ * 9) (cells value_cells (value_rows b n₁ o)) (omega arith)
        ∙ p.table
        ∙ sym (sets_out (sets v (n * 9) (cells value_cells (value_rows a n o))) ((n + how_many_values a) * 9) (cells value_cells (value_rows b (n + how_many_values a) o)) (omega arith))

-- A value, and then what is under it.
pub wrote_entry : {v : List ℕ} {n : ℕ} (t : Taken) {us : Resolved} {o : Owner} {v₁ : List ℕ} {v₂ : List ℕ} {n₂ : ℕ}
    → v₁ ≡ sets v (n * 9) (value_cells (value_row t o)) → Wrote v₁ (n + 1) us (of_value n) v₂ n₂ → Wrote v n (resolved t us end) o v₂ n₂
unfolding value_rows how_many_values cells
wrote_entry {v} {n} t {us} {o} {v₁} {v₂} {n₂} e w =
    let s : n + 1 ≡ suc n = omega arith in
    let r = value_row t o in
    let k = value_width r in
    let m : n * 9 + length (value_cells r) ≡ (n + 1) * 9 = omega arith in
    let c = w.count in
    let U = value_rows us (suc n) (of_value n) in
    record {
      table =
          w.table
          ∙ ap (λ (x : List ℕ). sets x ((n + 1) * 9) (cells value_cells (value_rows us (n + 1) (of_value n)))) e
          ∙ ap (λ (i : ℕ). sets (sets v (n * 9) (value_cells r)) ((n + 1) * 9) (cells value_cells (value_rows us i (of_value n)))) s
          ∙ ap (λ (i : ℕ). sets (sets v (n * 9) (value_cells r)) i (cells value_cells U)) (sym m)
          ∙ sym (sets_append v (n * 9) (value_cells r) (cells value_cells U))
          ∙ ap (λ (l : List ValueRow). sets v (n * 9) (value_cells r ++ cells value_cells l)) (sym (append-nil U));
      count = omega arith;
    }

pub wrote_same : {v : List ℕ} {n : ℕ} {a b : Resolved} {o : Owner} {v' : List ℕ} {n' : ℕ} → a ≡ b → Wrote v n a o v' n' → Wrote v n b o v' n'
wrote_same {v} {n} {a} {b} {o} {v'} {n'} e w = subst (λ r. Wrote v n r o v' n') e w

pub joins_end : (a : Resolved) → joins a end ≡ a
unfolding joins
joins_end end = refl
joins_end (resolved t us a) = ap (λ r. resolved t us r) (joins_end a)

pub joins_joins : (a b c : Resolved) → joins (joins a b) c ≡ joins a (joins b c)
unfolding joins
joins_joins end b c = refl
joins_joins (resolved t us a) b c = ap (λ r. resolved t us r) (joins_joins a b c)

-- All objects' values ----------------------------------------------------------------------------------------------------------------------

how_many_next : (rs : List Resolved) (r : Resolved) → how_many_in_all (rs ++ (r ∷ [])) ≡ how_many_in_all rs + how_many_values r
unfolding how_many_in_all
how_many_next [] r = omega arith
how_many_next (x ∷ rs) r = let e = how_many_next rs r in omega arith

rows_next : (rs : List Resolved) (r : Resolved) (i n : ℕ)
    → all_value_rows (rs ++ (r ∷ [])) i n ≡ all_value_rows rs i n ++ value_rows r (n + how_many_in_all rs) (of_object (i + length rs))
unfolding all_value_rows how_many_in_all
rows_next [] r i n =
    let a : n ≡ n + 0 = omega arith in
    let b : i ≡ i + 0 = omega arith in
    append-nil (value_rows r n (of_object i)) ∙ ap (λ (k : ℕ). value_rows r k (of_object i)) a ∙ ap (λ (k : ℕ). value_rows r (n + 0) (of_object k)) b
rows_next (x ∷ rs) r i n =
    let a : n + how_many_values x + how_many_in_all rs ≡ n + (how_many_values x + how_many_in_all rs) = omega arith in
    let b : suc i + length rs ≡ i + suc (length rs) = omega arith in
    let X = value_rows x n (of_object i) in
    let Y = all_value_rows rs (suc i) (n + how_many_values x) in
    ap (λ (l : List ValueRow). X ++ l)
    (rows_next rs r (suc i) (n + how_many_values x)
    ∙ ap (λ (k : ℕ). Y ++ value_rows r k (of_object (suc i + length rs))) a
    ∙ ap (λ (k : ℕ). Y ++ value_rows r (n + (how_many_values x + how_many_in_all rs)) (of_object k)) b)
    ∙ sym (append_assoc X Y (value_rows r (n + (how_many_values x + how_many_in_all rs)) (of_object (i + suc (length rs)))))

pub wrote_first : (v : List ℕ) → WroteAll v [] v 0
unfolding all_value_rows how_many_in_all cells
wrote_first v = record { table = refl; count = refl }

pub all_length : {v : List ℕ} {rs : List Resolved} {v' : List ℕ} {n' : ℕ} → WroteAll v rs v' n' → length v' ≡ length v
all_length {v} {rs} w = ap length w.table ∙ length-sets v 0 (cells value_cells (all_value_rows rs 0 0))

-- One object more.
pub wrote_next : {v : List ℕ} {rs : List Resolved} {r : Resolved} {v₁ : List ℕ} {n₁ i : ℕ} {v₂ : List ℕ} {n₂ : ℕ} → length v ≡ 18432 → length rs ≡ i
    → WroteAll v rs v₁ n₁ → Wrote v₁ n₁ r (of_object i) v₂ n₂ → WroteAll v (rs ++ (r ∷ [])) v₂ n₂
wrote_next {v} {rs} {r} {v₁} {n₁} {i} {v₂} {n₂} l li p q =
    record { table = q.table ∙ by (dec_le (how_many_in_all rs) 2049) ∙ sym runs; count = counted }
  where
    A : List ValueRow
    A = all_value_rows rs 0 0

    B : List ValueRow
    B = value_rows r (0 + how_many_in_all rs) (of_object (0 + length rs))

    counted : n₂ ≡ min 2049 (how_many_in_all (rs ++ (r ∷ [])))
    counted = let i = p.count in let j = q.count in let k = how_many_next rs r in omega arith

    runs : sets v 0 (cells value_cells (all_value_rows (rs ++ (r ∷ [])) 0 0)) ≡ sets (sets v 0 (cells value_cells A)) (how_many_in_all rs * 9) (cells value_cells B)
    runs =
        let a = cells_length 9 value_cells value_width A in
        let b = value_rows_length rs 0 0 in
        let e : 0 + length (cells value_cells A) ≡ how_many_in_all rs * 9 = omega arith in
        ap (λ (l : List ValueRow). sets v 0 (cells value_cells l)) (rows_next rs r 0 0)
        ∙ ap (λ (l : List ℕ). sets v 0 l) (cells_append A B)
        ∙ sets_append v 0 (cells value_cells A) (cells value_cells B)
        ∙ ap (λ (k : ℕ). sets (sets v 0 (cells value_cells A)) k (cells value_cells B)) e

    by : Dec (how_many_in_all rs ≤ 2049) → sets v₁ (n₁ * 9) (cells value_cells (value_rows r n₁ (of_object i)))
        ≡ sets (sets v 0 (cells value_cells A)) (how_many_in_all rs * 9) (cells value_cells B)
    by (yes h) =
        let c = p.count in
        let e : n₁ ≡ how_many_in_all rs = omega arith in
        let z : how_many_in_all rs ≡ 0 + how_many_in_all rs = omega arith in
        let y : i ≡ 0 + length rs = omega arith in
        ap (λ (k : ℕ). sets v₁ (k * 9) (cells value_cells (value_rows r k (of_object i)))) e
        ∙ ap (λ (t : List ℕ). sets t (how_many_in_all rs * 9) (cells value_cells (value_rows r (how_many_in_all rs) (of_object i)))) p.table
        ∙ ap (λ (k : ℕ). sets (sets v 0 (cells value_cells A)) (how_many_in_all rs * 9) (cells value_cells (value_rows r k (of_object i)))) z
        ∙ ap (λ (k : ℕ). sets (sets v 0 (cells value_cells A)) (how_many_in_all rs * 9) (cells value_cells (value_rows r (0 + how_many_in_all rs) (of_object k)))) y
    by (no h) =
        let c = p.count in
        let e : n₁ ≡ 2049 = omega arith in
        let k = all_length p in
        let k₂ = length-sets v 0 (cells value_cells A) in
        sets_out v₁ (n₁ * 9) (cells value_cells (value_rows r n₁ (of_object i))) (omega arith)
        ∙ p.table
        ∙ sym (sets_out (sets v 0 (cells value_cells A)) (how_many_in_all rs * 9) (cells value_cells B) (omega arith))
