-- An owner that is a value stands before what it owns: the statement `OwnersBefore` of specs/Own. Assumes nothing.
use mathlib.Core.Path.{◌≡◌, refl, subst}
use mathlib.Core.List.{List, [], ◌∷◌, ◌++◌}
use mathlib.Core.Bool.{Bool, false, true, false≢true}
use Prim.Native.Nat.{ℕ, suc, ◌+◌, ◌≤◌, ◌<◌}
use native.Mathlib.Omega.{arith}
use lib.ListN.{length}
use Rattle.meaning.specs.Syntax.{File}
use Rattle.meaning.specs.Actions.{syntax}
use Rattle.meaning.specs.Resolving.{Resolved, end, resolved, Owner, of_object, of_value, ValueRow, value_row, how_many_values, value_rows, all_values, all_value_rows}
use Rattle.meaning.specs.Answers.{Tables, Answer, accepted, tables, answer}
use Rattle.meaning.specs.Reading.{Answers, too_long, not_grammar, meant}
use Rattle.meaning.proofs.Entries.{length_values}
use Rattle.reads_back.proofs.SameMeaning.{no_faults}
use Rattle.assurances.specs.Own.{Row, here, behind, OwnersBefore}

-- Row i stands behind its owner.
abbrev Behind : ℕ → Owner → Type 0
Behind i (of_object o) = Unit {0}
Behind i (of_value n) = n < i

-- So do all rows of a table, of which the first is row n.
data AllBehind : ℕ → List ValueRow → Type 0 where
  none_behind : {n : ℕ} → AllBehind n []
  more_behind : {n : ℕ} {r : ValueRow} {rs : List ValueRow} → Behind n r.owner → AllBehind (suc n) rs → AllBehind n (r ∷ rs)

behind_append : {n : ℕ} (a b : List ValueRow) → AllBehind n a → AllBehind (n + length a) b → AllBehind n (a ++ b)
behind_append {n} [] b none_behind q = let e : n + 0 ≡ n = omega arith in subst (λ k. AllBehind k b) e q
behind_append {n} (r ∷ a) b (more_behind h p) q =
    let e : n + suc (length a) ≡ suc n + length a = omega arith in
    more_behind h (behind_append a b p (subst (λ k. AllBehind k b) e q))

later : (o : Owner) (n m : ℕ) → Behind n o → n ≤ m → Behind m o
later (of_object x) n m h l = tt
later (of_value k) n m h l = omega arith

rows_behind : (r : Resolved) (n : ℕ) (o : Owner) → Behind n o → AllBehind n (value_rows r n o)
unfolding value_rows value_row
rows_behind end n o h = none_behind
rows_behind (resolved x us r) n o h =
    let l = length_values us (suc n) (of_value n) in
    let e : suc n + how_many_values us ≡ suc n + length (value_rows us (suc n) (of_value n)) = omega arith in
    more_behind h (behind_append (value_rows us (suc n) (of_value n)) _ (rows_behind us (suc n) (of_value n) (omega arith))
    (subst (λ k. AllBehind k (value_rows r (suc n + how_many_values us) o)) e (rows_behind r (suc n + how_many_values us) o (later o n (suc n + how_many_values us) h (omega arith)))))

table_behind : (rs : List Resolved) (o n : ℕ) → AllBehind n (all_value_rows rs o n)
unfolding all_value_rows
table_behind [] o n = none_behind
table_behind (r ∷ rs) o n =
    let l = length_values r n (of_object o) in
    let e : n + how_many_values r ≡ n + length (value_rows r n (of_object o)) = omega arith in
    behind_append (value_rows r n (of_object o)) _ (rows_behind r n (of_object o) tt)
    (subst (λ k. AllBehind k (all_value_rows rs (suc o) (n + how_many_values r))) e (table_behind rs (suc o) (n + how_many_values r)))

row_behind : {l : List ValueRow} {n i : ℕ} {r : ValueRow} → AllBehind n l → Row l i r → Behind (n + i) r.owner
row_behind {n} (more_behind {r} h p) here = let e : n ≡ n + 0 = omega arith in subst (λ k. Behind k r.owner) e h
row_behind {n} {r} (more_behind h p) (behind {n = i} q) = let e : suc n + i ≡ n + suc i = omega arith in subst (λ k. Behind k r.owner) e (row_behind p q)
row_behind {i = i} {r = r} (none_behind {n = n}) x4 = elim x4 [ ]

every_behind : (f : File) (t : Tables) → answer f ≡ accepted t → AllBehind 0 t.values
unfolding tables
every_behind f t e = subst (λ (y : Tables). AllBehind 0 y.values) (no_faults f t e).tables_are (table_behind (all_values f f.objects) 0 0)

by_derivation : {s : List ℕ} {a : Answer} (t : Tables) → Answers s a → a ≡ accepted t → AllBehind 0 t.values
by_derivation t (too_long k) e = absurd (let z : ◌≡◌ {A = Bool} false true = cc in false≢true z)
by_derivation t (not_grammar a k m q) e = absurd (let z : ◌≡◌ {A = Bool} false true = cc in false≢true z)
by_derivation {s} t (meant w d) e = every_behind (syntax s d.tree) t e

pub owner_before : OwnersBefore
owner_before s t a i r p n e =
    let h : Behind (0 + i) (of_value n) = subst (Behind (0 + i)) e (row_behind (by_derivation t a refl) p) in
    omega (arith, h)
