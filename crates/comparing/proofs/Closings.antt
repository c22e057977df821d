-- What `pair` gathers is what Q-8 asks of the pair, where both objects' values stand in the tables. Assumes nothing.
use mathlib.Core.Path.{◌≡◌, subst}
use mathlib.Core.List.{List, []}
use Prim.Native.Nat.{ℕ, suc, ◌+◌, ◌≤◌}
use native.Mathlib.Omega.{arith}
use lib.ListN.{length}
use Rattle.indexes.proofs.Digits.{Bytes}
use Rattle.indexes.proofs.Names.{name_bytes}
use Rattle.meaning.specs.Syntax.{Object}
use Rattle.meaning.specs.Resolving.{Resolved, end, resolved, Owner, of_object, of_value, how_many_values}
use Rattle.comparing.specs.Standing.{TreeAt, no_rows, some_rows}
use Rattle.comparing.specs.Contents.{Step, placed}
use Rattle.comparing.specs.Differences.{records_of, of_pair}
use Rattle.comparing.proofs.Steps.{AllNames, names_end, names_more}
use Rattle.comparing.specs.Gathered.{pair_partners, pair_records}
use Rattle.comparing.specs.Naming.{number_of_name, Index}
use Rattle.comparing.specs.Columns.{Holds, name_of}
use Rattle.comparing.proofs.Numbered.{Cells, Named, in_first, in_second, Known, numbered, name_length}
use Rattle.comparing.proofs.Wholes.{pair_recorded}

module _ (s d x s2 d2 x2 : List ℕ) where
  -- The names of an object's values are those of definitions.
  first_known : Bytes s → (v : List ℕ) (t : Resolved) (i : ℕ) (o : Owner) → TreeAt s d v (length x) i o t → AllNames (Known s d x s2 d2 x2) t
  first_known l v end i o no_rows = names_end
  first_known l v (resolved t us rest) i o (some_rows r a b) =
      names_more (record { named = subst (Named s d x s2 d2 x2) r.name (in_first t.definition.row r.known); bytes = subst Bytes r.name (name_bytes s d 13 2 t.definition.row l) })
      (first_known l v us (suc i) (of_value i) a) (first_known l v rest (suc i + how_many_values us) o b)

  second_known : Bytes s2 → (v : List ℕ) (t : Resolved) (i : ℕ) (o : Owner) → TreeAt s2 d2 v (length x2) i o t → AllNames (Known s d x s2 d2 x2) t
  second_known l v end i o no_rows = names_end
  second_known l v (resolved t us rest) i o (some_rows r a b) =
      names_more (record { named = subst (Named s d x s2 d2 x2) r.name (in_second t.definition.row r.known); bytes = subst Bytes r.name (name_bytes s2 d2 13 2 t.definition.row l) })
      (second_known l v us (suc i) (of_value i) a) (second_known l v rest (suc i + how_many_values us) o b)

  number_low : Index s d x → Index s2 d2 x2 → (l : List ℕ) → number_of_name s d x s2 d2 x2 l ≤ 1048576
  unfolding number_of_name
  number_low p q l = omega (arith, name_length s d 13 0 2 x l, name_length s2 d2 13 0 2 x2 l, p.few, q.few)

  -- THE THEOREM, with the numbers of names that `number_names` makes.
  pub pair_asked : (v v2 h h2 : List ℕ) (X Y : Object) (r r2 : Resolved) (n n2 k k2 : ℕ) (z : Step) → Bytes s → Bytes s2 → length s ≤ 18446744073709551616 → length s2 ≤ 18446744073709551616 → Index s d x → Index s2 d2 x2 → Cells d → Cells d2
      → Holds (name_of s d x s2 d2 x2 s d) (length x) h → Holds (name_of s d x s2 d2 x2 s2 d2) (length x2) h2
      → TreeAt s d v (length x) n (of_object k) r → TreeAt s2 d2 v2 (length x2) n2 (of_object k2) r2 → how_many_values r ≤ 2048 → how_many_values r2 ≤ 2048
      → pair_records s d v s2 d2 v2 (pair_partners d v h n (how_many_values r) d2 v2 h2 n2 (how_many_values r2)) n (how_many_values r) n2 (suc X.row) (suc Y.row)
      ≡ records_of (of_pair (record { object = X; values = placed r n [] }) (record { object = Y; values = placed r2 n2 [] }))
  unfolding name_of
  pair_asked v v2 h h2 X Y r r2 n n2 k k2 z u u2 l l2 p q e f g g2 a b few few2 =
      pair_recorded s d v s2 d2 v2 X Y r r2 n n2 (Known s d x s2 d2 x2) (number_of_name s d x s2 d2 x2) (numbered s d x s2 d2 x2 p q u u2 l l2 e f) (number_low p q) (length x) (length x2) k k2 h h2
      (λ i l. g.cell i l) (λ i l. g2.cell i l) z a b (first_known u v r n (of_object k) a) (second_known u2 v2 r2 n2 (of_object k2) b) few few2
