-- The owners of an object's rows, as the table of resolved values has them. Assumes nothing.
use mathlib.Core.Path.{◌≡◌, refl, ◌∙◌, ap, ap₂}
use mathlib.Core.List.{List, ◌∷◌, ◌++◌}
use Prim.Native.Nat.{ℕ, suc, ◌+◌, ◌-◌}
use native.Mathlib.Omega.{arith}
use Rattle.meaning.specs.Places.{each}
use Rattle.meaning.specs.Resolving.{Resolved, end, resolved, Owner, of_object, of_value, ValueRow, value_row, value_rows, how_many_values}
use Rattle.meaning.proofs.Unplaced.{each_append}
use Rattle.comparing.proofs.Steps.{owner_numbers}

-- The owner's number, where the object's first row is n: 0 for the object, and else one more than the row, counted from n.
unfoldable pub owner_number : ℕ → Owner → ℕ
owner_number n (of_object o) = 0
owner_number n (of_value m) = suc (m - n)

abbrev pub row_owner : ℕ → ValueRow → ℕ
row_owner n r = owner_number n r.owner

pub owners_of_rows : (r : Resolved) (n k m : ℕ) (o : Owner) → m ≡ n + k → each (row_owner n) (value_rows r m o) ≡ owner_numbers r k (owner_number n o)
unfolding each value_rows owner_numbers value_row owner_number
owners_of_rows end n k m o e = refl
owners_of_rows (resolved t us rest) n k m o e =
    let here : m - n ≡ k = omega (arith, e) in
    let inner : suc m ≡ n + suc k = omega (arith, e) in
    let behind : suc m + how_many_values us ≡ n + (suc k + how_many_values us) = omega (arith, e) in
    ap (λ (l : List ℕ). owner_number n o ∷ l)
    (each_append (row_owner n) (value_rows us (suc m) (of_value m)) (value_rows rest (suc m + how_many_values us) o)
    ∙ ap₂ ◌++◌ (owners_of_rows us n (suc k) (suc m) (of_value m) inner ∙ inside here) (owners_of_rows rest n (suc k + how_many_values us) (suc m + how_many_values us) o behind))
  where
    inside : m - n ≡ k → owner_numbers us (suc k) (owner_number n (of_value m)) ≡ owner_numbers us (suc k) (suc k)
    inside q = ap (λ (i : ℕ). owner_numbers us (suc k) (suc i)) q

-- All of an object's rows.
pub object_owners : (r : Resolved) (n o : ℕ) → each (row_owner n) (value_rows r n (of_object o)) ≡ owner_numbers r 0 0
unfolding owner_number
object_owners r n o = owners_of_rows r n 0 n (of_object o) (omega arith)
