-- The records that are gathered of a pair's first object are those of its differences. Assumes nothing.
use mathlib.Core.Path.{◌≡◌, refl, sym, ◌∙◌, ap, ap₂}
use mathlib.Core.List.{List, [], ◌∷◌, ◌++◌}
use mathlib.Core.Bool.{Bool, true, false}
use mathlib.Core.Option.{Option, none, some}
use Prim.Native.Nat.{ℕ, suc, ◌+◌, ◌-◌, ◌<◌}
use native.Mathlib.Omega.{arith}
use native.Mathlib.Numerals.{add-one}
use lib.ListN.{length, get_or}
use borrow.Author.Tests.{ne_eqb}
use Rattle.token.specs.Find.{pick}
use Rattle.token.specs.Words.{same}
use Rattle.meaning.specs.Words.{choose}
use Rattle.comparing.specs.Standing.{Row}
use Rattle.comparing.specs.Contents.{Placed, Content, same_value}
use Rattle.comparing.specs.Differences.{Difference, values_differ, met, record_of, records_of}
use Rattle.comparing.specs.Partners.{place_from}
use Rattle.comparing.proofs.Steps.{value_at, first_part}
use Rattle.comparing.specs.Keys.{row_key}
use Rattle.comparing.specs.Gathered.{first_record, first_records}
use Rattle.comparing.specs.declared.Difference.{Difference as Record}
use Rattle.comparing.proofs.Laid.{same_rows}

pub records_append : (a b : List Difference) → records_of (a ++ b) ≡ records_of a ++ records_of b
unfolding records_of
records_append [] b = refl
records_append (x ∷ a) b = ap (λ (l : List Record). record_of x ∷ l) (records_append a b)

-- The number b is one more than the row of the value, 0 where there is none, and the row is that of the value.
pub data Backed (s d v : List ℕ) : Option Placed → ℕ → Type 0 where
  back_none : Backed s d v none 0
  back_some : (w : Placed) → Row s d v w.row w.taken → Backed s d v (some w) (suc w.row)

module _ (s d v s2 d2 v2 : List ℕ) (x y : Content) where
  abbrev one : ℕ → ℕ → List Record
  one b r = first_record s d v s2 d2 v2 (suc x.object.row) (suc y.object.row) b r

  alone : (m r : ℕ) → m ≡ r → r + 1 ≡ suc m
  alone m r e = omega arith

  less : (n : ℕ) → suc n - 1 ≡ n
  less n = omega arith

  chosen : (b : Bool) (e : Difference) → records_of (choose b (λ _. []) (λ _. e ∷ [])) ≡ pick b [] (record_of e ∷ [])
  unfolding records_of choose
  chosen true e = refl
  chosen false e = refl

  pub one_record : (w : Placed) (o : Option Placed) (b r : ℕ) → Row s d v r w.taken → w.row ≡ r → Backed s2 d2 v2 o b → records_of (met x y w o) ≡ one b r
  unfolding met record_of records_of first_record
  one_record w o b r l e back_none =
      ap (λ (n : ℕ). record { first_object = suc x.object.row; second_object = suc y.object.row; first_value = n; second_value = 0 } ∷ []) (sym (alone w.row r e))
  one_record w o b r l e (back_some u q) =
      chosen (same_value w.taken u.taken) (values_differ x.object y.object w u)
      ∙ (λ i. pick (same_keys i) [] (record { first_object = suc x.object.row; second_object = suc y.object.row; first_value = sym (alone w.row r e) i; second_value = suc u.row } ∷ []))
      ∙ sym (ap (λ (c : Bool). pick c (record { first_object = suc x.object.row; second_object = suc y.object.row; first_value = r + 1; second_value = 0 } ∷ [])
      (pick (same (row_key s d v r) (row_key s2 d2 v2 (suc u.row - 1))) [] (record { first_object = suc x.object.row; second_object = suc y.object.row; first_value = r + 1; second_value = suc u.row } ∷ []))) (ne_eqb (suc u.row) 0 (λ z. omega (arith, z))))
    where
      same_keys : same_value w.taken u.taken ≡ same (row_key s d v r) (row_key s2 d2 v2 (suc u.row - 1))
      same_keys = sym (same_rows s d v r s2 d2 v2 u.row w.taken u.taken l q) ∙ ap (λ (n : ℕ). same (row_key s d v r) (row_key s2 d2 v2 n)) (sym (less u.row))

  -- The values ws stand from row r on.
  pub data Standing : ℕ → List Placed → Type 0 where
    none_stand : {r : ℕ} → Standing r []
    more_stand : {r : ℕ} {w : Placed} {ws : List Placed} → Row s d v r w.taken → w.row ≡ r → Standing (r + 1) ws → Standing r (w ∷ ws)

  -- THE THEOREM: the records of the first object's values, where `back` has the rows of the partners.
  pub first_recorded : (ps back : List ℕ) (r k : ℕ) (ws : List Placed) → Standing r ws → ((i : ℕ) → i < k + length ws → Backed s2 d2 v2 (value_at y.values (place_from 0 ps (suc i))) (get_or back i 0))
      → records_of (first_part x y ps k ws) ≡ first_records s d v s2 d2 v2 back (suc x.object.row) (suc y.object.row) (length ws) r k
  unfolding first_part first_records records_of
  first_recorded ps back r k [] none_stand f = refl
  first_recorded ps back r k (w ∷ ws) (more_stand l e t) f =
      records_append (met x y w (value_at y.values (place_from 0 ps (suc k)))) (first_part x y ps (suc k) ws)
      ∙ ap₂ ◌++◌ (one_record w (value_at y.values (place_from 0 ps (suc k))) (get_or back k 0) r l e (f k (omega arith)))
      (first_recorded ps back (r + 1) (suc k) ws t (λ i h. f i (omega (arith, h)))
      ∙ ap (λ (n : ℕ). first_records s d v s2 d2 v2 back (suc x.object.row) (suc y.object.row) (length ws) (r + 1) n) (sym (add-one k)))
