-- How many rows of enumerators there are. Assumes nothing.
use mathlib.Core.Path.{◌≡◌, refl}
use mathlib.Core.List.{◌++◌}
use mathlib.Core.Bool.{Bool, true, false}
use Prim.Native.Nat.{ℕ}
use native.Mathlib.Omega.{arith}
use lib.ListN.{length, length-append}
use Rattle.token.specs.Find.{bit}
use Rattle.meaning.specs.Defining.{enumerator_row, enumerator_rows, enumerator_rows_of}
use Rattle.meaning.specs.Syntax.{Definitions, no_more, define, Values, no_value, value, is_enum, enumerators_in, enumerators_under, Word}

length_row : (b : Bool) (a : ℕ) (w : Word) → length (enumerator_row b a w) ≡ bit b
unfolding enumerator_row bit
length_row true a w = refl
length_row false a w = refl

mutual
  unfolding enumerator_rows enumerators_in

  pub length_rows : (ds : Definitions) → length (enumerator_rows ds) ≡ enumerators_in ds
  length_rows no_more = refl
  length_rows (define d vs ds) =
      let a = length-append (enumerator_rows_of vs (is_enum d.type) d.row) (enumerator_rows ds) in
      let b = length_rows_of vs (is_enum d.type) d.row in
      let c = length_rows ds in
      omega arith

  pub length_rows_of : (vs : Values) (b : Bool) (a : ℕ) → length (enumerator_rows_of vs b a) ≡ enumerators_under vs b
  length_rows_of no_value b a = refl
  length_rows_of (value w e us vs) b a =
      let i = length_row b a w in
      let j = length-append (enumerator_row b a w) (enumerator_rows us ++ enumerator_rows_of vs b a) in
      let k = length-append (enumerator_rows us) (enumerator_rows_of vs b a) in
      let c = length_rows us in
      let d = length_rows_of vs b a in
      omega arith
