-- The key of a row is what its value counts as. Assumes nothing.
use mathlib.Core.Path.{◌≡◌, refl, sym, ◌∙◌, ap, ap₂}
use mathlib.Core.List.{List, [], ◌∷◌}
use Prim.Native.Nat.{ℕ, ◌+◌, ◌-◌}
use native.Mathlib.Omega.{arith}
use Rattle.token.specs.Find.{bit}
use Rattle.token.specs.Words.{same}
use Rattle.rows.specs.Table.{cell_of}
use Rattle.grammar.specs.Grammar.{Kind}
use Rattle.meaning.specs.Syntax.{Num, AttributeType, reference}
use Rattle.meaning.specs.Kinds.{kind_number}
use Rattle.meaning.specs.Resolving.{Value, Taken}
use Rattle.meaning.specs.Cells.{type_code, value_sort, value_negative, value_amount}
use Rattle.comparing.specs.Contents.{num_key, kind_of_type, counts_as, same_value}
use Rattle.comparing.specs.Standing.{Typed, a_number, a_truth, an_auto, a_string, a_float, an_enumerator, an_object, Row}
use Rattle.comparing.specs.Keys.{row_kind, within, row_key}

less : (n : ℕ) → (22 + n) - 22 ≡ n
less n = omega arith

kind_is : (c : ℕ) (y : AttributeType) (k : Kind) → c ≡ type_code y → y ≡ reference k → c - 22 ≡ kind_of_type y
unfolding type_code kind_of_type
kind_is c y k e q = ap (λ (n : ℕ). n - 22) (e ∙ ap type_code q) ∙ less (kind_number k) ∙ sym (ap kind_of_type q)

pub key_is : (s d v : List ℕ) (i : ℕ) (t : Taken) → Row s d v i t → row_key s d v i ≡ counts_as t.value t
unfolding row_key within value_sort value_negative value_amount counts_as num_key row_kind
key_is s d v i t r = ap (λ (n : ℕ). n ∷ within n s d v i) r.sort ∙ by_value t.value r.typed r.sign r.amount
  where
    by_value : (w : Value) → Typed t.definition.type w → cell_of v 9 i 4 ≡ bit (value_negative w) → cell_of v 9 i 5 ≡ value_amount w
        → value_sort w ∷ within (value_sort w) s d v i ≡ counts_as w t
    by_value w a_number p q = ap₂ (λ (x y : ℕ). 0 ∷ x ∷ y ∷ []) p q
    by_value w a_truth p q = ap (λ (y : ℕ). 1 ∷ y ∷ []) q
    by_value w an_auto p q = refl
    by_value w a_string p q = ap (λ (y : List ℕ). 3 ∷ y) r.word
    by_value w a_float p q = ap (λ (n : Num). 6 ∷ num_key n) r.float
    by_value w an_enumerator p q = ap (λ (y : List ℕ). 4 ∷ y) r.word
    by_value w (an_object k e) p q = ap₂ (λ (x : ℕ) (y : List ℕ). 5 ∷ x ∷ y) (kind_is (cell_of d 13 (cell_of v 9 i 0) 12) t.definition.type k r.type e) r.word

-- So the code's answer is the one asked for.
pub same_rows : (s d v : List ℕ) (i : ℕ) (s2 d2 v2 : List ℕ) (k : ℕ) (t u : Taken) → Row s d v i t → Row s2 d2 v2 k u → same (row_key s d v i) (row_key s2 d2 v2 k) ≡ same_value t u
unfolding same_value
same_rows s d v i s2 d2 v2 k t u r q = ap₂ same (key_is s d v i t r) (key_is s2 d2 v2 k u q)
