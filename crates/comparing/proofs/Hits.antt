-- The object that is found by its row is the one that is asked for. Assumes nothing.
use mathlib.Core.Path.{◌≡◌, refl, sym, ◌∙◌, ap, ap₂, subst}
use mathlib.Core.List.{List, [], ◌∷◌}
use mathlib.Core.Bool.{Bool, true, false}
use mathlib.Core.Option.{Option, none, some}
use Prim.Native.Nat.{ℕ, ◌+◌, ◌<◌}
use native.Mathlib.Omega.{arith}
use lib.Dec.{eqb}
use lib.ListN.{length}
use Rattle.token.specs.Find.{pick, both}
use Rattle.token.specs.Words.{same}
use Rattle.rows.specs.Search.{has_key, find_from}
use Rattle.rows.specs.Found.{Found}
use Rattle.std.specs.Prelude.{Some, None}
use Rattle.rows.proofs.Searches.{find_stop, find_more, find_end}
use Rattle.indexes.specs.Indexing.{has_word}
use Rattle.meaning.specs.Kinds.{kind_number, same_kind}
use Rattle.meaning.specs.Words.{alike}
use Rattle.comparing.specs.Lists.{the_first}
use Rattle.comparing.specs.Contents.{Content, same_object}
use Rattle.comparing.specs.Standing.{ObjectIs, ObjectsAt, no_objects, some_objects}
use Rattle.comparing.proofs.Alikes.{keyed_flip, object_keyed}

-- What is found is the row of the content, and nothing is none.
pub data Hit : Option Content → Found → Type 0 where
  no_hit : Hit none None
  a_hit : (y : Content) → Hit (some y) (Some y.object.row)

module _ (s o : List ℕ) (x : Content) where
  abbrev asks : ℕ → Bool
  asks = has_word s o 8 0 (kind_number x.object.kind) 3 x.object.name.bytes

  is_row : (i : ℕ) (y : Content) → ObjectIs s o i y → asks i ≡ same_object y x
  unfolding has_word has_key same_object same_kind alike
  is_row i y r = ap₂ both (ap (λ (k : ℕ). eqb k (kind_number x.object.kind)) r.kind) (ap (λ (l : List ℕ). same l x.object.name.bytes) r.name)

  asks_same : (i : ℕ) (y : Content) → ObjectIs s o i y → asks i ≡ same_object x y
  asks_same i y r = is_row i y r ∙ keyed_flip object_keyed y x

  the_here : (y : Content) (ys : List Content) → same_object x y ≡ true → the_first (same_object x) (y ∷ ys) ≡ some y
  unfolding the_first
  the_here y ys e = ap (λ (b : Bool). pick b (some y) (the_first (same_object x) ys)) e

  the_later : (y : Content) (ys : List Content) → same_object x y ≡ false → the_first (same_object x) (y ∷ ys) ≡ the_first (same_object x) ys
  unfolding the_first
  the_later y ys e = ap (λ (b : Bool). pick b (some y) (the_first (same_object x) ys)) e

  the_none : the_first (same_object x) [] ≡ none
  unfolding the_first
  the_none = refl

  -- THE THEOREM.
  pub object_hit : (n i : ℕ) (ys : List Content) → n ≡ i + length ys → ObjectsAt s o i ys → Hit (the_first (same_object x) ys) (find_from asks n i)
  object_hit n i [] e no_objects = subst (λ (f : Found). Hit (the_first (same_object x) []) f) (sym (find_end asks n i (omega (arith, e)))) (subst (λ (c : Option Content). Hit c None) (sym the_none) no_hit)
  object_hit n i (y ∷ ys) e (some_objects r t) = by (same_object x y) refl (object_hit n (i + 1) ys (omega (arith, e)) t)
    where
      inside : i < n
      inside = omega (arith, e)

      by : (b : Bool) → same_object x y ≡ b → Hit (the_first (same_object x) ys) (find_from asks n (i + 1)) → Hit (the_first (same_object x) (y ∷ ys)) (find_from asks n i)
      by true q h = subst (λ (f : Found). Hit (the_first (same_object x) (y ∷ ys)) f) (ap Some r.row ∙ sym (find_stop asks n i inside (asks_same i y r ∙ q)))
          (subst (λ (c : Option Content). Hit c (Some y.object.row)) (sym (the_here y ys q)) (a_hit y))
      by false q h = subst (λ (f : Found). Hit (the_first (same_object x) (y ∷ ys)) f) (sym (find_more asks n i inside (asks_same i y r ∙ q)))
          (subst (λ (c : Option Content). Hit c (find_from asks n (i + 1))) (sym (the_later y ys q)) h)
