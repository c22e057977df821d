-- The differences of two texts (document 02, Q-8). Assumes nothing.
use Rattle.std.specs.Prelude.{List, [], ◌∷◌, ◌++◌, ℕ, suc, take}
use Rattle.std.proofs.Math.Option.{Option, none, some}
use Rattle.token.specs.Find.{is_there}
use Rattle.meaning.specs.Syntax.{Object, File}
use Rattle.meaning.specs.Words.{choose}
use Rattle.meaning.specs.Answers.{Answer, accepted, refused, answer}
use Rattle.meaning.specs.Reading.{Parsed, parsed, not_parsed, parse}
use Rattle.comparing.specs.Lists.{the_first, each_of}
use Rattle.comparing.specs.Contents.{Placed, same_path, same_value, Content, contents, same_object}
use Rattle.comparing.specs.declared.Difference.{Difference as Record}

-- "objects only in the first, only in the second, and for matched objects each value that differs, is missing or was added, by path". A value's
-- difference has both objects of the pair.
pub data Difference : Type 0 where
  object_in_first object_in_second : Object → Difference
  value_in_first value_in_second : Object → Object → Placed → Difference
  values_differ : Object → Object → Placed → Placed → Difference

-- "Inside a pair: the first text's resolved order",
unfoldable pub met : Content → Content → Placed → Option Placed → List Difference
met x y v none = value_in_first x.object y.object v ∷ []
met x y v (some w) = choose (same_value v.taken w.taken) (λ _. []) (λ _. values_differ x.object y.object v w ∷ [])

unfoldable pub of_first_value : Content → Content → Placed → List Difference
of_first_value x y v = met x y v (the_first (λ w. same_path v.path w.path) y.values)

-- "then what only the second has".
unfoldable pub of_second_value : Content → Content → Placed → List Difference
of_second_value x y w =
    choose (is_there (the_first (λ v. same_path v.path w.path) x.values)) (λ _. []) (λ _. value_in_second x.object y.object w ∷ [])

unfoldable pub of_pair : Content → Content → List Difference
of_pair x y = each_of (of_first_value x y) x.values ++ each_of (of_second_value x y) y.values

-- "in the first text's object order",
unfoldable pub matched : Content → Option Content → List Difference
matched x none = object_in_first x.object ∷ []
matched x (some y) = of_pair x y

unfoldable pub of_first_object : List Content → Content → List Difference
of_first_object ys x = matched x (the_first (same_object x) ys)

-- "and then the second's".
unfoldable pub of_second_object : List Content → Content → List Difference
of_second_object xs y = choose (is_there (the_first (λ x. same_object x y) xs)) (λ _. []) (λ _. object_in_second y.object ∷ [])

unfoldable pub of_contents : List Content → List Content → List Difference
of_contents xs ys = each_of (of_first_object ys) xs ++ each_of (of_second_object xs) ys

-- All differences of two texts; "The true total" is their number.
unfoldable pub differences : File → File → List Difference
differences f g = of_contents (contents f) (contents g)

-- "Swapping the texts swaps the sides".
unfoldable pub swap : Difference → Difference
swap (object_in_first x) = object_in_second x
swap (object_in_second y) = object_in_first y
swap (value_in_first x y v) = value_in_second y x v
swap (value_in_second x y w) = value_in_first y x w
swap (values_differ x y v w) = values_differ y x w v

-- The record of a difference: one more than each row, or 0 where that text has none.
unfoldable pub record_of : Difference → Record
record_of (object_in_first x) = record { first_object = suc x.row; second_object = 0; first_value = 0; second_value = 0 }
record_of (object_in_second y) = record { first_object = 0; second_object = suc y.row; first_value = 0; second_value = 0 }
record_of (value_in_first x y v) =
    record { first_object = suc x.row; second_object = suc y.row; first_value = suc v.row; second_value = 0 }
record_of (value_in_second x y w) =
    record { first_object = suc x.row; second_object = suc y.row; first_value = 0; second_value = suc w.row }
record_of (values_differ x y v w) =
    record { first_object = suc x.row; second_object = suc y.row; first_value = suc v.row; second_value = suc w.row }

-- One record for each difference.
unfoldable pub records_of : List Difference → List Record
records_of [] = []
records_of (d ∷ ds) = record_of d ∷ records_of ds

-- The records that a list of any length gets: "as many as it holds, at most 64".
unfoldable pub told : List Difference → List Record
told ds = records_of (take 64 ds)

-- The answer to two texts ------------------------------------------------------------------------------------------------------------------

-- A text that is accepted is its file; another is its refusal.
pub data Release : Type 0 where
  release : File → Release
  no_release : ℕ → ℕ → Release

unfoldable pub released : File → Answer → Release
released f (accepted t) = release f
released f (refused n p) = no_release n p

unfoldable pub release_of : Parsed → Release
release_of (parsed f) = released f (answer f)
release_of (not_parsed n p) = no_release n p

pub data Compared : Type 0 where
  compared : List Difference → Compared
  not_compared : (which number place : ℕ) → Compared

-- "If a text is refused, say .. which (1 or 2), number and place, if both are only the first's".
unfoldable pub compare_releases : Release → Release → Compared
compare_releases (release f) (release g) = compared (differences f g)
compare_releases (release f) (no_release n p) = not_compared 2 n p
compare_releases (no_release n p) (release g) = not_compared 1 n p
compare_releases (no_release n p) (no_release m q) = not_compared 1 n p

unfoldable pub compare_texts : List ℕ → List ℕ → Compared
compare_texts s t = compare_releases (release_of (parse s)) (release_of (parse t))
