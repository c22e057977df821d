-- What the program prints of pairs of texts, by computation. Assumes nothing.
use mathlib.Core.Path.{refl}
use Rattle.meaning.proofs.Everything.{everything}
use Rattle.meaning.specs.Places.{each}
use Rattle.comparing.specs.Lists.{the_first, each_of}
use Rattle.comparing.specs.Contents.{num_key, same_step, same_path, kind_of_type, counts_as, same_value, how_often, step_to, below, placed, contents_from, contents, same_object}
use Rattle.comparing.specs.Differences.{met, of_first_value, of_second_value, of_pair, matched, of_first_object, of_second_object, of_contents, differences, released, release_of, compare_releases, compare_texts}
use Rattle.comparing.specs.Reports.{hex_digit, hex, inside, shown, value_text, position_text, step_text, dotted, path_text, fields, line, report}
use Rattle.comparing.specs.Samples.{ValuesAndObjects, ListsAndScopes, OrderOfObjects, NoDifference, TwoSorts, SecondRefused, BothRefused}

-- One name that unfolds the comparison.
unfoldable pub comparison : Unit {0}
unfolding the_first each_of each same_step same_path num_key kind_of_type counts_as same_value how_often step_to below placed contents_from contents same_object met of_first_value of_second_value of_pair matched of_first_object of_second_object of_contents differences released release_of compare_releases compare_texts hex_digit hex inside shown value_text position_text step_text dotted path_text fields line report
comparison = tt

values_and_objects : ValuesAndObjects
unfolding everything comparison
values_and_objects = refl

lists_and_scopes : ListsAndScopes
unfolding everything comparison
lists_and_scopes = refl

order_of_objects : OrderOfObjects
unfolding everything comparison
order_of_objects = refl

no_difference : NoDifference
unfolding everything comparison
no_difference = refl

two_sorts : TwoSorts
unfolding everything comparison
two_sorts = refl

second_refused : SecondRefused
unfolding everything comparison
second_refused = refl

both_refused : BothRefused
unfolding everything comparison
both_refused = refl
