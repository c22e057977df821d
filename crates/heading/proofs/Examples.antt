-- The examples of Q-7, by computation. Assumes nothing.
use mathlib.Core.Path.{◌≡◌, refl, subst}
use native.Mathlib.Omega.{arith}
use lib.ListN.{length-append}
use Rattle.token.specs.Words.{bytes_of}
use Rattle.token.specs.Tokens.{part_of}
use Rattle.grammar.specs.Stage.{number_of, place_of}
use Rattle.grammar.specs.Grammar.{matches, sign_code}
use Rattle.meaning.proofs.Everything.{everything}
use Rattle.heading.specs.Headings.{Heads, too_long, version_and_name, begins_with, answer_by, computed}
use Rattle.heading.specs.Examples.{Example, parts_told, bytes_of_each, Holds, ExamplesHold, LongText}
use Rattle.heading.proofs.Promises.{decides}

-- By computing the answer.
holds : (e : Example) → computed (bytes_of e.text) ≡ e.answer → parts_told (bytes_of e.text) e.answer ≡ bytes_of_each e.told → Holds e
holds e p q = record { answers = subst (λ a. Heads (bytes_of e.text) a) p (decides (bytes_of e.text)).0; tells = q }

pub examples_hold : ExamplesHold
unfolding everything computed answer_by begins_with version_and_name number_of place_of matches sign_code parts_told bytes_of_each part_of
examples_hold = (
  holds _ refl refl,
  (
    holds _ refl refl,
    (holds _ refl refl, (holds _ refl refl, (holds _ refl refl, (holds _ refl refl, (holds _ refl refl, (holds _ refl refl, (holds _ refl refl, tt))))))),
  ),
)

pub long_text : LongText
long_text b h = let e = length-append (bytes_of "OIL_VERSION = \"2.5\"; IMPLEMENTATION m {") b in too_long (omega arith)
