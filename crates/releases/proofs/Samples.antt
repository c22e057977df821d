-- What becomes of a lent list, and what is answered, by computation. Assumes nothing.
use mathlib.Core.Path.{refl}
use Rattle.meaning.proofs.Everything.{everything}
use Rattle.comparing.specs.Lists.{overwrite}
use Rattle.comparing.specs.Differences.{record_of, records_of, told}
use Rattle.comparing.proofs.Samples.{comparison}
use Rattle.releases.specs.Promises.{list_after, answer_for}
use Rattle.releases.specs.Samples.{ThreeHeld, SixthStays, AtMost64, TrueTotal, RefusedSaid, ListLeft}

-- One name that unfolds what the call promises.
unfoldable promised : Unit {0}
unfolding everything comparison overwrite record_of records_of told list_after answer_for
promised = tt

three_held : ThreeHeld
unfolding promised
three_held = refl

sixth_stays : SixthStays
unfolding promised
sixth_stays = refl

at_most_64 : AtMost64
unfolding promised
at_most_64 = refl

true_total : TrueTotal
unfolding promised
true_total = refl

refused_said : RefusedSaid
unfolding promised
refused_said = refl

list_left : ListLeft
unfolding promised
list_left = refl
