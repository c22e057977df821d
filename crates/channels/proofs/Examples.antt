-- Channels of small texts, by computation. Assumes nothing.
use mathlib.Core.Path.{◌≡◌, refl}
use mathlib.Core.Bool.{true, false}
use mathlib.Core.Option.{none, some}
use Rattle.token.specs.Words.{bytes_of}
use Rattle.grammar.specs.Grammar.{RESOURCE, TASK}
use Rattle.meaning.proofs.Everything.{everything}
use Rattle.channels.specs.Channels.{if_there, View, nothing, item, a_number, a_string, an_enumerator, a_reference, key_of, key_at, shown, item_of, view, called, channel}
use Rattle.channels.proofs.Computed.{channel_in, channel_of}

-- A task that refers to a resource, states a string's default not, and takes an enumerator with something under it by default.
abbrev task : View
task =
    item (record { definition = 0; attribute = bytes_of "R"; value = a_reference (some (record { kind = RESOURCE; name = bytes_of "r" })); stated = true }) nothing
    (item (record { definition = 1; attribute = bytes_of "S"; value = a_string (bytes_of "\"x\""); stated = false }) nothing
    (item (record { definition = 3; attribute = bytes_of "E"; value = an_enumerator 1 (bytes_of "B"); stated = false })
    (item (record { definition = 2; attribute = bytes_of "N"; value = a_number (record { negative = false; amount = 7 }); stated = false }) nothing nothing)
    nothing))

resource_first : channel_of (bytes_of "OIL_VERSION=\"2.5\";IMPLEMENTATION m{TASK{RESOURCE_TYPE R;STRING S=\"x\";ENUM[A,B{UINT32 N=7;}]E=B;};};CPU c{OS o;APPMODE a;RESOURCE q;RESOURCE r;/*m*/TASK t{R=r;};};") TASK (bytes_of "t") ≡ some task
unfolding everything key_of key_at shown item_of view called channel channel_in channel_of if_there
resource_first = refl

task_first : channel_of (bytes_of "OIL_VERSION=\"2.5\";IMPLEMENTATION m{TASK{RESOURCE_TYPE R;STRING S=\"x\";ENUM[A,B{UINT32 N=7;}]E=B;};};CPU c{OS o;APPMODE a;RESOURCE q;TASK t{R=r;};/*m*/RESOURCE r;};") TASK (bytes_of "t") ≡ some task
unfolding everything key_of key_at shown item_of view called channel channel_in channel_of if_there
task_first = refl

-- An object that is not there has no channel.
not_there : channel_of (bytes_of "OIL_VERSION=\"2.5\";IMPLEMENTATION m{};CPU c{OS o;APPMODE a;};") TASK (bytes_of "a") ≡ none
unfolding everything key_of key_at shown item_of view called channel channel_in channel_of if_there
not_there = refl
