use Rattle.releases.proofs.Telling.{named}
use mathlib.Core.Path.{◌∙◌}
use Rattle.releases.proofs.compare_named.Goals as goal

pub number_names-requires : goal.number_names-requires
number_names-requires c = c.requires.0

pub number_names-requires-2 : goal.number_names-requires-2
number_names-requires-2 c = c.requires.0

pub returns : goal.returns
returns c = named _ _ _ _ _ _ _ _ _ _ _ _ _ _ _ _ _ _ _ _ c.nothing.ensures c.number_names.ensures c.number_names-2.ensures (c.number_names.auto.h ∙ c.requires.1.0) (c.number_names-2.auto.h ∙ c.requires.1.1) c.both_objects.ensures
