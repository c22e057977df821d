use Rattle.reading.specs.Results.{reading_of}
use mathlib.Core.Path.{refl}
use Rattle.reading_texts.proofs.refusal.Goals as goal

pub returns : goal.returns
unfolding reading_of
returns c = refl
