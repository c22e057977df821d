use Rattle.expecting.proofs.Verdicts.{passes_as}
use native.Mathlib.Omega.{arith}
use lib.Seq.{length-take-le}
use mathlib.Core.Path.{sym}
use Rattle.expecting.proofs.ends.Goals as goal

pub lay-requires : goal.lay-requires
lay-requires c = c.requires

pub slice_bounds-passes-end-2 : goal.slice_bounds-passes-end-2
slice_bounds-passes-end-2 c = sym (length-take-le _ _ (omega (arith, c.requires.1)))

pub returns : goal.returns
returns c = passes_as c.lay.ensures c.passes.ensures
