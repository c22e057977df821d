use Rattle.standard.specs.Choices.{find_extra}
use mathlib.Core.Path.{◌≡◌}
use Rattle.standard.proofs.choices.has_extra.Given as goal

abbrev pub invariant-loop-i : goal.invariant-loop-i
invariant-loop-i l = find_extra l.text l.e l.section l.words l.first l.end l.key l.m l.i ≡ find_extra l.text l.e l.section l.words l.first l.end l.key l.m 0
