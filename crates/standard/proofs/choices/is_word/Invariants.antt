use Rattle.standard.specs.Choices.{find_word}
use mathlib.Core.Path.{◌≡◌}
use Rattle.standard.proofs.choices.is_word.Given as goal

abbrev pub invariant-loop-k : goal.invariant-loop-k
invariant-loop-k l = find_word l.section l.words l.end l.name l.k ≡ find_word l.section l.words l.end l.name l.first
