-- What the grammar stage answers: nothing where it passes a text, or the refusal. Assumes nothing.
use Rattle.std.specs.Prelude.{Result}
use Rattle.grammar.specs.declared.Refusal.{Refusal}

abbrev pub Answer : Type 0
Answer = Result (Unit {0}) Refusal
