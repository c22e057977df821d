-- A told answer by its inner variant. Assumes nothing.
use mathlib.Core.Path.{◌≡◌, ◌∙◌, ap}
use Rattle.std.specs.Prelude.{Result, Ok}
use Rattle.rows.specs.declared.Fault.{Fault}

pub ok_of : {A : Type 0} {a : Result A Fault} {o v : A} → a ≡ Ok o → o ≡ v → a ≡ Ok v
ok_of e i = e ∙ ap Ok i
