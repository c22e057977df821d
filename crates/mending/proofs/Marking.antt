-- The drops of a text whose rows are kept. Assumes nothing.
use mathlib.Core.Path.{◌≡◌}
use mathlib.Core.List.{List}
use Prim.Native.Nat.{ℕ}
use Rattle.scopes.specs.declared.Sizes.{Sizes}
use Rattle.reading.specs.Decisions.{Merged}
use Rattle.reading.specs.declared.Decision.{Decision}
use Rattle.reading.proofs.Settling.{given, places}
use Rattle.dropping.specs.Promises.{DropsAll}
use Rattle.mending.specs.Promises.{DropsKept}

pub drops_kept : {s : List ℕ} {y : Merged} {w : Decision} (z : Sizes) (m m' : List ℕ) → z.definitions ≡ w.walked.definitions → z.enumerators ≡ w.walked.enumerators
    → z.objects ≡ w.objects → DropsAll s y.definitions y.enumerators y.objects y.statements z w.walked.places m m' → DropsKept s y w m m'
drops_kept z m m' a b c h p = h p.file (given p.kept p.no_definition_fault p.no_object_fault z a b c) (places p.kept)
