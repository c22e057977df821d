-- A place explained. Assumes nothing.
use mathlib.Core.Path.{sym, subst}
use mathlib.Core.List.{List}
use Prim.Native.Nat.{ℕ, ◌≤◌}
use Rattle.explaining.specs.Places.{within}
use Rattle.explaining.specs.Pictures.{Explains}
use Rattle.explaining.specs.declared.Explained.{Explained}
use Rattle.explaining.proofs.Ends.{within_inside}
use Rattle.explaining.proofs.Marks.{picture_short}
use Rattle.exporting.specs.Rules.{ExplainsByRules}

pub explained_by : {s l l' : List ℕ} {p : ℕ} {e : Explained} → Explains s p l l' e
    → ExplainsByRules s p l l' (record { line = e.line; column = e.column; length = e.len })
explained_by {s} {p = p} {e = e} h =
    record {
      first = e.shown;
      explains = record { line = h.line; column = h.column; first = h.first; long = h.long; cells = h.cells };
      short = subst (λ (n : ℕ). n ≤ 157) (sym h.long) (picture_short s (within s p) (within_inside s p));
    }
