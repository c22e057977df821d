-- What is told of a heading, cell by cell. Assumes nothing.
use mathlib.Core.Path.{◌≡◌, refl, subst}
use mathlib.Core.List.{List, [], ◌∷◌}
use Prim.Native.Nat.{ℕ}
use lib.Seq.{sets}
use Rattle.heading.specs.Headings.{Heads}
use Rattle.heading.specs.Answered.{Answer}
use Rattle.heading.specs.declared.VersionAndName.{VersionAndName}
use Rattle.rows.specs.declared.Fault.{Fault}
use Rattle.std.specs.Prelude.{Ok, Err}
use Rattle.testing.specs.Headings.{number_of, cells_of, HeadsTold}

module _ {s w w' : List ℕ} {r : Answer} (h : Heads s r) where
  telling : (a : Answer) → r ≡ a → w' ≡ sets w 0 (cells_of a) → HeadsTold s w w' (number_of a)
  telling a e t = record { answer = a; heads = subst (Heads s) e h; number = refl; told = t }

  pub tells_heading : {o : VersionAndName} → r ≡ Ok o → w' ≡ sets w 0 (o.version_at ∷ o.version_len ∷ o.name_at ∷ o.name_len ∷ []) → HeadsTold s w w' 0
  unfolding number_of cells_of
  tells_heading {o} = telling (Ok o)

  pub tells_no_heading : {f : Fault} → r ≡ Err f → w' ≡ sets w 0 (f.place ∷ []) → HeadsTold s w w' f.number
  unfolding number_of cells_of
  tells_no_heading {f} = telling (Err f)
