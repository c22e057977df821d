-- What is told of the questions over lent texts. Assumes nothing.
use mathlib.Core.Path.{◌≡◌, ◌∙◌, ap, sym}
use mathlib.Core.List.{List, [], ◌∷◌}
use Prim.Native.Nat.{ℕ}
use lib.Seq.{sets}
use Rattle.heading.specs.Answered.{Answer}
use Rattle.heading.specs.declared.VersionAndName.{VersionAndName}
use Rattle.rows.specs.declared.Fault.{Fault}
use Rattle.std.specs.Prelude.{Ok, Err}
use Rattle.std.specs.Prelude.{Result}
use Rattle.masks.specs.declared.Checked.{Checked}
use Rattle.masks.specs.declared.Planned.{Planned}
use Rattle.standard.specs.Answered.{Checked as Compared}
use Rattle.testing.specs.Headings.{number_of, cells_of}
use Rattle.testing.specs.Masks.{checked_case, planned_case}
use Rattle.testing.specs.Standards.{told_case}
use Rattle.testing.specs.SetQuestions.{HeadsSet, ChecksSet, PlansSet, StandardSet}
use Rattle.testing.specs.declared.events.Case.{Case}
use Rattle.testing.specs.declared.standards.Found.{Found}

module _ (P : Answer → Type 0) (w w' : List ℕ) (r : Answer) (h : P r) where
  telling : (a : Answer) → r ≡ a → w' ≡ sets w 0 (cells_of a) → HeadsSet P w w' (number_of a)
  telling a e t = record { answer = r; heads = h; number = ap number_of (sym e); told = t ∙ ap (λ x. sets w 0 (cells_of x)) (sym e) }

  pub tells_front : {o : VersionAndName} → r ≡ Ok o → w' ≡ sets w 0 (o.version_at ∷ o.version_len ∷ o.name_at ∷ o.name_len ∷ []) → HeadsSet P w w' 0
  unfolding number_of cells_of
  tells_front {o} = telling (Ok o)

  pub tells_no_front : {f : Fault} → r ≡ Err f → w' ≡ sets w 0 (f.place ∷ []) → HeadsSet P w w' f.number
  unfolding number_of cells_of
  tells_no_front {f} = telling (Err f)

pub tells_checks : (P : Result Checked Fault → Type 0) (w w' : List ℕ) (a : Result Checked Fault) (x : Case) → P a → x ≡ checked_case a → w' ≡ sets w 0 (x.first ∷ x.second ∷ []) → ChecksSet P w w' x.number
tells_checks P w w' a x h q t =
    record { answer = a; checks = h; number = ap (λ (y : Case). y.number) q; told = t ∙ ap (λ (y : Case). sets w 0 (y.first ∷ y.second ∷ [])) q }

pub tells_plans : (P : Result Planned Fault → Type 0) (w w' : List ℕ) (a : Result Planned Fault) (x : Case) → P a → x ≡ planned_case a → w' ≡ sets w 0 (x.first ∷ x.second ∷ []) → PlansSet P w w' x.number
tells_plans P w w' a x h q t =
    record { answer = a; plans = h; number = ap (λ (y : Case). y.number) q; told = t ∙ ap (λ (y : Case). sets w 0 (y.first ∷ y.second ∷ [])) q }

pub tells_compared : (P : Compared → Type 0) (w w' : List ℕ) (a : Compared) (x : Found) → P a → x ≡ told_case a → w' ≡ sets w 0 (x.first ∷ x.second ∷ x.third ∷ []) → StandardSet P w w' x.number
tells_compared P w w' a x h q t =
    record { answer = a; checks = h; number = ap (λ (y : Found). y.number) q; told = t ∙ ap (λ (y : Found). sets w 0 (y.first ∷ y.second ∷ y.third ∷ [])) q }
