-- `comparing::put_all` meets its contract: a turn stores the next record, and what lies past the list is not stored.
use Prim.Native.Nat.{ℕ, ◌+◌, suc}
use mathlib.Core.Path.{◌≡◌, refl, ◌∙◌, ap, ap₂}
use native.Mathlib.Omega.{arith}
use lib.ListN.{length, set, take}
use Rattle.std.specs.Prelude.{min}
use Rattle.comparing.specs.Lists.{overwrite}
use Rattle.comparing.proofs.Overwrites.{overwrite_next, overwrite_past}
use Rattle.comparing.specs.declared.Difference.{Difference}
use Rattle.comparing.proofs.put_all.Goals as goal

pub loop-k-init : goal.loop-k-init
unfolding overwrite
loop-k-init c = (omega arith, refl)

pub loop-k-preserved : goal.loop-k-preserved
loop-k-preserved c =
    let l = c.args.list.now in
    let ds = c.args.found.records in
    let k = c.loop-k.k in
    let next : suc k ≡ k + 1 = omega arith in (
      omega arith,
      c.put_difference.ensures
          ∙ ap₂ (λ (a : _) (d : Difference). set a k d) c.loop-k.invariant.1 c.record_at.ensures
          ∙ overwrite_next ds l k _ (omega arith) (omega arith)
          ∙ ap (λ (n : ℕ). overwrite (take n ds) l) next,
    )

pub returns : goal.returns
returns c =
    let l = c.args.list.now in
    let ds = c.args.found.records in
    let e : c.loop-k.k ≡ min (min c.args.found.total 64) (length l) = omega arith in
    c.loop-k.invariant.1 ∙ ap (λ (n : ℕ). overwrite (take n ds) l) e ∙ overwrite_past ds l _
