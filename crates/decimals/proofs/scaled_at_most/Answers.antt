use Rattle.decimals.proofs.Powers.{power_less}
use Prim.Native.Nat.{◌+◌, ◌-◌}
use mathlib.Core.Path.{◌≡◌, sym, ◌∙◌}
use native.Mathlib.Omega.{arith}
use Rattle.decimals.proofs.scaled_at_most.Goals as goal

pub loop-preserved : goal.loop-preserved
loop-preserved c =
    let e : c.args.power - (c.loop.counter + 1) ≡ c.args.power - c.loop.counter - 1 = omega arith in
    rw e (sym (power_less c.args.m (c.args.power - c.loop.counter) c.loop.bound (omega arith)) ∙ c.loop.invariant)
