use Prim.Native.Nat.{ℕ, ◌+◌, ◌-◌}
use native.Mathlib.Omega.{arith}
use Rattle.lookups.proofs.Linking.{linking_start, links_row, links_all, next_by, next_low}
use Rattle.lookups.specs.Links.{ahead, Passing}
use lib.ListN.{replicate}
use mathlib.Core.Path.{◌≡◌, refl, ap, subst, ◌∙◌}
use Rattle.lookups.proofs.links.note_next.Goals as goal

pub loop-i-init : goal.loop-i-init
loop-i-init c = (refl, (omega arith, linking_start _ _ _ _ refl (c.clear.ensures ∙ ap (λ (i : ℕ). replicate i 0) c.requires)))

pub pass-p-requires : goal.pass-p-requires
pass-p-requires c = (next_low (c.args.st.now) _ _ _ _ c.cell_of.ensures c.next_row-after.ensures, let e : c.loop-i.i ≡ c.loop-i.i - 1 + 1 = omega arith in subst (λ (x : ℕ). Passing (c.args.st.now) (c.args.h.now) (c.loop-i.next) x (c.loop-i.rows)) e c.loop-i.invariant.1.1.passing)

pub shape_of-next-then-p-after : goal.shape_of-next-then-p-after
shape_of-next-then-p-after c = omega (arith, c.loop-i.invariant.1.1.size, c.requires)

pub returns-then-p-after : goal.returns-then-p-after
returns-then-p-after c = links_all _ _ _ _ _ c.loop-i.invariant.1.1

pub offset_bounds-next-i : goal.offset_bounds-next-i
offset_bounds-next-i c = omega (arith, c.loop-i.invariant.1.1.size, c.loop-i.invariant.1.0)

pub bounds-next-i : goal.bounds-next-i
bounds-next-i c = omega (arith, c.loop-i.invariant.1.1.size, c.loop-i.invariant.1.0)

pub loop-i-preserved : goal.loop-i-preserved
loop-i-preserved c = let q : c.pass-p.result ≡ c.next_row-after.result = omega arith in let e : (c.loop-i.i - 1) + 1 ≡ c.loop-i.i = omega arith in (omega (arith, c.put.auto, c.pass-p.auto, c.loop-i.invariant.0), (omega (arith, c.loop-i.invariant.1.0), links_row _ _ _ _ _ c.loop-i.invariant.1.1 _ _ _ _ _ _ _ e c.loop-i.invariant.1.0 (c.pass-p.ensures ∙ ap (λ (x : ℕ). ahead (c.args.st.now) (c.args.h.now) x) q) (next_by (c.args.st.now) _ _ _ _ c.cell_of.ensures c.next_row-after.ensures) c.get-rank.ensures c.get-row.ensures refl c.put.ensures))

pub shape_of-next : goal.shape_of-next
shape_of-next c = omega (arith, c.loop-i.invariant.1.1.size, c.requires)

pub returns : goal.returns
returns c = links_all _ _ _ _ _ c.loop-i.invariant.1.1
