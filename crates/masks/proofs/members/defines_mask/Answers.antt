use mathlib.Core.Path.{sym, ◌∙◌}
use native.Mathlib.Omega.{arith}
use Rattle.masks.proofs.Plannables.{no_place, seeks_start, seeks_stop, seeks_more, seeks_end}
use Rattle.masks.proofs.members.defines_mask.Goals as goal

pub returns-then-place-eq0 : goal.returns-then-place-eq0
returns-then-place-eq0 c = no_place _ _ _ _ c.if-place-eq0.true

pub loop-j-init : goal.loop-j-init
loop-j-init c = seeks_start _ _ _ _ c.if-place-eq0.false

pub returns-then-is_mask_row : goal.returns-then-is_mask_row
returns-then-is_mask_row c = seeks_stop _ _ _ _ c.loop-j.j (omega arith) (sym c.if-is_mask_row.true ∙ c.is_mask_row.ensures) c.loop-j.invariant

pub loop-j-preserved : goal.loop-j-preserved
loop-j-preserved c = seeks_more _ _ _ _ c.loop-j.j (omega arith) (sym c.if-is_mask_row.false ∙ c.is_mask_row.ensures) c.loop-j.invariant

pub returns : goal.returns
returns c = seeks_end _ _ _ _ c.loop-j.j (omega arith) c.loop-j.invariant
