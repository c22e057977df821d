use Rattle.writing.proofs.Turns.{going_start, going_more, going_done, puts_plain, puts_block}
use Rattle.writing.proofs.Owners.{owned_inside}
use Rattle.writing.proofs.Writes.{wrote_length}
use native.Mathlib.Omega.{arith}
use mathlib.Core.Path.{sym, ◌∙◌}
use Rattle.writing.proofs.values.+put_line_put_lines.Goals as goal

pub put_line-shape_of-out-then-not-has_owner : goal.put_line-shape_of-out-then-not-has_owner
put_line-shape_of-out-then-not-has_owner t c = wrote_length c.put_bytes-b.ensures ∙ wrote_length c.put_head-a.ensures

pub put_line-returns-then-not-has_owner : goal.put_line-returns-then-not-has_owner
put_line-returns-then-not-has_owner t c = puts_plain c.put_head-a.ensures (sym c.has_owner.ensures ∙ c.if-not-has_owner.true) c.put_bytes-b.ensures

pub put_line-put_lines-s-requires : goal.put_line-put_lines-s-requires
put_line-put_lines-s-requires t c = omega (arith, c.requires)

pub put_line-shape_of-out : goal.put_line-shape_of-out
put_line-shape_of-out t c = wrote_length c.put_bytes-c.ensures ∙ c.put_lines-s.ensures.size ∙ wrote_length c.put_bytes-b-2.ensures ∙ wrote_length c.put_head-a.ensures

pub put_line-returns : goal.put_line-returns
put_line-returns t c = puts_block c.put_head-a.ensures _ (sym c.has_owner.ensures ∙ c.if-not-has_owner.false) c.put_bytes-b-2.ensures c.put_lines-s.ensures c.put_bytes-c.ensures

pub put_lines-loop-out-init : goal.put_lines-loop-out-init
put_lines-loop-out-init t c = going_start _ _ _ _ _ _ _ _ _ (omega arith)

pub put_lines-put_line-s-requires : goal.put_lines-put_line-s-requires
put_lines-put_line-s-requires t c = let h = owned_inside _ _ c.loop-out.k _ _ (sym c.has_owner.ensures ∙ c.loop-out-test.true) in omega (arith, h, c.loop-out.invariant.onward, c.requires)

pub put_lines-loop-out-smaller : goal.put_lines-loop-out-smaller
put_lines-loop-out-smaller t c = let h = owned_inside _ _ c.loop-out.k _ _ (sym c.has_owner.ensures ∙ c.loop-out-test.true) in omega (arith, h, c.put_line-s.ensures.onward)

pub put_lines-loop-out-preserved : goal.put_lines-loop-out-preserved
put_lines-loop-out-preserved t c = going_more c.loop-out.invariant (sym c.has_owner.ensures ∙ c.loop-out-test.true) c.put_line-s.ensures

pub put_lines-shape_of-out : goal.put_lines-shape_of-out
put_lines-shape_of-out t c = c.loop-out.invariant.size

pub put_lines-returns : goal.put_lines-returns
put_lines-returns t c = going_done c.loop-out.invariant (sym c.has_owner.ensures ∙ c.loop-out-test.false)
