use Rattle.mending.proofs.Wholes.{text_too_short, lines_too_short, both_put}
use native.Mathlib.Omega.{arith}
use Rattle.mending.proofs.put_out.Goals as goal

pub returns-then-output-mended : goal.returns-then-output-mended
returns-then-output-mended c = text_too_short _ _ _ _ c.if-output-mended.true

pub returns-then-lines-put_lines : goal.returns-then-lines-put_lines
returns-then-lines-put_lines c = lines_too_short _ _ _ _ c.if-output-mended.false _ c.put_lines.ensures c.if-lines-put_lines.true

pub returns : goal.returns
returns c = both_put _ _ _ _ c.if-output-mended.false _ c.put_lines.ensures c.if-lines-put_lines.false (omega (arith, c.well_formed)) c.put_bytes.ensures c.put_lines-n.ensures
