-- `rows::parts::same_bytes` meets its contract: the lengths decide, then the first bytes, then the rest.
-- Assumes nothing.
use mathlib.Core.Path.{◌≡◌, sym, ◌∙◌}
use native.Mathlib.Omega.{arith}
use borrow.Author.Tests.{ne_eqb, true-eqb, false-eqb}
use lib.ListN.{length}
use Rattle.token.proofs.Codes.{different, same_stop, same_end}
use Rattle.rows.proofs.parts.same_bytes.Goals as goal

pub returns-then-is_empty : goal.returns-then-is_empty
returns-then-is_empty c =
    let e : length c.args.a.now ≡ 0 = true-eqb _ _ c.if-is_empty.ensures in
    c.if-is_empty.true ∙ sym (same_end _ _ 0 (omega arith) (omega arith))

pub returns-else-a-b-2 : goal.returns-else-a-b-2
returns-else-a-b-2 c =
    let d : ¬ (length c.args.a.now ≡ 0) = false-eqb _ _ c.if-is_empty.ensures in
    ne_eqb _ _ c.if-a-b-2.false ∙ sym (same_stop _ _ 0 0 0 (omega (arith, d)) (omega (arith, d)) c.if-a-b-2.false)

pub returns-else-a-b : goal.returns-else-a-b
returns-else-a-b c = ne_eqb _ _ c.if-a-b.false ∙ sym (different _ _ (λ e. c.if-a-b.false (sym e)))
