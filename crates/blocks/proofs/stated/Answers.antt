-- `blocks::stated` meets its contract.
-- Assumes nothing.
use Rattle.blocks.proofs.Ranges.{Looking, looking_start, looking_stop, looking_more, looking_end, after_later, after_inside}
use Rattle.token.specs.Tokens.{part_of}
use Rattle.token.specs.Words.{same}
use native.Mathlib.Omega.{arith}
use mathlib.Core.Path.{sym, ◌∙◌, ap₂, subst}
use Rattle.blocks.proofs.stated.Goals as goal

pub loop-k-init : goal.loop-k-init
loop-k-init c = looking_start _ _ _ _ _ _

pub returns-then-same_part : goal.returns-then-same_part
returns-then-same_part c = looking_stop _ _ _ _ _ c.loop-k.invariant (omega arith) (sym (ap₂ (λ p n. same (part_of c.args.text.now c.args.at c.args.len) (part_of c.args.text.now p n)) c.cell_of-place.ensures c.cell_of-size.ensures) ∙ sym c.same_part.ensures ∙ c.if-same_part.true)

pub loop-k-smaller : goal.loop-k-smaller
loop-k-smaller c = omega (arith, c.after-k.ensures, after_later c.args.st.now c.loop-k.k c.args.end (omega arith), after_inside c.args.st.now c.loop-k.k c.args.end)

pub loop-k-preserved : goal.loop-k-preserved
loop-k-preserved c = subst (λ n. Looking c.args.text.now c.args.st.now c.args.from c.args.end c.args.at c.args.len n) (sym c.after-k.ensures) (looking_more _ _ _ _ _ c.loop-k.invariant (omega arith) (sym (ap₂ (λ p n. same (part_of c.args.text.now c.args.at c.args.len) (part_of c.args.text.now p n)) c.cell_of-place.ensures c.cell_of-size.ensures) ∙ sym c.same_part.ensures ∙ c.if-same_part.false))

pub returns : goal.returns
returns c = looking_end _ _ _ _ _ c.loop-k.invariant (omega arith)
