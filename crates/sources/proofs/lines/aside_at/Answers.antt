use Prim.Native.Nat.{◌+◌}
use mathlib.Core.Path.{sym, ◌∙◌, ap}
use native.Mathlib.Omega.{arith}
use Rattle.sources.proofs.Asides.{aside_past, aside_blank, aside_line, aside_comment, aside_open, aside_none}
use Rattle.sources.proofs.lines.aside_at.Goals as goal

pub returns-then-line-at : goal.returns-then-line-at
returns-then-line-at c = aside_past _ _ (omega arith)

pub returns-then-is_aside : goal.returns-then-is_aside
returns-then-is_aside c = aside_blank _ _ (sym c.is_aside.ensures ∙ c.if-is_aside.true)

pub returns-then-pair : goal.returns-then-pair
returns-then-pair c = aside_line _ _ (sym c.is_aside.ensures ∙ c.if-is_aside.false) (sym c.pair.ensures ∙ c.if-pair.true)

pub returns-then-close-line : goal.returns-then-close-line
returns-then-close-line c = ap (λ n. n + 2) c.find_close-close.ensures ∙ aside_comment _ _ (sym c.is_aside.ensures ∙ c.if-is_aside.false) (sym c.pair.ensures ∙ c.if-pair.false) (sym c.pair-2.ensures ∙ c.if-pair-2.true) (omega arith)

pub returns-then-pair-2 : goal.returns-then-pair-2
returns-then-pair-2 c = aside_open _ _ (sym c.is_aside.ensures ∙ c.if-is_aside.false) (sym c.pair.ensures ∙ c.if-pair.false) (sym c.pair-2.ensures ∙ c.if-pair-2.true) (omega arith)

pub returns : goal.returns
returns c = aside_none _ _ (sym c.is_aside.ensures ∙ c.if-is_aside.false) (sym c.pair.ensures ∙ c.if-pair.false) (sym c.pair-2.ensures ∙ c.if-pair-2.false)
