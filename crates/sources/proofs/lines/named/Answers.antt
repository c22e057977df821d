use mathlib.Core.Path.{sym, ◌∙◌}
use native.Mathlib.Omega.{arith}
use Rattle.token.proofs.Codes.{same_pointwise}
use Rattle.sources.proofs.Namings.{named_elsewhere, named_short, named_other, named_is}
use Rattle.sources.proofs.lines.named.Goals as goal

pub returns-then-before-hash : goal.returns-then-before-hash
returns-then-before-hash c = named_elsewhere _ _ _ c.aside-before.ensures c.if-before-hash.true

pub returns-then-line-hash-lt8 : goal.returns-then-line-hash-lt8
returns-then-line-hash-lt8 c = named_short _ _ (omega arith)

pub returns-then-eq : goal.returns-then-eq
returns-then-eq c = c.quoted.ensures ∙ named_is _ _ _ _ c.aside-before.ensures c.if-before-hash.false (sym (same_pointwise _ _) ∙ sym c.eq.ensures ∙ c.if-eq.true) c.aside-at.ensures

pub returns : goal.returns
returns c = named_other _ _ (sym (same_pointwise _ _) ∙ sym c.eq.ensures ∙ c.if-eq.false)
