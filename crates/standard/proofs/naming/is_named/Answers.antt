use mathlib.Core.Path.{sym, ◌∙◌, ap}
use Rattle.standard.proofs.Named.{other_key, its_key}
use Rattle.token.specs.Words.{same}
use Rattle.standard.proofs.naming.is_named.Goals as goal

pub returns-then-cell_of-key : goal.returns-then-cell_of-key
returns-then-cell_of-key c = sym (other_key _ _ _ _ _ _ (λ e. c.if-cell_of-key.true (c.cell_of.ensures ∙ e)))

pub returns : goal.returns
returns c =
    c.same_bytes.ensures
    ∙ ap (λ l. same l c.args.name.now) c.part.ensures.bytes
    ∙ its_key _ _ _ _ _ _ _ _ (sym c.cell_of.ensures ∙ c.if-cell_of-key.false) c.cell_of-at.ensures c.cell_of-len.ensures
