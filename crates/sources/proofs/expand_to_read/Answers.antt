use Rattle.sources.proofs.Plains.{expands_to_read}
use mathlib.Core.Path.{sym, ◌∙◌}
use Rattle.sources.proofs.expand_to_read.Goals as goal

pub copy_main-requires : goal.copy_main-requires
copy_main-requires c = sym c.is_plain.ensures ∙ c.if-is_plain.true

pub returns : goal.returns
returns c = expands_to_read _ _ _ _ _ _ _ (sym c.is_plain.ensures ∙ c.if-is_plain.false) c.expand.ensures
