use Rattle.lent_texts.proofs.Told.{passed_on}
use Rattle.heading_texts.proofs.Told.{stopped_heads, text_heads}
use Rattle.heading_texts.proofs.heading.Goals as goal

pub returns-in_err-e : goal.returns-in_err-e
returns-in_err-e c = let w = stopped_heads c.expand.ensures c.in_err-e.was (passed_on c.from_residual.ensures.1) in record { heads = w.0; q_7 = w.1 }

pub returns : goal.returns
returns c = let w = text_heads c.expand.ensures c.in_ok-e.was c.heading_expanded.ensures in record { heads = w.0; q_7 = w.1 }
