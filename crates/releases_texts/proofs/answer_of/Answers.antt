use Rattle.releases_texts.proofs.Told.{answers_text}
use borrow.Author.Rules.{rules}
use Rattle.releases_texts.proofs.answer_of.Goals as goal

pub returns : goal.returns
returns c = answers_text c.read-r.ensures.rules
