use Rattle.standard.proofs.Accepting.{check_walked}
use Rattle.standard.proofs.check_accepted.Goals as goal

pub returns : goal.returns
returns c = check_walked _ _ _ _ _ _ _ _ _ c.walk-w.ensures c.name_at-name.ensures c.section_text-section.ensures c.section_rows-rows.ensures c.section_words-words.ensures c.foremost.ensures c.verdict.ensures
