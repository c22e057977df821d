use Rattle.mending_texts.proofs.Told.{refused_expanded, not_mended_expanded, done_expanded}
use borrow.Author.Rules.{rules}
use Rattle.mending_texts.proofs.mend_expanded.Goals as goal

pub returns-in-Ok : goal.returns-in-Ok
returns-in-Ok c = done_expanded c.mend.ensures.rules c.in-Ok.is

pub returns-in-Err-Refused : goal.returns-in-Err-Refused
returns-in-Err-Refused c = refused_expanded c.mend.ensures.rules c.in-Err-Refused.is c.in-Err-Refused.field-0-is c.refused.ensures

pub returns-in-Err-NotMended : goal.returns-in-Err-NotMended
returns-in-Err-NotMended c = not_mended_expanded c.mend.ensures.rules c.in-Err-NotMended.is c.in-Err-NotMended.field-0-is c.place_refused.ensures
