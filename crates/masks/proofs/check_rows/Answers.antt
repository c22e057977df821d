use Rattle.masks.proofs.Calls.{other_length, too_many_events, found_checked, cleared, array_wide}
use Rattle.masks.proofs.check_rows.Goals as goal

pub returns-then-e-list : goal.returns-then-e-list
returns-then-e-list c = other_length array_wide c.event_rows-e.ensures _ c.if-e-list.true

pub returns-then-e-gt-MOST : goal.returns-then-e-gt-MOST
returns-then-e-gt-MOST c = too_many_events array_wide c.event_rows-e.ensures _ _ c.if-e-gt-MOST.true

pub returns : goal.returns
returns c = found_checked array_wide c.event_rows-e.ensures _ _ _ cleared c.mark_all.ensures c.fill_given.ensures c.if-e-list.false c.first_breaking.ensures c.verdict.ensures
