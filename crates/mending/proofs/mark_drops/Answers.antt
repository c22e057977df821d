use Rattle.mending.proofs.Wholes.{long_stops, fault_stops, kept_marks}
use Rattle.mending.proofs.mark_drops.Goals as goal

pub returns-then-text-gt-LONGEST : goal.returns-then-text-gt-LONGEST
returns-then-text-gt-LONGEST c = long_stops _ _ c.if-text-gt-LONGEST.true

pub returns-in-Some : goal.returns-in-Some
returns-in-Some c = fault_stops c.if-text-gt-LONGEST.false c.decide-r.ensures _ c.in-Some.is

pub returns : goal.returns
returns c = kept_marks c.if-text-gt-LONGEST.false c.decide-r.ensures _ c.in_default.is c.drop_kept.ensures
