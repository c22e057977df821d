use mathlib.Core.Path.{sym, ◌∙◌}
use native.Mathlib.Omega.{arith}
use Rattle.sources.proofs.Events.{event_stop, event_line}
use Rattle.sources.proofs.Stops.{stop_ok, StopOk, LineFits}
use mathlib.Core.Path.{subst}
use Rattle.sources.proofs.finding.event_at.Goals as goal

pub include_of-requires : goal.include_of-requires
include_of-requires c = let f : LineFits c.args.text.now c.args.at c.in-Line.line = subst (StopOk c.args.text.now c.args.at) (sym c.stop_at.ensures ∙ c.in-Line.is) (stop_ok c.args.text.now c.args.at (omega arith)) in record { told = c.requires.0; low = f.name; high = f.inside }

pub returns-in-At : goal.returns-in-At
returns-in-At c = event_stop _ _ _ _ _ _ _ (sym c.stop_at.ensures ∙ c.in-At.is)

pub returns-in-Line : goal.returns-in-Line
returns-in-Line c = c.include_of.ensures ∙ event_line _ _ _ _ _ _ (sym c.stop_at.ensures ∙ c.in-Line.is)
