-- `explaining::window::window_from` meets its contract: the tests tell which place is the window's start.
-- Assumes nothing.
use mathlib.Core.Path.{◌∙◌}
use Rattle.explaining.proofs.Frames.{from_start, from_short, from_near, from_last}
use native.Mathlib.Omega.{arith}
use Rattle.explaining.proofs.window.window_from.Goals as goal

pub returns-then-near-start : goal.returns-then-near-start
returns-then-near-start c = from_start _ c.args.end c.args.at (omega arith)

pub returns-then-last-start : goal.returns-then-last-start
returns-then-last-start c = from_short _ c.args.end c.args.at (omega arith)

pub returns-then-near-last : goal.returns-then-near-last
returns-then-near-last c = c.saturating_sub-near.ensures ∙ from_near _ c.args.end c.args.at (omega arith) (omega arith)

pub returns : goal.returns
returns c = c.saturating_sub-last.ensures ∙ from_last _ c.args.end c.args.at (omega arith) (omega arith)
