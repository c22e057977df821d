use native.Mathlib.Omega.{arith}
use Rattle.gathering.proofs.Shapes.{none_told}
use Rattle.gathering.proofs.gather.Goals as goal

pub returns-in-Err-clause-gathered : goal.returns-in-Err-clause-gathered
returns-in-Err-clause-gathered g c = λ w. none_told c.read_text.new.buffer c.args.lengths.now (omega arith)
