-- Each token brings the cursor nearer to the text's end.
use Rattle.std.proofs.Common.{length, ◌-◌}
use Rattle.tokens.proofs.write_tokens.Given as goal

abbrev pub decreases-loop-token : goal.decreases-loop-token
decreases-loop-token l = length l.text - l.cursor.at
