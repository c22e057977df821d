-- `comparing::ordering::key_of` meets its contract: one number for all pairs that are too large.
-- Assumes nothing.
use Rattle.comparing.proofs.Sought.{key_low, key_wide, key_wide_second}
use native.Mathlib.Omega.{arith}
use Rattle.comparing.proofs.ordering.key_of.Goals as goal

pub returns-then-a-ge-OWNERS : goal.returns-then-a-ge-OWNERS
returns-then-a-ge-OWNERS c = record { key = key_wide _ _ c.if-a-ge-OWNERS.true; most = omega arith }

pub returns-then-b-ge-STEPS : goal.returns-then-b-ge-STEPS
returns-then-b-ge-STEPS c = record { key = key_wide_second _ _ c.if-b-ge-STEPS.true; most = omega arith }

pub returns : goal.returns
returns c = record { key = key_low _ _ c.if-a-ge-OWNERS.false c.if-b-ge-STEPS.false; most = omega arith }
