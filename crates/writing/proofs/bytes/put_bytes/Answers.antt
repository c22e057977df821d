use native.Mathlib.Omega.{arith}
use Rattle.writing.proofs.bytes.put_bytes.Goals as goal

pub returns : goal.returns
returns c = record { room = omega arith; bytes = c.store.ensures; next = c.place_after.ensures }
