use native.Mathlib.Omega.{arith}
use Rattle.expecting.proofs.Telling.{tells_none, room_of}
use lib.ListN.{length-replicate}
use Prim.Native.Nat.{ℕ}
use mathlib.Core.Bool.{false≢true}
use mathlib.Core.Path.{sym, ◌∙◌}
use Rattle.expecting.proofs.expected.Goals as goal

pub returns-then-text-gt-LONGEST : goal.returns-then-text-gt-LONGEST
returns-then-text-gt-LONGEST c = tells_none _ _ (λ e. let h = e.0 in omega arith)

pub flags-requires : goal.flags-requires
flags-requires c = let e = c.is_refused.ensures.0 c.if-is_refused.true in ((omega arith, e), room_of _ _ _ (omega arith, e) (length-replicate {A = ℕ} 65552 0))

pub returns : goal.returns
returns c = tells_none _ _ (λ e. false≢true (sym c.if-is_refused.false ∙ c.is_refused.ensures.1 e.1))
