use native.Mathlib.Omega.{arith}
use Rattle.releases.proofs.Answering.{second_stopped, second_counted}
use Rattle.releases.proofs.second_read.Goals as goal

pub returns-in-Refused : goal.returns-in-Refused
returns-in-Refused c = second_stopped c.read_spanned-w.ensures.reads c.requires _ _ _ _ _ _ _ _ _ _ c.in-Refused.is c.stopped.ensures

pub returns-in-Accepted : goal.returns-in-Accepted
returns-in-Accepted c = second_counted _ _ _ _ _ _ _ _ _ _ _ _ _ _ _ _ _ _ _ (λ k. omega (arith, c.shared_slice_known-1.given k)) (omega (arith, c.well_formed)) (λ k. omega (arith, c.shared_slice_known-2-1.given k)) (λ k. omega (arith, c.type_inv.second k)) (omega (arith, c.well_formed)) (λ k. omega (arith, c.slice_known-5-1.given k)) c.read_spanned-w.ensures.reads c.requires c.in-Accepted.is c.differences_of.ensures c.counted.ensures
