use Prim.Native.Nat.{ℕ}
use native.Mathlib.Omega.{arith}
use lib.Seq.{length-take-le}
use lib.ListN.{length, take, replicate}
use mathlib.Core.Path.{◌≡◌, sym}
use Rattle.lookups.proofs.names.note.Goals as goal

pub returns-then-z-gt-MOST : goal.returns-then-z-gt-MOST
returns-then-z-gt-MOST c = record { room = c.requires; named = λ f. absurd (let q = f.definitions in omega (arith, q, c.if-z-gt-MOST.true)) }

pub returns-then-z-gt-MOST-2 : goal.returns-then-z-gt-MOST-2
returns-then-z-gt-MOST-2 c = record { room = c.requires; named = λ f. absurd (let q = f.enumerators in omega (arith, q, c.if-z-gt-MOST-2.true)) }

pub returns-then-z-gt-MOST-3 : goal.returns-then-z-gt-MOST-3
returns-then-z-gt-MOST-3 c = record { room = c.requires; named = λ f. absurd (let q = f.objects in omega (arith, q, c.if-z-gt-MOST-3.true)) }

pub slice_bounds-put_names-end : goal.slice_bounds-put_names-end
slice_bounds-put_names-end c = sym (length-take-le _ _ (omega arith))

pub slice_bounds-put_names-end-2 : goal.slice_bounds-put_names-end-2
slice_bounds-put_names-end-2 c = sym (length-take-le _ _ (omega (arith, c.least_of-n.ensures)))

pub put_names-requires : goal.put_names-requires
put_names-requires c = record { few = record { definitions = omega (arith, c.if-z-gt-MOST.false); enumerators = omega (arith, c.if-z-gt-MOST-2.false); objects = omega (arith, c.if-z-gt-MOST-3.false) }; statements_fit = let e : length {A = ℕ} (take (c.least_of-n.result) (replicate {A = ℕ} 2049 0)) ≡ c.least_of-n.result = length-take-le _ _ (omega (arith, c.least_of-n.ensures)) in omega (arith, e, c.least_of-n.ensures); size = length-take-le _ _ (omega (arith, c.if-z-gt-MOST.false)); spare_room = omega arith; room = c.requires }

pub returns : goal.returns
returns c = record { room = omega (arith, c.put_names.auto, c.requires); named = λ f. c.put_names.ensures }
