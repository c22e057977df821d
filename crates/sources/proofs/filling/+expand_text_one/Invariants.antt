use lib.ListN.{length}
use mathlib.Core.Path.{◌≡◌}
use Prim.Native.Nat.{◌+◌, ◌-◌, ◌*◌}
use Rattle.sources.specs.Promises.{Goes, AsksFrom}
use Rattle.sources.specs.Expanding.{walk, inner}
use Rattle.sources.proofs.filling.+expand_text_one.Given as goal

abbrev pub decreases-expand_text : goal.decreases-expand_text
decreases-expand_text l = 2 * l.frame.depth

abbrev pub invariant-expand_text-loop-after : goal.invariant-expand_text-loop-after
invariant-expand_text-loop-after l =
    AsksFrom l.buffer l.lengths l.notes l.text l.inside.number l.from × (length l.out ≡ length l.initial.out) × (length l.origins ≡ length l.initial.origins)
    × Goes l.inside.limit (walk l.buffer l.lengths l.inside.number l.text l.marks (inner l.inside.depth l.buffer l.lengths l.marks) 0) l.initial.out l.initial.origins l.at
    (walk l.buffer l.lengths l.inside.number l.text l.marks (inner l.inside.depth l.buffer l.lengths l.marks) l.from) l.out l.origins l.place

abbrev pub decreases-expand_text-loop-after : goal.decreases-expand_text-loop-after
decreases-expand_text-loop-after l =
    length l.text - l.from

abbrev pub decreases-one : goal.decreases-one
decreases-one l = 2 * l.frame.depth + 1
