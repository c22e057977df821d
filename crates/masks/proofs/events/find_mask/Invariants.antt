use Rattle.masks.specs.Members.{is_mask_at}
use Rattle.rows.specs.Search.{find_from}
use mathlib.Core.Path.{◌≡◌}
use Rattle.masks.proofs.events.find_mask.Given as goal

abbrev pub invariant-loop-k : goal.invariant-loop-k
invariant-loop-k l = find_from (is_mask_at l.text l.d l.v l.row) l.n l.k ≡ find_from (is_mask_at l.text l.d l.v l.row) l.n 0
