-- The cases of the small functions, and the turns of their loops. Assumes nothing.
use mathlib.Core.Path.{◌≡◌, sym, ◌∙◌, ap}
use mathlib.Core.List.{List}
use mathlib.Core.Bool.{Bool}
use Prim.Native.Nat.{ℕ, ◌+◌, ◌*◌, ◌≤◌, ◌<◌}
use lib.ListN.{get_or}
use lib.Dec.{ltb}
use borrow.Author.Tests.{lt-ltb, le-ltb}
use Rattle.std.specs.Prelude.{Some, None}
use Rattle.rows.specs.Order.{MaybeFault, fault_if}
use Rattle.rows.proofs.Searches.{find_stop, find_more, find_end}
use Rattle.grammar.specs.Grammar.{Kind}
use Rattle.meaning.specs.Kinds.{fewest, most}
use Rattle.std.specs.Prelude.{Option}
use Rattle.kinds.specs.Kinds.{kind_at, most_of}
use Rattle.checks.specs.Cells.{lacking_from, full_of, room_fault}

pub room_is : (l : List ℕ) (w last c rows n p : ℕ) (r : MaybeFault) → p ≡ get_or l (last * w + c) 0 → r ≡ fault_if (ltb last rows) n p → r ≡ room_fault l w last c rows n
unfolding room_fault
room_is l w last c rows n p r e f = f ∙ ap (fault_if (ltb last rows) n) e

-- Kinds with too few objects.
pub lacks_here : (cs : List ℕ) (i n : ℕ) → i < 13 → n ≡ fewest (kind_at i) → get_or cs i 0 < n → lacking_from cs i ≡ Some i
unfolding lacking_from
lacks_here cs i n h e g =
    find_stop (λ j. ltb (get_or cs j 0) (fewest (kind_at j))) 13 i h (ap (ltb (get_or cs i 0)) (sym e) ∙ lt-ltb (get_or cs i 0) n g)

pub lacks_more : (cs : List ℕ) (i n : ℕ) → i < 13 → n ≡ fewest (kind_at i) → n ≤ get_or cs i 0 → lacking_from cs i ≡ lacking_from cs (i + 1)
unfolding lacking_from
lacks_more cs i n h e g =
    find_more (λ j. ltb (get_or cs j 0) (fewest (kind_at j))) 13 i h (ap (ltb (get_or cs i 0)) (sym e) ∙ le-ltb (get_or cs i 0) n g)

pub lacks_end : (cs : List ℕ) (i : ℕ) → 13 ≤ i → lacking_from cs i ≡ None
unfolding lacking_from
lacks_end cs i h = find_end (λ j. ltb (get_or cs j 0) (fewest (kind_at j))) 13 i h

-- 17 of an object.
pub too_many_is : (v number n p : ℕ) (q : Kind) (x : Option ℕ) (b : Bool) (r : MaybeFault) → q ≡ kind_at number → n ≡ v → x ≡ most_of (most q) → b ≡ full_of x n → r ≡ fault_if b 17 p
    → r ≡ fault_if (full_of (most_of (most (kind_at number))) v) 17 p
too_many_is v number n p q x b r e₁ e₂ e₃ e₄ e₅ = rw (e₅, e₄, e₃, e₁, e₂)
