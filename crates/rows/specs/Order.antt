-- Which of two faults answers: the leftmost place, then the smaller number.
-- Assumes nothing.
use Rattle.std.specs.Prelude.{ℕ, Bool, true, ltb, eqb, Option, Some, None}
use Rattle.token.specs.Find.{pick, both}
use Rattle.rows.specs.declared.Fault.{Fault}

-- a fault, or none
abbrev pub MaybeFault : Type 0
MaybeFault = Option Fault

-- a answers rather than b, where a fault of number 0 is none: any other answers rather than it. Two of number 0 go by the larger place, so that
-- number 0 at place 0 is the last of all.
unfoldable pub before : Fault → Fault → Bool
before a b =
    pick (eqb a.number 0) (both (eqb b.number 0) (ltb b.place a.place))
    (pick (eqb b.number 0) true
    (pick (eqb a.place b.place) (ltb a.number b.number) (ltb a.place b.place)))

-- the one that answers of two, where there are any
unfoldable pub sooner : MaybeFault → MaybeFault → MaybeFault
sooner None b = b
sooner (Some a) None = Some a
sooner (Some a) (Some b) = Some (pick (before b a) b a)

unfoldable pub fault_if : Bool → ℕ → ℕ → MaybeFault
fault_if b n p = pick b (Some (record { number = n; place = p })) None
