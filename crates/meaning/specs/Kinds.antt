-- The thirteen kinds (document 01, "kind" in "Grammar", and "Each kind carries its own fewest and most objects"). Assumes nothing.
use Rattle.std.specs.Prelude.{List, [], ◌∷◌, Bool, ℕ, eqb}
use Rattle.std.proofs.Math.Option.{Option, none, some}
use Rattle.grammar.specs.Grammar.{Kind, OS, APPMODE, TASK, ISR, COUNTER, ALARM, RESOURCE, EVENT, COM, MESSAGE, NETWORKMESSAGE, IPDU, NM}

-- "OS, APPMODE, TASK, ISR, COUNTER, ALARM, RESOURCE, EVENT, COM, MESSAGE, NETWORKMESSAGE, IPDU, NM (thirteen)"
abbrev pub kinds : List Kind
kinds = OS ∷ APPMODE ∷ TASK ∷ ISR ∷ COUNTER ∷ ALARM ∷ RESOURCE ∷ EVENT ∷ COM ∷ MESSAGE ∷ NETWORKMESSAGE ∷ IPDU ∷ NM ∷ []

-- A kind's number in this order.
unfoldable pub kind_number : Kind → ℕ
kind_number OS = 0
kind_number APPMODE = 1
kind_number TASK = 2
kind_number ISR = 3
kind_number COUNTER = 4
kind_number ALARM = 5
kind_number RESOURCE = 6
kind_number EVENT = 7
kind_number COM = 8
kind_number MESSAGE = 9
kind_number NETWORKMESSAGE = 10
kind_number IPDU = 11
kind_number NM = 12

unfoldable pub same_kind : Kind → Kind → Bool
same_kind a b = eqb (kind_number a) (kind_number b)

-- "OS one and one; APPMODE at least one; COM and NM at most one": the fewest objects of each kind,
unfoldable pub fewest : Kind → ℕ
fewest OS = 1
fewest APPMODE = 1
fewest TASK = 0
fewest ISR = 0
fewest COUNTER = 0
fewest ALARM = 0
fewest RESOURCE = 0
fewest EVENT = 0
fewest COM = 0
fewest MESSAGE = 0
fewest NETWORKMESSAGE = 0
fewest IPDU = 0
fewest NM = 0

-- and the most, where there is a most.
unfoldable pub most : Kind → Option ℕ
most OS = some 1
most APPMODE = none
most TASK = none
most ISR = none
most COUNTER = none
most ALARM = none
most RESOURCE = none
most EVENT = none
most COM = some 1
most MESSAGE = none
most NETWORKMESSAGE = none
most IPDU = none
most NM = some 1
