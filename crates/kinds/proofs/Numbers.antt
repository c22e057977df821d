-- The kinds by their numbers. Assumes nothing.
use mathlib.Core.Path.{◌≡◌, sym}
use mathlib.Core.List.{List, [], ◌∷◌}
use Prim.Native.Nat.{ℕ}
use lib.ListN.{get_or, get_or-map}
use Rattle.kinds.specs.Kinds.{kind_of, kind_at}
use Rattle.kinds.specs.declared.Kind.{Kind}
use Rattle.kinds.specs.declared.Kind.TheVariants.{Os, Appmode, Task, Isr, Counter, Alarm, Resource, Event, Com, Message, Networkmessage, Ipdu, Nm}

abbrev pub all : List Kind
all = Os ∷ Appmode ∷ Task ∷ Isr ∷ Counter ∷ Alarm ∷ Resource ∷ Event ∷ Com ∷ Message ∷ Networkmessage ∷ Ipdu ∷ Nm ∷ []

-- The kind that stands at a number; the last for any number past it.
pub kind_by : (n : ℕ) → kind_of (get_or all n Nm) ≡ kind_at n
unfolding kind_of kind_at
kind_by n = sym (get_or-map kind_of all n Nm)
