-- What the values of the code's kind type stand for. Assumes nothing.
use Rattle.std.proofs.Math.Option.{Option, none, some}
use Rattle.std.specs.Prelude.{List, [], ℕ, ◌+◌, get_or, Option as Most, Some, None}
use Rattle.token.specs.Words.{known}
use Rattle.grammar.specs.Grammar.{Kind as Kind-of, OS, APPMODE, TASK, ISR, COUNTER, ALARM, RESOURCE, EVENT, COM, MESSAGE, NETWORKMESSAGE, IPDU, NM}
use Rattle.meaning.specs.Kinds.{kinds, kind_number}
use Rattle.kinds.specs.declared.Kind.{Kind}
use Rattle.kinds.specs.declared.Kind.TheVariants.{Os, Appmode, Task, Isr, Counter, Alarm, Resource, Event, Com, Message, Networkmessage, Ipdu, Nm}

-- The kind of document 01 that a value is.
unfoldable pub kind_of : Kind → Kind-of
kind_of Os = OS
kind_of Appmode = APPMODE
kind_of Task = TASK
kind_of Isr = ISR
kind_of Counter = COUNTER
kind_of Alarm = ALARM
kind_of Resource = RESOURCE
kind_of Event = EVENT
kind_of Com = COM
kind_of Message = MESSAGE
kind_of Networkmessage = NETWORKMESSAGE
kind_of Ipdu = IPDU
kind_of Nm = NM

-- The kind of a number: the last for any number past it.
unfoldable pub kind_at : ℕ → Kind-of
kind_at n = get_or kinds n NM

-- A kind's most, where there is one.
unfoldable pub most_of : Option ℕ → Most ℕ
most_of none = None
most_of (some n) = Some n

-- A kind's word: the token reader has the kinds after its first eight known words.
unfoldable pub word_of : Kind-of → List ℕ
word_of k = get_or known (8 + kind_number k) []
