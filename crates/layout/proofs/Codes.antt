-- How large the numbers of kinds and the codes of integer types are. Assumes nothing.
use Prim.Native.Nat.{◌≤◌}
use native.Mathlib.Omega.{arith}
use Rattle.grammar.specs.Grammar.{Kind, OS, APPMODE, TASK, ISR, COUNTER, ALARM, RESOURCE, EVENT, COM, MESSAGE, NETWORKMESSAGE, IPDU, NM, Integer, UINT32, INT32, UINT64, INT64}
use Rattle.meaning.specs.Kinds.{kind_number}
use Rattle.meaning.specs.Cells.{integer_code}

pub kind_low : (k : Kind) → kind_number k ≤ 12
unfolding kind_number
kind_low OS = omega arith
kind_low APPMODE = omega arith
kind_low TASK = omega arith
kind_low ISR = omega arith
kind_low COUNTER = omega arith
kind_low ALARM = omega arith
kind_low RESOURCE = omega arith
kind_low EVENT = omega arith
kind_low COM = omega arith
kind_low MESSAGE = omega arith
kind_low NETWORKMESSAGE = omega arith
kind_low IPDU = omega arith
kind_low NM = omega arith

pub integer_low : (i : Integer) → (35 ≤ integer_code i) × (integer_code i ≤ 38)
unfolding integer_code
integer_low UINT32 = (omega arith, omega arith)
integer_low INT32 = (omega arith, omega arith)
integer_low UINT64 = (omega arith, omega arith)
integer_low INT64 = (omega arith, omega arith)
